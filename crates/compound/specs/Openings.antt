-- What holds of a resource that is open or closed, from what holds of the one that is meant.
use Rattle.std.specs.Prelude.{◌≡◌, Bool, true, false, refl}
use Rattle.std.proofs.lemmas.Bool.{false≢true}
use Rattle.claims.specs.Book.{Book}
use Rattle.claims.specs.Rules.{Rules, Laws}
use Rattle.resource.specs.Standing.{Standing}
use Rattle.compound.specs.Opened.{opened, open_book}

pub opened_laws : (o : Bool) (r : Rules) → Laws r → Laws (opened o r)
opened_laws true r l = l
opened_laws false r l = record {
  empty = l.empty;
  fewer = l.fewer;
  goes = l.goes;
  few = l.few;
  small = l.small;
  shelves = λ d e. absurd (false≢true e);
  amounts = λ d e. absurd (false≢true e);
  nothing = λ d e. refl;
}

-- where it is open, what holds of the one that is meant holds; an empty book that is closed keeps to every law
pub opened_stands : (o : Bool) (r : Rules) (b : Book) → Laws r → (o ≡ true → Standing r b) → Standing (opened o r) (open_book o b)
opened_stands true r b l h = h refl
opened_stands false r b l h = record { laws = opened_laws false r l; rising = tt; carried = l.empty; read = refl }

-- What is made over a book with claims is closed: it reads no demand, and its own book is empty.
use Rattle.std.specs.Prelude.{◌≡◌, Bool, true, false, [], ◌≢◌}
use Rattle.claims.specs.Book.{Book}
use Rattle.claims.specs.Rules.{Rules}
use Rattle.resource.specs.declared.Resource.{Ghosts}

-- the rules of what reads no demand
abbrev pub closed : Rules → Rules
closed r = record { reads = λ d. false; counts = λ d. 0; carries = r.carries; cause = r.cause }

-- the rules that are meant, where it is open
abbrev pub opened : Bool → Rules → Rules
opened true r = r
opened false r = closed r

-- the book that is meant, where it is open
abbrev pub open_book : Bool → Book → Book
open_book true b = b
open_book false b = []

-- what is newly made has no claims; its rules are as meant where nothing is claimed below, else closed
pub record Fresh {R : Type 0} (m : Ghosts R) (below : Book) (meant : Rules) (s : R) : Type 0 where
  pub empty : m.book s ≡ []
  pub unclaimed : below ≡ [] → m.rules s ≡ meant
  pub claimed : (below ≢ []) → m.rules s ≡ closed meant

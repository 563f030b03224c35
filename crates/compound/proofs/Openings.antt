-- What is open or closed, from what its calls show.
use Rattle.std.proofs.Common.{◌≡◌, ◌&&◌, eqb, Bool, true, false, cond, [], ◌∷◌, length, is_some, Some, None, Ok, Option, Decides, sym, refl, ap, ◌∙◌, arith}
use Rattle.std.proofs.lemmas.Bool.{false≢true, and_parts, eqb-true}
use Rattle.claims.specs.declared.Cause.TheVariants.{Unreadable, KeyTaken}
use Rattle.claims.specs.declared.Claim.{Claim}
use Rattle.claims.specs.declared.Demand.{Demand}
use Rattle.claims.specs.Book.{Book, find, key_of}
use Rattle.claims.specs.Rules.{Rules, is_party, answered}
use Rattle.resource.specs.declared.Resource.{Ghosts}
use Rattle.compound.specs.Asked.{taken, turned_away}
use Rattle.compound.specs.Opened.{opened, open_book, Fresh}

-- what reads a demand is open
read_open : (o : Bool) (r : Rules) (d : Demand) → (opened o r).reads d ≡ true → o ≡ true
read_open true r d e = refl
read_open false r d e = absurd (false≢true e)

-- what a claim shows that is not turned away at once
pub record Asked (o : Bool) (r : Rules) (b : Book) (x : Claim) : Type 0 where
  pub is_open : o ≡ true
  pub readable : (is_party x.party && r.reads x.demand) ≡ true
  pub new : find b (key_of x) ≡ None

passed : (read : Bool) (held : Option Claim) (x : Claim) → Ok tt ≡ answered x.key (turned_away read held x) → ((is_party x.party && read) ≡ true) × (held ≡ None)
passed read held x = go (is_party x.party && read) held
  where
    go : (t : Bool) (o : Option Claim) → Ok tt ≡ answered x.key (cond t (cond (is_some o) (Some KeyTaken) None) (Some Unreadable)) → (t ≡ true) × (o ≡ None)
    go true None e = (refl, refl)
    go true (Some c) e = absurd cc
    go false o e = absurd cc

pub asked : (o : Bool) (r : Rules) (b : Book) (x : Claim) {read : Bool} {held : Option Claim} → read ≡ (opened o r).reads x.demand → held ≡ find (open_book o b) (key_of x) → Ok tt ≡ answered x.key (turned_away read held x) → Asked o r b x
asked o r b x {read} {held} e f y =
    let z = passed read held x y in
    let is = read_open o r x.demand (sym e ∙ (and_parts (is_party x.party) read z.0).1) in
    record {
      is_open = is;
      readable = ap (λ v. is_party x.party && v) (sym (rw is at e)) ∙ z.0;
      new = sym (rw is at f) ∙ z.1;
    }

-- the two questions of a claim are one
pub both_asked : (x : Claim) (read : Bool) (held : Option Claim) → Ok tt ≡ answered x.key (turned_away read None x) → Ok tt ≡ answered x.key (taken held) → Ok tt ≡ answered x.key (turned_away read held x)
both_asked x read held e f = go (is_party x.party && read) e
  where
    go : (t : Bool) → Ok tt ≡ answered x.key (cond t None (Some Unreadable)) → Ok tt ≡ answered x.key (cond t (taken held) (Some Unreadable))
    go true e = f
    go false e = absurd cc

-- open or closed, it carries the same books
pub opened-carries : (o : Bool) (r : Rules) (b : Book) (P : Type 0) → Decides (r.carries b) P → Decides ((opened o r).carries b) P
opened-carries true r b P h = h
opened-carries false r b P h = h

-- what is made to be open exactly where nothing is claimed below
pub fresh : {R : Type 0} {m : Ghosts R} {meant : Rules} {s : R} (o : Bool) (below : Book) → o ≡ eqb (length below) 0 → m.rules s ≡ opened o meant → m.book s ≡ open_book o below → Fresh m below meant s
fresh true [] e r k = record { empty = k; unclaimed = λ _. r; claimed = λ n. absurd (n refl) }
fresh false (c ∷ b) e r k = record { empty = k; unclaimed = λ n. absurd (let z : length (c ∷ b) ≡ 0 = ap length n in omega arith); claimed = λ _. r }
fresh true (c ∷ b) e r k = absurd (let z = eqb-true (length (c ∷ b)) 0 (sym e) in omega arith)
fresh false [] e r k = absurd (false≢true e)

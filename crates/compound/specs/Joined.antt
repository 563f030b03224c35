-- What two resources mean together, where the shelf of a claim says which of them takes it.
use Rattle.std.specs.Prelude.{◌≡◌, ℕ, ◌≤◌, true, cond, ◌&&◌, length, nat_le}
use Rattle.claims.specs.declared.Cause.TheVariants.{TooManyClaims}
use Rattle.claims.specs.Book.{Book, kept, merge}
use Rattle.claims.specs.Limits.{most_claims}
use Rattle.claims.specs.Rules.{Rules}
use Rattle.resource.specs.declared.Resource.{Ghosts}
use Rattle.compound.specs.declared.bank.Bank.{Bank}
use Rattle.compound.specs.Sides.{low, high}
use Rattle.compound.specs.Opened.{opened, open_book}

-- the rules of the two together
abbrev pub joined : ℕ → Rules → Rules → Rules
joined s p q = record {
  reads = λ d. cond (nat_le d.shelf s) (p.reads d) (q.reads d);
  counts = λ d. cond (nat_le d.shelf s) (p.counts d) (q.counts d);
  carries = λ b. nat_le (length b) most_claims && (p.carries (kept (low s) b) && q.carries (kept (high s) b));
  cause = λ b. cond (nat_le (length b) most_claims) (cond (p.carries (kept (low s) b)) (q.cause (kept (high s) b)) (p.cause (kept (low s) b))) TooManyClaims;
}

-- which books the two carry: the whole has few claims, and each side carries its part
pub record CarriedByBoth (s : ℕ) (p q : Rules) (b : Book) : Type 0 where
  pub few : length b ≤ most_claims
  pub first : p.carries (kept (low s) b) ≡ true
  pub second : q.carries (kept (high s) b) ≡ true

-- the rules of a bank
abbrev pub bank_rules : {F S : Type 0} → (f : Ghosts F) → (t : Ghosts S) → Bank F S f t → Rules
bank_rules f t b = opened b.is_open (joined b.split (f.rules b.first) (t.rules b.second))

-- its book: the claims of both sides
abbrev pub bank_book : {F S : Type 0} → (f : Ghosts F) → (t : Ghosts S) → Bank F S f t → Book
bank_book f t b = open_book b.is_open (merge (f.book b.first) (t.book b.second))

-- a bank as a resource
abbrev pub bank : {F S : Type 0} → (f : Ghosts F) → (t : Ghosts S) → Ghosts (Bank F S f t)
bank f t = record { rules = bank_rules f t; book = bank_book f t }

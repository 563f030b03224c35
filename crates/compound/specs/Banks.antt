-- What holds of a bank between calls, from what holds of its sides.
use Rattle.std.specs.Prelude.{◌≡◌, ℕ, ◌≤◌, true, ◌&&◌, length}
use Rattle.std.proofs.Common.{ap, ◌∙◌, arith}
use Rattle.std.proofs.lemmas.Bool.{cond-true, cond-false, not-true}
use Rattle.claims.specs.Book.{Book, Rising, kept, every, merge}
use Rattle.claims.specs.Limits.{most_claims}
use Rattle.claims.specs.Rules.{Rules, readable, is_party}
use Rattle.claims.proofs.Books.{rising-merge, length-merge, kept-merge-first, kept-merge-second, every-merge, every_from}
use Rattle.resource.specs.declared.Resource.{Ghosts}
use Rattle.resource.specs.Standing.{Standing}
use Rattle.compound.specs.declared.bank.Bank.{Bank}
use Rattle.compound.specs.Sides.{low, high, Sides}
use Rattle.compound.specs.Joined.{joined, bank_rules, bank_book}
use Rattle.compound.specs.Joins.{joined-carries, joined_laws}
use Rattle.compound.specs.Openings.{opened_stands}

-- two sides as they stand between calls
pub record Joint (s : ℕ) (p q : Rules) (a b : Book) : Type 0 where
  pub left : Standing p a
  pub right : Standing q b
  pub sides : Sides s a b

module _ {s : ℕ} {p q : Rules} {a b : Book} (j : Joint s p q a b) where
  pub first_part : kept (low s) (merge a b) ≡ a
  first_part = kept-merge-first (low s) a b j.left.rising j.right.rising j.sides.distinct j.sides.lows j.sides.highs

  pub second_part : kept (high s) (merge a b) ≡ b
  second_part = kept-merge-second (low s) a b j.sides.lows j.sides.highs

  pub merge-rises : Rising (merge a b)
  merge-rises = rising-merge a b j.left.rising j.right.rising j.sides.distinct

  pub merge-few : length (merge a b) ≤ most_claims
  merge-few = let n = j.sides.room in let m = length-merge a b in omega arith

  merge_read : every (readable (joined s p q)) (merge a b) ≡ true
  merge_read =
      every-merge (readable (joined s p q)) a b
      (every_from (low s) (readable p) (readable (joined s p q)) (λ c t r. ap (λ v. is_party c.party && v) (cond-true (low s c) (p.reads c.demand) (q.reads c.demand) t) ∙ r) a j.sides.lows j.left.read)
      (every_from (high s) (readable q) (readable (joined s p q)) (λ c t r. ap (λ v. is_party c.party && v) (cond-false (low s c) (p.reads c.demand) (q.reads c.demand) (not-true (low s c) t)) ∙ r) b j.sides.highs j.right.read)

  pub joint_stands : Standing (joined s p q) (merge a b)
  joint_stands = record {
    laws = joined_laws s p q j.left.laws j.right.laws;
    rising = merge-rises;
    carried = (joined-carries s p q (merge a b)).1 (record { few = merge-few; first = ap p.carries first_part ∙ j.left.carried; second = ap q.carries second_part ∙ j.right.carried });
    read = merge_read;
  }

-- a bank that is open
pub joint : {F S : Type 0} {f : Ghosts F} {t : Ghosts S} (v : Bank F S f t) → Standing (f.rules v.first) (f.book v.first) → Standing (t.rules v.second) (t.book v.second) → v.is_open ≡ true → Joint v.split (f.rules v.first) (t.rules v.second) (f.book v.first) (t.book v.second)
joint v p q is = record { left = p; right = q; sides = v.sides is }

-- what holds of a bank between calls, from what holds of its sides
pub bank_stands : {F S : Type 0} (f : Ghosts F) (t : Ghosts S) (v : Bank F S f t) → Standing (f.rules v.first) (f.book v.first) → Standing (t.rules v.second) (t.book v.second) → Standing (bank_rules f t v) (bank_book f t v)
bank_stands f t v p q = opened_stands v.is_open _ _ (joined_laws v.split _ _ p.laws q.laws) (λ is. joint_stands (joint v p q is))

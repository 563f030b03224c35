-- What a pool's quantities are with a claim more or less, and that it keeps to the laws and to escrow.
use Rattle.std.specs.Prelude.{◌≡◌, ℕ, ◌+◌, ◌≤◌, Bool, true, false, cond, leb, [], ◌∷◌, Some, ◌==◌, nat_le, nat_lt, refl}
use Rattle.std.proofs.Common.{sym, ap, ◌∙◌, arith}
use Rattle.std.specs.List.{sum_by}
use Rattle.std.proofs.lemmas.List.Sums.{sum_by-cons}
use Rattle.std.proofs.lemmas.Bool.{leb-true, le-leb, cond_both, eqb-true, eq-eqb}
use Rattle.claims.specs.declared.Cause.TheVariants.{PoolShort}
use Rattle.claims.specs.declared.Claim.{Claim}
use Rattle.claims.specs.Book.{Book, key_of, find, insert, without, sent, out}
use Rattle.claims.specs.Limits.{most_units}
use Rattle.goods.specs.Pooled.{quantities, EscrowRule}
use Rattle.shelf.specs.Shelves.{one_number}
use Rattle.goods.specs.Fixed.{Fixed, carries_exactly}
use Rattle.shelf.proofs.Shelving.{one_number_says}

pub quantities-insert : (x : Claim) (b : Book) → quantities (insert x b) ≡ x.demand.first + quantities b
quantities-insert x [] = refl
quantities-insert x (c ∷ b) =
    let ih = quantities-insert x b in
    cond_both (nat_lt (key_of x) (key_of c)) (x ∷ c ∷ b) (c ∷ insert x b) (λ r. quantities r ≡ x.demand.first + quantities (c ∷ b)) (λ e. refl) (λ e. omega arith)

pub quantities-without : (k : ℕ) (b : Book) → quantities (without k b) ≤ quantities b
quantities-without k [] = omega arith
quantities-without k (c ∷ b) =
    let ih = quantities-without k b in
    cond_both (key_of c == k) b (c ∷ without k b) (λ r. quantities r ≤ quantities (c ∷ b)) (λ e. omega arith) (λ e. omega arith)

-- a claim that is lifted gives its quantity back
pub quantities_lift : (k : ℕ) (x : Claim) (b : Book) → find b k ≡ Some x → x.demand.first + quantities (without k b) ≡ quantities b
quantities_lift k x [] f = cc
quantities_lift k x (c ∷ b) f = go (key_of c == k) f (λ g. quantities_lift k x b g)
  where
    go : (q : Bool) → cond q (Some c) (find b k) ≡ Some x → (find b k ≡ Some x → x.demand.first + quantities (without k b) ≡ quantities b) → x.demand.first + quantities (cond q b (c ∷ without k b)) ≡ quantities (c ∷ b)
    go true g ih = let same : c ≡ x = cc in ap (λ (y : Claim). y.demand.first + quantities b) (sym same)
    go false g ih = let e = ih g in omega arith

pub quantities-out : (k u : ℕ) (b : Book) → quantities (out k u b) ≡ quantities b
quantities-out k u [] = refl
quantities-out k u (c ∷ b) =
    cond_both (key_of c == k) (sent u c ∷ b) (c ∷ out k u b) (λ r. quantities r ≡ quantities (c ∷ b)) (λ e. refl) (λ e. ap (λ n. c.demand.first + n) (quantities-out k u b))

-- a kept sum is that of a book's quantities
abbrev pub used_for : ℕ → Book → Bool
used_for used b = used == quantities b

pub used-alike : (used k u : ℕ) (b : Book) → used_for used b ≡ true → used_for used (out k u b) ≡ true
used-alike used k u b e = ap (λ (n : ℕ). used == n) (quantities-out k u b) ∙ e

-- a claim that comes in adds its quantity
pub used-insert : (used used' : ℕ) (x : Claim) (b : Book) → used_for used b ≡ true → used' ≡ used + x.demand.first → used_for used' (insert x b) ≡ true
used-insert used used' x b e more =
    let same = eqb-true used (quantities b) e in
    eq-eqb used' (quantities (insert x b)) (omega (arith, quantities-insert x b, same, more))

-- a claim that leaves takes its quantity along
pub used-lift : (used used' k : ℕ) (x : Claim) (b : Book) → used_for used b ≡ true → find b k ≡ Some x → used' + x.demand.first ≡ used → used_for used' (without k b) ≡ true
used-lift used used' k x b e f less =
    let same = eqb-true used (quantities b) e in
    eq-eqb used' (quantities (without k b)) (omega (arith, quantities_lift k x b f, same, less))

abbrev pub pool-goods : ℕ → Fixed
pool-goods n = record {
  formed = one_number most_units;
  amount = λ d. d.first;
  suffice = λ b. nat_le (quantities b) n;
  unit = λ _. 0;
  short = PoolShort;
  amounts = λ d e. one_number_says most_units d e;
  none = le-leb 0 n (omega arith);
  fewer = λ j b e. le-leb (quantities (without j b)) n (omega (arith, quantities-without j b, leb-true (quantities b) n e));
  alike = λ j u b. ap (λ (m : ℕ). leb m n) (quantities-out j u b);
  small = λ j c b e f. omega arith;
}

pub escrow : (s n : ℕ) → EscrowRule s n
escrow s n b =
    let e = carries_exactly s (pool-goods n) b in (
      (λ t. let p = e.0 t in record { few = p.few; covered = leb-true (quantities b) n p.sufficient; alike = p.units }),
      (λ h. e.1 (record { few = h.few; sufficient = le-leb (quantities b) n h.covered; units = h.alike })),
    )

-- a pool's quantities are a sum over its claims
pub quantities_sum : (b : Book) → quantities b ≡ sum_by (λ c. c.demand.first) b
quantities_sum [] = refl
quantities_sum (c ∷ b) = ap (λ (n : ℕ). c.demand.first + n) (quantities_sum b) ∙ sym (sum_by-cons (λ (x : Claim). x.demand.first) c b)

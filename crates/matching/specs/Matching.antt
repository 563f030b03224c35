-- What a matching of claims to goods is, when claims are carried, and what admitting one more does.
use Rattle.std.specs.Prelude.{◌≡◌, ℕ, zero, suc, ◌<◌, Bool, true, false, not, ◌&&◌, ◌||◌, List, [], ◌∷◌, length, Some, None, Decides, Option, ◌==◌, nat_le, nat_lt, slice_index}
use Rattle.std.specs.List.{remove, slice_get}
use Rattle.claims.specs.declared.Claim.{Claim}
use Rattle.claims.specs.declared.ClaimState.{ClaimState}
use Rattle.claims.specs.declared.ClaimState.TheVariants.{Out}
use Rattle.claims.specs.declared.Demand.{Demand}
use Rattle.claims.specs.declared.ItemNumber.{ItemNumber}
use Rattle.claims.specs.Book.{waits_or_has}
use Rattle.claims.specs.Limits.{most_claims, most_goods}

-- the good at place g serves the claim c: it suits the claim's demand, and where the claim is out, it is the claim's own unit; the good at place 0 is unit 1
pub record Serves {G : Type 0} (suits : G → Demand → Bool) (goods : List G) (c : Claim) (g : ℕ) : Type 0 where
  pub suited : (good : G) × (slice_get goods g ≡ Some good) × (suits good c.demand ≡ true)
  pub own : (u : ItemNumber) → c.state ≡ Out u → u.0 ≡ suc g

-- a matching: the allotment has for each claim a good that serves it, and no good twice
pub record Matching {G : Type 0} (suits : G → Demand → Bool) (goods : List G) (claims : List Claim) (allotment : List ℕ) : Type 0 where
  pub whole : length allotment ≡ length claims
  pub served : (i : ℕ) (c : Claim) → slice_get claims i ≡ Some c → Serves suits goods c (slice_index allotment i)
  pub apart : (i j : ℕ) → i < length claims → j < length claims → slice_index allotment i ≡ slice_index allotment j → i ≡ j

-- a test of what stands somewhere; false where nothing does
abbrev pub passes : {X : Type 0} → (X → Bool) → Option X → Bool
passes p None = false
passes p (Some x) = p x

-- whether the good at place g serves a claim of this demand in this state
abbrev pub serves : {G : Type 0} → (G → Demand → Bool) → List G → Demand → ClaimState → ℕ → Bool
serves suits goods d s g = waits_or_has (suc g) s && passes (λ good. suits good d) (slice_get goods g)

-- some number below n passes a test
abbrev pub some_below : ℕ → (ℕ → Bool) → Bool
some_below zero p = false
some_below (suc n) p = elim (p n) [ true ↦ true | false ↦ some_below n p ]

abbrev pub among : ℕ → List ℕ → Bool
among g [] = false
among g (x ∷ xs) = x == g || among g xs

-- claims are covered by the goods that are not taken: some good serves the first of them, and the others are covered by those that are left
abbrev pub covers : {G : Type 0} → (G → Demand → Bool) → List G → List ℕ → List Claim → Bool
covers suits goods taken [] = true
covers suits goods taken (c ∷ b) = some_below (length goods) (λ g. elim (serves suits goods c.demand c.state g && not (among g taken)) [ true ↦ covers suits goods (g ∷ taken) b | false ↦ false ])

-- whether the goods carry the claims
abbrev pub carried : {G : Type 0} → (G → Demand → Bool) → List G → List Claim → Bool
carried suits goods claims = covers suits goods [] claims

-- claims are carried exactly when there is a matching of them
abbrev pub CoversRight : {G : Type 0} → (G → Demand → Bool) → List G → List Claim → Type 0
CoversRight suits goods claims = Decides (carried suits goods claims) ((allotment : List ℕ) × Matching suits goods claims allotment)

-- whether there are not too many goods and claims, an entry of the allotment for each claim, and a claim at x
abbrev pub in_bounds : ℕ → ℕ → ℕ → ℕ → Bool
in_bounds goods claims allotment x = nat_le goods most_goods && nat_le claims most_claims && allotment == claims && nat_lt x claims

-- what admitting the claim at x beside the others answers, and what the allotment is after
pub record Admits {G : Type 0} (suits : G → Demand → Bool) (goods : List G) (claims : List Claim) (x : ℕ) (allotment : List ℕ) (answer : Bool) (after : List ℕ) : Type 0 where
  -- where the others have a matching, it answers whether all claims are carried
  pub answer_is : Matching suits goods (remove claims x) (remove allotment x) → answer ≡ (in_bounds (length goods) (length claims) (length allotment) x && carried suits goods claims)
  -- if they are, the allotment is then a matching of all
  pub taken : Matching suits goods (remove claims x) (remove allotment x) → answer ≡ true → Matching suits goods claims after
  -- if they are not, the allotment stays
  pub kept : answer ≡ false → after ≡ allotment

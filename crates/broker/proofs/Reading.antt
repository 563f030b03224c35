-- The first demand of a draft that is not read.
use Rattle.std.proofs.Common.{◌≡◌, ℕ, ◌+◌, ◌<◌, ◌≤◌, Bool, true, false, cond, not, List, [], ◌∷◌, length, refl, sym, add-zero, arith}
use Rattle.std.specs.List.{position, position_or_len}
use Rattle.std.specs.Option.{option_map}
use Rattle.claims.specs.declared.Demand.{Demand}
use Rattle.claims.specs.Rules.{Rules}
use Rattle.machine.specs.Machine.{unread_at}
use Rattle.broker.specs.Asks.{Unread}
use Rattle.broker.proofs.Firsts.{at_position}

abbrev pub strange : Rules → Demand → Bool
strange r d = not (r.reads d)

abbrev place : Rules → List Demand → ℕ
place r ds = position_or_len (strange r) ds

unread_there : (r : Rules) (i : ℕ) (ds : List Demand) → place r ds < length ds → unread_at r i ds ≡ i + place r ds
unread_there r i [] h = absurd (omega arith)
unread_there r i (d ∷ ds) h = go (r.reads d) h (λ l. unread_there r (i + 1) ds l)
  where
    go : (q : Bool) → cond (not (not q)) (1 + place r ds) 0 < length (d ∷ ds) → (place r ds < length ds → unread_at r (i + 1) ds ≡ (i + 1) + place r ds) → cond q (unread_at r (i + 1) ds) i ≡ i + cond (not (not q)) (1 + place r ds) 0
    go true l ih = omega (arith, ih (omega arith))
    go false l ih = sym (add-zero i)

none_unread : (r : Rules) (i : ℕ) (ds : List Demand) → length ds ≤ place r ds → unread_at r i ds ≡ 0
none_unread r i [] h = refl
none_unread r i (d ∷ ds) h = go (r.reads d) h (λ l. none_unread r (i + 1) ds l)
  where
    go : (q : Bool) → length (d ∷ ds) ≤ cond (not (not q)) (1 + place r ds) 0 → (length ds ≤ place r ds → unread_at r (i + 1) ds ≡ 0) → cond q (unread_at r (i + 1) ds) i ≡ 0
    go true l ih = ih (omega arith)
    go false l ih = absurd (omega arith)

pub unread : (r : Rules) (ds : List Demand) → Unread r ds (option_map (λ i. i + 1) (position (strange r) ds))
unread r ds = at_position (strange r) ds (λ o. Unread r ds (option_map (λ i. i + 1) o)) (λ l. (omega arith, omega (arith, unread_there r 1 ds l))) (none_unread r 1 ds)

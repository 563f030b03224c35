-- What lifting the claims of a promise, one after the other, leaves.
use Rattle.std.proofs.Common.{◌≡◌, ℕ, ◌+◌, ◌<◌, List, length, drop, sym, ap, ◌∙◌, arith}
use Rattle.std.proofs.lemmas.List.{at_drop_more}
use Rattle.claims.specs.declared.Demand.{Demand}
use Rattle.claims.specs.Book.{Book, without}
use Rattle.machine.specs.Machine.{keys_from, lift_all}

abbrev pub no_demand : Demand
no_demand = record { shelf = 0; first = 0; second = 0 }

pub lift_more : (k : ℕ) (ds : List Demand) (j : ℕ) (b : Book) → j < length ds → lift_all (keys_from (k + j) (drop j ds)) b ≡ lift_all (keys_from (k + (j + 1)) (drop (j + 1) ds)) (without (k + j) b)
lift_more k ds j b h =
    let e : (k + j) + 1 ≡ k + (j + 1) = omega arith in
    let step : lift_all (keys_from (k + j) (drop j ds)) b ≡ lift_all (keys_from ((k + j) + 1) (drop (j + 1) ds)) (without (k + j) b) = at_drop_more (λ xs. lift_all (keys_from (k + j) xs) b) ds j no_demand h in
    step ∙ ap (λ i. lift_all (keys_from i (drop (j + 1) ds)) (without (k + j) b)) e

-- one turn of the loop
pub lift_turn : (k : ℕ) (ds : List Demand) (j : ℕ) (b b' e : Book) → j < length ds → b' ≡ without (k + j) b → lift_all (keys_from (k + j) (drop j ds)) b ≡ e → lift_all (keys_from (k + (j + 1)) (drop (j + 1) ds)) b' ≡ e
lift_turn k ds j b b' e h p q = ap (lift_all (keys_from (k + (j + 1)) (drop (j + 1) ds))) p ∙ sym (lift_more k ds j b h) ∙ q

-- The demands of a draft.
use Rattle.std.specs.Prelude.{cond, List, [], ◌∷◌, ◌++◌, length, Ok, Err, Result, nat_lt}
use Rattle.claims.specs.declared.Demand.{Demand}
use Rattle.machine.specs.declared.Refusal.{Refusal}
use Rattle.machine.specs.declared.Refusal.TheVariants.{DraftSize}
use Rattle.machine.specs.Limits.{most_demands}
use Rattle.broker.specs.declared.draft.Draft.{Draft}

abbrev pub demands_of : Draft → List Demand
demands_of d = d.demands.items

-- a draft that is full refuses one more demand, and stands
abbrev pub push_answer : List Demand → Result (Unit {0}) Refusal
push_answer ds = cond (nat_lt (length ds) most_demands) (Ok tt) (Err DraftSize)

abbrev pub with_demand : Demand → List Demand → List Demand
with_demand d ds = cond (nat_lt (length ds) most_demands) (ds ++ (d ∷ [])) ds

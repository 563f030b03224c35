-- What it says that there is a way from a new claim to a free good, or none.
use Rattle.std.specs.Prelude.{ℕ, ◌<◌, Bool, List, length, Ok, Err, Result}
use Rattle.matching.specs.declared.way.Step.{Step}
use Rattle.matching.specs.declared.way.TooFew.{TooFew}
use Rattle.matching.specs.declared.way.Way.{Way}
use Rattle.matching.specs.Paths.{Path, Shortage}

-- the steps have a path to a free good, or there are too few goods for the claims reached, which are all the steps
abbrev pub Leads : (ℕ → ℕ → Bool) → ℕ → ℕ → List ℕ → List Step → Result Way TooFew → Type 0
Leads fit n x al q (Ok w) = (w.place < length q) × Path fit n x al q w.place w.good
Leads fit n x al q (Err _) = Shortage fit n x al q (length q)

-- The theorem is proved in Reaching.
use Rattle.std.proofs.Common.{refl}
use Rattle.machine.proofs.Reaching.{stays_consistent}
use Rattle.machine.proofs.machine_stays_consistent.Goals as goal

pub returns : goal.returns
returns c = record { value = refl; stated = stays_consistent }

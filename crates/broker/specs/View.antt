-- The machine's state that a broker stands for.
use Rattle.std.specs.Prelude.{vec_items}
use Rattle.resource.specs.declared.Resource.{Ghosts}
use Rattle.machine.specs.Machine.{State}
use Rattle.broker.specs.declared.desk.Broker.{Broker}
use Rattle.broker.specs.Held.{state}

abbrev pub view : {X : Type 0} → (m : Ghosts X) → Broker X m → State
view m b = state b.clock b.next (vec_items b.live) (m.book b.resource)

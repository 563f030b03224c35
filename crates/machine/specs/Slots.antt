-- The life of a promise: promised, then taken, then gone. Each event is met by the state that it finds.
use Rattle.std.specs.Prelude.{ℕ, Some, None, Option}
use Rattle.machine.specs.declared.Slot.{Slot}
use Rattle.machine.specs.declared.Slot.TheVariants.{Empty, Promised, Taken}
use Rattle.machine.specs.declared.Event.{Event}
use Rattle.machine.specs.declared.Event.TheVariants.{Take, Release, GiveBack, Lapse}

-- the number by which a state is told to a question
abbrev pub slot_number : Slot → ℕ
slot_number Empty = 0
slot_number Promised = 1
slot_number Taken = 2

-- what an event makes of what it finds, if it fits
abbrev pub met : Slot → Event → Option Slot
met Empty Take = None
met Empty Release = None
met Empty GiveBack = None
met Empty Lapse = None
met Promised Take = Some Taken
met Promised Release = Some Empty
met Promised GiveBack = None
met Promised Lapse = Some Empty
met Taken Take = None
met Taken Release = None
met Taken GiveBack = Some Empty
met Taken Lapse = None

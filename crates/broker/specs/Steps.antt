-- What a call on a broker keeps, answers and leaves.
use Rattle.std.specs.Prelude.{◌≡◌, ℕ, ◌≤◌, List, Ok, Err, Result}
use Rattle.claims.specs.declared.ItemNumber.{ItemNumber}
use Rattle.resource.specs.declared.Resource.{Ghosts}
use Rattle.machine.specs.declared.Event.{Event}
use Rattle.machine.specs.declared.Refusal.{Refusal}
use Rattle.machine.specs.Entries.{Consistent}
use Rattle.machine.specs.Limits.{most_demands}
use Rattle.machine.specs.Machine.{State, Call, Answer, start, at_minute, settle, end_promise, step}
use Rattle.machine.specs.Machine.Answer.{done}
use Rattle.broker.specs.declared.desk.Broker.{Broker}
use Rattle.broker.specs.declared.no_room.NoRoom.{NoRoom}
use Rattle.broker.specs.Bundles.{ZerosBehind}
use Rattle.broker.specs.Holds.{missed}
use Rattle.broker.specs.View.{view}

-- a broker as it is made
pub record Starts {X : Type 0} (m : Ghosts X) (first : ℕ) (x : X) (b : Broker X m) : Type 0 where
  pub goods : b.resource ≡ x
  pub state : view m b ≡ start first (m.book x)
  pub consistent : Consistent (view m b)

-- over a resource a broker is made, or the resource is handed back
abbrev pub MadeOver : {X : Type 0} → (m : Ghosts X) → ℕ → X → Result (Broker X m) (NoRoom X) → Type 0
MadeOver m first x (Ok b) = Starts m first x b
MadeOver m first x (Err e) = e.resource ≡ x

-- a minute passes: the clock moves on and promises lapse
pub record Passes {X : Type 0} (m : Ghosts X) (b : Broker X m) (minute : ℕ) (b' : Broker X m) : Type 0 where
  pub kept : Consistent (view m b) → Consistent (view m b')
  pub same : m.rules b'.resource ≡ m.rules b.resource
  pub after : view m b' ≡ at_minute minute (view m b)

-- a call: answer and next state are those of the machine
pub record Steps {X : Type 0} (m : Ghosts X) (b : Broker X m) (call : Call) (answer : Answer) (b' : Broker X m) : Type 0 where
  pub kept : Consistent (view m b) → Consistent (view m b')
  pub same : m.rules b'.resource ≡ m.rules b.resource
  pub after : ◌≡◌ {A = State × Answer} (view m b', answer) (step (m.rules b.resource) (view m b) call)

-- the promise ends that an event fits, or the call is refused
pub record Ends {X : Type 0} (m : Ghosts X) (b : Broker X m) (minute party number : ℕ) (event : Event) (answer : Answer) (b' : Broker X m) : Type 0 where
  pub kept : Consistent (view m b) → Consistent (view m b')
  pub same : m.rules b'.resource ≡ m.rules b.resource
  pub after : ◌≡◌ {A = State × Answer} (view m b', answer)
      (settle (missed party number event (at_minute minute (view m b)).live) (at_minute minute (view m b)) (end_promise number (at_minute minute (view m b))) done)

-- the caller's place for units: those behind the last are 0; a refusal leaves it untouched
abbrev pub UnitsLeft : List ItemNumber → Result ℕ Refusal → List ItemNumber → Type 0
UnitsLeft before (Ok n) items = (n ≤ most_demands) × ZerosBehind n items
UnitsLeft before (Err x) items = items ≡ before

-- What placing, drawing and lifting the claims of a promise, one after the other, answers and leaves.
use Rattle.std.specs.Prelude.{◌≡◌, ℕ, ◌-◌, ◌*◌, true, List, drop, replicate, Some, None, Ok, Err, Option, Result}
use Rattle.arrayvec.specs.ArrayVec.{ArrayVec}
use Rattle.claims.specs.declared.Demand.{Demand}
use Rattle.claims.specs.declared.Fault.{Fault}
use Rattle.claims.specs.declared.ItemNumber.{ItemNumber}
use Rattle.claims.specs.Book.{Book}
use Rattle.claims.specs.Places.{Under}
use Rattle.claims.specs.Rules.{Rules}
use Rattle.resource.specs.declared.Resource.{Ghosts}
use Rattle.machine.specs.Limits.{most_demands}
use Rattle.machine.specs.Entries.{Waits}
use Rattle.machine.specs.Machine.{Promise, bundle, add_all, short_at, is_party, unread_at, keys_of, draws, out_all}
use Rattle.broker.specs.Calls.{drawn_units}

-- a resource comes to have this book, and keeps its rules
pub record Rebooks {X : Type 0} (m : Ghosts X) (x x' : X) (b : Book) : Type 0 where
  pub same : m.rules x' ≡ m.rules x
  pub after : m.book x' ≡ b

-- a draft that only the goods can refuse
pub record Ready (r : Rules) (b : Book) (n party : ℕ) (ds : List Demand) : Type 0 where
  pub party_known : is_party party ≡ true
  pub readable : unread_at r 1 ds ≡ 0
  pub fresh : Under (most_demands * n) b

abbrev pub fault_or : Option (ℕ × Fault) → Result (Unit {0}) Fault
fault_or None = Ok tt
fault_or (Some x) = Err x.1

abbrev pub book_or : Option (ℕ × Fault) → Book → Book → Book
book_or None b full = full
book_or (Some x) b full = b

-- the claims of a promise are placed, all or none
pub record Bundled {X : Type 0} (m : Ghosts X) (x : X) (n party : ℕ) (ds : List Demand) (answer : Result (Unit {0}) Fault) (x' : X) : Type 0 where
  pub same : m.rules x' ≡ m.rules x
  pub value : Ready (m.rules x) (m.book x) n party ds → answer ≡ fault_or (short_at (m.rules x) 1 (m.book x) (bundle n party ds))
  pub after : Ready (m.rules x) (m.book x) n party ds → m.book x' ≡ book_or (short_at (m.rules x) 1 (m.book x) (bundle n party ds)) (m.book x) (add_all (bundle n party ds) (m.book x))

-- the numbers behind so many are 0
abbrev pub ZerosBehind : ℕ → List ItemNumber → Type 0
ZerosBehind n items = drop n items ≡ replicate (most_demands - n) (record { 0 = 0 })

-- the claims of a promise are drawn, one after the other
pub record HandedOut {X : Type 0} (m : Ghosts X) (x : X) (p : Promise) (answer : Result (ArrayVec ItemNumber) Fault) (x' : X) : Type 0 where
  pub same : m.rules x' ≡ m.rules x
  pub value : Waits (most_demands * p.number) p.demands (m.book x) → (units : ArrayVec ItemNumber) × (answer ≡ Ok units) × (drawn_units units ≡ draws (m.rules x) (m.book x) (keys_of p))
  pub after : Waits (most_demands * p.number) p.demands (m.book x) → m.book x' ≡ out_all (m.rules x) (m.book x) (keys_of p)

-- The machine's promises and state that the fields of a broker stand for.
use Rattle.std.specs.Prelude.{ℕ, List, map, is_none, Option, unwrap_or}
use Rattle.std.specs.Option.{option_map}
use Rattle.claims.specs.declared.PromiseNumber.{PromiseNumber}
use Rattle.claims.specs.Book.{Book}
use Rattle.machine.specs.Machine.{State, Promise}
use Rattle.broker.specs.declared.held.Promise.{Promise as Held}
use Rattle.broker.specs.Drafts.{demands_of}

-- a promise with no last minute is taken
abbrev pub promise_view : Held → Promise
promise_view h = record { number = h.number.0; party = h.party.0; last = unwrap_or h.last 0; demands = demands_of h.draft; taken = is_none h.last }

abbrev pub live_view : List Held → List Promise
live_view hs = map promise_view hs

abbrev pub state : ℕ → Option PromiseNumber → List Held → Book → State
state clock next live book = record { clock = clock; next = option_map (λ n. n.0) next; live = live_view live; book = book }

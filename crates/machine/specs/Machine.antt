-- The broker's machine: what each call answers, and the state that it leaves.
-- Numbers of promises, parties, items and keys are plain numbers here.
use Rattle.std.specs.Prelude.{ℕ, zero, suc, ◌+◌, ◌*◌, max, Bool, true, false, cond, not, ◌&&◌, List, [], ◌∷◌, ◌++◌, length, is_some, Some, None, Option, ◌==◌, nat_le, nat_lt}
use Rattle.claims.specs.declared.Claim.{Claim}
use Rattle.claims.specs.declared.ClaimState.TheVariants.{Waiting}
use Rattle.claims.specs.declared.Demand.{Demand}
use Rattle.claims.specs.declared.Fault.{Fault}
use Rattle.claims.specs.Book.{Book, insert, without, out}
use Rattle.claims.specs.Limits.{last_party}
use Rattle.claims.specs.Rules.{Rules}
use Rattle.resource.specs.Draws.{drawn}
use Rattle.machine.specs.declared.Slot.{Slot}
use Rattle.machine.specs.declared.Slot.TheVariants.{Empty, Promised, Taken}
use Rattle.machine.specs.Limits.{most_promises, most_demands, most_minutes, last_number}
use Rattle.machine.specs.Slots.{slot_number}
use Rattle.machine.specs.declared.Refusal.{Refusal}
use Rattle.machine.specs.declared.Refusal.TheVariants.{NotAParty, DraftSize, MinutesOutside, NotLive, NotYours, WrongState, Unreadable, TooManyPromises, NumbersSpent, NotCarried}

-- a promise: its last minute is 0 once it is taken
pub record Promise : Type 0 where
  pub number : ℕ
  pub party : ℕ
  pub last : ℕ
  pub demands : List Demand
  pub taken : Bool

-- the live promises stand by rising number; no next number says that they are spent
pub record State : Type 0 where
  pub clock : ℕ
  pub next : Option ℕ
  pub live : List Promise
  pub book : Book

pub data Call : Type 0 where
  ask : (minute party minutes : ℕ) (draft : List Demand) → Call
  take : (minute party number : ℕ) → Call
  release : (minute party number : ℕ) → Call
  give_back : (minute party number : ℕ) → Call
  question : (number : ℕ) → Call

pub data Answer : Type 0 where
  granted : ℕ → Answer
  handed : List ℕ → Answer
  done : Answer
  told : ℕ → Answer
  refused : Refusal → Answer

-- demand j of promise n has its claim under key 4 n + j
abbrev pub claims_from : ℕ → ℕ → List Demand → List Claim
claims_from k party [] = []
claims_from k party (d ∷ ds) = record { key = record { 0 = k }; party = record { 0 = party }; demand = d; state = Waiting } ∷ claims_from (k + 1) party ds

abbrev pub bundle : ℕ → ℕ → List Demand → List Claim
bundle n party ds = claims_from (most_demands * n) party ds

abbrev pub keys_from : ℕ → List Demand → List ℕ
keys_from k [] = []
keys_from k (d ∷ ds) = k ∷ keys_from (k + 1) ds

abbrev pub keys_of : Promise → List ℕ
keys_of p = keys_from (most_demands * p.number) p.demands

abbrev pub add_all : List Claim → Book → Book
add_all [] b = b
add_all (c ∷ cs) b = add_all cs (insert c b)

abbrev pub lift_all : List ℕ → Book → Book
lift_all [] b = b
lift_all (k ∷ ks) b = lift_all ks (without k b)

-- the units that the claims under these keys go out with, each drawn over the book as the ones before it left it
abbrev pub draws : Rules → Book → List ℕ → List ℕ
draws r b [] = []
draws r b (k ∷ ks) = drawn r b k ∷ draws r (out k (drawn r b k) b) ks

-- the book once they are out
abbrev pub out_all : Rules → Book → List ℕ → Book
out_all r b [] = b
out_all r b (k ∷ ks) = out_all r (out k (drawn r b k) b) ks

-- before a call: the clock moves on, and promises run out
abbrev pub lapsed : ℕ → Promise → Bool
lapsed clock p = not p.taken && nat_le p.last clock

abbrev pub standing : ℕ → List Promise → List Promise
standing clock [] = []
standing clock (p ∷ ps) = cond (lapsed clock p) (standing clock ps) (p ∷ standing clock ps)

abbrev pub kept : ℕ → List Promise → Book → Book
kept clock [] b = b
kept clock (p ∷ ps) b = kept clock ps (cond (lapsed clock p) (lift_all (keys_of p) b) b)

abbrev pub at_minute : ℕ → State → State
at_minute m s = record {
  clock = max s.clock m;
  next = s.next;
  live = standing (max s.clock m) s.live;
  book = kept (max s.clock m) s.live s.book;
}

-- the questions of a call, in order: each with its answer and the refusal where it is no
abbrev pub first_missed : List (Bool × Refusal) → Option Refusal
first_missed [] = None
first_missed (q ∷ qs) = cond q.0 (first_missed qs) (Some q.1)

abbrev pub is_party : ℕ → Bool
is_party p = nat_le 1 p && nat_le p last_party

abbrev pub fits_draft : List Demand → Bool
fits_draft ds = nat_le 1 (length ds) && nat_le (length ds) most_demands

abbrev pub fits_minutes : ℕ → Bool
fits_minutes m = nat_le 1 m && nat_le m most_minutes

-- the first position, from 1, of a demand that is not read, or 0
abbrev pub unread_at : Rules → ℕ → List Demand → ℕ
unread_at r i [] = 0
unread_at r i (d ∷ ds) = cond (r.reads d) (unread_at r (i + 1) ds) i

-- the least position, from i, at which the claims up to it are not carried on top of the book, with the fault there
abbrev pub short_at : Rules → ℕ → Book → List Claim → Option (ℕ × Fault)
short_at r i b [] = None
short_at r i b (c ∷ cs) = elim (r.carries (insert c b)) [
  | true ↦ short_at r (i + 1) (insert c b) cs
  | false ↦ Some (i, record { cause = r.cause (insert c b); key = c.key })
]

abbrev pub promise_of : ℕ → List Promise → Option Promise
promise_of n [] = None
promise_of n (p ∷ ps) = elim (p.number == n) [ true ↦ Some p | false ↦ promise_of n ps ]

abbrev pub ended : ℕ → List Promise → List Promise
ended n [] = []
ended n (p ∷ ps) = elim (p.number == n) [ true ↦ ps | false ↦ p ∷ ended n ps ]

abbrev pub marked_taken : ℕ → List Promise → List Promise
marked_taken n [] = []
marked_taken n (p ∷ ps) = elim (p.number == n) [
  | true ↦ record { number = p.number; party = p.party; last = 0; demands = p.demands; taken = true } ∷ ps
  | false ↦ p ∷ marked_taken n ps
]

abbrev pub is_live : Option Promise → Bool
is_live o = is_some o

abbrev pub is_theirs : ℕ → Option Promise → Bool
is_theirs party None = false
is_theirs party (Some p) = p.party == party

abbrev pub is_promised : Option Promise → Bool
is_promised None = false
is_promised (Some p) = not p.taken

abbrev pub is_taken : Option Promise → Bool
is_taken None = false
is_taken (Some p) = p.taken

-- the keys under which a promise has its claims, if there is one
abbrev pub keys_held : Option Promise → List ℕ
keys_held None = []
keys_held (Some p) = keys_of p

-- the number after n, unless n is the largest
abbrev pub after : ℕ → Option ℕ
after n = elim (nat_lt n last_number) [ true ↦ Some (n + 1) | false ↦ None ]

abbrev pub next_or_zero : Option ℕ → ℕ
next_or_zero None = 0
next_or_zero (Some n) = n

abbrev pub carried_all : Option (ℕ × Fault) → Bool
carried_all None = true
carried_all (Some x) = false

abbrev pub not_carried : Option (ℕ × Fault) → Refusal
not_carried None = NumbersSpent
not_carried (Some x) = NotCarried x.0 x.1

-- the questions to an ask, and what it makes where it passes them all
module _ (r : Rules) (party minutes : ℕ) (draft : List Demand) where
  -- where the goods fall short of the whole bundle, if they do
  abbrev pub shortage : State → Option (ℕ × Fault)
  shortage s = short_at r 1 s.book (bundle (next_or_zero s.next) party draft)

  abbrev pub ask_refusal : State → Option Refusal
  ask_refusal s = first_missed (
      (is_party party, NotAParty)
      ∷ (fits_draft draft, DraftSize)
      ∷ (fits_minutes minutes, MinutesOutside)
      ∷ ((unread_at r 1 draft == 0), Unreadable (unread_at r 1 draft))
      ∷ (nat_lt (length s.live) most_promises, TooManyPromises)
      ∷ (is_some s.next, NumbersSpent)
      ∷ (carried_all (shortage s), not_carried (shortage s))
      ∷ [])

  -- a promise is made: it takes the next number, and its claims wait in the book
  abbrev pub made : State → State
  made s = record {
    clock = s.clock;
    next = after (next_or_zero s.next);
    live = s.live ++ (record { number = next_or_zero s.next; party = party; last = s.clock + minutes; demands = draft; taken = false } ∷ []);
    book = add_all (bundle (next_or_zero s.next) party draft) s.book;
  }

-- a promise ends: its claims are lifted
abbrev pub end_promise : ℕ → State → State
end_promise n s = record {
  clock = s.clock;
  next = s.next;
  live = ended n s.live;
  book = lift_all (keys_held (promise_of n s.live)) s.book;
}

abbrev pub taken_over : Rules → ℕ → State → State
taken_over r n s = record {
  clock = s.clock;
  next = s.next;
  live = marked_taken n s.live;
  book = out_all r s.book (keys_held (promise_of n s.live));
}

-- the questions of a call on a promise that lives: 1, 4, 5 and 6
abbrev pub hold_refusal : ℕ → ℕ → (Option Promise → Bool) → State → Option Refusal
hold_refusal party number right s = first_missed (
    (is_party party, NotAParty)
    ∷ (is_live (promise_of number s.live), NotLive)
    ∷ (is_theirs party (promise_of number s.live), NotYours)
    ∷ (right (promise_of number s.live), WrongState)
    ∷ [])

-- what stands under a number
abbrev pub slot_of : Option Promise → Slot
slot_of None = Empty
slot_of (Some p) = elim p.taken [ true ↦ Taken | false ↦ Promised ]

-- what a question is told: 0 not live, 1 promised, 2 taken
abbrev pub told_of : Option Promise → ℕ
told_of o = slot_number (slot_of o)

-- a call is refused and the state stays, or it has its effect and its answer
abbrev pub settle : Option Refusal → State → State → Answer → State × Answer
settle None s t a = (t, a)
settle (Some x) s t a = (s, refused x)

abbrev pub step : Rules → State → Call → State × Answer
step r s (ask m p ms d) =
    let t = at_minute m s in
    settle (ask_refusal r p ms d t) t (made r p ms d t) (granted (next_or_zero t.next))
step r s (take m p n) =
    let t = at_minute m s in
    settle (hold_refusal p n is_promised t) t (taken_over r n t) (handed (draws r t.book (keys_held (promise_of n t.live))))
step r s (release m p n) =
    let t = at_minute m s in
    settle (hold_refusal p n is_promised t) t (end_promise n t) done
step r s (give_back m p n) =
    let t = at_minute m s in
    settle (hold_refusal p n is_taken t) t (end_promise n t) done
step r s (question n) = (s, told (told_of (promise_of n s.live)))

-- a broker as it is made over a book; 0 counts as 1, and over a book with claims the numbers are spent
abbrev pub first_number : ℕ → ℕ
first_number zero = 1
first_number (suc n) = suc n

abbrev pub start : ℕ → Book → State
start n [] = record { clock = 0; next = Some (first_number n); live = []; book = [] }
start n (c ∷ b) = record { clock = 0; next = None; live = []; book = c ∷ b }

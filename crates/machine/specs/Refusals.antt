-- The number of each refusal of a broker, and the refusal that a resource's fault makes.
use Rattle.std.specs.Prelude.{ℕ, ◌+◌, ◌%◌}
use Rattle.claims.specs.declared.Fault.{Fault}
use Rattle.machine.specs.declared.Refusal.{Refusal}
use Rattle.machine.specs.declared.Refusal.TheVariants.{NotAParty, DraftSize, MinutesOutside, NotLive, NotYours, WrongState, Unreadable, TooManyPromises, NumbersSpent, NotCarried}
use Rattle.machine.specs.Limits.{most_demands}

abbrev pub refusal_number : Refusal → ℕ
refusal_number NotAParty = 1
refusal_number DraftSize = 2
refusal_number MinutesOutside = 3
refusal_number NotLive = 4
refusal_number NotYours = 5
refusal_number WrongState = 6
refusal_number (Unreadable position) = 7
refusal_number TooManyPromises = 8
refusal_number NumbersSpent = 9
refusal_number (NotCarried position fault) = 10

-- demand j of promise n has its claim under key 4 n + j, so a fault's key says its position, from 1
abbrev pub not_carried_for : Fault → Refusal
not_carried_for fault = NotCarried (fault.key.0 % most_demands + 1) fault

-- The number and the values of each fault of a script.
use Rattle.std.specs.Prelude.{ℕ, List, [], ◌∷◌, Ok, Err, Result}
use Rattle.claims.specs.Causes.{cause_number}
use Rattle.machine.specs.declared.Refusal.{Refusal}
use Rattle.machine.specs.declared.Refusal.TheVariants.{NotAParty, DraftSize, MinutesOutside, NotLive, NotYours, WrongState, Unreadable, TooManyPromises, NumbersSpent, NotCarried}
use Rattle.machine.specs.Refusals.{refusal_number}
use Rattle.script.specs.declared.faults.Unread.{Unread as UnreadKind}
use Rattle.script.specs.declared.faults.Unread.TheVariants.{Letter, Number, Count}
use Rattle.script.specs.declared.faults.OnLine.{OnLine}
use Rattle.script.specs.declared.faults.ScriptFault.{ScriptFault}
use Rattle.script.specs.declared.faults.ScriptFault.TheVariants.{TooLong, Unread, Refused}

abbrev pub unread_number : UnreadKind → ℕ
unread_number Letter = 33
unread_number Number = 34
unread_number Count = 35

abbrev pub fault_number : ScriptFault → ℕ
fault_number TooLong = 31
fault_number (Unread line unread) = unread_number unread
fault_number (Refused line refusal) = refusal_number refusal

-- what a refusal tells beside its number: the position in the draft, and the resource's cause
abbrev pub refusal_values : Refusal → List ℕ
refusal_values NotAParty = []
refusal_values DraftSize = []
refusal_values MinutesOutside = []
refusal_values NotLive = []
refusal_values NotYours = []
refusal_values WrongState = []
refusal_values (Unreadable position) = position ∷ []
refusal_values TooManyPromises = []
refusal_values NumbersSpent = []
refusal_values (NotCarried position fault) = position ∷ cause_number fault.cause ∷ []

abbrev pub fault_values : ScriptFault → List ℕ
fault_values TooLong = []
fault_values (Unread line unread) = []
fault_values (Refused line refusal) = refusal_values refusal

-- a result of a line: where it went wrong, the line is known
abbrev pub at_line : {T E : Type 0} → ℕ → Result T E → Result T (OnLine E)
at_line n (Ok x) = Ok x
at_line n (Err e) = Err (record { line = n; fault = e })

-- the script's fault that a line which is not read makes, and that a refusal makes
abbrev pub unread_at : OnLine UnreadKind → ScriptFault
unread_at at = Unread at.line at.fault

abbrev pub refused_at : OnLine Refusal → ScriptFault
refused_at at = Refused at.line at.fault

-- What a broker does with the lines of a script: the rows are the machine's.
use Rattle.std.specs.Prelude.{◌≡◌, ℕ, cond, List, ◌++◌, is_ok, Ok, Err, Result, MatchResult}
use Rattle.claims.specs.Rules.{Rules}
use Rattle.resource.specs.declared.Resource.{Ghosts}
use Rattle.machine.specs.declared.Refusal.{Refusal}
use Rattle.machine.specs.Entries.{Consistent}
use Rattle.machine.specs.Machine.{State, Answer as MachineAnswer, step}
use Rattle.broker.specs.declared.call.Answer.{Answer}
use Rattle.broker.specs.declared.call.Call.{Call}
use Rattle.broker.specs.declared.desk.Broker.{Broker}
use Rattle.broker.specs.Calls.{call_of, answer_of}
use Rattle.broker.specs.Steps.{Steps}
use Rattle.broker.specs.View.{view}
use Rattle.script.specs.declared.faults.ScriptFault.{ScriptFault}
use Rattle.script.specs.declared.faults.ScriptFault.TheVariants.{Unread, Refused}
use Rattle.script.specs.declared.faults.Unread.{Unread as UnreadKind}
use Rattle.script.specs.Format.{ReadsAs}
use Rattle.script.specs.Rows.{worded, said, row_bytes}
use Rattle.script.specs.Scripts.{Settled, Rows}

-- a broker's reply to line n, as the script has it
abbrev pub replied : ℕ → Result Answer Refusal → Result Answer ScriptFault
replied n (Ok answer) = Ok answer
replied n (Err refusal) = Err (Refused n refusal)

-- line n is read and its call dealt with, or it is not read and the broker stands
abbrev pub AnswersLine : {X : Type 0} → (m : Ghosts X) → Broker X m → ℕ → List ℕ → Result Answer ScriptFault → Broker X m → Type 0
AnswersLine m b n line answer b' = (r : Result Call UnreadKind) × ReadsAs line r × MatchResult r (λ call. (reply : Result Answer Refusal) × Steps m b (call_of call) (answer_of reply) b' × (answer ≡ replied n reply)) (λ unread. (answer ≡ Err (Unread n unread)) × (b' ≡ b))

-- the row of a line is added to what was written; where memory is short, the line is dealt with and no row is added
pub record RowOfLine {X : Type 0} (m : Ghosts X) {T E : Type 0} (b : Broker X m) (n : ℕ) (line old : List ℕ) (r : Result T E) (new : List ℕ) (b' : Broker X m) : Type 0 where
  pub answer : Result Answer ScriptFault
  pub told : AnswersLine m b n line answer b'
  pub added : new ≡ cond (is_ok r) (old ++ row_bytes n (said answer)) old

-- a broker deals with a call: the words are those for the answer of its step
abbrev pub by_broker : {X : Type 0} → (m : Ghosts X) → Broker X m → Call → List ℕ → Broker X m → Type 0
by_broker m b call words b' = (answer : MachineAnswer) × Steps m b (call_of call) answer b' × (words ≡ worded answer)

-- the machine deals with a call, under these rules
abbrev pub by_machine : Rules → State → Call → List ℕ → State → Type 0
by_machine rules s call words t = (answer : MachineAnswer) × (◌≡◌ {A = State × MachineAnswer} (t, answer) (step rules s (call_of call))) × (words ≡ worded answer)

-- a script: the rows are added to what was written, and they are the machine's
pub record Runs {X : Type 0} (m : Ghosts X) {T E : Type 0} (b : Broker X m) (script old : List ℕ) (r : Result T E) (new : List ℕ) (b' : Broker X m) : Type 0 where
  pub rows : List ℕ
  pub added : new ≡ old ++ rows
  pub told : Settled (by_broker m) r b script rows b'
  pub machine : Settled (by_machine (m.rules b.resource)) r (view m b) script rows (view m b')
  pub kept : Consistent (view m b) → Consistent (view m b')
  pub same : m.rules b'.resource ≡ m.rules b.resource

-- over the same rules, from the same state, the same lines have the same rows and lead to the same state
abbrev pub RowsArePinned : Type 0
RowsArePinned = (rules : Rules) (n : ℕ) (s t u : State) (lines : List (List ℕ)) (out other : List ℕ) → Rows (by_machine rules) n s lines out t → Rows (by_machine rules) n s lines other u → (out ≡ other) × (t ≡ u)

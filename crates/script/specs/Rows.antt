-- How an answer is written.
use Rattle.std.specs.Prelude.{ℕ, List, [], ◌∷◌, ◌++◌, Ok, Err, codes, decimal, Result}
use Rattle.machine.specs.Machine.{Answer as MachineAnswer}
use Rattle.machine.specs.Machine.Answer.{granted, handed, done, told, refused}
use Rattle.machine.specs.Refusals.{refusal_number}
use Rattle.broker.specs.declared.call.Answer.{Answer}
use Rattle.broker.specs.Calls.{told_by}
use Rattle.script.specs.declared.faults.ScriptFault.{ScriptFault}
use Rattle.script.specs.Faults.{refusal_values, fault_number, fault_values}
use Rattle.script.specs.Spaced.{field, spaced}

-- a word, and the numbers after it
abbrev pub worded : MachineAnswer → List ℕ
worded (granted number) = codes " ok" ++ field number
worded (handed units) = codes " ok" ++ spaced units
worded done = codes " ok"
worded (told state) = codes " ok" ++ field state
worded (refused refusal) = codes " no" ++ spaced (refusal_number refusal ∷ refusal_values refusal)

-- what is said of a line
abbrev pub said : Result Answer ScriptFault → List ℕ
said (Ok answer) = worded (told_by answer)
said (Err fault) = codes " no" ++ spaced (fault_number fault ∷ fault_values fault)

-- what ends a line, and a row
abbrev pub line_feed : ℕ
line_feed = 10

-- a row: the number of the line, what is said of it, and a line feed
abbrev pub row_bytes : ℕ → List ℕ → List ℕ
row_bytes n words = decimal n ++ (words ++ (line_feed ∷ []))

-- The machine's calls and answers that those of a broker stand for.
use Rattle.std.specs.Prelude.{ℕ, List, map, take, Ok, Err, Result}
use Rattle.arrayvec.specs.ArrayVec.{ArrayVec}
use Rattle.claims.specs.declared.ItemNumber.{ItemNumber}
use Rattle.claims.specs.declared.PromiseNumber.{PromiseNumber}
use Rattle.machine.specs.declared.Refusal.{Refusal}
use Rattle.machine.specs.Machine.{Call as MachineCall, Answer as MachineAnswer}
use Rattle.machine.specs.Machine.Call.{ask, take as take_up, release, give_back, question}
use Rattle.machine.specs.Machine.Answer.{granted, handed, done, told, refused}
use Rattle.machine.specs.Slots.{slot_number}
use Rattle.broker.specs.declared.call.Call.{Call}
use Rattle.broker.specs.declared.call.Call.TheVariants.{Ask, Take, Release, GiveBack, Question}
use Rattle.broker.specs.declared.call.Units.{Units}
use Rattle.broker.specs.declared.call.Answer.{Answer}
use Rattle.broker.specs.declared.call.Answer.TheVariants.{Granted, Handed, Done, Told}
use Rattle.broker.specs.Drafts.{demands_of}

abbrev pub call_of : Call → MachineCall
call_of (Ask minute party minutes draft) = ask minute party.0 minutes (demands_of draft)
call_of (Take minute party number) = take_up minute party.0 number.0
call_of (Release minute party number) = release minute party.0 number.0
call_of (GiveBack minute party number) = give_back minute party.0 number.0
call_of (Question number) = question number.0

-- so many numbers of items, as plain numbers
abbrev pub first_items : ℕ → List ItemNumber → List ℕ
first_items n items = map (λ i. i.0) (take n items)

abbrev pub units_of : Units → List ℕ
units_of u = first_items u.count u.items

-- the units that were drawn
abbrev pub drawn_units : ArrayVec ItemNumber → List ℕ
drawn_units u = map (λ i. i.0) u.items

-- what each answer stands for, and each refusal
abbrev pub told_by : Answer → MachineAnswer
told_by (Granted number) = granted number.0
told_by (Handed units) = handed (units_of units)
told_by Done = done
told_by (Told slot) = told (slot_number slot)

abbrev pub answer_of : Result Answer Refusal → MachineAnswer
answer_of (Ok answer) = told_by answer
answer_of (Err refusal) = refused refusal

-- the answers of the calls one by one
abbrev pub granted_or : Result PromiseNumber Refusal → MachineAnswer
granted_or (Ok n) = granted n.0
granted_or (Err x) = refused x

abbrev pub units_or : Result (ArrayVec ItemNumber) Refusal → MachineAnswer
units_or (Ok units) = handed (drawn_units units)
units_or (Err x) = refused x

abbrev pub handed_or : List ItemNumber → Result ℕ Refusal → MachineAnswer
handed_or items (Ok n) = handed (first_items n items)
handed_or items (Err x) = refused x

abbrev pub done_or : Result (Unit {0}) Refusal → MachineAnswer
done_or (Ok x) = done
done_or (Err x) = refused x

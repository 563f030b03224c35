-- How a line is spelled, and what reading it gives.
use Rattle.std.specs.Prelude.{◌≡◌, ℕ, ◌+◌, ◌*◌, ◌≤◌, ◌⊎◌, List, [], ◌∷◌, length, Ok, Err, Result, ◌≢◌}
use Rattle.std.proofs.Common.{inl, inr}
use Rattle.claims.specs.declared.Demand.{Demand}
use Rattle.machine.specs.Limits.{most_demands}
use Rattle.machine.specs.Machine.{Call as MachineCall}
use Rattle.broker.specs.declared.call.Call.{Call}
use Rattle.broker.specs.declared.call.Call.TheVariants.{Ask, Take, Release, GiveBack, Question}
use Rattle.broker.specs.Calls.{call_of}
use Rattle.broker.specs.Drafts.{demands_of}
use Rattle.script.specs.declared.verbs.Verb.{Verb}
use Rattle.script.specs.declared.verbs.Verb.TheVariants as verbs
use Rattle.script.specs.declared.faults.Unread.{Unread}
use Rattle.script.specs.declared.faults.Unread.TheVariants.{Letter, Number, Count}
use Rattle.script.specs.Letters.{letter}
use Rattle.script.specs.Limits.{demand_size}
use Rattle.script.specs.Spaced.{spaced, Small}

-- three numbers for each demand
abbrev pub triples : List Demand → List ℕ
triples [] = []
triples (d ∷ ds) = d.shelf ∷ d.first ∷ d.second ∷ triples ds

abbrev pub verb_of : Call → Verb
verb_of (Ask minute party minutes draft) = verbs.Ask
verb_of (Take minute party number) = verbs.Take
verb_of (Release minute party number) = verbs.Release
verb_of (GiveBack minute party number) = verbs.GiveBack
verb_of (Question number) = verbs.Question

-- the arguments of a call, in the order in which a line has them
abbrev pub numbers_of : Call → List ℕ
numbers_of (Ask minute party minutes draft) = minute ∷ party.0 ∷ minutes ∷ triples (demands_of draft)
numbers_of (Take minute party number) = minute ∷ party.0 ∷ number.0 ∷ []
numbers_of (Release minute party number) = minute ∷ party.0 ∷ number.0 ∷ []
numbers_of (GiveBack minute party number) = minute ∷ party.0 ∷ number.0 ∷ []
numbers_of (Question number) = number.0 ∷ []

-- the line that makes a call
abbrev pub spelled : Call → List ℕ
spelled c = letter (verb_of c) ∷ spaced (numbers_of c)

-- the numbers of none to four demands
abbrev pub Drafted : ℕ → Type 0
Drafted count = (k : ℕ) × (k ≤ most_demands) × (count ≡ demand_size * k)

-- how many numbers a call may have
abbrev pub Fitting : Verb → ℕ → Type 0
Fitting verbs.Ask count = (more : ℕ) × Drafted more × (count ≡ 3 + more)
Fitting verbs.Take count = count ≡ 3
Fitting verbs.Release count = count ≡ 3
Fitting verbs.GiveBack count = count ≡ 3
Fitting verbs.Question count = count ≡ 1

-- what reading a line gives: the call that it spells, or the first thing that is wrong with it
abbrev pub ReadsAs : List ℕ → Result Call Unread → Type 0
ReadsAs line (Ok c) = Small (numbers_of c) × (line ≡ spelled c)
ReadsAs line (Err Letter) = (v : Verb) (rest : List ℕ) → line ≢ letter v ∷ rest
ReadsAs line (Err Number) = (v : Verb) × (rest : List ℕ) × (line ≡ letter v ∷ rest) × ((ns : List ℕ) → Small ns → rest ≢ spaced ns)
ReadsAs line (Err Count) = (v : Verb) × (ns : List ℕ) × Small ns × (line ≡ letter v ∷ spaced ns) × (Fitting v (length ns) → ⊥)

-- what is heard of a line: the machine's call, or the fault
abbrev pub heard : Result Call Unread → MachineCall ⊎ Unread
heard (Ok c) = inl (call_of c)
heard (Err fault) = inr fault

-- a line reads in one way only
abbrev pub OneReading : Type 0
OneReading = (line : List ℕ) (r s : Result Call Unread) → ReadsAs line r → ReadsAs line s → heard r ≡ heard s

-- the line of a call is read as no fault, and as no other call
abbrev pub SpelledIsRead : Type 0
SpelledIsRead = (c : Call) (r : Result Call Unread) → Small (numbers_of c) → ReadsAs (spelled c) r → heard r ≡ inl (call_of c)

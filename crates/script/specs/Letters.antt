-- The letter of each call.
use Rattle.std.specs.Prelude.{◌≡◌, ℕ, Result, MatchResult, ◌≢◌}
use Rattle.script.specs.declared.faults.Unread.{Unread}
use Rattle.script.specs.declared.faults.Unread.TheVariants.{Letter}
use Rattle.script.specs.declared.verbs.Verb.{Verb}
use Rattle.script.specs.declared.verbs.Verb.TheVariants.{Ask, Take, Release, GiveBack, Question}

-- a t r g q
abbrev pub letter : Verb → ℕ
letter Ask = 97
letter Take = 116
letter Release = 114
letter GiveBack = 103
letter Question = 113

-- what a first byte is read as: the verb whose letter it is, or else the fault that it is no verb's
abbrev pub ReadAsLetter : ℕ → Result Verb Unread → Type 0
ReadAsLetter first read = MatchResult read (λ v. letter v ≡ first) (λ fault. (fault ≡ Letter) × ((v : Verb) → letter v ≢ first))

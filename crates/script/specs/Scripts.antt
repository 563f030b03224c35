-- What is said of the lines of a script, by whoever deals with its calls.
use Rattle.std.specs.Prelude.{◌≡◌, ℕ, ◌+◌, ◌<◌, ◌≤◌, List, [], ◌∷◌, ◌++◌, length, Err, Result, MatchResult}
use Rattle.broker.specs.declared.call.Call.{Call}
use Rattle.script.specs.declared.faults.ScriptFault.TheVariants.{TooLong, Unread}
use Rattle.script.specs.declared.faults.Unread.{Unread as UnreadKind}
use Rattle.script.specs.Format.{ReadsAs}
use Rattle.script.specs.Limits.{most_bytes}
use Rattle.script.specs.Lines.{lines_of}
use Rattle.script.specs.Rows.{said, row_bytes}

-- Deals s call words t: a call that comes at s is answered by these words, and leads to t
module _ {S : Type 0} (Deals : S → Call → List ℕ → S → Type 0) where
  -- line n: if it is read, its call is dealt with, and else it is refused and changes nothing
  abbrev pub Line : ℕ → S → List ℕ → List ℕ → S → Type 0
  Line n s line words t = (r : Result Call UnreadKind) × ReadsAs line r × MatchResult r (λ call. Deals s call words t) (λ unread. (words ≡ said (Err (Unread n unread))) × (t ≡ s))

  -- a row for each line, in their order, numbered from n on
  abbrev pub Rows : ℕ → S → List (List ℕ) → List ℕ → S → Type 0
  Rows n s [] out t = (out ≡ []) × (t ≡ s)
  Rows n s (line ∷ lines) out t = (words : List ℕ) × (next : S) × (rest : List ℕ) × Line n s line words next × (out ≡ row_bytes n words ++ rest) × Rows (n + 1) next lines rest t

  -- every line has its row; a script that is too long has one row only, and none of its lines is dealt with
  pub record Answered (s : S) (script out : List ℕ) (t : S) : Type 0 where
    pub long : most_bytes < length script → (out ≡ row_bytes 0 (said (Err TooLong))) × (t ≡ s)
    pub short : length script ≤ most_bytes → Rows 1 s (lines_of script) out t

  -- the first lines are dealt with, and all of these but the last have their rows
  abbrev pub BrokenOff : S → List (List ℕ) → List ℕ → S → Type 0
  BrokenOff s lines out t = (first : List (List ℕ)) × (rest : List (List ℕ)) × (words : List ℕ) × (lines ≡ first ++ rest) × Rows 1 s first (out ++ row_bytes (length first) words) t

  -- memory ran out before every line had its row
  pub record Stopped (s : S) (script out : List ℕ) (t : S) : Type 0 where
    pub long : most_bytes < length script → (out ≡ []) × (t ≡ s)
    pub short : length script ≤ most_bytes → BrokenOff s (lines_of script) out t

  abbrev pub Settled : {T E : Type 0} → Result T E → S → List ℕ → List ℕ → S → Type 0
  Settled r s script out t = MatchResult r (λ _. Answered s script out t) (λ _. Stopped s script out t)

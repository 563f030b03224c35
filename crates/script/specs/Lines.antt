-- The lines of a script.
use Rattle.std.specs.Prelude.{◌≡◌, ℕ, Bool, true, false, List, [], ◌∷◌, ◌++◌, ◌==◌, ◌≢◌}
use Rattle.std.specs.List.{AllByRecursion}
use Rattle.script.specs.Rows.{line_feed}

-- a byte before the lines that follow it: a line feed ends a line, and any other byte begins the first line
abbrev pub before : Bool → ℕ → List (List ℕ) → List (List ℕ)
before true b lines = [] ∷ lines
before false b [] = (b ∷ []) ∷ []
before false b (line ∷ lines) = (b ∷ line) ∷ lines

abbrev pub lines_of : List ℕ → List (List ℕ)
lines_of [] = []
lines_of (b ∷ bytes) = before (b == line_feed) b (lines_of bytes)

-- lines, each with its line feed
abbrev pub fed : List (List ℕ) → List ℕ
fed [] = []
fed (line ∷ lines) = (line ++ (line_feed ∷ [])) ++ fed lines

-- a script with a line feed at its end, if it has a byte and lacks one
abbrev pub closed : List ℕ → List ℕ
closed [] = []
closed (b ∷ []) = elim (b == line_feed) [ true ↦ b ∷ [] | false ↦ b ∷ line_feed ∷ [] ]
closed (b ∷ d ∷ bytes) = b ∷ closed (d ∷ bytes)

-- no line feed is within a line
abbrev pub Whole : List ℕ → Type 0
Whole line = AllByRecursion (λ b. b ≢ line_feed) line

-- the lines are the script cut at its line feeds, and nowhere else
abbrev pub LinesAreTheScript : Type 0
LinesAreTheScript = (bytes : List ℕ) → (fed (lines_of bytes) ≡ closed bytes) × AllByRecursion Whole (lines_of bytes)

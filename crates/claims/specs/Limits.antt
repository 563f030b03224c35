-- The numbers that bound a book, each named once. The constants of src/ have the same values; these stand beside
-- them, since the rules and theorems of every crate are stated with them.
use Rattle.std.specs.Prelude.{ℕ}

-- as many claims as a carried book may have
abbrev pub most_claims : ℕ
most_claims = 256

-- as many goods as may be named or listed
abbrev pub most_goods : ℕ
most_goods = 256

-- parties are numbered from 1 up to this
abbrev pub last_party : ℕ
last_party = 32

-- shelves are numbered from 1 up to this
abbrev pub last_shelf : ℕ
last_shelf = 255

-- as many units as one demand may count
abbrev pub most_units : ℕ
most_units = 60000

-- the largest unit that a claim may go out with
abbrev pub last_unit : ℕ
last_unit = 65535

-- The numbers that bound the broker's machine, each named once.
use Rattle.std.specs.Prelude.{ℕ}

-- as many promises as may live at once
abbrev pub most_promises : ℕ
most_promises = 64

-- as many demands as a draft may have, and as many keys as a promise has for its claims
abbrev pub most_demands : ℕ
most_demands = 4

-- as many minutes as a promise may be asked for
abbrev pub most_minutes : ℕ
most_minutes = 20160

-- the last number that a promise may have
abbrev pub last_number : ℕ
last_number = 4294967295

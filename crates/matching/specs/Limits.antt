-- The numbers that bound what is asked of rooms and tee places, each named once.
use Rattle.std.specs.Prelude.{ℕ}

-- the set of all features of rooms
abbrev pub all_features : ℕ
all_features = 255

-- the last minute of the week
abbrev pub last_minute : ℕ
last_minute = 10079

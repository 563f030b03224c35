-- The numbers that bound a script, each named once.
use Rattle.std.specs.Prelude.{ℕ, ◌+◌, ◌*◌}
use Rattle.machine.specs.Limits.{most_demands}

-- the longest script that is looked at, in bytes
abbrev pub most_bytes : ℕ
most_bytes = 65535

-- as many numbers as a demand has
abbrev pub demand_size : ℕ
demand_size = 3

-- as many numbers as a call may have: an ask has three, and those of its demands
abbrev pub most_numbers : ℕ
most_numbers = 3 + demand_size * most_demands

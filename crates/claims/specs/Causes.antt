-- The number of each cause for which a resource turns a call away.
use Rattle.std.specs.Prelude.{ℕ}
use Rattle.claims.specs.declared.Cause.{Cause}
use Rattle.claims.specs.declared.Cause.TheVariants.{Unreadable, KeyTaken, NoSuchKey, AlreadyOut, PoolShort, ItemTaken, NoMatching, OverLimit, TooManyClaims}

abbrev pub cause_number : Cause → ℕ
cause_number Unreadable = 11
cause_number KeyTaken = 12
cause_number NoSuchKey = 13
cause_number AlreadyOut = 14
cause_number PoolShort = 21
cause_number ItemTaken = 22
cause_number NoMatching = 23
cause_number OverLimit = 24
cause_number TooManyClaims = 25

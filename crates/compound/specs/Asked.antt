-- What a bank and a quota ask of a claim before they look at its units.
use Rattle.std.specs.Prelude.{Bool, cond, ◌&&◌, is_some, Some, None, Option}
use Rattle.claims.specs.declared.Cause.{Cause}
use Rattle.claims.specs.declared.Cause.TheVariants.{Unreadable, KeyTaken}
use Rattle.claims.specs.declared.Claim.{Claim}
use Rattle.claims.specs.Rules.{is_party}

-- why a claim is turned away whose key is looked up, if it is: another stands under it
abbrev pub taken : Option Claim → Option Cause
taken held = cond (is_some held) (Some KeyTaken) None

-- why a claim is turned away at once, if it is: whether its demand is read is known, and what stands under its key
abbrev pub turned_away : Bool → Option Claim → Claim → Option Cause
turned_away read held c = cond (is_party c.party && read) (taken held) (Some Unreadable)

-- What the calls of a resource answer and leave.
use Rattle.std.specs.Prelude.{◌≡◌, ℕ, Some, None, Ok, Err, Option, Result}
use Rattle.claims.specs.declared.Cause.{Cause}
use Rattle.claims.specs.declared.Cause.TheVariants.{NoSuchKey, AlreadyOut}
use Rattle.claims.specs.declared.Claim.{Claim}
use Rattle.claims.specs.declared.ClaimKey.{ClaimKey}
use Rattle.claims.specs.declared.ClaimState.TheVariants.{Waiting, Out}
use Rattle.claims.specs.declared.Fault.{Fault}
use Rattle.claims.specs.declared.ItemNumber.{ItemNumber}
use Rattle.claims.specs.Book.{Book, find, without, out}
use Rattle.claims.specs.Rules.{Rules, refusal, answered, added, lifted}
use Rattle.resource.specs.Draws.{drawn}

-- what placing a claim answers and leaves
pub record Placed (c : Claim) (r : Rules) (b : Book) (answer : Result (Unit {0}) Fault) (r' : Rules) (b' : Book) : Type 0 where
  pub same : r' ≡ r
  pub value : answer ≡ answered c.key (refusal r b c)
  pub after : b' ≡ added c b (refusal r b c)

-- what lifting the claim under a key answers and leaves
pub record Lifted (k : ClaimKey) (r : Rules) (b : Book) (answer : Result (Unit {0}) Fault) (r' : Rules) (b' : Book) : Type 0 where
  pub same : r' ≡ r
  pub value : answer ≡ lifted k (find b k.0)
  pub after : b' ≡ without k.0 b

-- why what stands under a key does not go out, if it does not
abbrev pub kept_in : Option Claim → Option Cause
kept_in None = Some NoSuchKey
kept_in (Some c) = elim c.state [ Waiting ↦ None | Out i ↦ Some AlreadyOut ]

-- the unit, or why there is none
abbrev pub unit_or : ClaimKey → ℕ → Option Cause → Result ItemNumber Fault
unit_or k u None = Ok (record { 0 = u })
unit_or k u (Some x) = Err (record { cause = x; key = k })

abbrev pub gone_out : ClaimKey → ℕ → Book → Option Cause → Book
gone_out k u b None = out k.0 u b
gone_out k u b (Some x) = b

-- what drawing the claim under a key answers and leaves
pub record Drawn (k : ClaimKey) (r : Rules) (b : Book) (answer : Result ItemNumber Fault) (r' : Rules) (b' : Book) : Type 0 where
  pub same : r' ≡ r
  pub value : answer ≡ unit_or k (drawn r b k.0) (kept_in (find b k.0))
  pub after : b' ≡ gone_out k (drawn r b k.0) b (kept_in (find b k.0))

-- What `ok_or` and `ok` gave, told back.
use Rattle.std.proofs.Common.{◌≡◌, ℕ, Some, None, Ok, Err, Option, Result, refl, arith, MatchResult}
use Rattle.std.specs.Option.{ok_or}
use Rattle.std.specs.Result.{result_ok}

pub or_none : {T E : Type 0} (o : Option T) (e x : E) → ok_or o e ≡ Err x → (o ≡ None) × (x ≡ e)
or_none None e x is = (refl, cc)
or_none (Some y) e x is = let z : ◌≡◌ {A = ℕ} 0 1 = cc in absurd (omega arith)

pub not_ok : {T E : Type 0} (P : T → Type 0) (Q : E → Type 0) (r : Result T E) → result_ok r ≡ None → MatchResult r P Q → (e : E) × Q e
not_ok P Q (Ok x) none h = let z : ◌≡◌ {A = ℕ} 0 1 = cc in absurd (omega arith)
not_ok P Q (Err e) none h = (e, h)

-- What a claim that leaves or goes out leaves of the books of two sides.
use Rattle.std.proofs.Common.{ℕ, Some, None, Result, refl, ◌∙◌, arith}
use Rattle.claims.specs.declared.ClaimKey.{ClaimKey}
use Rattle.claims.specs.declared.Fault.{Fault}
use Rattle.claims.specs.declared.ItemNumber.{ItemNumber}
use Rattle.claims.specs.Book.{Book, find}
use Rattle.claims.specs.Rules.{Rules}
use Rattle.claims.proofs.Books.{length_without, length-out, every-out, every-without, apart-without-first, apart-without-second}
use Rattle.resource.specs.Calls.{Lifted, Drawn, kept_in, gone_out}
use Rattle.resource.specs.Draws.{drawn}
use Rattle.compound.specs.Sides.{low, high, Sides}
use Rattle.compound.proofs.Outs.{apart-out-first, apart-out-second}

module _ {s : ℕ} {a b : Book} (h : Sides s a b) where
  pub sides_lifted-first : {k : ClaimKey} {y : Result (Unit {0}) Fault} {p p' : Rules} {a' : Book} → Lifted k p a y p' a' → Sides s a' b
  sides_lifted-first {k} d = rw d.after (record { lows = every-without (low s) k.0 a h.lows; highs = h.highs; distinct = apart-without-first k.0 a b h.distinct; room = omega (arith, h.room, length_without k.0 a) })

  pub sides_lifted-second : {k : ClaimKey} {y : Result (Unit {0}) Fault} {q q' : Rules} {b' : Book} → Lifted k q b y q' b' → Sides s a b'
  sides_lifted-second {k} d = rw d.after (record { lows = h.lows; highs = every-without (high s) k.0 b h.highs; distinct = apart-without-second k.0 a b h.distinct; room = omega (arith, h.room, length_without k.0 b) })

  pub sides_drawn-first : {k : ClaimKey} {y : Result ItemNumber Fault} {p p' : Rules} {a' : Book} → Drawn k p a y p' a' → Sides s a' b
  sides_drawn-first {k} {p} d = rw d.after (elim (kept_in (find a k.0)) as (λ o. Sides s (gone_out k (drawn p a k.0) a o) b) [
    | None ↦ record { lows = every-out (low s) k.0 (drawn p a k.0) a (λ c. refl) ∙ h.lows; highs = h.highs; distinct = apart-out-first k.0 (drawn p a k.0) a b ∙ h.distinct; room = omega (arith, h.room, length-out k.0 (drawn p a k.0) a) }
    | Some z ↦ h
  ])

  pub sides_drawn-second : {k : ClaimKey} {y : Result ItemNumber Fault} {q q' : Rules} {b' : Book} → Drawn k q b y q' b' → Sides s a b'
  sides_drawn-second {k} {q} d = rw d.after (elim (kept_in (find b k.0)) as (λ o. Sides s a (gone_out k (drawn q b k.0) b o)) [
    | None ↦ record { lows = h.lows; highs = every-out (high s) k.0 (drawn q b k.0) b (λ c. refl) ∙ h.highs; distinct = apart-out-second k.0 (drawn q b k.0) a b ∙ h.distinct; room = omega (arith, h.room, length-out k.0 (drawn q b k.0) b) }
    | Some z ↦ h
  ])

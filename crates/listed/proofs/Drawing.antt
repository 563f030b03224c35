-- A claim that goes out with the least unit around which all are carried is drawn.
use Rattle.std.proofs.Common.{◌≡◌, ℕ, suc, ◌<◌, ◌≤◌, Bool, true, false, leb, List, length, Some, Ok, sym, refl, ap, ◌∙◌, arith}
use Rattle.std.proofs.lemmas.Bool.{and_right}
use Rattle.claims.specs.declared.Claim.{Claim}
use Rattle.claims.specs.declared.ClaimKey.{ClaimKey}
use Rattle.claims.specs.declared.ClaimState.TheVariants.{Waiting}
use Rattle.claims.specs.declared.Demand.{Demand}
use Rattle.claims.specs.Book.{Book, Rising, every, find, out, sent}
use Rattle.claims.specs.Limits.{last_unit, most_claims, most_goods}
use Rattle.claims.specs.Rules.{readable}
use Rattle.claims.proofs.Books.{length-out, rising-out}
use Rattle.claims.proofs.Ranges.{find_key, find-out-same}
use Rattle.resource.specs.Calls.{Drawn}
use Rattle.resource.proofs.Refusals.{goes-out, least_is}
use Rattle.shelf.proofs.Every.{every-out}
use Rattle.shelf.proofs.Shelving.{carries_shows}
use Rattle.matching.specs.Matching.{carried}
use Rattle.listed.specs.Lists.{list_kind, listed}
use Rattle.listed.specs.Sends.{GoneOut}
use Rattle.listed.specs.Lawful.{list_laws}

module _ {G : Type 0} (F : G → Demand → Bool) (formed : Demand → Bool) (s : ℕ) (goods : List G) (few : length goods ≤ most_goods) (k : ClaimKey) (b b' : Book) (al' : List ℕ) (c : Claim) (u : ℕ)
    (rising : Rising b) (crowd : length b ≤ most_claims) (there : find b k.0 ≡ Some c) (gone : GoneOut F goods c b u b' al') where
  -- the claim went out from under the key
  booked : b' ≡ out k.0 u b
  booked = gone.booked ∙ ap (λ (j : ℕ). out j u b) (find_key k.0 c b there)

  carries : (listed F formed s goods).carries (out k.0 u b) ≡ true
  carries = carries_shows s (list_kind F formed goods) (out k.0 u b) (omega (arith, length-out k.0 u b)) (ap (carried F goods) (sym booked) ∙ gone.carries)

  least : (v : ℕ) → 0 ≤ v → v < u → (listed F formed s goods).carries (out k.0 v b) ≡ false
  least v z l = and_right (leb (length (out k.0 v b)) most_claims) (carried F goods (out k.0 v b)) (ap (λ (j : ℕ). carried F goods (out j v b)) (sym (find_key k.0 c b there)) ∙ gone.least v l)

  small : u ≤ last_unit
  small = (list_laws F formed s goods few).small (out k.0 u b) k.0 (sent u c) (record { 0 = u }) (rising-out k.0 u b rising) carries (find-out-same k.0 u c b there) refl

  pub is_drawn : c.state ≡ Waiting → Drawn k (listed F formed s goods) b (Ok (record { 0 = u })) (listed F formed s goods) b'
  is_drawn waits =
      let n = small in
      goes-out k (listed F formed s goods) b b' u c there waits
      (least_is (λ v. (listed F formed s goods).carries (out k.0 v b)) 0 (suc last_unit) u (omega arith) (omega arith) carries least) booked

  pub still_read : every (readable (listed F formed s goods)) b ≡ true → every (readable (listed F formed s goods)) b' ≡ true
  still_read e = ap (every (readable (listed F formed s goods))) booked ∙ every-out (readable (listed F formed s goods)) k.0 u b (λ _. refl) ∙ e

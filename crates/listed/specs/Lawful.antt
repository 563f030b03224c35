-- A list of goods keeps to the laws of every resource, and carries exactly what a matching covers.
use Rattle.std.specs.Prelude.{◌≡◌, ℕ, ◌≤◌, Bool, List, [], length, vec_items, refl}
use Rattle.std.proofs.Common.{true, arith}
use Rattle.claims.specs.declared.Demand.{Demand}
use Rattle.claims.specs.declared.sorted.Claims.{Claims}
use Rattle.claims.specs.Held.{claims_book}
use Rattle.claims.specs.Limits.{most_claims, most_goods}
use Rattle.claims.specs.Rules.{Laws}
use Rattle.claims.proofs.Ranks.{rises_says}
use Rattle.resource.specs.Standing.{Standing}
use Rattle.shelf.proofs.Shelving.{carries_says, carries_shows, shelved_laws}
use Rattle.matching.specs.Matching.{Matching}
use Rattle.matching.specs.declared.suits.Suits.{Ghosts as Suiting}
use Rattle.matching.proofs.Matchings.{carried_matching, matching_carried, matching_settled}
use Rattle.matching.proofs.Carrying.{none_carried, fewer-carried, waiting-goes, out_unit}
use Rattle.listed.specs.Lists.{list_kind, listed, MatchingRule}
use Rattle.listed.specs.declared.list.Listed.{Listed}
use Rattle.listed.specs.Views.{list_book, list_rules}

-- a container has few claims
pub claims_few : (c : Claims) → length (claims_book c) ≤ most_claims
claims_few c = omega (arith, c.few, c.items.ok.0)

module _ {G : Type 0} (F : G → Demand → Bool) (formed : Demand → Bool) (s : ℕ) (goods : List G) where
  pub list_laws : length goods ≤ most_goods → Laws (listed F formed s goods)
  list_laws few = shelved_laws s (list_kind F formed goods)
      (none_carried F goods)
      (λ b j h e. fewer-carried F goods b j e)
      (λ b j c h e f w. waiting-goes F goods b j c e f)
      (λ b j c i h e f o. omega (arith, (out_unit F goods b j c i e f o).1))
      (λ d e. (omega arith, omega arith))

  pub matching_rule : MatchingRule F formed s goods
  matching_rule b = (
    (λ e.
        let p = carries_says s (list_kind F formed goods) b e in
        let m = carried_matching F goods b p.1 in
        record { few = p.0; allotment = m.0; matched = m.1 }),
    (λ c. carries_shows s (list_kind F formed goods) b c.few (matching_carried F goods b c.allotment c.matched)),
  )

  -- no claims have no goods
  pub none_matched : Matching F goods [] []
  none_matched = record {
    whole = refl;
    served = λ i c e. absurd (let z : ◌≡◌ {A = ℕ} 0 1 = cc in omega arith);
    apart = λ i j l. absurd (omega arith);
  }

  -- and its claims are carried while they have a matching
  pub list_carried : (c : Claims) (al : List ℕ) → Matching F goods (claims_book c) al → (listed F formed s goods).carries (claims_book c) ≡ true
  list_carried c al m = carries_shows s (list_kind F formed goods) (claims_book c) (claims_few c) (matching_carried F goods (claims_book c) al m)

-- what holds of a list of goods at any time
pub list_standing : {G : Type 0} (g : Suiting G) (s : Listed G g) → Standing (list_rules g s) (list_book s)
list_standing g s =
    let F = g.suiting in
    let goods = vec_items s.goods in
    let b = list_book s in
    let al = vec_items s.lots.allotment in
    record {
      laws = list_laws F g.formed s.shelf goods s.sized;
      rising = rises_says b s.lots.claims.ordered;
      carried = list_carried F g.formed s.shelf goods s.lots.claims al (matching_settled F goods b al s.matched);
      read = s.all_read;
    }

-- What the rules of two resources together keep to, from what those of each keep to.
use Rattle.std.specs.Prelude.{◌≡◌, ℕ, ◌≤◌, true, false, cond, not, ◌&&◌, [], length, Decides, nat_le, refl}
use Rattle.std.proofs.Common.{ap, ◌∙◌, ⊎_elim, arith}
use Rattle.std.proofs.lemmas.Bool.{cases_Bool, leb-true, le-leb}
use Rattle.std.proofs.lemmas.Bool.Decides.{Decides-and, Decides-like}
use Rattle.claims.specs.Book.{Book, without, out, kept}
use Rattle.claims.specs.Limits.{most_claims, last_shelf, most_units}
use Rattle.claims.specs.Rules.{Rules, Laws}
use Rattle.claims.proofs.Books.{rising-kept, length_without, length-out, kept-without, kept_out, out_absent, find-kept_in, find-kept-out}
use Rattle.compound.specs.Sides.{low, high}
use Rattle.compound.specs.Joined.{joined, CarriedByBoth}

-- which books the two carry
pub joined-carries : (s : ℕ) (p q : Rules) (b : Book) → Decides ((joined s p q).carries b) (CarriedByBoth s p q b)
joined-carries s p q b =
    Decides-like ((joined s p q).carries b)
    (λ h. record { few = h.0; first = h.1.0; second = h.1.1 })
    (λ h. (h.few, (h.first, h.second)))
    (Decides-and (nat_le (length b) most_claims) (p.carries (kept (low s) b) && q.carries (kept (high s) b)) (leb-true _ _, le-leb _ _)
    (Decides-and (p.carries (kept (low s) b)) (q.carries (kept (high s) b)) (λ e. e, λ e. e) (λ e. e, λ e. e)))

pub joined_laws : (s : ℕ) (p q : Rules) → Laws p → Laws q → Laws (joined s p q)
joined_laws s p q lp lq = record {
  empty = (joined-carries s p q []).1 (record { few = omega arith; first = lp.empty; second = lq.empty });
  fewer = λ b k r h.
      let c = (joined-carries s p q b).0 h in
      let n = length_without k b in
      (joined-carries s p q (without k b)).1 (record {
        few = omega arith;
        first = ap p.carries (kept-without (low s) k b r) ∙ lp.fewer (kept (low s) b) k (rising-kept (low s) b r) c.first;
        second = ap q.carries (kept-without (high s) k b r) ∙ lq.fewer (kept (high s) b) k (rising-kept (high s) b r) c.second;
      });
  goes = λ b k x r h f w.
      let c = (joined-carries s p q b).0 h in
      let gone = λ (u : ℕ) (y : p.carries (out k u (kept (low s) b)) ≡ true) (z : q.carries (out k u (kept (high s) b)) ≡ true). (
      let n = length-out k u b in
      (joined-carries s p q (out k u b)).1 (record {
        few = omega arith;
        first = ap p.carries (kept_out (low s) (λ v y. refl) k u b r) ∙ y;
        second = ap q.carries (kept_out (high s) (λ v y. refl) k u b r) ∙ z;
      })) in
      ⊎_elim
      (λ (t : low s x ≡ true).
      let g = lp.goes (kept (low s) b) k x (rising-kept (low s) b r) c.first (find-kept_in (low s) k x b f t) w in
      (g.0, gone g.0 g.1 (ap q.carries (out_absent k g.0 (kept (high s) b) (find-kept-out (high s) k x b r f (ap not t))) ∙ c.second)))
      (λ (t : low s x ≡ false).
      let g = lq.goes (kept (high s) b) k x (rising-kept (high s) b r) c.second (find-kept_in (high s) k x b f (ap not t)) w in
      (g.0, gone g.0 (ap p.carries (out_absent k g.0 (kept (low s) b) (find-kept-out (low s) k x b r f t)) ∙ c.first) g.1))
      (cases_Bool (low s x));
  few = λ b r h. ((joined-carries s p q b).0 h).few;
  small = λ b k x i r h f o.
      let c = (joined-carries s p q b).0 h in
      ⊎_elim
      (λ (t : low s x ≡ true). lp.small (kept (low s) b) k x i (rising-kept (low s) b r) c.first (find-kept_in (low s) k x b f t) o)
      (λ (t : low s x ≡ false). lq.small (kept (high s) b) k x i (rising-kept (high s) b r) c.second (find-kept_in (high s) k x b f (ap not t)) o)
      (cases_Bool (low s x));
  shelves = λ d. elim (nat_le d.shelf s) as (λ t. cond t (p.reads d) (q.reads d) ≡ true → (1 ≤ d.shelf) × (d.shelf ≤ last_shelf)) [ true ↦ lp.shelves d | false ↦ lq.shelves d ];
  amounts = λ d. elim (nat_le d.shelf s) as (λ t. cond t (p.reads d) (q.reads d) ≡ true → (1 ≤ cond t (p.counts d) (q.counts d)) × (cond t (p.counts d) (q.counts d) ≤ most_units)) [ true ↦ lp.amounts d | false ↦ lq.amounts d ];
  nothing = λ d. elim (nat_le d.shelf s) as (λ t. cond t (p.reads d) (q.reads d) ≡ false → cond t (p.counts d) (q.counts d) ≡ 0) [ true ↦ lp.nothing d | false ↦ lq.nothing d ];
}

-- The tests are whether all is in bounds; the rest is what the way gives.
use Rattle.std.proofs.Common.{ℕ, Bool, List, length, sym, subst}
use Rattle.matching.specs.declared.way.Step.{Step}
use Rattle.matching.specs.Paths.{Allots, Path, all_but, all_of, fits}
use Rattle.matching.proofs.Admitting.{found, new_blank, not_found}
use Rattle.matching.proofs.Reaching.{shortage_none}
use Rattle.matching.proofs.admission.admit.Goals as goal

pub reach-requires-clause-clean : goal.reach-requires-clause-clean
reach-requires-clause-clean g c = new_blank 256

pub returns-in-Ok-clause-admits : goal.returns-in-Ok-clause-admits
returns-in-Ok-clause-admits g c =
    let b = c.args.claims.now in
    let x : ℕ = c.args.new in
    let al : List ℕ = c.args.allotment.now in
    let after : List ℕ = c.flip.new.allotment in
    let fit : ℕ → ℕ → Bool = fits g.G.Suits.suiting c.args.goods.now b in
    found g.G.Suits.suiting c.args.goods.now b x al c.if-goods-gt-MOST_GOODS.false c.if-claims-gt-MOST_CLAIMS.false c.if-allotment-claims.false c.if-new-claims.false after c.flip.auto.allotment
    (λ a. subst (λ (n : ℕ). Path fit n x al c.deref.result.now c.in-Ok.way.place c.in-Ok.way.good → Allots fit (all_but n x) al → Allots fit (all_of n) after) c.if-allotment-claims.false (c.flip.ensures fit) (subst (λ (q : List Step). Path fit (length b) x al q c.in-Ok.way.place c.in-Ok.way.good) (sym c.deref.ensures.0) c.in-Ok.ensures.leads.1) a)

pub returns-in-Err-clause-admits : goal.returns-in-Err-clause-admits
returns-in-Err-clause-admits g c =
    let b = c.args.claims.now in
    let q : List Step = c.reach.new.steps.items in
    not_found g.G.Suits.suiting c.args.goods.now b c.args.new c.args.allotment.now c.if-goods-gt-MOST_GOODS.false c.if-claims-gt-MOST_CLAIMS.false c.if-allotment-claims.false c.if-new-claims.false
    (shortage_none (fits g.G.Suits.suiting c.args.goods.now b) (length b) c.args.new c.args.allotment.now q (length q) c.if-new-claims.false c.in-Err.ensures.leads)

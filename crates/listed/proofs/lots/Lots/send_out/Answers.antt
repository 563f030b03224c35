-- Each try that fails rules out one unit more; the first that does not is the least.
use Rattle.std.proofs.Common.{◌≡◌, ℕ, List, length, vec_items, sym, ap, ◌∙◌, subst, ⊎_elim, arith}
use Rattle.claims.specs.Book.{Book, key_of, out}
use Rattle.claims.specs.Held.{claims_book}
use Rattle.claims.specs.Places.{Stands}
use Rattle.claims.proofs.Books.{length-out}
use Rattle.claims.proofs.Ranks.{found_stands, rises_says}
use Rattle.matching.specs.Matching.{Admits, carried}
use Rattle.matching.proofs.Matchings.{matching_carried}
use Rattle.listed.proofs.Moves.{Going, Tried, goes, goes-matched, never-all, out-out, tried_below, tried_more, tried_start, unsuited}
use Rattle.listed.proofs.lots.Lots.send_out.Given.{Over}
use Rattle.listed.proofs.lots.Lots.send_out.Goals as goal
use Rattle.listed.proofs.lots.Lots.send_out.Goals.{After-admit}

pub loop-good-init : goal.loop-good-init
loop-good-init g c =
    let F = g.G.Suits.suiting in
    let s = c.args.self.now in
    let same = c.into_iter-good-iterator.ensures.into_iter_gives in
    let first : c.into_iter-good-iterator.result.b.start ≡ 1 = ap (λ x. x.b.start) same ∙ ap (λ x. x.start) c.zip-good-items.ensures.second in
    let all : c.into_iter-good-iterator.result.a.rest.now ≡ c.args.goods.now = ap (λ x. x.a.rest.now) same ∙ ap (λ x. x.rest.now) c.zip-good-items.ensures.first ∙ c.iter.ensures.rest in
    let t = tried_start F c.args.goods.now (key_of c.args.claim) (claims_book s.claims) (vec_items s.allotment) c.args.claim c.requires.there in
    subst (λ (u : ℕ). Tried F c.args.goods.now (key_of c.args.claim) (claims_book s.claims) (vec_items s.allotment) (claims_book s.claims) (vec_items s.allotment) c.into_iter-good-iterator.result.a.rest.now u) (sym first)
    (subst (λ (r : List g.row.G.Denot). Tried F c.args.goods.now (key_of c.args.claim) (claims_book s.claims) (vec_items s.allotment) (claims_book s.claims) (vec_items s.allotment) r 1) (sym all) t)

pub loop-good-preserved-then-not-suits : goal.loop-good-preserved-then-not-suits
loop-good-preserved-then-not-suits g c =
    let F = g.G.Suits.suiting in
    let s = c.args.self.now in
    let t = c.loop-good.invariant in
    tried_more F c.args.goods.now (key_of c.args.claim) (claims_book s.claims) (vec_items s.allotment) c.args.claim c.requires.there _ _ _ _ t _ _ _ _ c.in-Some.ensures.steps _ _ t.again t.same
    (unsuited F c.args.goods.now (key_of c.args.claim) (claims_book s.claims) (vec_items s.allotment) c.args.claim c.requires.there _ _ _ _ t _ _ _ _ c.in-Some.ensures.steps (sym c.suits.ensures ∙ c.if-not-suits.true))

pub invariant_of-self : goal.invariant_of-self
invariant_of-self g c =
    let s = c.loop-good.self in
    let n : length (claims_book c.send_out.new.self) ≡ length (claims_book c.loop-good.self.claims) = ap length c.send_out.ensures ∙ length-out (key_of c.args.claim) c.in-Some.unit (claims_book c.loop-good.self.claims) in
    record { paired = omega (arith, n, s.paired); roomy = s.roomy }

-- the claims are out with the unit tried, and the matching has answered
going : (g : Over) (c : goal.After-admit g) → Going g.G.Suits.suiting c.args.goods.now (claims_book c.args.self.now.claims) (vec_items c.args.self.now.allotment) (key_of c.args.claim) c.rank-at.result c.in-Some.unit (claims_book c.admit.new.self.claims) c.admit.result (vec_items c.admit.new.self.allotment)
going g c =
    let F = g.G.Suits.suiting in
    let s = c.args.self.now in
    let b = claims_book s.claims in
    let k = key_of c.args.claim in
    let after : claims_book c.admit.new.self.claims ≡ claims_book c.send_out.new.self = ap claims_book c.admit.ensures.same in
    record {
      stands = subst (Stands k b) (sym c.rank-at.ensures) (found_stands k b c.args.claim (rises_says b s.claims.ordered) c.requires.there);
      crowd = omega (arith, s.claims.few, s.claims.items.ok.0);
      booked = after ∙ c.send_out.ensures ∙ c.loop-good.invariant.again c.in-Some.unit;
      admits = subst (λ (y : Book). Admits F c.args.goods.now y c.rank-at.result (vec_items s.allotment) c.admit.result (vec_items c.admit.new.self.allotment)) (sym after)
          (subst (λ (a : List ℕ). Admits F c.args.goods.now (claims_book c.send_out.new.self) c.rank-at.result a c.admit.result (vec_items c.admit.new.self.allotment)) c.loop-good.invariant.same c.admit.ensures.admits);
    }

pub returns-then-admit : goal.returns-then-admit
returns-then-admit g c =
    let w = going g (goal.at.returns-then-admit g c).After-admit in
    let F = g.G.Suits.suiting in
    let s = c.args.self.now in
    let b = claims_book s.claims in
    record {
      booked = w.booked;
      carries = sym (goes F c.args.goods.now c.requires.few b (vec_items s.allotment) c.requires.matched _ _ _ _ _ _ w) ∙ c.if-admit.true;
      least = tried_below F c.args.goods.now (key_of c.args.claim) b (vec_items s.allotment) c.args.claim c.requires.there _ _ _ _ c.loop-good.invariant _ _ _ _ c.in-Some.ensures.steps;
      matched = goes-matched F c.args.goods.now c.requires.few b (vec_items s.allotment) c.requires.matched _ _ _ _ _ _ w c.if-admit.true;
    }

pub loop-good-preserved : goal.loop-good-preserved
loop-good-preserved g c =
    let w = going g (goal.at.loop-good-preserved g c).After-admit in
    let F = g.G.Suits.suiting in
    let s = c.args.self.now in
    let b = claims_book s.claims in
    let k = key_of c.args.claim in
    let t = c.loop-good.invariant in
    tried_more F c.args.goods.now k b (vec_items s.allotment) c.args.claim c.requires.there _ _ _ _ t _ _ _ _ c.in-Some.ensures.steps _ _
    (λ v. ap (out k v) w.booked ∙ out-out k c.in-Some.unit v b)
    (w.admits.kept c.if-admit.false)
    (ap (carried F c.args.goods.now) (sym w.booked) ∙ sym (goes F c.args.goods.now c.requires.few b (vec_items s.allotment) c.requires.matched _ _ _ _ _ _ w) ∙ c.if-admit.false)

pub unreachable-requires : goal.unreachable-requires
unreachable-requires g c =
    let F = g.G.Suits.suiting in
    let s = c.args.self.now in
    let b = claims_book s.claims in
    let t = c.loop-good.invariant in
    let end : length c.loop-good.good-iterator.a.rest.now ≡ 0 = ⊎_elim (λ w. w.1.0) (λ w. let l = w.1.0 in omega (arith, t.fits, c.requires.few)) c.in-None.ensures.steps in
    never-all F c.args.goods.now (key_of c.args.claim) b (vec_items s.allotment) c.args.claim c.requires.there _ _ _ _ t end (matching_carried F c.args.goods.now b (vec_items s.allotment) c.requires.matched)

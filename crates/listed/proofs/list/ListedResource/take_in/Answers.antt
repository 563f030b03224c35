-- A claim that passes the bars comes in if a matching covers it too, and else all is as it was.
use Rattle.std.proofs.Common.{◌≡◌, ℕ, true, List, Some, Option, Err, vec_items, sym, refl, ap, ◌∙◌, subst}
use Rattle.std.specs.List.{remove as removed}
use Rattle.std.specs.Option.{OnSome}
use Rattle.std.proofs.lemmas.Result.{err_from_is_err_and}
use Rattle.claims.specs.declared.Cause.TheVariants.{NoMatching}
use Rattle.claims.specs.declared.Claim.{Claim}
use Rattle.claims.specs.Book.{Book, every, find, insert, key_of, without}
use Rattle.claims.specs.Held.{claims_book}
use Rattle.claims.specs.Places.{rank}
use Rattle.claims.specs.Rules.{added, readable, shut_out}
use Rattle.claims.proofs.Books.{find-insert-same, without-insert-same}
use Rattle.resource.specs.Calls.{Placed}
use Rattle.shelf.proofs.Shelving.{Entered, comes_in, falls_short, passed_bars, turned_away}
use Rattle.matching.specs.Matching.{Admits, Matching, carried}
use Rattle.matching.proofs.Matchings.{matching_settled}
use Rattle.listed.specs.Lists.{list_kind}
use Rattle.listed.specs.Views.{list_book, list_rules}
use Rattle.listed.proofs.Moves.{Coming, comes, comes_matched, insert-keeps-rank, stays_out}
use Rattle.listed.proofs.list.ListedResource.take_in.Given.{Over}
use Rattle.listed.proofs.list.ListedResource.take_in.Goals as goal
use Rattle.listed.proofs.list.ListedResource.take_in.Goals.{After-admit, After-remove}

pub returns-in_err-check_entry : goal.returns-in_err-check_entry
returns-in_err-check_entry g c =
    let s = c.args.self.now in
    let p = err_from_is_err_and c.from_residual.result c.from_residual.ensures.1 in
    rw (p.1, p.2) (turned_away s.shelf (list_kind g.G.Suits.suiting g.G.Suits.formed (vec_items s.goods)) (list_book s) c.args.claim _ c.is_read.ensures _ c.in_err-check_entry.ensures)

-- the claim has a place among the claims, and the matching has answered
coming : (g : Over) (c : goal.After-admit g) → Coming g.G.Suits.suiting (vec_items c.args.self.now.goods) (list_book c.args.self.now) (vec_items c.args.self.now.lots.allotment) c.args.claim c.insert-new.result (claims_book c.admit.new.self.claims) (vec_items c.insert-new.new.self.allotment) c.admit.result (vec_items c.admit.new.self.allotment)
coming g c =
    let s = c.args.self.now in
    let F = g.G.Suits.suiting in
    let after : claims_book c.admit.new.self.claims ≡ claims_book c.insert-new.new.self.claims = ap claims_book c.admit.ensures.same in
    record {
      passed = passed_bars (list_book s) c.args.claim c.is_read.result c.in_ok-check_entry.ensures;
      ranked = c.insert-new.ensures.value;
      booked = after ∙ c.insert-new.ensures.claims;
      placed = c.insert-new.ensures.goods;
      admits = subst (λ (y : Book). Admits F (vec_items s.goods) y c.insert-new.result (vec_items c.insert-new.new.self.allotment) c.admit.result (vec_items c.admit.new.self.allotment)) (sym after)
          (subst (λ (goods : List g.row.G.Denot). Admits F goods (claims_book c.insert-new.new.self.claims) c.insert-new.result (vec_items c.insert-new.new.self.allotment) c.admit.result (vec_items c.admit.new.self.allotment)) c.deref.ensures.value c.admit.ensures.admits);
    }

-- the goods of the claims before the call
settled : (g : Over) (c : goal.After-admit g) → Matching g.G.Suits.suiting (vec_items c.args.self.now.goods) (list_book c.args.self.now) (vec_items c.args.self.now.lots.allotment)
settled g c = let s = c.args.self.now in matching_settled g.G.Suits.suiting (vec_items s.goods) (list_book s) (vec_items s.lots.allotment) s.matched

-- the answer is whether all are carried with the claim
answer : (g : Over) (c : goal.After-admit g) → c.admit.result ≡ carried g.G.Suits.suiting (vec_items c.args.self.now.goods) (insert c.args.claim (list_book c.args.self.now))
answer g c = let s = c.args.self.now in comes g.G.Suits.suiting (vec_items s.goods) s.sized (list_book s) (vec_items s.lots.allotment) (settled g c) _ _ _ _ _ _ (coming g c)

-- if they are, the claim comes in
entered : (g : Over) (c : goal.After-admit g) → c.admit.result ≡ true → Entered c.args.self.now.shelf (list_kind g.G.Suits.suiting g.G.Suits.formed (vec_items c.args.self.now.goods)) (list_book c.args.self.now) (claims_book c.admit.new.self.claims) c.args.claim
entered g c y =
    let s = c.args.self.now in
    let w = coming g c in
    comes_in s.shelf (list_kind g.G.Suits.suiting g.G.Suits.formed (vec_items s.goods)) (list_book s) c.args.claim _ c.is_read.ensures (claims_book c.admit.new.self.claims) s.all_read c.in_ok-check_entry.ensures (sym (answer g c) ∙ y)
    (w.booked ∙ sym (w.passed.comes (added c.args.claim (list_book s) (shut_out (list_book s) c.args.claim)) refl))

pub invariant_of-self : goal.invariant_of-self
invariant_of-self g c =
    let s = c.args.self.now in
    let a = (goal.at.invariant_of-self g c).After-admit in
    record {
      sized = s.sized;
      matched = ∣ comes_matched g.G.Suits.suiting (vec_items s.goods) s.sized (list_book s) (vec_items s.lots.allotment) (settled g a) _ _ _ _ _ _ (coming g a) c.if-admit.true ∣₁;
      all_read = (entered g a c.if-admit.true).all_read;
    }

pub returns-then-admit : goal.returns-then-admit
returns-then-admit g c = (entered g (goal.at.returns-then-admit g c).After-admit c.if-admit.true).placed

-- the claims are as they were once the claim is taken out again
restored : (g : Over) (c : goal.After-remove g) → claims_book c.remove.new.self.claims ≡ list_book c.args.self.now
restored g c =
    let w = coming g (goal.at.invariant_of-self-2 g c).After-admit in
    let x = c.args.claim in
    c.remove.ensures.claims ∙ ap (without (key_of x)) w.booked ∙ without-insert-same x (list_book c.args.self.now) w.passed.absent

-- and so are their goods
regained : (g : Over) (c : goal.After-remove g) → vec_items c.remove.new.self.allotment ≡ vec_items c.args.self.now.lots.allotment
regained g c =
    let w = coming g (goal.at.invariant_of-self-2 g c).After-admit in
    let s = c.args.self.now in
    let b = list_book s in
    let x = c.args.claim in
    let there : c.remove.result ≡ Some c.args.claim = c.remove.ensures.value ∙ ap (λ (y : Book). find y (key_of x)) w.booked ∙ find-insert-same x b w.passed.absent in
    let back : OnSome (Some c.args.claim) (vec_items c.remove.new.self.allotment ≡ removed (vec_items c.admit.new.self.allotment) (rank (key_of c.args.claim) (claims_book c.admit.new.self.claims))) =
    subst (λ (o : Option Claim). OnSome o (vec_items c.remove.new.self.allotment ≡ removed (vec_items c.admit.new.self.allotment) (rank (key_of x) (claims_book c.admit.new.self.claims)))) there c.remove.ensures.goods in
    let at : rank (key_of c.args.claim) (claims_book c.admit.new.self.claims) ≡ c.insert-new.result = ap (rank (key_of x)) w.booked ∙ insert-keeps-rank x b ∙ sym w.ranked in
    back ∙ ap (removed (vec_items c.admit.new.self.allotment)) at ∙ stays_out g.G.Suits.suiting (vec_items s.goods) s.sized b (vec_items s.lots.allotment) (settled g (goal.at.invariant_of-self-2 g c).After-admit) _ _ _ _ _ _ w c.if-admit.false

pub invariant_of-self-2 : goal.invariant_of-self-2
invariant_of-self-2 g c =
    let s = c.args.self.now in
    let F = g.G.Suits.suiting in
    let a = (goal.at.invariant_of-self-2 g c).After-remove in
    record {
      sized = s.sized;
      matched = subst (λ (y : Book). ∥ Matching F (vec_items s.goods) y (vec_items c.remove.new.self.allotment) ∥₁) (sym (restored g a)) (subst (λ (al : List ℕ). ∥ Matching F (vec_items s.goods) (list_book s) al ∥₁) (sym (regained g a)) s.matched);
      all_read = ap (every (readable (list_rules g.G.Suits s))) (restored g a) ∙ s.all_read;
    }

pub returns : goal.returns
returns g c =
    let s = c.args.self.now in
    let k = list_kind g.G.Suits.suiting g.G.Suits.formed (vec_items s.goods) in
    let b = list_book s in
    let x = c.args.claim in
    subst (λ (y : Book). Placed x (list_rules g.G.Suits s) b (Err (record { cause = NoMatching; key = x.key })) (list_rules g.G.Suits s) y) (sym (restored g (goal.at.returns g c).After-remove))
    (falls_short s.shelf k b x _ c.is_read.ensures c.in_ok-check_entry.ensures (sym (answer g (goal.at.returns g c).After-admit) ∙ c.if-admit.false))

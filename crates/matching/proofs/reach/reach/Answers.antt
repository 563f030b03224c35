-- Each way of the loops is one of the lemmas on what they keep.
use Rattle.std.proofs.Common.{◌≡◌, ℕ, ◌+◌, ◌<◌, Bool, true, List, [], ◌∷◌, ◌++◌, length, get_or, set, Option, sym, refl, ap, ◌∙◌, subst, arith, length-set, length-append}
use Rattle.std.specs.List.{slice_get}
use Rattle.std.proofs.lemmas.List.{get_or_append_left}
use Rattle.std.proofs.lemmas.Bool.{false≢true}
use Rattle.matching.specs.declared.way.Step.{Step}
use Rattle.matching.specs.Paths.{Holder, fits, step_at}
use Rattle.matching.proofs.Entering.{unheld}
use Rattle.matching.proofs.Passing.{fits-within, fits_read}
use Rattle.matching.proofs.Reaching.{Front, Looked, front_found, front_next, front_push, front_room, looked_past, looked_push, plain}
use Rattle.matching.proofs.reach.reach.Given.{Over}
use Rattle.matching.proofs.reach.reach.Goals as goal
use Rattle.matching.proofs.reach.reach.Goals.{In-Some-holders, then-sheet-good-ne0-via-then-sheet-good-ne0, then-sheet-good-ne0-via-else-sheet-good-ne0+then-not-serves}

-- what is known where a claim has the good that is open
record Pushing (fit : ℕ → ℕ → Bool) (n x : ℕ) (al marks : List ℕ) (i good h : ℕ) : Type 0 where
  suits : fit good i ≡ true
  unmarked : get_or marks good 0 ≡ 0
  below : h < n
  other : h ≡ x → ⊥
  has : get_or al h 0 ≡ good

pushing : (g : Over) (c : goal.In-Some-holders g) (h : ℕ) → h ≡ c.in-Some-holders.claim → Pushing (fits g.G.Suits.suiting c.args.goods.now c.args.claims.now) (length c.args.claims.now) c.args.new c.args.allotment.now c.loop-good.sheet.0.now (step_at c.loop-good.steps.items c.loop-step.from).claim c.loop-good.good h
pushing g c h is =
    let good : ℕ = c.loop-good.good in
    let table = c.holders_of-holders.ensures in
    let w = subst (λ (v : Option ℕ). Holder c.args.allotment.now c.args.new good v) c.in-Some-holders.is (table.each good (omega (arith, c.loop-good-test.true, c.requires.few, table.wide))) in
    record {
      suits = fits_read g.G.Suits.suiting c.args.goods.now c.args.claims.now _ _ c.loop-good.invariant.2 good c.index-goods-good.result c.serves.result c.loop-good-test.true c.index-goods-good.is c.serves.ensures ∙ c.if-not-serves.false;
      unmarked = c.if-sheet-good-ne0.false;
      below = omega (arith, w.0, is, c.requires.same);
      other = λ e. w.1 (sym is ∙ e);
      has = ap (λ (i : ℕ). get_or c.args.allotment.now i 0) is ∙ w.2;
    }

-- an old step stands where it stood after a push
same_step : (q q' : List Step) (step : Step) (k : ℕ) → q' ≡ q ++ step ∷ [] → k < length q → step_at q' k ≡ step_at q k
same_step q q' step k is l = ap (λ (y : List Step). step_at y k) is ∙ get_or_append_left q (step ∷ []) plain k l

-- what the steps then are, and how many
front_long : (fit : ℕ → ℕ → Bool) (n x : ℕ) (al : List ℕ) (q q' : List Step) (marks : List ℕ) (head : ℕ) (step : Step) → q' ≡ q ++ step ∷ [] → Front fit n x al (q ++ step ∷ []) marks head (length q + 1) → Front fit n x al q' marks head (length q')
front_long fit n x al q q' marks head step is f =
    subst (λ (y : List Step). Front fit n x al y marks head (length y)) (sym is)
    (subst (λ (k : ℕ). Front fit n x al (q ++ step ∷ []) marks head k) (sym (length-append q (step ∷ []))) f)

pub loop-good-preserved-then-sheet-good-ne0 : goal.loop-good-preserved-then-sheet-good-ne0
loop-good-preserved-then-sheet-good-ne0 g c =
    let inv = c.loop-good.invariant in (
      inv.0,
      inv.1,
      inv.2,
      looked_past (fits g.G.Suits.suiting c.args.goods.now c.args.claims.now) c.loop-good.sheet.0.now (step_at c.loop-good.steps.items c.loop-step.from).claim c.loop-good.good inv.3
          (λ y z. elim c.then-sheet-good-ne0.branch [
            | then-sheet-good-ne0-via-then-sheet-good-ne0 w ↦ w.if-sheet-good-ne0.true z
            | then-sheet-good-ne0-via-else-sheet-good-ne0+then-not-serves w ↦
                false≢true (sym w.if-not-serves.true ∙ sym (fits_read g.G.Suits.suiting c.args.goods.now c.args.claims.now _ _ inv.2 c.loop-good.good c.index-goods-good.result w.serves.result c.loop-good-test.true c.index-goods-good.is w.serves.ensures) ∙ y)
          ]),
      inv.4,
      refl,
    )

pub returns-in_default-holders-clause-leads : goal.returns-in_default-holders-clause-leads
returns-in_default-holders-clause-leads g c =
    let good : ℕ = c.loop-good.good in
    let free = c.holders_of-holders.ensures.each c.loop-good.good (omega (arith, c.loop-good-test.true, c.requires.few, c.holders_of-holders.ensures.wide)) in (
      c.loop-good.invariant.1,
      front_found _ _ _ _ _ _ _ _ c.loop-good.invariant.0 c.loop-good.invariant.1 good
          (fits_read g.G.Suits.suiting c.args.goods.now c.args.claims.now _ _ c.loop-good.invariant.2 good c.index-goods-good.result c.serves.result c.loop-good-test.true c.index-goods-good.is c.serves.ensures ∙ c.if-not-serves.false)
          (λ i b. unheld c.args.allotment.now c.args.new good _ c.in_default-holders.not-Some free i (omega (arith, c.requires.same))),
    )

pub push-requires-in-loop-good : goal.push-requires-in-loop-good
push-requires-in-loop-good g c =
    let w = pushing g (goal.at.push-requires-in-loop-good g c).In-Some-holders c.in-Some-holders.claim refl in
    let room = front_room _ _ _ _ _ _ _ _ c.loop-good.invariant.0 c.loop-good.invariant.1 c.loop-good.good c.in-Some-holders.claim w.suits w.unmarked c.requires.one w.below w.other w.has in
    (omega arith, omega (arith, room, c.requires.crowd))

pub loop-good-preserved : goal.loop-good-preserved
loop-good-preserved g c =
    let h : ℕ = c.from-claim.result in
    let w = pushing g (goal.at.loop-good-preserved g c).In-Some-holders h c.from-claim.ensures in
    let fit : ℕ → ℕ → Bool = fits g.G.Suits.suiting c.args.goods.now c.args.claims.now in
    let n : ℕ = length c.args.claims.now in
    let x : ℕ = c.args.new in
    let al : List ℕ = c.args.allotment.now in
    let good : ℕ = c.loop-good.good in
    let head : ℕ = c.loop-step.from in
    let q : List Step = c.loop-good.steps.items in
    let marks : List ℕ = c.loop-good.sheet.0.now in
    let step : Step = record { claim = h; from = c.loop-step.from } in
    let items = c.push-in-loop-good.ensures.items in
    let more = c.loop-good.invariant.1 in
    let ol : good < length marks = omega (arith, c.loop-good-test.true, c.loop-good.invariant.4) in
    let pushed : List Step = c.push-in-loop-good.new.self.items in
    let same = same_step q pushed step head items more in (
      front_long fit n x al q pushed (set marks good 1) head step items
          (front_push _ _ _ _ _ _ _ _ c.loop-good.invariant.0 more good h w.suits w.unmarked c.requires.one w.below w.other w.has refl ol),
      omega (arith, more, c.push-in-loop-good.ensures.len),
      ap (λ (v : Step). slice_get c.args.claims.now v.claim) same ∙ c.loop-good.invariant.2,
      subst (λ (v : Step). Looked fit (set marks good 1) v.claim (good + 1)) (sym same) (looked_push fit marks (step_at q head).claim good ol c.loop-good.invariant.3),
      omega (arith, c.loop-good.invariant.4, length-set marks good 1),
      refl,
    )

pub loop-step-preserved : goal.loop-step-preserved
loop-step-preserved g c = (
  front_next _ _ _ _ _ _ _ _ c.loop-good.invariant.0 c.loop-good.invariant.1
      (λ k y. c.loop-good.invariant.3 k (let l = fits-within g.G.Suits.suiting c.args.goods.now c.args.claims.now _ _ c.loop-good.invariant.2 k y in omega (arith, c.loop-good-test.false)) y),
  c.loop-good.invariant.4,
  refl,
)

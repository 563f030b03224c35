use Rattle.std.proofs.Common.{◌≡◌, ◌∷◌, nat_eq, rules, ap, sym, subst, ◌∙◌, refl, unwrap_or, length}
use borrow.Author.Tests.{tests}
use Rattle.std.specs.List.{between}
use Rattle.std.proofs.lemmas.Bool.Decides.{Decides-eqb}
use Rattle.std.proofs.lemmas.Fn.{always_returns_same}
use Rattle.std.proofs.lemmas.Slice.Eq.{strip_suffix_is}
use Rattle.script.specs.Lines.{lines_of}
use Rattle.script.proofs.Heads.{next_line}
use Rattle.script.proofs.lines.LinesIterator.next.Goals as goal

pub returns-clause-steps : goal.returns-clause-steps
returns-clause-steps c =
    let h = c.in_ok-part.ensures.steps in
    let first = h.1.2 (λ b. nat_eq b 10) (always_returns_same _ (λ a r. r ≡ nat_eq a.0.now 10) _ (λ a r q k. search (rules, tests))) in
    let step = next_line c.split_inclusive.result.rest.now c.in_ok-part.part.now c.next.new.self.rest.now h.1.0 h.0 h.2 h.1.1 first.1 c.strip_suffix.result c.in_ok-part.part refl (strip_suffix_is Decides-eqb _ _ _ c.strip_suffix.ensures.cases) in
    let told = subst (λ rest. lines_of rest ≡ (unwrap_or c.strip_suffix.result c.in_ok-part.part).now ∷ lines_of (between (length c.in_ok-part.part.now) (length rest) rest)) c.split_inclusive.ensures.rest step in
    told ∙ ap (λ line. line.now ∷ lines_of (between (length c.in_ok-part.part.now) (length c.args.self.now.0.now) c.args.self.now.0.now)) (sym c.unwrap_or.ensures)

pub returns-clause-goes : goal.returns-clause-goes
returns-clause-goes c = let h = ap length (returns-clause-steps c) in search rules

-- A new bank is open exactly where neither side has claims.
use Rattle.std.proofs.Common.{◌≡◌, eqb, length, sym, refl, ap, ◌∙◌, arith}
use Rattle.std.proofs.lemmas.Bool.{ne_eqb}
use Rattle.claims.specs.Book.{merge}
use Rattle.claims.proofs.Books.{length-merge}
use Rattle.compound.proofs.Openings.{fresh}
use Rattle.compound.proofs.bank.Bank.new.Goals as goal
use Rattle.compound.proofs.bank.Bank.new.Goals.{then-count-eq0, else-count-eq0}

pub returns-clause-fresh : goal.returns-clause-fresh
returns-clause-fresh g c =
    let both = merge (g.F.Resource.book c.args.first) (g.S.Resource.book c.args.second) in
    let sum = length-merge (g.F.Resource.book c.args.first) (g.S.Resource.book c.args.second) in
    let is : c.if-count-eq0.is_open ≡ eqb (length both) 0 = elim c.if-count-eq0.branch [
      | then-count-eq0 w ↦ w.is_open-is ∙ ap (λ n. eqb n 0) (omega (arith, w.count-then-count-eq0.ensures, w.if-count-eq0.true))
      | else-count-eq0 w ↦ w.is_open-is ∙ ne_eqb c.count.result 0 w.if-count-eq0.false ∙ sym (ne_eqb (length both) 0 (omega (arith, w.if-count-eq0.false)))
    ] in
    fresh c.if-count-eq0.is_open both is refl refl

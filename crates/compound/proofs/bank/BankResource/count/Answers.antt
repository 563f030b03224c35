-- The claims of both sides are those of the whole.
use Rattle.std.proofs.Common.{arith}
use Rattle.claims.proofs.Books.{length-merge}
use Rattle.compound.proofs.bank.BankResource.count.Goals as goal

pub returns-then-self : goal.returns-then-self
returns-then-self g c =
    let s = c.args.self.now in
    rw c.if-self.true (let m = length-merge (g.F.Resource.book s.first) (g.S.Resource.book s.second) in omega arith)

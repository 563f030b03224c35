-- A pool has the rules that were asked for, and these are those of escrow.
use Rattle.std.proofs.Common.{ℕ, min, IfOk, subst}
use Rattle.claims.specs.Limits.{most_units}
use Rattle.goods.specs.Pooled.{pool}
use Rattle.goods.specs.Pools.{escrow}
use Rattle.goods.specs.Views.{pool_rules, pool_book}
use Rattle.shelf.specs.Shelves.{Opened}
use Rattle.goods.proofs.quantity.Pool.new.Goals as goal

pub returns-clause-opened : goal.returns-clause-opened
returns-clause-opened c = subst (λ (n : ℕ). IfOk c.with_goods.result (λ s. Opened (pool c.args.shelf n) (pool_rules s) (pool_book s))) c.min-size.ensures c.with_goods.ensures

pub returns-clause-escrow : goal.returns-clause-escrow
returns-clause-escrow c = escrow c.args.shelf (min c.args.size most_units)

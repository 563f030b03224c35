-- The goods of the meeting: six buggies and four dining tables, eight units to each party.
use Rattle.std.specs.Prelude.{◌≡◌, [], replicate}
use Rattle.claims.specs.Limits.{last_party}
use Rattle.claims.specs.Rules.{Rules}
use Rattle.resource.specs.declared.Resource.{Ghosts}
use Rattle.goods.specs.NamedGoods.{named}
use Rattle.goods.specs.Pooled.{pool}
use Rattle.goods.specs.Views.{Pool, Named, pool_rules, pool_book, named_rules, named_book}
use Rattle.compound.specs.declared.bank.Bank.{Bank}
use Rattle.compound.specs.declared.quota.Quota.{Quota}
use Rattle.compound.specs.Joined.{bank, joined}
use Rattle.compound.specs.Limited.{quota, limited}
use Rattle.machine.specs.Entries.{Consistent}
use Rattle.machine.specs.Machine.{start}
use Rattle.broker.specs.declared.desk.Broker.{Broker}
use Rattle.broker.specs.View.{view}

-- what the goods promise together: buggies on shelf 1, tables on shelf 2, one limit for all
abbrev pub meeting_rules : Rules
meeting_rules = limited (replicate last_party 8) (joined 1 (pool 1 6) (named 2 4))

abbrev pub buggies : Ghosts Pool
buggies = record { rules = pool_rules; book = pool_book }

abbrev pub tables : Ghosts Named
tables = record { rules = named_rules; book = named_book }

abbrev pub Goods : Type 0
Goods = Quota (Bank Pool Named buggies tables) (bank buggies tables)

-- the goods as a resource
abbrev pub goods : Ghosts Goods
goods = quota (bank buggies tables)

-- the goods as they are made: by these rules, with no claims
pub record Stocked (s : Goods) : Type 0 where
  pub ruled : goods.rules s ≡ meeting_rules
  pub unclaimed : goods.book s ≡ []

-- the broker as it is made: consistent, over these rules, at the machine's first state
pub record Opens (b : Broker Goods goods) : Type 0 where
  pub consistent : Consistent (view goods b)
  pub ruled : goods.rules b.resource ≡ meeting_rules
  pub state : view goods b ≡ start 1 []

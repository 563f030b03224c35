-- The rules and the book of the goods on a shelf.
use Rattle.std.specs.Prelude.{true}
use Rattle.claims.specs.Book.{Book}
use Rattle.claims.specs.Held.{claims_book}
use Rattle.claims.specs.Rules.{Rules}
use Rattle.goods.specs.declared.kind.Goods.{Ghosts}
use Rattle.goods.specs.declared.noting.NotingGoods.{Ghosts as NotingGhosts}
use Rattle.goods.specs.declared.items.Items.{Items}
use Rattle.goods.specs.declared.stock.Stock.{Stock}
use Rattle.goods.specs.declared.quantity.Quantity.{Quantity}
use Rattle.goods.specs.Fixed.{rules_of}
use Rattle.goods.specs.Items.{named-goods}
use Rattle.goods.specs.NamedGoods.{named}
use Rattle.goods.specs.Pooled.{pool}
use Rattle.goods.specs.Pools.{pool-goods, used_for}

abbrev pub stock_rules : {G : Type 0} (g : NotingGhosts G) → Stock G g → Rules
stock_rules g s = rules_of s.shelf (g.goods s.goods)

abbrev pub quantity : Ghosts Quantity
quantity = record { goods = λ u. pool-goods u.size }

-- a quantity that has noted the claims of a book keeps their sum
abbrev pub noting_quantity : NotingGhosts Quantity
noting_quantity = record { goods = quantity.goods; noted = λ u b. used_for u.used b }

abbrev pub items : Ghosts Items
items = record { goods = λ i. named-goods i.count i.sized }

-- items keep nothing of the claims, so that they have noted those of any book
abbrev pub noting_items : NotingGhosts Items
noting_items = record { goods = items.goods; noted = λ _ _. true }

abbrev pub Pool : Type 0
Pool = Stock Quantity noting_quantity

abbrev pub Named : Type 0
Named = Stock Items noting_items

abbrev pub pool_rules : Pool → Rules
pool_rules p = pool p.shelf p.goods.size

abbrev pub pool_book : Pool → Book
pool_book p = claims_book p.claims

abbrev pub named_rules : Named → Rules
named_rules n = named n.shelf n.goods.count

abbrev pub named_book : Named → Book
named_book n = claims_book n.claims

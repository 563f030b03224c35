-- The rules and the book of a list of goods.
use Rattle.std.specs.Prelude.{vec_items}
use Rattle.claims.specs.Book.{Book}
use Rattle.claims.specs.Held.{claims_book}
use Rattle.claims.specs.Rules.{Rules}
use Rattle.matching.specs.declared.suits.Suits.{Ghosts as Suiting}
use Rattle.listed.specs.declared.list.Listed.{Listed}
use Rattle.listed.specs.Lists.{listed}

abbrev pub list_rules : {G : Type 0} (g : Suiting G) → Listed G g → Rules
list_rules g s = listed g.suiting g.formed s.shelf (vec_items s.goods)

abbrev pub list_book : {G : Type 0} {g : Suiting G} → Listed G g → Book
list_book s = claims_book s.lots.claims

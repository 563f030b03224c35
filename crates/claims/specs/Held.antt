-- The book that a container of claims holds.
use Rattle.std.specs.Prelude.{vec_items}
use Rattle.claims.specs.declared.sorted.Claims.{Claims}
use Rattle.claims.specs.Book.{Book}

abbrev pub claims_book : Claims → Book
claims_book c = vec_items c.items

-- What holds of every resource at any time.
use Rattle.std.specs.Prelude.{◌≡◌, true}
use Rattle.claims.specs.Book.{Book, Rising, every}
use Rattle.claims.specs.Rules.{Rules, Laws, readable}

-- rules that keep to the laws, and a book that they carry
pub record Standing (r : Rules) (b : Book) : Type 0 where
  pub laws : Laws r
  pub rising : Rising b
  pub carried : r.carries b ≡ true
  -- each claim is a party's, and its demand is read
  pub read : every (readable r) b ≡ true

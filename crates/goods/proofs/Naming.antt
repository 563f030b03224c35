-- A walk through the claims that looks for an item, and when one claim more names an item that is free: facts that
-- stand for whoever builds on named goods. No proof of this crate cites them.
use Rattle.std.specs.Prelude.{◌≡◌, ℕ, ◌+◌, ◌<◌, ◌≤◌, Bool, true, false, not, ◌&&◌, ◌||◌, length, drop, ◌==◌, ◌≢◌, slice_index_or}
use Rattle.std.proofs.Common.{ap, ◌∙◌}
use Rattle.std.proofs.lemmas.List.{at_drop_more, at_drop_all}
use Rattle.std.proofs.lemmas.Bool.{and_parts, or_left, eq-eqb, ne_eqb}
use Rattle.claims.specs.declared.Claim.{Claim}
use Rattle.claims.specs.Book.{Book, insert, every}
use Rattle.goods.specs.NamedGoods.{item, names, distinct, in_stock, as_named, named_kind, named}
use Rattle.goods.specs.Items.{distinct_with}
use Rattle.shelf.proofs.Every.{every_with}
use Rattle.shelf.proofs.Shelving.{carries_says}

-- a look through the claims: past one that names another item, at one that names it, and at the end
pub names_passed : (i j : ℕ) (d : Claim) (b : Book) → j < length b → (item (slice_index_or b j d) ≢ i) → names i (drop j b) ≡ names i (drop (j + 1) b)
names_passed i j d b l ne = at_drop_more (names i) b j d l ∙ ap (λ (q : Bool). q || names i (drop (j + 1) b)) (ne_eqb (item (slice_index_or b j d)) i ne)

pub names-here : (i j : ℕ) (d : Claim) (b : Book) → j < length b → item (slice_index_or b j d) ≡ i → names i (drop j b) ≡ true
names-here i j d b l e = at_drop_more (names i) b j d l ∙ or_left (item (slice_index_or b j d) == i) (names i (drop (j + 1) b)) (eq-eqb (item (slice_index_or b j d)) i e)

pub names_end : (i j : ℕ) (b : Book) → length b ≤ j → names i (drop j b) ≡ false
names_end i j b l = at_drop_all (names i) b j l

-- where named goods are carried, one claim more has to name another item, and one of them
pub fits_in : (s n : ℕ) (x : Claim) (b : Book) → (named s n).carries b ≡ true → (not (names (item x) b) && in_stock n x && as_named x) ≡ (named_kind n).enough (insert x b)
fits_in s n x b e =
    let p = and_parts (distinct b && every (in_stock n) b) (every as_named b) (carries_says s (named_kind n) b e).1 in
    let q = and_parts (distinct b) (every (in_stock n) b) p.0 in
    let one = distinct_with x b q.0 in
    let two = every_with (in_stock n) x b q.1 in
    let three = every_with as_named x b p.1 in
    cc

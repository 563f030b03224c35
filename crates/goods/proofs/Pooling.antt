-- When one claim more fits into what a pool has left: a fact that stands for whoever builds on pools. No proof of this
-- crate cites it.
use Rattle.std.specs.Prelude.{◌≡◌, ℕ, ◌-◌, Bool, true, ◌&&◌, leb, nat_le}
use Rattle.std.proofs.Common.{sym, ap, ◌∙◌, arith}
use Rattle.std.proofs.lemmas.Bool.{and_parts, leb-true, le-leb}
use Rattle.std.specs.Cmp.{both_ways}
use Rattle.claims.specs.declared.Claim.{Claim}
use Rattle.claims.specs.Book.{Book, insert, every}
use Rattle.goods.specs.Pooled.{quantities, unnumbered, pool_kind, pool}
use Rattle.goods.specs.Pools.{quantities-insert}
use Rattle.shelf.proofs.Every.{every_with}
use Rattle.shelf.proofs.Shelving.{carries_says}

-- where the pool is carried, one claim more has to fit into what is left
pub fits_in : (s n used : ℕ) (x : Claim) (b : Book) → (pool s n).carries b ≡ true → used ≡ quantities b →
    (nat_le x.demand.first (n - used) && unnumbered x) ≡ (pool_kind n).enough (insert x b)
fits_in s n used x b e sum =
    let p = and_parts (nat_le (quantities b) n) (every unnumbered b) (carries_says s (pool_kind n) b e).1 in
    let top = leb-true (quantities b) n p.0 in
    let more = quantities-insert x b in
    let left : leb x.demand.first (n - used) ≡ leb (quantities (insert x b)) n = both_ways (leb x.demand.first (n - used)) (leb (quantities (insert x b)) n)
    (λ t. le-leb (quantities (insert x b)) n (let h = leb-true x.demand.first (n - used) t in omega arith))
    (λ t. le-leb x.demand.first (n - used) (let h = leb-true (quantities (insert x b)) n t in omega arith)) in
    ap (λ (q : Bool). q && unnumbered x) left ∙ ap (λ (q : Bool). nat_le (quantities (insert x b)) n && q) (sym (every_with unnumbered x b p.1))

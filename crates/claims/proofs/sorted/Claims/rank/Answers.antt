use Rattle.std.proofs.Common.{ltb, ap, ◌∙◌, subst, sym, vec_items, rules}
use Rattle.std.proofs.lemmas.Fn.{always_returns_same}
use Rattle.std.proofs.lemmas.List.Sorted.{IsPartitionedBy-ltb}
use Rattle.claims.specs.Book.{key_of, Rising}
use Rattle.claims.specs.Places.{rank}
use Rattle.claims.proofs.Ranks.{rank_is, rises_says, rising_keys}
use Rattle.claims.proofs.sorted.Claims.rank.Goals as goal

pub returns : goal.returns
returns c =
    let k = c.args.key.0 in
    let b = c.deref.result.now in
    let rising = subst Rising (sym c.deref.ensures.value) (rises_says (vec_items c.args.self.now.items) c.args.self.now.ordered) in
    let point = c.partition_point.ensures.partitioned (λ d. ltb (key_of d) k) (always_returns_same _ _ _ (λ a r f q. search rules)) (IsPartitionedBy-ltb key_of b k (rising_keys b rising)) in
    rank_is k b c.partition_point.result c.partition_point.ensures.bound point ∙ ap (rank k) c.deref.ensures.value

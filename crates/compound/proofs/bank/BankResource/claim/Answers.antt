-- The claim under a key stands on one side alone.
use Rattle.std.proofs.Common.{◌≡◌, ℕ, Some, None, Option, MatchOption, true, rules, sym, ◌∙◌}
use Rattle.claims.specs.declared.Claim.{Claim}
use Rattle.claims.specs.Book.{Book, Rising, apart, find, merge}
use Rattle.claims.proofs.Books.{find-merge-first, find-merge_none}
use Rattle.compound.proofs.bank.BankResource.claim.Goals as goal

-- what the first side answers, or else the second
on_either : {N : Type 0} (o : Option Claim) {r : Option Claim} (k : ℕ) (a b : Book) → Rising a → apart a b ≡ true → o ≡ find a k → MatchOption o N (λ x. r ≡ Some x) → (N → r ≡ find b k) → r ≡ find (merge a b) k
on_either (Some x) k a b rises alone e h f = h ∙ sym (find-merge-first k x a b rises alone (sym e))
on_either None k a b rises alone e h f = f h ∙ sym (find-merge_none k a b (sym e))

pub returns : goal.returns
returns g c =
    let s = c.args.self.now in
    let is = c.if-not-self.false in
    rw is (on_either c.claim.result c.args.key.0 _ _ (g.met.F.Resource.standing s.first).rising (s.sides is).distinct c.claim.ensures c.or_else.ensures (λ h. search rules))

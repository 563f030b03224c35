-- What each call keeps holds of every state that calls lead to.
use Rattle.std.proofs.Common.{◌≡◌, ℕ, max, List, [], ◌∷◌, None, sym, refl, ap, ◌∙◌, arith}
use Rattle.claims.specs.Book.{Book}
use Rattle.claims.specs.Rules.{Rules}
use Rattle.machine.specs.Machine.{State, lift_all, kept, out_all, standing, promise_of, ended, marked_taken, keys_held, next_or_zero, start}
use Rattle.machine.specs.Entries.{Entry, promises, live_claims}
use Rattle.machine.specs.Reached.{Reached, StaysConsistent}
use Rattle.machine.specs.Reached.Reached.{begun, dealt}
use Rattle.machine.proofs.Keeping.{Backed, backed_minute, backed_end, backed-made, backed-taken, next_is, no_number, KeptBy, step_kept, Carried, carried-kept, consistent-start}

reached : (r : Rules) (first : ℕ) (b : Book) (P : State → Type 0) → KeptBy r P → P (start first b) → (s : State) → Reached r first b s → P s
reached r first b P k h s begun = h
reached r first b P k h s (dealt {s = t} c d) = step_kept r P k t c (reached r first b P k h t d)

-- from no claims
backed-kept : (r : Rules) → KeptBy r Backed
backed-kept r = record {
  minute = backed_minute;
  making = λ p ms d s q. backed-made r p ms d s q.numbered q.known q.few;
  taking = backed-taken r;
  ending = backed_end;
}

no_entries : (es : List Entry) → promises es ≡ [] → live_claims es ≡ []
no_entries [] h = refl
no_entries (e ∷ es) h = absurd (let z : ◌≡◌ {A = ℕ} 0 1 = cc in omega arith)

-- from a book with claims: no promise, no number, and the same book
record Idle (b : Book) (s : State) : Type 0 where
  of_live : s.live ≡ []
  of_next : s.next ≡ None
  of_book : s.book ≡ b

idle-kept : (r : Rules) (b : Book) → KeptBy r (Idle b)
idle-kept r b = record {
  minute = λ m s k. record { of_live = ap (standing (max s.clock m)) k.of_live; of_next = k.of_next; of_book = ap (λ ps. kept (max s.clock m) ps s.book) k.of_live ∙ k.of_book };
  making = λ p ms d s q k. absurd (no_number s.next (next_or_zero s.next) k.of_next (next_is s.next q.numbered));
  taking = λ n s h k. record { of_live = ap (marked_taken n) k.of_live; of_next = k.of_next; of_book = ap (λ ps. out_all r s.book (keys_held (promise_of n ps))) k.of_live ∙ k.of_book };
  ending = λ n s k. record { of_live = ap (ended n) k.of_live; of_next = k.of_next; of_book = ap (λ ps. lift_all (keys_held (promise_of n ps)) s.book) k.of_live ∙ k.of_book };
}

pub stays_consistent : StaysConsistent
stays_consistent = record {
  over_none = λ r w first s d.
      let c = reached r first [] (Carried r) (carried-kept r w) (record { consistent = consistent-start first []; rising = tt; carried = w.empty }) s d in
      let k = reached r first [] Backed (backed-kept r) (record { entries = []; of_live = refl; of_book = refl; in_order = tt }) s d in
      record { consistent = c.consistent; cleared = λ e. k.of_book ∙ no_entries k.entries (sym k.of_live ∙ e); rising = c.rising; carried = c.carried };
  over_claims = λ r first c b s d. let i = reached r first (c ∷ b) (Idle (c ∷ b)) (idle-kept r (c ∷ b)) (record { of_live = refl; of_next = refl; of_book = refl }) s d in (i.of_live, i.of_book);
}

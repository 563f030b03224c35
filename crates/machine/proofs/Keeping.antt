-- Each step of the machine keeps the book to the claims of the live promises.
use Rattle.std.proofs.Common.{◌≡◌, ℕ, ◌+◌, ◌*◌, ◌≤◌, max, Bool, true, false, cond, leb, List, [], ◌∷◌, ◌++◌, length, is_some, Some, None, Option, sym, refl, ap, ◌∙◌, subst, arith}
use Rattle.std.proofs.lemmas.Bool.Decides.{nat_tests}
use Rattle.std.proofs.lemmas.Bool.{false≢true, not-true, and_parts, leb-true, cond_both}
use Rattle.claims.specs.declared.Demand.{Demand}
use Rattle.claims.specs.declared.Fault.{Fault}
use Rattle.claims.specs.Book.{Book, Rising}
use Rattle.claims.specs.Limits.{last_party}
use Rattle.claims.specs.Rules.{Rules, Laws}
use Rattle.claims.specs.Places.{Under}
use Rattle.machine.specs.declared.Refusal.{Refusal}
use Rattle.machine.specs.Limits.{most_demands}
use Rattle.machine.specs.Machine.{Promise, State, Call, Answer, bundle, add_all, lift_all, draws, out_all, kept, lapsed, keys_from, keys_of, standing, promise_of, ended, marked_taken, is_promised, keys_held, next_or_zero, is_party, fits_draft, carried_all, shortage, ask_refusal, hold_refusal, at_minute, made, end_promise, taken_over, settle, step, is_taken, start}
use Rattle.machine.specs.Machine.Call.{ask, take, release, give_back, question}
use Rattle.machine.specs.Machine.Answer.{granted, handed, done}
use Rattle.machine.specs.Entries.{Entry, promises, live_claims, Ordered, Consistent, Waits}
use Rattle.machine.specs.Entries.Consistent.{backed, idle}
use Rattle.machine.proofs.Bundles.{length-drawn, rising_lift, carried_lift, out_all_with, rising-out_all, carried-out, rising_add, short_none}
use Rattle.machine.proofs.Entries.{struck, unlapsed, with_units, new_entry, ordered_under, lift_held, ended_struck, ordered_struck, standing_unlapsed, kept_unlapsed, ordered_unlapsed, marked_with, ordered_with, out-held, found_promise, waits_held, promises-append, add_new, ordered_new}

pub next_is : (o : Option ℕ) → is_some o ≡ true → o ≡ Some (next_or_zero o)
next_is None h = cc
next_is (Some n) h = refl

pub no_number : (o : Option ℕ) (n : ℕ) → o ≡ None → o ≡ Some n → ⊥
no_number o n p q = let z : ◌≡◌ {A = ℕ} 0 1 = cc in omega arith

-- a state with entries behind it: its promises and its book are theirs
pub record Backed (s : State) : Type 0 where
  pub entries : List Entry
  pub of_live : s.live ≡ promises entries
  pub of_book : s.book ≡ live_claims entries
  pub in_order : Ordered 0 s.next entries

-- a minute passes
pub backed_minute : (m : ℕ) (s : State) → Backed s → Backed (at_minute m s)
backed_minute m s k =
    let clock = max s.clock m in
    let es = k.entries in
    record {
      entries = unlapsed clock es;
      of_live = ap (standing clock) k.of_live ∙ standing_unlapsed clock es;
      of_book = (λ i. kept clock (k.of_live i) (k.of_book i)) ∙ kept_unlapsed clock 0 s.next es k.in_order;
      in_order = ordered_unlapsed clock 0 s.next es k.in_order;
    }

-- a promise ends
pub backed_end : (n : ℕ) (s : State) → Backed s → Backed (end_promise n s)
backed_end n s k =
    let es = k.entries in
    record {
      entries = struck n es;
      of_live = ap (ended n) k.of_live ∙ ended_struck n es;
      of_book = (λ i. lift_all (keys_held (promise_of n (k.of_live i))) (k.of_book i)) ∙ lift_held n 0 s.next es k.in_order;
      in_order = ordered_struck n 0 s.next es k.in_order;
    }

-- a promise is made
pub backed-made : (r : Rules) (party minutes : ℕ) (draft : List Demand) (s : State) → is_some s.next ≡ true → is_party party ≡ true → fits_draft draft ≡ true → Backed s → Backed (made r party minutes draft s)
backed-made r party minutes draft s h p f k =
    let n = next_or_zero s.next in
    let es = k.entries in
    let e = new_entry n party (s.clock + minutes) draft in
    let o = subst (λ (x : Option ℕ). Ordered 0 x es) (next_is s.next h) k.in_order in
    let pp = and_parts (leb 1 party) (leb party last_party) p in
    let fp = and_parts (leb 1 (length draft)) (leb (length draft) most_demands) f in
    record {
      entries = es ++ (e ∷ []);
      of_live = ap (λ ps. ps ++ promises (e ∷ [])) k.of_live ∙ sym (promises-append es (e ∷ []));
      of_book = ap (add_all (bundle n party draft)) k.of_book ∙ add_new n party (s.clock + minutes) draft es o;
      in_order = ordered_new n 0 e es (omega arith) refl (record { party_from = leb-true 1 party pp.0; party_to = leb-true party last_party pp.1; size = leb-true (length draft) most_demands fp.1; given = tt }) o;
    }

-- a promise is taken
pub backed-taken : (r : Rules) (n : ℕ) (s : State) → is_promised (promise_of n s.live) ≡ true → Backed s → Backed (taken_over r n s)
backed-taken r n s h k =
    let es = k.entries in
    let us = draws r (live_claims es) (keys_held (promise_of n (promises es))) in
    record {
      entries = with_units n us es;
      of_live = ap (marked_taken n) k.of_live ∙ marked_with n us es;
      of_book = (λ i. out_all r (k.of_book i) (keys_held (promise_of n (k.of_live i)))) ∙ out_all_with r (live_claims es) (keys_held (promise_of n (promises es)))
          ∙ out-held n 0 s.next us es k.in_order (subst (λ (ps : List Promise). is_promised (promise_of n ps) ≡ true) k.of_live h);
      in_order = ordered_with n us 0 s.next es (length-drawn r (live_claims es) (keys_held (promise_of n (promises es)))) k.in_order;
    }

-- so a state stays consistent, of a broker made over a book with claims too
moved : (s t : State) → (Backed s → Backed t) → (s.live ≡ [] → s.next ≡ None → Consistent t) → Consistent s → Consistent t
moved s t f g (backed es l b o) = let k = f (record { entries = es; of_live = l; of_book = b; in_order = o }) in backed k.entries k.of_live k.of_book k.in_order
moved s t f g (idle l n) = g l n

pub consistent-start : (n : ℕ) (b : Book) → Consistent (start n b)
consistent-start n [] = backed [] refl refl tt
consistent-start n (c ∷ b) = idle refl refl

pub consistent_minute : (m : ℕ) (s : State) → Consistent s → Consistent (at_minute m s)
consistent_minute m s = moved s (at_minute m s) (backed_minute m s) (λ l e. idle (ap (standing (max s.clock m)) l) e)

pub consistent_end : (n : ℕ) (s : State) → Consistent s → Consistent (end_promise n s)
consistent_end n s = moved s (end_promise n s) (backed_end n s) (λ l e. idle (ap (ended n) l) e)

pub consistent-made : (r : Rules) (party minutes : ℕ) (draft : List Demand) (s : State) → is_some s.next ≡ true → is_party party ≡ true → fits_draft draft ≡ true → Consistent s → Consistent (made r party minutes draft s)
consistent-made r party minutes draft s h p f =
    moved s (made r party minutes draft s) (backed-made r party minutes draft s h p f) (λ l e. absurd (no_number s.next (next_or_zero s.next) e (next_is s.next h)))

pub consistent-taken : (r : Rules) (n : ℕ) (s : State) → is_promised (promise_of n s.live) ≡ true → Consistent s → Consistent (taken_over r n s)
consistent-taken r n s h = moved s (taken_over r n s) (backed-taken r n s h) (λ l e. idle (ap (marked_taken n) l) e)

-- every key of the book is below those of the next promise
pub consistent-fresh : (n : ℕ) (s : State) → s.next ≡ Some n → Consistent s → Under (most_demands * n) s.book
consistent-fresh n s e (backed es l b o) =
    subst (λ (x : Book). Under (most_demands * n) x) (sym b) (ordered_under 0 n es (subst (λ (x : Option ℕ). Ordered 0 x es) e o))
consistent-fresh n s e (idle l z) = absurd (no_number s.next n z e)

-- what stands under a number
no_promise : (n : ℕ) (ps : List Promise) (p : Promise) → ps ≡ [] → promise_of n ps ≡ Some p → ⊥
no_promise n ps p l h = let z : ◌≡◌ {A = Option Promise} None (Some p) = ap (promise_of n) (sym l) ∙ h in let y : ◌≡◌ {A = ℕ} 0 1 = cc in omega arith

pub consistent-size : (n : ℕ) (s : State) (p : Promise) → promise_of n s.live ≡ Some p → Consistent s → (p.number ≡ n) × (length p.demands ≤ most_demands)
consistent-size n s p h (backed es l b o) = let f = found_promise n 0 s.next es p o (ap (promise_of n) (sym l) ∙ h) in (f.1, f.2)
consistent-size n s p h (idle l e) = absurd (no_promise n s.live p l h)

pub consistent_waits : (n : ℕ) (s : State) (p : Promise) → promise_of n s.live ≡ Some p → p.taken ≡ false → Consistent s → (p.number ≡ n) × (length p.demands ≤ most_demands) × Waits (most_demands * n) p.demands s.book
consistent_waits n s p h w (backed es l b o) =
    let g = ap (promise_of n) (sym l) ∙ h in
    let f = found_promise n 0 s.next es p o g in
    (f.1, f.2, subst (λ (x : Book). Waits (most_demands * n) p.demands x) (sym b) (waits_held n 0 s.next es p o g w))
consistent_waits n s p h w (idle l e) = absurd (no_promise n s.live p l h)

-- what the questions to an ask leave, where it passes them all
pub record Asked (r : Rules) (party minutes : ℕ) (draft : List Demand) (s : State) : Type 0 where
  pub known : is_party party ≡ true
  pub few : fits_draft draft ≡ true
  pub numbered : is_some s.next ≡ true
  pub met : carried_all (shortage r party minutes draft s) ≡ true

pub asked : (r : Rules) (party minutes : ℕ) (draft : List Demand) (s : State) → ask_refusal r party minutes draft s ≡ None → Asked r party minutes draft s
asked r party minutes draft s h = record { known = grind (arith, nat_tests); few = grind (arith, nat_tests); numbered = grind (arith, nat_tests); met = grind (arith, nat_tests) }

-- and those to a call on a promise
pub held : (party n : ℕ) (right : Option Promise → Bool) (s : State) → hold_refusal party n right s ≡ None → right (promise_of n s.live) ≡ true
held party n right s h = grind (arith, nat_tests)

-- what each change of a state keeps, a call keeps
settle_keeps : (P : State → Type 0) (o : Option Refusal) (s t : State) (a : Answer) → P s → (o ≡ None → P t) → P (settle o s t a).0
settle_keeps P None s t a p f = f refl
settle_keeps P (Some x) s t a p f = p

pub record KeptBy (r : Rules) (P : State → Type 0) : Type 0 where
  pub minute : (m : ℕ) (s : State) → P s → P (at_minute m s)
  pub making : (party minutes : ℕ) (draft : List Demand) (s : State) → Asked r party minutes draft s → P s → P (made r party minutes draft s)
  pub taking : (n : ℕ) (s : State) → is_promised (promise_of n s.live) ≡ true → P s → P (taken_over r n s)
  pub ending : (n : ℕ) (s : State) → P s → P (end_promise n s)

pub step_kept : (r : Rules) (P : State → Type 0) → KeptBy r P → (s : State) (c : Call) → P s → P (step r s c).0
step_kept r P k s (ask m p ms d) h =
    let t = at_minute m s in
    let i = k.minute m s h in
    settle_keeps P (ask_refusal r p ms d t) t (made r p ms d t) (granted (next_or_zero t.next)) i (λ e. k.making p ms d t (asked r p ms d t e) i)
step_kept r P k s (take m p n) h =
    let t = at_minute m s in
    let i = k.minute m s h in
    settle_keeps P (hold_refusal p n is_promised t) t (taken_over r n t) (handed (draws r t.book (keys_held (promise_of n t.live)))) i (λ e. k.taking n t (held p n is_promised t e) i)
step_kept r P k s (release m p n) h =
    let t = at_minute m s in
    let i = k.minute m s h in
    settle_keeps P (hold_refusal p n is_promised t) t (end_promise n t) done i (λ e. k.ending n t i)
step_kept r P k s (give_back m p n) h =
    let t = at_minute m s in
    let i = k.minute m s h in
    settle_keeps P (hold_refusal p n is_taken t) t (end_promise n t) done i (λ e. k.ending n t i)
step_kept r P k s (question n) h = h

pub step_keeps : (r : Rules) → (s : State) (c : Call) → Consistent s → Consistent (step r s c).0
step_keeps r s c = step_kept r Consistent (record {
  minute = consistent_minute;
  making = λ p ms d t q. consistent-made r p ms d t q.numbered q.known q.few;
  taking = consistent-taken r;
  ending = consistent_end;
}) s c

-- a carried book stays carried, and by rising key
pub record Carried (r : Rules) (s : State) : Type 0 where
  pub consistent : Consistent s
  pub rising : Rising s.book
  pub carried : r.carries s.book ≡ true

none_short : (o : Option (ℕ × Fault)) → carried_all o ≡ true → o ≡ None
none_short None h = refl
none_short (Some x) h = cc

promised_is : (o : Option Promise) → is_promised o ≡ true → (p : Promise) × (o ≡ Some p) × (p.taken ≡ false)
promised_is None h = absurd (false≢true h)
promised_is (Some p) h = (p, refl, not-true p.taken h)

kept-carried : (r : Rules) → Laws r → (clock : ℕ) (ps : List Promise) (b : Book) → Rising b → r.carries b ≡ true → Rising (kept clock ps b) × (r.carries (kept clock ps b) ≡ true)
kept-carried r w clock [] b h c = (h, c)
kept-carried r w clock (p ∷ ps) b h c =
    let i = cond_both (lapsed clock p) (lift_all (keys_of p) b) b (λ x. Rising x × (r.carries x ≡ true)) (λ t. (rising_lift (keys_of p) b h, carried_lift r w (keys_of p) b h c)) (λ f. (h, c)) in
    kept-carried r w clock ps (cond (lapsed clock p) (lift_all (keys_of p) b) b) i.0 i.1

taking_carried : (r : Rules) → Laws r → (n : ℕ) (s : State) → is_promised (promise_of n s.live) ≡ true → Carried r s → r.carries (taken_over r n s).book ≡ true
taking_carried r w n s h k =
    let p = promised_is (promise_of n s.live) h in
    let q = consistent_waits n s p.0 p.1 p.2 k.consistent in
    subst (λ (o : Option Promise). r.carries (out_all r s.book (keys_held o)) ≡ true) (sym p.1)
    (subst (λ (m : ℕ). r.carries (out_all r s.book (keys_from (most_demands * m) p.0.demands)) ≡ true) (sym q.0)
    (carried-out r w (most_demands * n) p.0.demands s.book k.rising k.carried q.2))

pub carried-kept : (r : Rules) → Laws r → KeptBy r (Carried r)
carried-kept r w = record {
  minute = λ m s k. let i = kept-carried r w (max s.clock m) s.live s.book k.rising k.carried in
      record { consistent = consistent_minute m s k.consistent; rising = i.0; carried = i.1 };
  making = λ p ms d s q k. let n = next_or_zero s.next in record {
    consistent = consistent-made r p ms d s q.numbered q.known q.few k.consistent;
    rising = rising_add (most_demands * n) p d s.book (consistent-fresh n s (next_is s.next q.numbered) k.consistent) k.rising;
    carried = short_none r 1 s.book (bundle n p d) k.carried (none_short (shortage r p ms d s) q.met);
  };
  taking = λ n s h k. record {
    consistent = consistent-taken r n s h k.consistent;
    rising = rising-out_all r s.book (keys_held (promise_of n s.live)) k.rising;
    carried = taking_carried r w n s h k;
  };
  ending = λ n s k. let ks = keys_held (promise_of n s.live) in record {
    consistent = consistent_end n s k.consistent;
    rising = rising_lift ks s.book k.rising;
    carried = carried_lift r w ks s.book k.rising k.carried;
  };
}

pub step-carried : (r : Rules) → Laws r → (s : State) (c : Call) → Consistent s → Rising s.book → r.carries s.book ≡ true → (r.carries (step r s c).0.book ≡ true) × Rising (step r s c).0.book
step-carried r w s c k h e = let i = step_kept r (Carried r) (carried-kept r w) s c (record { consistent = k; rising = h; carried = e }) in (i.carried, i.rising)

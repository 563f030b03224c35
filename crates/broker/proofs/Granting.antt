-- What the questions of a draft come to.
use Rattle.std.proofs.Common.{◌≡◌, ℕ, ◌+◌, ◌<◌, ◌≤◌, false, eqb, ltb, List, [], ◌∷◌, ◌++◌, length, is_some, Some, None, Ok, Err, vec_items, vec_len, Option, Result, sym, refl, ap, ◌∙◌, subst, arith}
use Rattle.std.specs.Option.{option_map}
use Rattle.std.proofs.lemmas.List.{length-map, map_push}
use Rattle.std.proofs.lemmas.Bool.{cond-true, lt-ltb, eq-eqb}
use Rattle.claims.specs.declared.Demand.{Demand}
use Rattle.claims.specs.declared.Fault.{Fault}
use Rattle.claims.specs.declared.PromiseNumber.{PromiseNumber}
use Rattle.claims.specs.Book.{Book}
use Rattle.claims.specs.Rules.{Rules}
use Rattle.resource.specs.declared.Resource.{Ghosts}
use Rattle.machine.specs.declared.Refusal.{Refusal}
use Rattle.machine.specs.declared.Refusal.TheVariants.{NumbersSpent}
use Rattle.machine.specs.Machine.{State, Promise, Answer, first_missed, is_party, fits_draft, fits_minutes, unread_at, short_at, bundle, add_all, after, carried_all, not_carried, shortage, settle, made, next_or_zero, ask_refusal}
use Rattle.machine.specs.Machine.Answer.{granted, refused}
use Rattle.machine.specs.Entries.{Consistent}
use Rattle.machine.specs.Limits.{most_promises, most_demands}
use Rattle.machine.specs.Refusals.{not_carried_for}
use Rattle.machine.proofs.Keeping.{asked, consistent-made, consistent-fresh}
use Rattle.broker.specs.declared.desk.Broker.{Broker}
use Rattle.broker.specs.declared.held.Promise.{Promise as Held}
use Rattle.broker.specs.Held.{state, live_view, promise_view}
use Rattle.broker.specs.View.{view}
use Rattle.broker.specs.Asks.{goods_missed, FitsDraft}
use Rattle.broker.specs.Bundles.{Ready, Bundled, fault_or, book_or}
use Rattle.broker.proofs.Bundling.{PlacedAll, short_position}

module _ (r : Rules) (party minutes : ℕ) (ds : List Demand) (s : State) where
  abbrev pub outcome : Option Refusal → State × Answer
  outcome o = settle o s (made r party minutes ds s) (granted (next_or_zero s.next))

  module _ (room : length s.live < most_promises) where
    past_room : goods_missed r party minutes ds s ≡ first_missed ((is_some s.next, NumbersSpent) ∷ (carried_all (shortage r party minutes ds s), not_carried (shortage r party minutes ds s)) ∷ [])
    past_room = cond-true (ltb (length s.live) most_promises) _ _ (lt-ltb (length s.live) most_promises room)

    module _ (n : ℕ) (e : s.next ≡ Some n) (b' : Book) where
      past_next : goods_missed r party minutes ds s ≡ first_missed ((carried_all (shortage r party minutes ds s), not_carried (shortage r party minutes ds s)) ∷ [])
      past_next = past_room ∙ cond-true (is_some s.next) _ _ (ap is_some e)

      short_is : shortage r party minutes ds s ≡ short_at r 1 s.book (bundle n party ds)
      short_is = ap (λ o. short_at r 1 s.book (bundle (next_or_zero o) party ds)) e

      err_is : (o : Option (ℕ × Fault)) (f : Fault) → Err f ≡ fault_or o → (x : ℕ × Fault) × (o ≡ Some x) × (x.1 ≡ f)
      err_is None f e = absurd (let z : ◌≡◌ {A = ℕ} 0 1 = cc in omega arith)
      err_is (Some y) f e = (y, refl, cc)

      ok_is : (o : Option (ℕ × Fault)) → Ok tt ≡ fault_or o → o ≡ None
      ok_is None f = refl
      ok_is (Some y) f = cc

      pub goods-short : (f : Fault) → length ds ≤ most_demands → PlacedAll r s.book n party ds (Err f) b' → ◌≡◌ {A = State × Answer} (record { clock = s.clock; next = s.next; live = s.live; book = b' }, refused (not_carried_for f)) (outcome (goods_missed r party minutes ds s))
      goods-short f few q =
          let e = err_is (short_at r 1 s.book (bundle n party ds)) f q.value in
          let x = e.0 in
          let named : not_carried (Some x) ≡ not_carried_for f = short_position r s.book n party ds few x e.1 ∙ ap not_carried_for e.2 in
          let b-is : b' ≡ s.book = q.after ∙ ap (λ z. book_or z s.book (add_all (bundle n party ds) s.book)) e.1 in
          let m : goods_missed r party minutes ds s ≡ Some (not_carried_for f) = past_next ∙ ap (λ z. first_missed ((carried_all z, not_carried z) ∷ [])) (short_is ∙ e.1) ∙ ap Some named in
          let put : Book → State × Answer = λ z. (record { clock = s.clock; next = s.next; live = s.live; book = z }, refused (not_carried_for f)) in
          ap put b-is ∙ sym (ap outcome m)

      pub goods-made : PlacedAll r s.book n party ds (Ok tt) b' → (nx : Option ℕ) → nx ≡ after n → (lv : List Promise) → lv ≡ s.live ++ (record { number = n; party = party; last = s.clock + minutes; demands = ds; taken = false } ∷ []) → ◌≡◌ {A = State × Answer} (record { clock = s.clock; next = nx; live = lv; book = b' }, granted n) (outcome (goods_missed r party minutes ds s))
      goods-made q nx nx-is lv lv-is =
          let o = ok_is (short_at r 1 s.book (bundle n party ds)) q.value in
          let b-is : b' ≡ add_all (bundle n party ds) s.book = q.after ∙ ap (λ z. book_or z s.book (add_all (bundle n party ds) s.book)) o in
          let m : goods_missed r party minutes ds s ≡ None = past_next ∙ ap (λ z. first_missed ((carried_all z, not_carried z) ∷ [])) (short_is ∙ o) in
          let at : ℕ → State × Answer = λ k. (record { clock = s.clock; next = after k; live = s.live ++ (record { number = k; party = party; last = s.clock + minutes; demands = ds; taken = false } ∷ []); book = add_all (bundle k party ds) s.book }, granted k) in
          ap (λ z. (record { clock = s.clock; next = z; live = lv; book = b' }, granted n)) nx-is
          ∙ ap (λ z. (record { clock = s.clock; next = after n; live = z; book = b' }, granted n)) lv-is
          ∙ ap (λ z. (record { clock = s.clock; next = after n; live = s.live ++ (record { number = n; party = party; last = s.clock + minutes; demands = ds; taken = false } ∷ []); book = z }, granted n)) b-is
          ∙ ap at (sym (ap next_or_zero e))
          ∙ sym (ap outcome m)

  pub ask_passed : FitsDraft party minutes ds → unread_at r 1 ds ≡ 0 → ask_refusal r party minutes ds s ≡ goods_missed r party minutes ds s
  ask_passed f u =
      cond-true (is_party party) _ _ f.party_known ∙ cond-true (fits_draft ds) _ _ f.size ∙ cond-true (fits_minutes minutes) _ _ f.time ∙ cond-true (eqb (unread_at r 1 ds) 0) _ _ (eq-eqb (unread_at r 1 ds) 0 u)

  -- what is left is consistent
  pub granted_keeps : FitsDraft party minutes ds → unread_at r 1 ds ≡ 0 → Consistent s → (t : State) (a : Answer) → ◌≡◌ {A = State × Answer} (t, a) (outcome (goods_missed r party minutes ds s)) → Consistent t
  granted_keeps f u k t a e = subst Consistent (sym (ap (λ w. w.0) e)) (go (goods_missed r party minutes ds s) refl)
    where
      go : (o : Option Refusal) → goods_missed r party minutes ds s ≡ o → Consistent (outcome o).0
      go None m = let q = asked r party minutes ds s (ask_passed f u ∙ m) in consistent-made r party minutes ds s q.numbered q.known q.few k
      go (Some x) m = k

-- a broker with room for a promise, and a number for it, meets a draft that passes the first questions
module _ {X : Type 0} (m : Ghosts X) (b : Broker X m) (room : vec_len b.live < most_promises) (number : PromiseNumber) (e : b.next ≡ Some number) (party minutes : ℕ) (ds : List Demand) (f : FitsDraft party minutes ds) (u : unread_at (m.rules b.resource) 1 ds ≡ 0) (x : X) (k : Consistent (view m b)) where
  abbrev r : Rules
  r = m.rules b.resource

  abbrev s : State
  s = view m b

  few : length s.live < most_promises
  few = omega (arith, length-map (vec_items b.live) promise_view, b.live.ok.0, room)

  next : s.next ≡ Some number.0
  next = ap (option_map (λ n. n.0)) e

  placed : (answer : Result (Unit {0}) Fault) → Bundled m b.resource number.0 party ds answer x → PlacedAll r s.book number.0 party ds answer (m.book x)
  placed answer q =
      let ready : Ready r s.book number.0 party ds = record { party_known = f.party_known; readable = u; fresh = consistent-fresh number.0 s next k } in
      record { value = q.value ready; after = q.after ready }

  -- the goods fall short
  pub falls_short : (fault : Fault) → Bundled m b.resource number.0 party ds (Err fault) x → ◌≡◌ {A = State × Answer} (state b.clock b.next (vec_items b.live) (m.book x), refused (not_carried_for fault)) (outcome r party minutes ds s (goods_missed r party minutes ds s))
  falls_short fault q = goods-short r party minutes ds s few number.0 next (m.book x) fault f.high (placed (Err fault) q)

  pub short_keeps : (fault : Fault) → Bundled m b.resource number.0 party ds (Err fault) x → Consistent (state b.clock b.next (vec_items b.live) (m.book x))
  short_keeps fault q = granted_keeps r party minutes ds s f u k _ _ (falls_short fault q)

  -- the promise is made
  module _ (q : Bundled m b.resource number.0 party ds (Ok tt) x) (after-is : Option PromiseNumber) (after-of : option_map (λ n. n.0) after-is ≡ after number.0) (p : Held) (p-is : promise_view p ≡ record { number = number.0; party = party; last = b.clock + minutes; demands = ds; taken = false }) (live : List Held) (live-is : live ≡ vec_items b.live ++ (p ∷ [])) where
    pub makes : ◌≡◌ {A = State × Answer} (state b.clock after-is live (m.book x), granted number.0) (outcome r party minutes ds s (goods_missed r party minutes ds s))
    makes =
        goods-made r party minutes ds s few number.0 next (m.book x) (placed (Ok tt) q) _ after-of _
        (ap live_view live-is ∙ map_push promise_view (vec_items b.live) p ∙ ap (λ y. live_view (vec_items b.live) ++ (y ∷ [])) p-is)

    pub made_keeps : Consistent (state b.clock after-is live (m.book x))
    made_keeps = granted_keeps r party minutes ds s f u k _ _ makes

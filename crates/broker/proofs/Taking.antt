-- A taking, as the machine has it.
use Rattle.std.proofs.Common.{◌≡◌, ℕ, ◌*◌, false, List, get_or, Some, None, Ok, Err, Option, vec_items, sym, refl, ap, ◌∙◌}
use Rattle.std.proofs.lemmas.Bool.{not-true}
use Rattle.claims.specs.declared.Fault.{Fault}
use Rattle.claims.specs.Book.{Book}
use Rattle.claims.specs.Rules.{Rules}
use Rattle.resource.specs.declared.Resource.{Ghosts}
use Rattle.machine.specs.declared.Event.TheVariants.{Take}
use Rattle.machine.specs.declared.Refusal.{Refusal}
use Rattle.machine.specs.Entries.{Consistent, Waits}
use Rattle.machine.specs.Limits.{most_demands}
use Rattle.machine.specs.Machine.{State, Promise, Answer, promise_of, is_promised, hold_refusal, marked_taken, taken_over, out_all, draws, keys_of, keys_held, settle, at_minute, step}
use Rattle.machine.specs.Machine.Call.{take}
use Rattle.machine.specs.Machine.Answer.{handed}
use Rattle.machine.proofs.Keeping.{held, consistent_waits}
use Rattle.broker.specs.declared.desk.Broker.{Broker}
use Rattle.broker.specs.declared.held.Promise.{Promise as Held}
use Rattle.broker.specs.Bundles.{HandedOut}
use Rattle.broker.specs.Drafts.{demands_of}
use Rattle.broker.specs.Held.{promise_view, live_view}
use Rattle.broker.specs.Holds.{HeldAt, missed}
use Rattle.broker.specs.View.{view}
use Rattle.broker.proofs.Consistency.{never_consistent}
use Rattle.broker.proofs.Ending.{missed_take}

module _ (r : Rules) (m party n : ℕ) (s t : State) (t-is : t ≡ at_minute m s) where
  -- what a taking comes to, its minute having passed
  abbrev taken_at : State → Option Refusal → State × Answer
  taken_at u o = settle o u (taken_over r n u) (handed (draws r u.book (keys_held (promise_of n u.live))))

  module _ (h : hold_refusal party n is_promised t ≡ None) (p : Promise) (there : promise_of n t.live ≡ Some p) where
    pub take_done : (live : List Promise) → live ≡ marked_taken n t.live → (book : Book) → book ≡ out_all r t.book (keys_of p) → (us : List ℕ) → us ≡ draws r t.book (keys_of p) →
        ◌≡◌ {A = State × Answer} (record { clock = t.clock; next = t.next; live = live; book = book }, handed us) (step r s (take m party n))
    take_done live l book b us u =
        ap (λ x. (record { clock = t.clock; next = t.next; live = x; book = book }, handed us)) l
        ∙ ap (λ x. (record { clock = t.clock; next = t.next; live = marked_taken n t.live; book = x }, handed us)) (b ∙ ap (λ o. out_all r t.book (keys_held o)) (sym there))
        ∙ ap (λ x. (taken_over r n t, handed x)) (u ∙ ap (λ o. draws r t.book (keys_held o)) (sym there))
        ∙ sym (ap (taken_at t) h) ∙ ap (λ x. taken_at x (hold_refusal party n is_promised x)) t-is

-- a promise that can be taken
module _ (party n : ℕ) (s : State) (xs : List Held) (live-is : s.live ≡ live_view xs) (i : ℕ) (h : HeldAt party n Take xs (Ok i)) (x : Held) (e : x ≡ get_or xs i x) where
  pub held_there : promise_of n s.live ≡ Some (promise_view x)
  held_there = ap (promise_of n) live-is ∙ h.0.there x ∙ ap (λ y. Some (promise_view y)) (sym e)

  pub held_passed : hold_refusal party n is_promised s ≡ None
  held_passed = sym (missed_take party n s) ∙ ap (missed party n Take) live-is ∙ h.1

  -- its claims wait
  pub held_waits : Consistent s → Waits (most_demands * x.number.0) (demands_of x.draft) s.book
  held_waits k =
      let p = promise_view x in
      let open-still : p.taken ≡ false = not-true p.taken (sym (ap is_promised held_there) ∙ held party n is_promised s held_passed) in
      let w = consistent_waits n s p held_there open-still k in
      rw w.0 w.2

-- so no draw is refused
pub never_short : {X : Type 0} (m : Ghosts X) (a : Broker X m) (party n i : ℕ) → HeldAt party n Take (vec_items a.live) (Ok i) → (x : Held) → x ≡ get_or (vec_items a.live) i x → (f : Fault) (x' : X) → HandedOut m a.resource (promise_view x) (Err f) x' → ⊥
never_short m a party n i h x e f x' d = never_consistent a.consistent (λ k. let p = (d.value (held_waits party n (view m a) (vec_items a.live) refl i h x e k)).1 in cc)

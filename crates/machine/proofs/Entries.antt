-- The entries behind a state: what each step makes of them, and that promises and book follow.
use Rattle.std.proofs.Common.{◌≡◌, ℕ, ◌+◌, ◌*◌, ◌≤◌, Bool, true, false, cond, eqb, ltb, List, [], ◌∷◌, ◌++◌, length, Some, None, Option, sym, refl, ap, ◌∙◌, subst, arith}
use Rattle.std.proofs.lemmas.Bool.{true≢false, not-true, eqb-true}
use Rattle.std.proofs.lemmas.List.{append_assoc, append-nil}
use Rattle.claims.specs.declared.Claim.{Claim}
use Rattle.claims.specs.declared.Demand.{Demand}
use Rattle.claims.specs.Book.{Book}
use Rattle.claims.specs.Places.{Under}
use Rattle.claims.proofs.Ranges.{under_more, under_append}
use Rattle.machine.specs.Limits.{most_demands, last_number}
use Rattle.machine.specs.Machine.{Promise, bundle, keys_from, keys_of, add_all, lift_all, lapsed, standing, kept, promise_of, ended, marked_taken, is_promised, keys_held, after}
use Rattle.machine.specs.Entries.{Entry, handed_out, promise_from, promises, sent_with, claims_of, live_claims, Fit, Below, Ordered, Waits}
use Rattle.machine.proofs.Bundles.{length_keys, Run, run_bundle, run_sent, run_under, lift_run, NoLess, keys_no_less, no_less_more, lift_past, out_with, out_with_past, out_run, waits_past, waits_bundle, add_last}

pub split : (P : Bool → Type 0) (b : Bool) → (b ≡ true → P true) → (b ≡ false → P false) → P b
split P true f g = f refl
split P false f g = g refl

-- the entries once a promise has ended
abbrev pub struck : ℕ → List Entry → List Entry
struck n [] = []
struck n (e ∷ es) = elim (eqb e.number n) [ true ↦ es | false ↦ e ∷ struck n es ]

-- the entries that have not run out
abbrev pub unlapsed : ℕ → List Entry → List Entry
unlapsed clock [] = []
unlapsed clock (e ∷ es) = cond (lapsed clock (promise_from e)) (unlapsed clock es) (e ∷ unlapsed clock es)

-- an entry once its promise is taken
abbrev pub sent_entry : List ℕ → Entry → Entry
sent_entry us e = record { number = e.number; party = e.party; last = 0; demands = e.demands; units = Some us }

abbrev pub with_units : ℕ → List ℕ → List Entry → List Entry
with_units n us [] = []
with_units n us (e ∷ es) = elim (eqb e.number n) [ true ↦ sent_entry us e ∷ es | false ↦ e ∷ with_units n us es ]

-- the entry of a promise that is made
abbrev pub new_entry : ℕ → ℕ → ℕ → List Demand → Entry
new_entry n party last ds = record { number = n; party = party; last = last; demands = ds; units = None }

-- where the claims of entries stand
pub ordered_less : (i lo : ℕ) (hi : Option ℕ) (es : List Entry) → i ≤ lo → Ordered lo hi es → Ordered i hi es
ordered_less i lo hi [] le s = tt
ordered_less i lo hi (e ∷ es) le s = (omega arith, s.1, s.2, s.3)

pub run_entry : (e : Entry) → Run (most_demands * e.number) e.demands (claims_of e)
run_entry e =
    let r = run_bundle (most_demands * e.number) e.party e.demands in
    elim e.units as (λ o. Run (most_demands * e.number) e.demands (elim o [ None ↦ bundle e.number e.party e.demands | Some us ↦ sent_with (bundle e.number e.party e.demands) us ])) [
      | None ↦ r
      | Some us ↦ run_sent (most_demands * e.number) e.demands (bundle e.number e.party e.demands) us r
    ]

pub entry_under : (e : Entry) → Fit e → Under (most_demands * (e.number + 1)) (claims_of e)
entry_under e f =
    let z = f.size in
    under_more (most_demands * e.number + length e.demands) (most_demands * (e.number + 1)) (claims_of e) (omega arith) (run_under (most_demands * e.number) e.demands (claims_of e) (run_entry e))

pub ordered_under : (lo n : ℕ) (es : List Entry) → Ordered lo (Some n) es → Under (most_demands * n) (live_claims es)
ordered_under lo n [] s = tt
ordered_under lo n (e ∷ es) s =
    under_append (most_demands * n) (claims_of e) (live_claims es)
    (under_more (most_demands * (e.number + 1)) (most_demands * n) (claims_of e) (omega arith) (entry_under e s.2))
    (ordered_under (e.number + 1) n es s.3)

-- a promise ends: its claims are lifted from the book
pub held_no_less : (n lo : ℕ) (hi : Option ℕ) (es : List Entry) → Ordered lo hi es → NoLess (most_demands * lo) (keys_held (promise_of n (promises es)))
held_no_less n lo hi [] s = tt
held_no_less n lo hi (e ∷ es) s =
    split (λ q. NoLess (most_demands * lo) (keys_held (elim q [ true ↦ Some (promise_from e) | false ↦ promise_of n (promises es) ]))) (eqb e.number n)
    (λ t. keys_no_less (most_demands * lo) (most_demands * e.number) e.demands (omega arith))
    (λ f. no_less_more (most_demands * lo) (most_demands * (e.number + 1)) (keys_held (promise_of n (promises es))) (omega arith) (held_no_less n (e.number + 1) hi es s.3))

pub lift_held : (n lo : ℕ) (hi : Option ℕ) (es : List Entry) → Ordered lo hi es → lift_all (keys_held (promise_of n (promises es))) (live_claims es) ≡ live_claims (struck n es)
lift_held n lo hi [] s = refl
lift_held n lo hi (e ∷ es) s =
    split (λ q. lift_all (keys_held (elim q [ true ↦ Some (promise_from e) | false ↦ promise_of n (promises es) ])) (claims_of e ++ live_claims es) ≡ live_claims (elim q [ true ↦ es | false ↦ e ∷ struck n es ])) (eqb e.number n)
    (λ t. lift_run (most_demands * e.number) e.demands (claims_of e) (live_claims es) (run_entry e))
    (λ f. lift_past (most_demands * (e.number + 1)) (keys_held (promise_of n (promises es))) (claims_of e) (live_claims es) (held_no_less n (e.number + 1) hi es s.3) (entry_under e s.2)
    ∙ ap (λ x. claims_of e ++ x) (lift_held n (e.number + 1) hi es s.3))

pub ended_struck : (n : ℕ) (es : List Entry) → ended n (promises es) ≡ promises (struck n es)
ended_struck n [] = refl
ended_struck n (e ∷ es) =
    split (λ q. elim q [ true ↦ promises es | false ↦ promise_from e ∷ ended n (promises es) ] ≡ promises (elim q [ true ↦ es | false ↦ e ∷ struck n es ])) (eqb e.number n)
    (λ t. refl) (λ f. ap (λ x. promise_from e ∷ x) (ended_struck n es))

pub ordered_struck : (n lo : ℕ) (hi : Option ℕ) (es : List Entry) → Ordered lo hi es → Ordered lo hi (struck n es)
ordered_struck n lo hi [] s = tt
ordered_struck n lo hi (e ∷ es) s =
    split (λ q. Ordered lo hi (elim q [ true ↦ es | false ↦ e ∷ struck n es ])) (eqb e.number n)
    (λ t. ordered_less lo (e.number + 1) hi es (omega arith) s.3) (λ f. (s.0, s.1, s.2, ordered_struck n (e.number + 1) hi es s.3))

-- a minute passes: promises run out
pub standing_unlapsed : (clock : ℕ) (es : List Entry) → standing clock (promises es) ≡ promises (unlapsed clock es)
standing_unlapsed clock [] = refl
standing_unlapsed clock (e ∷ es) =
    split (λ q. cond q (standing clock (promises es)) (promise_from e ∷ standing clock (promises es)) ≡ promises (cond q (unlapsed clock es) (e ∷ unlapsed clock es))) (lapsed clock (promise_from e))
    (λ t. standing_unlapsed clock es) (λ f. ap (λ x. promise_from e ∷ x) (standing_unlapsed clock es))

pub kept_past : (clock lo : ℕ) (hi : Option ℕ) (es : List Entry) (a b : Book) → Ordered lo hi es → Under (most_demands * lo) a → kept clock (promises es) (a ++ b) ≡ a ++ kept clock (promises es) b
kept_past clock lo hi [] a b s u = refl
kept_past clock lo hi (e ∷ es) a b s u =
    let v = under_more (most_demands * lo) (most_demands * (e.number + 1)) a (omega arith) u in
    split (λ q. kept clock (promises es) (cond q (lift_all (keys_of (promise_from e)) (a ++ b)) (a ++ b)) ≡ a ++ kept clock (promises es) (cond q (lift_all (keys_of (promise_from e)) b) b)) (lapsed clock (promise_from e))
    (λ t. ap (kept clock (promises es)) (lift_past (most_demands * lo) (keys_of (promise_from e)) a b (keys_no_less (most_demands * lo) (most_demands * e.number) e.demands (omega arith)) u)
    ∙ kept_past clock (e.number + 1) hi es a (lift_all (keys_of (promise_from e)) b) s.3 v)
    (λ f. kept_past clock (e.number + 1) hi es a b s.3 v)

pub kept_unlapsed : (clock lo : ℕ) (hi : Option ℕ) (es : List Entry) → Ordered lo hi es → kept clock (promises es) (live_claims es) ≡ live_claims (unlapsed clock es)
kept_unlapsed clock lo hi [] s = refl
kept_unlapsed clock lo hi (e ∷ es) s =
    let b = claims_of e ++ live_claims es in
    split (λ q. kept clock (promises es) (cond q (lift_all (keys_of (promise_from e)) b) b) ≡ live_claims (cond q (unlapsed clock es) (e ∷ unlapsed clock es))) (lapsed clock (promise_from e))
    (λ t. ap (kept clock (promises es)) (lift_run (most_demands * e.number) e.demands (claims_of e) (live_claims es) (run_entry e)) ∙ kept_unlapsed clock (e.number + 1) hi es s.3)
    (λ f. kept_past clock (e.number + 1) hi es (claims_of e) (live_claims es) s.3 (entry_under e s.2) ∙ ap (λ x. claims_of e ++ x) (kept_unlapsed clock (e.number + 1) hi es s.3))

pub ordered_unlapsed : (clock lo : ℕ) (hi : Option ℕ) (es : List Entry) → Ordered lo hi es → Ordered lo hi (unlapsed clock es)
ordered_unlapsed clock lo hi [] s = tt
ordered_unlapsed clock lo hi (e ∷ es) s =
    split (λ q. Ordered lo hi (cond q (unlapsed clock es) (e ∷ unlapsed clock es))) (lapsed clock (promise_from e))
    (λ t. ordered_less lo (e.number + 1) hi (unlapsed clock es) (omega arith) (ordered_unlapsed clock (e.number + 1) hi es s.3))
    (λ f. (s.0, s.1, s.2, ordered_unlapsed clock (e.number + 1) hi es s.3))

-- a promise is taken: its claims go out
pub marked_with : (n : ℕ) (us : List ℕ) (es : List Entry) → marked_taken n (promises es) ≡ promises (with_units n us es)
marked_with n us [] = refl
marked_with n us (e ∷ es) =
    split (λ q. elim q [ true ↦ promise_from (sent_entry us e) ∷ promises es | false ↦ promise_from e ∷ marked_taken n (promises es) ] ≡ promises (elim q [ true ↦ sent_entry us e ∷ es | false ↦ e ∷ with_units n us es ])) (eqb e.number n)
    (λ t. refl) (λ f. ap (λ x. promise_from e ∷ x) (marked_with n us es))

pub ordered_with : (n : ℕ) (us : List ℕ) (lo : ℕ) (hi : Option ℕ) (es : List Entry) → length us ≡ length (keys_held (promise_of n (promises es))) → Ordered lo hi es → Ordered lo hi (with_units n us es)
ordered_with n us lo hi [] = λ g s. tt
ordered_with n us lo hi (e ∷ es) =
    split (λ q. length us ≡ length (keys_held (elim q [ true ↦ Some (promise_from e) | false ↦ promise_of n (promises es) ])) → Ordered lo hi (e ∷ es) → Ordered lo hi (elim q [ true ↦ sent_entry us e ∷ es | false ↦ e ∷ with_units n us es ])) (eqb e.number n)
    (λ t g s. (s.0, s.1, record { party_from = s.2.party_from; party_to = s.2.party_to; size = s.2.size; given = g ∙ length_keys (most_demands * e.number) e.demands }, s.3))
    (λ f g s. (s.0, s.1, s.2, ordered_with n us (e.number + 1) hi es g s.3))

-- the claims of a promise that is not taken wait
pub claims_open : (e : Entry) → handed_out e.units ≡ false → claims_of e ≡ bundle e.number e.party e.demands
claims_open e =
    elim e.units as (λ o. handed_out o ≡ false → elim o [ None ↦ bundle e.number e.party e.demands | Some us ↦ sent_with (bundle e.number e.party e.demands) us ] ≡ bundle e.number e.party e.demands) [
      | None ↦ λ h. refl
      | Some us ↦ λ h. absurd (true≢false h)
    ]

pub out-held : (n lo : ℕ) (hi : Option ℕ) (us : List ℕ) (es : List Entry) → Ordered lo hi es → is_promised (promise_of n (promises es)) ≡ true →
    out_with (keys_held (promise_of n (promises es))) us (live_claims es) ≡ live_claims (with_units n us es)
out-held n lo hi us [] s = λ o. refl
out-held n lo hi us (e ∷ es) s =
    split (λ q. is_promised (elim q [ true ↦ Some (promise_from e) | false ↦ promise_of n (promises es) ]) ≡ true → out_with (keys_held (elim q [ true ↦ Some (promise_from e) | false ↦ promise_of n (promises es) ])) us (claims_of e ++ live_claims es) ≡ live_claims (elim q [ true ↦ sent_entry us e ∷ es | false ↦ e ∷ with_units n us es ])) (eqb e.number n)
    (λ t o. ap (λ x. out_with (keys_from (most_demands * e.number) e.demands) us (x ++ live_claims es)) (claims_open e (not-true (handed_out e.units) o)) ∙ out_run (most_demands * e.number) e.party e.demands us (live_claims es))
    (λ f o. out_with_past (most_demands * (e.number + 1)) (keys_held (promise_of n (promises es))) us (claims_of e) (live_claims es) (held_no_less n (e.number + 1) hi es s.3) (entry_under e s.2)
    ∙ ap (λ x. claims_of e ++ x) (out-held n (e.number + 1) hi us es s.3 o))

-- the promise that a number finds
pub found_promise : (n lo : ℕ) (hi : Option ℕ) (es : List Entry) (p : Promise) → Ordered lo hi es → promise_of n (promises es) ≡ Some p → (lo ≤ n) × (p.number ≡ n) × (length p.demands ≤ most_demands)
found_promise n lo hi [] p s = λ h. absurd (let z : ◌≡◌ {A = ℕ} 0 1 = cc in omega arith)
found_promise n lo hi (e ∷ es) p s =
    split (λ q. elim q [ true ↦ Some (promise_from e) | false ↦ promise_of n (promises es) ] ≡ Some p → (lo ≤ n) × (p.number ≡ n) × (length p.demands ≤ most_demands)) (eqb e.number n)
    (λ t h. let z = eqb-true e.number n t in
    let same : promise_from e ≡ p = cc in
    (omega arith, ap (λ x. x.number) (sym same) ∙ z, subst (λ (x : Promise). length x.demands ≤ most_demands) same s.2.size))
    (λ f h. let i = found_promise n (e.number + 1) hi es p s.3 h in (omega arith, i.1, i.2))

pub waits_held : (n lo : ℕ) (hi : Option ℕ) (es : List Entry) (p : Promise) → Ordered lo hi es → promise_of n (promises es) ≡ Some p → p.taken ≡ false → Waits (most_demands * n) p.demands (live_claims es)
waits_held n lo hi [] p s = λ h o. absurd (let z : ◌≡◌ {A = ℕ} 0 1 = cc in omega arith)
waits_held n lo hi (e ∷ es) p s =
    split (λ q. elim q [ true ↦ Some (promise_from e) | false ↦ promise_of n (promises es) ] ≡ Some p → p.taken ≡ false → Waits (most_demands * n) p.demands (claims_of e ++ live_claims es)) (eqb e.number n)
    (λ t h o. let same : promise_from e ≡ p = cc in
    subst (λ (k : ℕ). Waits (most_demands * k) p.demands (claims_of e ++ live_claims es)) (eqb-true e.number n t)
    (subst (λ (x : Promise). Waits (most_demands * e.number) x.demands (claims_of e ++ live_claims es)) same
    (subst (λ (x : List Claim). Waits (most_demands * e.number) e.demands (x ++ live_claims es)) (sym (claims_open e (ap (λ x. x.taken) same ∙ o)))
    (waits_bundle (most_demands * e.number) e.party e.demands (live_claims es)))))
    (λ f h o. let le = (found_promise n (e.number + 1) hi es p s.3 h).0 in
    waits_past (most_demands * n) p.demands (claims_of e) (live_claims es)
    (under_more (most_demands * (e.number + 1)) (most_demands * n) (claims_of e) (omega arith) (entry_under e s.2))
    (waits_held n (e.number + 1) hi es p s.3 h o))

-- a promise is made: its claims are the book's last part
pub promises-append : (es fs : List Entry) → promises (es ++ fs) ≡ promises es ++ promises fs
promises-append [] fs = refl
promises-append (e ∷ es) fs = ap (λ x. promise_from e ∷ x) (promises-append es fs)

pub claims_append : (es fs : List Entry) → live_claims (es ++ fs) ≡ live_claims es ++ live_claims fs
claims_append [] fs = refl
claims_append (e ∷ es) fs = ap (λ x. claims_of e ++ x) (claims_append es fs) ∙ sym (append_assoc (claims_of e) (live_claims es) (live_claims fs))

pub add_new : (n party last : ℕ) (ds : List Demand) (es : List Entry) → Ordered 0 (Some n) es → add_all (bundle n party ds) (live_claims es) ≡ live_claims (es ++ (new_entry n party last ds ∷ []))
add_new n party last ds es s =
    add_last (most_demands * n) party ds (live_claims es) (ordered_under 0 n es s)
    ∙ ap (λ x. live_claims es ++ x) (sym (append-nil (bundle n party ds)))
    ∙ sym (claims_append es (new_entry n party last ds ∷ []))

pub below-after : (n k : ℕ) → k ≤ n → Below k (after n)
below-after n k le =
    split (λ q. Below k (elim q [ true ↦ Some (n + 1) | false ↦ None ])) (ltb n last_number) (λ t. omega arith) (λ f. tt)

pub ordered_new : (n lo : ℕ) (e : Entry) (es : List Entry) → lo ≤ n → e.number ≡ n → Fit e → Ordered lo (Some n) es → Ordered lo (after n) (es ++ (e ∷ []))
ordered_new n lo e [] le q f s = (omega arith, below-after n e.number (omega arith), f, tt)
ordered_new n lo e (d ∷ es) le q f s = (s.0, below-after n d.number (omega arith), s.2, ordered_new n (d.number + 1) e es (omega arith) q f s.3)

-- Claims under keys in a row: how a bundle comes into a book, goes out and is lifted.
use Rattle.std.proofs.Common.{◌≡◌, ℕ, zero, suc, ◌+◌, ◌<◌, ◌≤◌, Bool, true, false, eqb, List, [], ◌∷◌, ◌++◌, length, Some, None, Option, sym, refl, ap, ◌∙◌, subst, arith}
use Rattle.std.proofs.lemmas.Bool.{cond-true, eq-eqb}
use Rattle.std.proofs.lemmas.List.{append_assoc, append-nil}
use Rattle.claims.specs.declared.Claim.{Claim}
use Rattle.claims.specs.declared.ClaimState.TheVariants.{Waiting}
use Rattle.claims.specs.declared.Demand.{Demand}
use Rattle.claims.specs.declared.Fault.{Fault}
use Rattle.claims.specs.Book.{Book, key_of, find, insert, without, sent, out, Rising}
use Rattle.claims.specs.Rules.{Rules, Laws, waiting}
use Rattle.claims.specs.Limits.{last_unit}
use Rattle.claims.proofs.Books.{rising-without, rising-out, rising-insert, without-insert-same}
use Rattle.claims.specs.Places.{Under}
use Rattle.claims.proofs.Ranges.{under_more, under_append, without_past, out_past, find_past, find_under, insert-last, find-out_other, find-out-same}
use Rattle.resource.specs.Draws.{least_from, drawn}
use Rattle.machine.specs.Machine.{claims_from, keys_from, add_all, lift_all, draws, out_all, short_at}
use Rattle.machine.specs.Entries.{sent_with, Waits}

-- claims under the keys from k on, one for each demand
abbrev pub Run : ℕ → List Demand → List Claim → Type 0
Run k [] [] = Unit {0}
Run k [] (c ∷ cs) = ⊥
Run k (d ∷ ds) [] = ⊥
Run k (d ∷ ds) (c ∷ cs) = (key_of c ≡ k) × Run (k + 1) ds cs

pub run_bundle : (k party : ℕ) (ds : List Demand) → Run k ds (claims_from k party ds)
run_bundle k party [] = tt
run_bundle k party (d ∷ ds) = (refl, run_bundle (k + 1) party ds)

pub run_sent : (k : ℕ) (ds : List Demand) (cs : List Claim) (us : List ℕ) → Run k ds cs → Run k ds (sent_with cs us)
run_sent k [] [] us h = tt
run_sent k [] (c ∷ cs) us h = absurd h
run_sent k (d ∷ ds) [] us h = absurd h
run_sent k (d ∷ ds) (c ∷ cs) [] h = h
run_sent k (d ∷ ds) (c ∷ cs) (u ∷ us) h = (h.0, run_sent (k + 1) ds cs us h.1)

pub run_under : (k : ℕ) (ds : List Demand) (cs : List Claim) → Run k ds cs → Under (k + length ds) cs
run_under k [] [] h = tt
run_under k [] (c ∷ cs) h = absurd h
run_under k (d ∷ ds) [] h = absurd h
run_under k (d ∷ ds) (c ∷ cs) h = (omega arith, under_more (k + 1 + length ds) (k + length (d ∷ ds)) cs (omega arith) (run_under (k + 1) ds cs h.1))

pub lift_run : (k : ℕ) (ds : List Demand) (cs : List Claim) (b : Book) → Run k ds cs → lift_all (keys_from k ds) (cs ++ b) ≡ b
lift_run k [] [] b h = refl
lift_run k [] (c ∷ cs) b h = absurd h
lift_run k (d ∷ ds) [] b h = absurd h
lift_run k (d ∷ ds) (c ∷ cs) b h =
    ap (lift_all (keys_from (k + 1) ds)) (cond-true (eqb (key_of c) k) (cs ++ b) (c ∷ without k (cs ++ b)) (eq-eqb (key_of c) k h.0)) ∙ lift_run (k + 1) ds cs b h.1

-- no key of a list is under k
abbrev pub NoLess : ℕ → List ℕ → Type 0
NoLess k [] = Unit {0}
NoLess k (j ∷ ks) = (k ≤ j) × NoLess k ks

pub keys_no_less : (j k : ℕ) (ds : List Demand) → j ≤ k → NoLess j (keys_from k ds)
keys_no_less j k [] le = tt
keys_no_less j k (d ∷ ds) le = (le, keys_no_less j (k + 1) ds (omega arith))

pub no_less_more : (j k : ℕ) (ks : List ℕ) → j ≤ k → NoLess k ks → NoLess j ks
no_less_more j k [] le h = tt
no_less_more j k (i ∷ ks) le h = (omega arith, no_less_more j k ks le h.1)

pub lift_past : (k : ℕ) (ks : List ℕ) (a b : Book) → NoLess k ks → Under k a → lift_all ks (a ++ b) ≡ a ++ lift_all ks b
lift_past k [] a b h u = refl
lift_past k (j ∷ ks) a b h u = ap (lift_all ks) (without_past j a b (under_more k j a h.0 u)) ∙ lift_past k ks a (without j b) h.1 u

pub rising_lift : (ks : List ℕ) (b : Book) → Rising b → Rising (lift_all ks b)
rising_lift [] b h = h
rising_lift (k ∷ ks) b h = rising_lift ks (without k b) (rising-without k b h)

pub carried_lift : (r : Rules) → Laws r → (ks : List ℕ) (b : Book) → Rising b → r.carries b ≡ true → r.carries (lift_all ks b) ≡ true
carried_lift r w [] b h c = c
carried_lift r w (k ∷ ks) b h c = carried_lift r w ks (without k b) (rising-without k b h) (w.fewer b k h c)

-- claims that go out with given units
abbrev pub out_with : List ℕ → List ℕ → Book → Book
out_with [] us b = b
out_with (k ∷ ks) [] b = b
out_with (k ∷ ks) (u ∷ us) b = out_with ks us (out k u b)

pub out_all_with : (r : Rules) (b : Book) (ks : List ℕ) → out_all r b ks ≡ out_with ks (draws r b ks) b
out_all_with r b [] = refl
out_all_with r b (k ∷ ks) = out_all_with r (out k (drawn r b k) b) ks

pub rising-out_all : (r : Rules) (b : Book) (ks : List ℕ) → Rising b → Rising (out_all r b ks)
rising-out_all r b [] h = h
rising-out_all r b (k ∷ ks) h = rising-out_all r (out k (drawn r b k) b) ks (rising-out k (drawn r b k) b h)

pub out_with_past : (k : ℕ) (ks us : List ℕ) (a b : Book) → NoLess k ks → Under k a → out_with ks us (a ++ b) ≡ a ++ out_with ks us b
out_with_past k [] us a b h u = refl
out_with_past k (j ∷ ks) [] a b h u = refl
out_with_past k (j ∷ ks) (v ∷ us) a b h u = ap (out_with ks us) (out_past j v a b (under_more k j a h.0 u)) ∙ out_with_past k ks us a (out j v b) h.1 u

pub out_run : (k party : ℕ) (ds : List Demand) (us : List ℕ) (b : Book) → out_with (keys_from k ds) us (claims_from k party ds ++ b) ≡ sent_with (claims_from k party ds) us ++ b
out_run k party [] us b = refl
out_run k party (d ∷ ds) [] b = refl
out_run k party (d ∷ ds) (u ∷ us) b =
    let c = waiting (record { 0 = k }) (record { 0 = party }) d in
    let cs = claims_from (k + 1) party ds in
    ap (out_with (keys_from (k + 1) ds) us) (cond-true (eqb k k) (sent u c ∷ (cs ++ b)) (c ∷ out k u (cs ++ b)) (eq-eqb k k refl))
    ∙ out_with_past (k + 1) (keys_from (k + 1) ds) us (sent u c ∷ []) (cs ++ b) (keys_no_less (k + 1) (k + 1) ds (omega arith)) (omega arith, tt)
    ∙ ap (λ x. sent u c ∷ x) (out_run (k + 1) party ds us b)

pub waits_out : (j v k : ℕ) (ds : List Demand) (b : Book) → j < k → Waits k ds b → Waits k ds (out j v b)
waits_out j v k [] b lt h = tt
waits_out j v k (d ∷ ds) b lt h = ((h.0.0, find-out_other k j v b (λ e. omega arith) ∙ h.0.1, h.0.2), waits_out j v (k + 1) ds b (omega arith) h.1)

pub waits_past : (k : ℕ) (ds : List Demand) (a b : Book) → Under k a → Waits k ds b → Waits k ds (a ++ b)
waits_past k [] a b u h = tt
waits_past k (d ∷ ds) a b u h = ((h.0.0, find_past k a b u ∙ h.0.1, h.0.2), waits_past (k + 1) ds a b (under_more k (k + 1) a (omega arith) u) h.1)

pub waits_bundle : (k party : ℕ) (ds : List Demand) (b : Book) → Waits k ds (claims_from k party ds ++ b)
waits_bundle k party [] b = tt
waits_bundle k party (d ∷ ds) b =
    let c = waiting (record { 0 = k }) (record { 0 = party }) d in
    let cs = claims_from (k + 1) party ds in
    ((c, cond-true (eqb k k) (Some c) (find (cs ++ b) k) (eq-eqb k k refl), refl), waits_past (k + 1) ds (c ∷ []) (cs ++ b) (omega arith, tt) (waits_bundle (k + 1) party ds b))

-- a search below a limit finds what passes there
pub least-passes : (f : ℕ → Bool) (i n u : ℕ) → i ≤ u → u < i + n → f u ≡ true → f (least_from f i n) ≡ true
least-passes f i zero u le lt h = absurd (omega arith)
least-passes f i (suc n) u le lt h = go (f i) refl (λ l. least-passes f (suc i) n u l (omega arith) h)
  where
    go : (q : Bool) → f i ≡ q → (suc i ≤ u → f (least_from f (suc i) n) ≡ true) → f (elim q [ true ↦ i | false ↦ least_from f (suc i) n ]) ≡ true
    go true e ih = e
    go false e ih = ih (let ne : i ≡ u → ⊥ = λ s. (let z : true ≡ false = sym h ∙ ap f (sym s) ∙ e in grind arith) in omega arith)

-- what draw gives keeps the book carried
pub drawn-carried : (r : Rules) → Laws r → (b : Book) (k : ℕ) (c : Claim) → Rising b → r.carries b ≡ true → find b k ≡ Some c → c.state ≡ Waiting → r.carries (out k (drawn r b k) b) ≡ true
drawn-carried r w b k c h e f s =
    let g = w.goes b k c h e f s in
    let le : g.0 ≤ last_unit = w.small (out k g.0 b) k (sent g.0 c) (record { 0 = g.0 }) (rising-out k g.0 b h) g.1 (find-out-same k g.0 c b f) refl in
    least-passes (λ u. r.carries (out k u b)) 0 (suc last_unit) g.0 (omega arith) (omega arith) g.1

pub carried-out : (r : Rules) → Laws r → (k : ℕ) (ds : List Demand) (b : Book) → Rising b → r.carries b ≡ true → Waits k ds b → r.carries (out_all r b (keys_from k ds)) ≡ true
carried-out r w k [] b h e q = e
carried-out r w k (d ∷ ds) b h e q =
    carried-out r w (k + 1) ds (out k (drawn r b k) b) (rising-out k (drawn r b k) b h)
    (drawn-carried r w b k q.0.0 h e q.0.1 q.0.2)
    (waits_out k (drawn r b k) (k + 1) ds b (omega arith) q.1)

-- a unit is drawn for each key, and a demand has one key
pub length_keys : (k : ℕ) (ds : List Demand) → length (keys_from k ds) ≡ length ds
length_keys k [] = refl
length_keys k (d ∷ ds) = ap suc (length_keys (k + 1) ds)

pub length-drawn : (r : Rules) (b : Book) (ks : List ℕ) → length (draws r b ks) ≡ length ks
length-drawn r b [] = refl
length-drawn r b (k ∷ ks) = ap suc (length-drawn r (out k (drawn r b k) b) ks)

pub length-draws : (r : Rules) (k : ℕ) (ds : List Demand) (b : Book) → length (draws r b (keys_from k ds)) ≡ length ds
length-draws r k ds b = length-drawn r b (keys_from k ds) ∙ length_keys k ds

-- a bundle above a book is its last part
pub add_last : (k party : ℕ) (ds : List Demand) (b : Book) → Under k b → add_all (claims_from k party ds) b ≡ b ++ claims_from k party ds
add_last k party [] b u = sym (append-nil b)
add_last k party (d ∷ ds) b u =
    let c = waiting (record { 0 = k }) (record { 0 = party }) d in
    let cs = claims_from (k + 1) party ds in
    ap (add_all cs) (insert-last c b u)
    ∙ add_last (k + 1) party ds (b ++ (c ∷ [])) (under_append (k + 1) b (c ∷ []) (under_more k (k + 1) b (omega arith) u) (omega arith, tt))
    ∙ append_assoc b (c ∷ []) cs

-- an added bundle goes in under its keys, one by one
pub under_insert : (k : ℕ) (x : Claim) (b : Book) → key_of x ≡ k → Under k b → Under (k + 1) (insert x b)
under_insert k x b e u =
    subst (λ (c : Book). Under (k + 1) c) (sym (insert-last x b (under_more k (key_of x) b (omega arith) u)))
    (under_append (k + 1) b (x ∷ []) (under_more k (k + 1) b (omega arith) u) (omega arith, tt))

pub rising_add : (k party : ℕ) (ds : List Demand) (b : Book) → Under k b → Rising b → Rising (add_all (claims_from k party ds) b)
rising_add k party [] b u h = h
rising_add k party (d ∷ ds) b u h =
    let x = waiting (record { 0 = k }) (record { 0 = party }) d in
    rising_add (k + 1) party ds (insert x b) (under_insert k x b refl u) (rising-insert x b h (find_under k b u))

-- a book is carried where it is carried with a bundle on top
pub carried-below : (r : Rules) → Laws r → (k party : ℕ) (ds : List Demand) (b : Book) → Under k b → Rising b → r.carries (add_all (claims_from k party ds) b) ≡ true → r.carries b ≡ true
carried-below r w k party [] b u h c = c
carried-below r w k party (d ∷ ds) b u h c =
    let x = waiting (record { 0 = k }) (record { 0 = party }) d in
    let n = find_under k b u in
    let i = rising-insert x b h n in
    subst (λ (y : Book). r.carries y ≡ true) (without-insert-same x b n) (w.fewer (insert x b) k i (carried-below r w (k + 1) party ds (insert x b) (under_insert k x b refl u) i c))

-- then no part of the bundle is short
pub none_short_at : (r : Rules) → Laws r → (i k party : ℕ) (ds : List Demand) (b : Book) → Under k b → Rising b → r.carries (add_all (claims_from k party ds) b) ≡ true → short_at r i b (claims_from k party ds) ≡ None
none_short_at r w i k party [] b u h c = refl
none_short_at r w i k party (d ∷ ds) b u h c =
    let x = waiting (record { 0 = k }) (record { 0 = party }) d in
    let n = find_under k b u in
    let j = rising-insert x b h n in
    let v = under_insert k x b refl u in
    ap (λ q. elim q [ true ↦ short_at r (i + 1) (insert x b) (claims_from (k + 1) party ds) | false ↦ Some (i, record { cause = r.cause (insert x b); key = x.key }) ])
    (carried-below r w (k + 1) party ds (insert x b) v j c)
    ∙ none_short_at r w (i + 1) (k + 1) party ds (insert x b) v j c

-- what is nowhere short is carried as a whole
pub short_none : (r : Rules) (i : ℕ) (b : Book) (cs : List Claim) → r.carries b ≡ true → short_at r i b cs ≡ None → r.carries (add_all cs b) ≡ true
short_none r i b [] c h = c
short_none r i b (x ∷ cs) c h = go (r.carries (insert x b)) refl h (λ e g. short_none r (i + 1) (insert x b) cs e g)
  where
    go : (q : Bool) → r.carries (insert x b) ≡ q → ◌≡◌ {A = Option (ℕ × Fault)} (elim q [ true ↦ short_at r (i + 1) (insert x b) cs | false ↦ Some (i, record { cause = r.cause (insert x b); key = x.key }) ]) None →
        (r.carries (insert x b) ≡ true → short_at r (i + 1) (insert x b) cs ≡ None → r.carries (add_all cs (insert x b)) ≡ true) → r.carries (add_all cs (insert x b)) ≡ true
    go true e g ih = ih e g
    go false e g ih = absurd (let z : ◌≡◌ {A = ℕ} 0 1 = cc in omega arith)

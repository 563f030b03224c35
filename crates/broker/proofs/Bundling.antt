-- What the loop that places the claims of a promise keeps.
use Rattle.std.proofs.Common.{◌≡◌, ℕ, zero, suc, ◌+◌, ◌*◌, ◌%◌, ◌<◌, ◌≤◌, Bool, true, false, cond, ◌&&◌, List, [], ◌∷◌, ◌++◌, length, get_or, take, drop, is_some, Some, None, Ok, Err, Option, Result, sym, refl, ap, ◌∙◌, subst, add-zero, arith}
use Rattle.std.proofs.lemmas.List.{drop_more, take_more, append_assoc, append-nil, length-take-le}
use Rattle.std.proofs.lemmas.Bool.{cond-true, cond-false, and_from}
use Rattle.claims.specs.declared.Claim.{Claim}
use Rattle.claims.specs.declared.ClaimKey.{ClaimKey}
use Rattle.claims.specs.declared.Cause.{Cause}
use Rattle.claims.specs.declared.Fault.{Fault}
use Rattle.claims.specs.declared.Demand.{Demand}
use Rattle.claims.specs.declared.ClaimState.TheVariants.{Waiting}
use Rattle.claims.specs.Book.{Book, key_of, find, insert}
use Rattle.claims.specs.Rules.{Rules, refusal, answered, added}
use Rattle.resource.specs.Calls.{Placed}
use Rattle.machine.specs.Machine.{claims_from, bundle, keys_from, add_all, lift_all, short_at, is_party, unread_at}
use Rattle.claims.specs.Places.{Under}
use Rattle.claims.proofs.Ranges.{under_append, under_more, find_under, insert-last}
use Rattle.machine.proofs.Bundles.{run_bundle, run_under, lift_run, lift_past, keys_no_less}
use Rattle.machine.specs.declared.Refusal.TheVariants.{NotCarried}
use Rattle.machine.specs.Limits.{most_demands}
use Rattle.machine.specs.Refusals.{not_carried_for}
use Rattle.broker.specs.Bundles.{Ready, fault_or, book_or}

abbrev pub claim_at : ℕ → ℕ → Demand → Claim
claim_at k party d = record { key = record { 0 = k }; party = record { 0 = party }; demand = d; state = Waiting }

-- the claims of a promise go as they came
pub lifted_back : (k party : ℕ) (ds : List Demand) (b : Book) → Under k b → lift_all (keys_from k ds) (b ++ claims_from k party ds) ≡ b
lifted_back k party ds b h =
    lift_past k (keys_from k ds) b (claims_from k party ds) (keys_no_less k k ds (omega arith)) h
    ∙ ap (λ x. b ++ x) (ap (lift_all (keys_from k ds)) (sym (append-nil (claims_from k party ds))) ∙ lift_run k ds (claims_from k party ds) [] (run_bundle k party ds))
    ∙ append-nil b

pub claims_push : (k party : ℕ) (ds : List Demand) (d : Demand) → claims_from k party (ds ++ (d ∷ [])) ≡ claims_from k party ds ++ (claim_at (k + length ds) party d ∷ [])
claims_push k party [] d = ap (λ i. claim_at i party d ∷ []) (sym (add-zero k))
claims_push k party (x ∷ ds) d =
    let e : (k + 1) + length ds ≡ k + length (x ∷ ds) = omega arith in
    ap (λ r. claim_at k party x ∷ r) (claims_push (k + 1) party ds d ∙ ap (λ i. claims_from (k + 1) party ds ++ (claim_at i party d ∷ [])) e)

-- a draft that is read is read at each place
pub read_at : (r : Rules) (i : ℕ) (ds : List Demand) (j : ℕ) (d : Demand) → 0 < i → unread_at r i ds ≡ 0 → j < length ds → r.reads (get_or ds j d) ≡ true
read_at r i [] j d h u l = absurd (omega arith)
read_at r i (x ∷ ds) j d h u l = go (r.reads x) refl u j l (λ m v w. read_at r (i + 1) ds m d (omega arith) v w)
  where
    go : (q : Bool) → r.reads x ≡ q → cond q (unread_at r (i + 1) ds) i ≡ 0 → (j : ℕ) → j < length (x ∷ ds) → ((m : ℕ) → unread_at r (i + 1) ds ≡ 0 → m < length ds → r.reads (get_or ds m d) ≡ true) → r.reads (get_or (x ∷ ds) j d) ≡ true
    go true e v zero w ih = e
    go true e v (suc m) w ih = ih m v (omega arith)
    go false e v m w ih = absurd (omega arith)

-- what only the stock can refuse
pub ready_refusal : (r : Rules) (b : Book) (c : Claim) → is_party c.party.0 ≡ true → r.reads c.demand ≡ true → find b (key_of c) ≡ None → refusal r b c ≡ cond (r.carries (insert c b)) None (Some (r.cause (insert c b)))
ready_refusal r b c p d n =
    cond-true (is_party c.party.0 && r.reads c.demand) _ _ (and_from (is_party c.party.0) (r.reads c.demand) p d) ∙ cond-false (is_some (find b (key_of c))) _ _ (ap is_some n)

pub answered_ok : (k : ClaimKey) (q : Bool) (x : Cause) → answered k (cond q None (Some x)) ≡ Ok tt → q ≡ true
answered_ok k true x e = refl
answered_ok k false x e = cc

pub answered_err : (k : ClaimKey) (q : Bool) (x : Cause) (f : Fault) → answered k (cond q None (Some x)) ≡ Err f → (q ≡ false) × (f ≡ record { cause = x; key = k })
answered_err k true x f e = (cc, cc)
answered_err k false x f e = (refl, cc)

-- what placing all claims of a promise answers and leaves
pub record PlacedAll (r : Rules) (b : Book) (n party : ℕ) (ds : List Demand) (answer : Result (Unit {0}) Fault) (b' : Book) : Type 0 where
  pub value : answer ≡ fault_or (short_at r 1 b (bundle n party ds))
  pub after : b' ≡ book_or (short_at r 1 b (bundle n party ds)) b (add_all (bundle n party ds) b)

-- the first j claims are placed
pub record Placing (r : Rules) (b : Book) (k party : ℕ) (ds : List Demand) (j : ℕ) (b' : Book) : Type 0 where
  pub there : b' ≡ b ++ claims_from k party (take j ds)
  pub short : short_at r (j + 1) b' (claims_from (k + j) party (drop j ds)) ≡ short_at r 1 b (claims_from k party ds)
  pub full : add_all (claims_from (k + j) party (drop j ds)) b' ≡ add_all (claims_from k party ds) b

module _ (r : Rules) (b : Book) (k party : ℕ) (ds : List Demand) (fresh : Under k b) (j : ℕ) (b' : Book) (p : Placing r b k party ds j b') (d : Demand) (h : j < length ds) (e : d ≡ get_or ds j d) where
  left : drop j ds ≡ d ∷ drop (j + 1) ds
  left = drop_more ds j d h ∙ ap (λ y. y ∷ drop (j + 1) ds) (sym e)

  placed_below : Under (k + j) b'
  placed_below =
      let n : length (take j ds) ≡ j = length-take-le j ds (omega arith) in
      rw p.there (under_append (k + j) b (claims_from k party (take j ds)) (under_more k (k + j) b (omega arith) fresh)
      (under_more (k + length (take j ds)) (k + j) (claims_from k party (take j ds)) (omega arith) (run_under k (take j ds) (claims_from k party (take j ds)) (run_bundle k party (take j ds)))))

  pub place_free : find b' (k + j) ≡ None
  place_free = find_under (k + j) b' placed_below

  pub placing_more : r.carries (insert (claim_at (k + j) party d) b') ≡ true → Placing r b k party ds (j + 1) (insert (claim_at (k + j) party d) b')
  placing_more carried =
      let n : length (take j ds) ≡ j = length-take-le j ds (omega arith) in
      let t : take (j + 1) ds ≡ take j ds ++ (d ∷ []) = take_more ds j d h ∙ ap (λ y. take j ds ++ (y ∷ [])) (sym e) in
      let next : (k + j) + 1 ≡ k + (j + 1) = omega arith in
      let q : claims_from k party (take (j + 1) ds) ≡ claims_from k party (take j ds) ++ (claim_at (k + j) party d ∷ []) =
      ap (claims_from k party) t ∙ claims_push k party (take j ds) d ∙ ap (λ i. claims_from k party (take j ds) ++ (claim_at (k + i) party d ∷ [])) n in
      let s : short_at r (j + 1) b' (claims_from (k + j) party (drop j ds)) ≡ short_at r ((j + 1) + 1) (insert (claim_at (k + j) party d) b') (claims_from ((k + j) + 1) party (drop (j + 1) ds)) =
      ap (λ xs. short_at r (j + 1) b' (claims_from (k + j) party xs)) left ∙ rw (carried, short_at) in
      let f : add_all (claims_from (k + j) party (drop j ds)) b' ≡ add_all (claims_from ((k + j) + 1) party (drop (j + 1) ds)) (insert (claim_at (k + j) party d) b') =
      ap (λ xs. add_all (claims_from (k + j) party xs) b') left in
      record {
        there = insert-last (claim_at (k + j) party d) b' placed_below ∙ ap (λ x. x ++ (claim_at (k + j) party d ∷ [])) p.there ∙ append_assoc b (claims_from k party (take j ds)) (claim_at (k + j) party d ∷ []) ∙ ap (λ x. b ++ x) (sym q);
        short = ap (λ i. short_at r ((j + 1) + 1) (insert (claim_at (k + j) party d) b') (claims_from i party (drop (j + 1) ds))) (sym next) ∙ sym s ∙ p.short;
        full = ap (λ i. add_all (claims_from i party (drop (j + 1) ds)) (insert (claim_at (k + j) party d) b')) (sym next) ∙ sym f ∙ p.full;
      }

  pub placing_short : r.carries (insert (claim_at (k + j) party d) b') ≡ false → short_at r 1 b (claims_from k party ds) ≡ Some (j + 1, record { cause = r.cause (insert (claim_at (k + j) party d) b'); key = record { 0 = k + j } })
  placing_short over = sym p.short ∙ ap (λ xs. short_at r (j + 1) b' (claims_from (k + j) party xs)) left ∙ rw (over, short_at)

  pub placing_back : lift_all (keys_from k (take j ds)) b' ≡ b
  placing_back = ap (lift_all (keys_from k (take j ds))) p.there ∙ lifted_back k party (take j ds) b fresh

-- a turn of the loop, by what the call of `place` answered
module _ (r : Rules) (b : Book) (n party : ℕ) (ds : List Demand) (ready : Ready r b n party ds) (j : ℕ) (b' : Book) (p : Placing r b (4 * n) party ds j b') (d : Demand) (h : j < length ds) (e : d ≡ get_or ds j d) (key : ClaimKey) (key-is : key.0 ≡ 4 * n + j) (s : Rules) (same : s ≡ r) (t : Rules) (b'' : Book) where
  abbrev next_claim : Claim
  next_claim = claim_at (4 * n + j) party d

  abbrev asked_for : Claim
  asked_for = claim_at key.0 party d

  claim-is : asked_for ≡ next_claim
  claim-is = ap (λ i. claim_at i party d) key-is

  asked : refusal s b' next_claim ≡ cond (r.carries (insert next_claim b')) None (Some (r.cause (insert next_claim b')))
  asked =
      ap (λ x. refusal x b' next_claim) same ∙
      ready_refusal r b' next_claim ready.party_known (ap r.reads e ∙ read_at r 1 ds j d (omega arith) ready.readable h) (place_free r b (4 * n) party ds ready.fresh j b' p d h e)

  pub turn_ok : Placed asked_for s b' (Ok tt) t b'' → Placing r b (4 * n) party ds (j + 1) b''
  turn_ok p' =
      let q = subst (λ (c : Claim). Placed c s b' (Ok tt) t b'') claim-is p' in
      let carried = answered_ok (record { 0 = 4 * n + j }) _ _ (sym (q.value ∙ ap (answered (record { 0 = 4 * n + j })) asked)) in
      let is : b'' ≡ insert next_claim b' = q.after ∙ ap (added next_claim b') (asked ∙ cond-true _ _ _ carried) in
      rw is (placing_more r b (4 * n) party ds ready.fresh j b' p d h e carried)

  pub turn_err : (f : Fault) → Placed asked_for s b' (Err f) t b'' → (z : Book) → z ≡ lift_all (keys_from (4 * n) (take j ds)) b'' → PlacedAll r b n party ds (Err f) z
  turn_err f p' z back =
      let q = subst (λ (c : Claim). Placed c s b' (Err f) t b'') claim-is p' in
      let over = answered_err (record { 0 = 4 * n + j }) _ _ f (sym (q.value ∙ ap (answered (record { 0 = 4 * n + j })) asked)) in
      let is : b'' ≡ b' = q.after ∙ ap (added next_claim b') (asked ∙ cond-false _ _ _ over.0) in
      let short = placing_short r b (4 * n) party ds ready.fresh j b' p d h e over.0 in
      record {
        value = ap (λ x. Err x) over.1 ∙ sym (ap fault_or short);
        after = back ∙ ap (lift_all (keys_from (4 * n) (take j ds))) is ∙ placing_back r b (4 * n) party ds ready.fresh j b' p d h e ∙ sym (ap (λ o. book_or o b (add_all (bundle n party ds) b)) short);
      }

some_same : (x y : ℕ × Fault) → ◌≡◌ {A = Option (ℕ × Fault)} (Some x) (Some y) → x ≡ y
some_same x y e = cc

-- a fault's key says at which demand of the promise the goods fall short
short_place : (r : Rules) (k party j : ℕ) (b : Book) (ds : List Demand) (x : ℕ × Fault) → short_at r (j + 1) b (claims_from (k + j) party ds) ≡ Some x → (x.1.key.0 + 1 ≡ k + x.0) × (j < x.0) × (x.0 ≤ j + length ds)
short_place r k party j b [] x e = absurd (let z : ◌≡◌ {A = ℕ} 0 1 = cc in omega arith)
short_place r k party j b (d ∷ ds) x e = go (r.carries (insert c b)) e (λ f. short_place r k party (j + 1) (insert c b) ds x f)
  where
    c : Claim
    c = claim_at (k + j) party d

    go : (q : Bool) → elim q as (λ _. Option (ℕ × Fault)) [ true ↦ short_at r ((j + 1) + 1) (insert c b) (claims_from ((k + j) + 1) party ds) | false ↦ Some (j + 1, record { cause = r.cause (insert c b); key = record { 0 = k + j } }) ] ≡ Some x →
        (short_at r ((j + 1) + 1) (insert c b) (claims_from (k + (j + 1)) party ds) ≡ Some x → (x.1.key.0 + 1 ≡ k + x.0) × (j + 1 < x.0) × (x.0 ≤ (j + 1) + length ds)) → (x.1.key.0 + 1 ≡ k + x.0) × (j < x.0) × (x.0 ≤ j + length (d ∷ ds))
    go true f ih =
        let next : k + (j + 1) ≡ (k + j) + 1 = omega arith in
        let h = ih (ap (λ i. short_at r ((j + 1) + 1) (insert c b) (claims_from i party ds)) next ∙ f) in
        (h.0, omega (arith, h.1), omega (arith, h.2))
    go false f ih =
        let y : ℕ × Fault = (j + 1, record { cause = r.cause (insert c b); key = record { 0 = k + j } }) in
        let same : y ≡ x = some_same y x f in
        let P : ℕ × Fault → Type 0 = λ z. (z.1.key.0 + 1 ≡ k + z.0) × (j < z.0) × (z.0 ≤ j + length (d ∷ ds)) in
        subst P same (omega arith, omega arith, omega arith)

pub short_position : (r : Rules) (b : Book) (n party : ℕ) (ds : List Demand) → length ds ≤ most_demands → (x : ℕ × Fault) → short_at r 1 b (bundle n party ds) ≡ Some x → NotCarried x.0 x.1 ≡ not_carried_for x.1
short_position r b n party ds few x e =
    let h = short_place r (4 * n) party 0 b ds x (ap (λ i. short_at r 1 b (claims_from i party ds)) (add-zero (4 * n)) ∙ e) in
    let p : x.0 ≡ x.1.key.0 % most_demands + 1 = omega (arith, h.0, h.1, h.2) in
    ap (λ i. NotCarried i x.1) p

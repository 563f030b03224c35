-- A line reads in one way only.
use Rattle.std.proofs.Common.{◌≡◌, ℕ, cond, eqb, List, [], ◌∷◌, map, length, get_or, drop, Ok, Err, decimal, sym, refl, ap, ◌∙◌, subst, inl, arith}
use Rattle.std.proofs.lemmas.Fmt.{decimal_injective}
use Rattle.claims.specs.declared.Demand.{Demand}
use Rattle.machine.specs.Machine.{Call as MachineCall}
use Rattle.machine.specs.Machine.Call.{ask, take as take_up, release, give_back, question}
use Rattle.broker.specs.declared.call.Call.{Call}
use Rattle.broker.specs.declared.call.Call.TheVariants.{Ask, Take, Release, GiveBack, Question}
use Rattle.broker.specs.Calls.{call_of}
use Rattle.broker.specs.Drafts.{demands_of}
use Rattle.script.specs.declared.verbs.Verb.{Verb}
use Rattle.script.specs.declared.verbs.Verb.TheVariants as verbs
use Rattle.script.specs.declared.faults.Unread.TheVariants.{Letter, Number, Count}
use Rattle.script.specs.Format.{triples, verb_of, numbers_of, spelled, Fitting, ReadsAs, OneReading, SpelledIsRead}
use Rattle.script.specs.Letters.{letter}
use Rattle.script.specs.Spaced.{spaced, Small}
use Rattle.script.proofs.Splits.{parts, parts_spaced}
use Rattle.script.proofs.Triples.{triples-length}

abbrev verb_back : ℕ → Verb
verb_back b = cond (eqb b 97) verbs.Ask (cond (eqb b 116) verbs.Take (cond (eqb b 114) verbs.Release (cond (eqb b 103) verbs.GiveBack verbs.Question)))

back_letter : (v : Verb) → verb_back (letter v) ≡ v
back_letter verbs.Ask = refl
back_letter verbs.Take = refl
back_letter verbs.Release = refl
back_letter verbs.GiveBack = refl
back_letter verbs.Question = refl

letter-same : (v w : Verb) → letter v ≡ letter w → v ≡ w
letter-same v w e = sym (back_letter v) ∙ ap verb_back e ∙ back_letter w

-- numbers that are written alike are the same
written_once : (ns ms : List ℕ) → Small ns → Small ms → map decimal ns ≡ map decimal ms → ns ≡ ms
written_once [] [] s t e = refl
written_once [] (m ∷ ms) s t e = absurd (omega (arith, ap length e))
written_once (n ∷ ns) [] s t e = absurd (omega (arith, ap length e))
written_once (n ∷ ns) (m ∷ ms) s t e =
    let d : decimal n ≡ decimal m = cc in
    let f : map decimal ns ≡ map decimal ms = cc in
    let one = decimal_injective n m (omega (arith, s.0)) (omega (arith, t.0)) d in
    let more = written_once ns ms s.1 t.1 f in
    (λ i. one i ∷ more i)

spaced-same : (ns ms : List ℕ) → Small ns → Small ms → spaced ns ≡ spaced ms → ns ≡ ms
spaced-same ns ms s t e =
    let parted : [] ∷ map decimal ns ≡ [] ∷ map decimal ms = sym (parts_spaced ns s) ∙ ap parts e ∙ parts_spaced ms t in
    let f : map decimal ns ≡ map decimal ms = cc in
    written_once ns ms s t f

-- the demands, and the call, that numbers stand for
abbrev demands_back : List ℕ → List Demand
demands_back [] = []
demands_back (a ∷ []) = []
demands_back (a ∷ b ∷ []) = []
demands_back (a ∷ b ∷ c ∷ ns) = record { shelf = a; first = b; second = c } ∷ demands_back ns

back_triples : (ds : List Demand) → demands_back (triples ds) ≡ ds
back_triples [] = refl
back_triples (d ∷ ds) = ap (λ l. d ∷ l) (back_triples ds)

abbrev call_back : Verb → List ℕ → MachineCall
call_back verbs.Ask ns = ask (get_or ns 0 0) (get_or ns 1 0) (get_or ns 2 0) (demands_back (drop 3 ns))
call_back verbs.Take ns = take_up (get_or ns 0 0) (get_or ns 1 0) (get_or ns 2 0)
call_back verbs.Release ns = release (get_or ns 0 0) (get_or ns 1 0) (get_or ns 2 0)
call_back verbs.GiveBack ns = give_back (get_or ns 0 0) (get_or ns 1 0) (get_or ns 2 0)
call_back verbs.Question ns = question (get_or ns 0 0)

back_call : (c : Call) → call_back (verb_of c) (numbers_of c) ≡ call_of c
back_call (Ask m p ms d) = ap (λ l. ask m p.0 ms l) (back_triples (demands_of d))
back_call (Take m p n) = refl
back_call (Release m p n) = refl
back_call (GiveBack m p n) = refl
back_call (Question n) = refl

call_same : (c d : Call) → verb_of c ≡ verb_of d → numbers_of c ≡ numbers_of d → call_of c ≡ call_of d
call_same c d v n = sym (back_call c) ∙ (λ i. call_back (v i) (n i)) ∙ back_call d

fits : (c : Call) → Fitting (verb_of c) (length (numbers_of c))
fits (Ask m p ms d) = (length (triples (demands_of d)), (length (demands_of d), d.few, triples-length (demands_of d)), omega arith)
fits (Take m p n) = refl
fits (Release m p n) = refl
fits (GiveBack m p n) = refl
fits (Question n) = refl

-- a letter and small numbers are spelled in one way
same_parts : (v w : Verb) (ns ms : List ℕ) → Small ns → Small ms → letter v ∷ spaced ns ≡ letter w ∷ spaced ms → (v ≡ w) × (ns ≡ ms)
same_parts v w ns ms s t e =
    let a : letter v ≡ letter w = cc in
    let b : spaced ns ≡ spaced ms = cc in
    (letter-same v w a, spaced-same ns ms s t b)

not-number : (v : Verb) (ns : List ℕ) (line : List ℕ) → Small ns → line ≡ letter v ∷ spaced ns → ReadsAs line (Err Number) → ⊥
not-number v ns line s e (w, rest, f, none) = let t : rest ≡ spaced ns = cc in none ns s t

not_count : (c : Call) (line : List ℕ) → ReadsAs line (Ok c) → ReadsAs line (Err Count) → ⊥
not_count c line (s, e) (w, ns, small, f, bad) =
    let p = same_parts (verb_of c) w (numbers_of c) ns s small (sym e ∙ f) in
    bad (subst (λ v. Fitting v (length ns)) p.0 (subst (λ l. Fitting (verb_of c) (length l)) p.1 (fits c)))

one_call : (c d : Call) (line : List ℕ) → ReadsAs line (Ok c) → ReadsAs line (Ok d) → call_of c ≡ call_of d
one_call c d line (s, e) (t, f) =
    let p = same_parts (verb_of c) (verb_of d) (numbers_of c) (numbers_of d) s t (sym e ∙ f) in
    call_same c d p.0 p.1

pub one_reading : OneReading
one_reading line (Ok c) (Ok d) g h = ap inl (one_call c d line g h)
one_reading line (Ok c) (Err Letter) (s, e) h = absurd (h (verb_of c) (spaced (numbers_of c)) e)
one_reading line (Ok c) (Err Number) (s, e) h = absurd (not-number (verb_of c) (numbers_of c) line s e h)
one_reading line (Ok c) (Err Count) g h = absurd (not_count c line g h)
one_reading line (Err Letter) (Ok c) h (s, e) = absurd (h (verb_of c) (spaced (numbers_of c)) e)
one_reading line (Err Letter) (Err Letter) g h = refl
one_reading line (Err Letter) (Err Number) g h = absurd (g h.0 h.1 h.2)
one_reading line (Err Letter) (Err Count) g h = absurd (g h.0 (spaced h.1) h.3)
one_reading line (Err Number) (Ok c) h (s, e) = absurd (not-number (verb_of c) (numbers_of c) line s e h)
one_reading line (Err Number) (Err Letter) h g = absurd (g h.0 h.1 h.2)
one_reading line (Err Number) (Err Number) g h = refl
one_reading line (Err Number) (Err Count) g h = absurd (not-number h.0 h.1 line h.2 h.3 g)
one_reading line (Err Count) (Ok c) h g = absurd (not_count c line g h)
one_reading line (Err Count) (Err Letter) h g = absurd (g h.0 (spaced h.1) h.3)
one_reading line (Err Count) (Err Number) h g = absurd (not-number h.0 h.1 line h.2 h.3 g)
one_reading line (Err Count) (Err Count) g h = refl

pub spelled_is_read : SpelledIsRead
spelled_is_read c r s h = one_reading (spelled c) r (Ok c) h (s, refl)

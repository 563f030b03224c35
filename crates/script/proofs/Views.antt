-- What a broker says of a script is what the machine says.
use Rattle.std.proofs.Common.{◌≡◌, ℕ, ◌+◌, ◌<◌, cond, List, [], ◌∷◌, ◌++◌, length, is_ok, Ok, Err, Result, sym, refl, ap, ◌∙◌, subst, ⊎_elim, append-nil, arith}
use Rattle.std.proofs.lemmas.Bool.{cases_lt}
use Rattle.claims.specs.Rules.{Rules}
use Rattle.resource.specs.declared.Resource.{Ghosts}
use Rattle.machine.specs.declared.Refusal.{Refusal}
use Rattle.machine.specs.Machine.{State, Answer as MachineAnswer, step}
use Rattle.machine.specs.Entries.{Consistent}
use Rattle.machine.proofs.Keeping.{step_keeps}
use Rattle.broker.specs.declared.call.Answer.{Answer}
use Rattle.broker.specs.declared.call.Call.{Call}
use Rattle.broker.specs.declared.desk.Broker.{Broker}
use Rattle.broker.specs.Calls.{call_of, answer_of}
use Rattle.broker.specs.View.{view}
use Rattle.script.specs.declared.faults.ScriptFault.{ScriptFault}
use Rattle.script.specs.declared.faults.ScriptFault.TheVariants.{TooLong}
use Rattle.script.specs.Limits.{most_bytes}
use Rattle.script.specs.Rows.{worded, said, row_bytes}
use Rattle.script.specs.Runs.{replied, AnswersLine, by_broker, by_machine, Runs}
use Rattle.script.specs.Scripts.{Line, Rows, Settled}

-- where each call keeps a fact and is dealt with alike under a view, so does and is a script
module _ {S U : Type 0} (Deals : S → Call → List ℕ → S → Type 0) (Deals' : U → Call → List ℕ → U → Type 0) (seen : S → U) (Holds : S → Type 0) (each : (s : S) (c : Call) (w : List ℕ) (t : S) → Holds s → Deals s c w t → Holds t × Deals' (seen s) c w (seen t)) where
  line_view : (n : ℕ) (s t : S) (line words : List ℕ) → Holds s → Line Deals n s line words t → Holds t × Line Deals' n (seen s) line words (seen t)
  line_view n s t line words ok (Ok c, reads, told) = let h = each s c words t ok told in (h.0, (Ok c, reads, h.1))
  line_view n s t line words ok (Err f, reads, told) = (subst Holds (sym told.1) ok, (Err f, reads, (told.0, ap seen told.1)))

  rows-view : (n : ℕ) (s t : S) (lines : List (List ℕ)) (out : List ℕ) → Holds s → Rows Deals n s lines out t → Holds t × Rows Deals' n (seen s) lines out (seen t)
  rows-view n s t [] out ok h = (subst Holds (sym h.1) ok, (h.0, ap seen h.1))
  rows-view n s t (line ∷ lines) out ok (words, next, rest, told, is, more) =
      let a = line_view n s next line words ok told in
      let b = rows-view (n + 1) next t lines rest a.0 more in
      (b.0, (words, seen next, rest, a.1, is, b.1))

  holds-after : {T E : Type 0} (r : Result T E) (s t : S) (script out : List ℕ) → Holds s → Settled Deals r s script out t → Holds t
  holds-after (Ok x) s t script out ok h =
      ⊎_elim
      (λ l. subst Holds (sym (h.long l).1) ok)
      (λ l. (rows-view 1 s t _ out ok (h.short l)).0)
      (cases_lt most_bytes (length script))
  holds-after (Err x) s t script out ok h =
      ⊎_elim
      (λ l. subst Holds (sym (h.long l).1) ok)
      (λ l. (rows-view 1 s t _ _ ok (h.short l).4).0)
      (cases_lt most_bytes (length script))

  settled_view : {T E : Type 0} (r : Result T E) (s t : S) (script out : List ℕ) → Holds s → Settled Deals r s script out t → Settled Deals' r (seen s) script out (seen t)
  settled_view (Ok x) s t script out ok h = record {
    long = λ l. let e = h.long l in (e.0, ap seen e.1);
    short = λ l. (rows-view 1 s t _ out ok (h.short l)).1;
  }
  settled_view (Err x) s t script out ok h = record {
    long = λ l. let e = h.long l in (e.0, ap seen e.1);
    short = λ l. let (first, rest, words, cut, told) = h.short l in (first, rest, words, cut, (rows-view 1 s t first _ ok told).1);
  }

-- a script that the machine answers keeps its state consistent
pub answers_consistent : (rules : Rules) {T E : Type 0} (r : Result T E) (s t : State) (script rows : List ℕ) → Settled (by_machine rules) r s script rows t → Consistent s → Consistent t
answers_consistent rules r s t script rows told ok =
    holds-after (by_machine rules) (by_machine rules) (λ x. x) Consistent
    (λ x c w y k one. (subst Consistent (sym (ap (λ (u : State × MachineAnswer). u.0) one.1)) (step_keeps rules x (call_of c) k), one))
    r s t script rows ok told

module _ {X : Type 0} (m : Ghosts X) where
  -- the words for a reply are those for the machine's answer
  said-replied : (n : ℕ) (reply : Result Answer Refusal) → said (replied n reply) ≡ worded (answer_of reply)
  said-replied n (Ok answer) = refl
  said-replied n (Err refusal) = refl

  pub line_said : (b b' : Broker X m) (n : ℕ) (line : List ℕ) (answer : Result Answer ScriptFault) → AnswersLine m b n line answer b' → Line (by_broker m) n b line (said answer) b'
  line_said b b' n line answer (Ok call, reads, (reply, steps, is)) = (Ok call, reads, (answer_of reply, steps, ap said is ∙ said-replied n reply))
  line_said b b' n line answer (Err unread, reads, (is, same)) = (Err unread, reads, (ap said is, same))

  -- over these rules
  abbrev Over : Rules → Broker X m → Type 0
  Over rules b = m.rules b.resource ≡ rules

  each_call : (rules : Rules) (b : Broker X m) (c : Call) (w : List ℕ) (b' : Broker X m) → Over rules b → by_broker m b c w b' → Over rules b' × by_machine rules (view m b) c w (view m b')
  each_call rules b c w b' over (answer, steps, is) = (
    steps.same ∙ over,
    (answer, subst (λ r. ◌≡◌ {A = State × MachineAnswer} (view m b', answer) (step r (view m b) (call_of c))) over steps.after, is),
  )

  pub runs : {T E : Type 0} (r : Result T E) (b b' : Broker X m) (script old new rows : List ℕ) → new ≡ old ++ rows → Settled (by_broker m) r b script rows b' → Runs m b script old r new b'
  runs r b b' script old new rows added told =
      let rules = m.rules b.resource in
      let by_rules = settled_view (by_broker m) (by_machine rules) (view m) (Over rules) (each_call rules) r b b' script rows refl told in record {
        rows = rows;
        added = added;
        told = told;
        machine = by_rules;
        kept = answers_consistent rules r (view m b) (view m b') script rows by_rules;
        same = holds-after (by_broker m) (by_machine rules) (view m) (Over rules) (each_call rules) r b b' script rows refl told;
      }

  -- a script keeps a broker consistent
  pub runs_consistent : {T E : Type 0} (r : Result T E) (b b' : Broker X m) (script old new : List ℕ) → Runs m b script old r new b' → Consistent (view m b) → Consistent (view m b')
  runs_consistent r b b' script old new h = h.kept

  pub runs_too_long : {T E : Type 0} (r : Result T E) (b : Broker X m) (script old new : List ℕ) → most_bytes < length script → new ≡ cond (is_ok r) (old ++ row_bytes 0 (said (Err TooLong))) old → Runs m b script old r new b
  runs_too_long (Ok x) b script old new long is = runs (Ok x) b b script old new _ is (record { long = λ _. (refl, refl); short = λ l. absurd (omega arith) })
  runs_too_long (Err x) b script old new long is = runs (Err x) b b script old new [] (is ∙ sym (append-nil old)) (record { long = λ _. (refl, refl); short = λ l. absurd (omega arith) })

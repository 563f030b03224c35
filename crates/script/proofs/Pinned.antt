-- The machine has one list of rows for a script.
use Rattle.std.proofs.Common.{◌≡◌, ℕ, ◌+◌, List, [], ◌∷◌, ◌++◌, Ok, Err, Result, sym, ap, ◌∙◌, subst, arith, MatchResult}
use Rattle.claims.specs.Rules.{Rules}
use Rattle.machine.specs.Machine.{State, Answer as MachineAnswer, step}
use Rattle.broker.specs.declared.call.Call.{Call}
use Rattle.broker.specs.Calls.{call_of}
use Rattle.script.specs.declared.faults.ScriptFault.TheVariants.{Unread}
use Rattle.script.specs.declared.faults.Unread.{Unread as UnreadKind}
use Rattle.script.specs.Format.{heard}
use Rattle.script.specs.Rows.{worded, said, row_bytes}
use Rattle.script.specs.Runs.{by_machine, RowsArePinned}
use Rattle.script.specs.Scripts.{Line, Rows}
use Rattle.script.proofs.Once.{one_reading}

module _ (rules : Rules) where
  call_once : (s t u : State) (c d : Call) (v w : List ℕ) → call_of c ≡ call_of d → by_machine rules s c v t → by_machine rules s d w u → (v ≡ w) × (t ≡ u)
  call_once s t u c d v w same (a, x, p) (b, y, q) =
      let both : ◌≡◌ {A = State × MachineAnswer} (t, a) (u, b) = x ∙ ap (step rules s) same ∙ sym y in
      (p ∙ ap (λ z. worded z.1) both ∙ sym q, ap (λ z. z.0) both)

  line_once : (n : ℕ) (s t u : State) (line v w : List ℕ) → Line (by_machine rules) n s line v t → Line (by_machine rules) n s line w u → (v ≡ w) × (t ≡ u)
  line_once n s t u line v w (r, h, x) (q, k, y) = go r q (one_reading line r q h k) x y
    where
      go : (r q : Result Call UnreadKind) → heard r ≡ heard q → MatchResult r (λ c. by_machine rules s c v t) (λ f. (v ≡ said (Err (Unread n f))) × (t ≡ s)) → MatchResult q (λ c. by_machine rules s c w u) (λ f. (w ≡ said (Err (Unread n f))) × (u ≡ s)) → (v ≡ w) × (t ≡ u)
      go (Ok c) (Ok d) e x y = let same : call_of c ≡ call_of d = cc in call_once s t u c d v w same x y
      go (Ok c) (Err f) e x y = let z : ◌≡◌ {A = ℕ} 0 1 = cc in absurd (omega arith)
      go (Err f) (Ok d) e x y = let z : ◌≡◌ {A = ℕ} 0 1 = cc in absurd (omega arith)
      go (Err f) (Err g) e x y = let p : f ≡ g = cc in (x.0 ∙ ap (λ f. said (Err (Unread n f))) p ∙ sym y.0, x.1 ∙ sym y.1)

pub rows-once : RowsArePinned
rows-once rules n s t u [] out other (p, x) (q, y) = (p ∙ sym q, x ∙ sym y)
rows-once rules n s t u (line ∷ lines) out other (v, s₁, rest, told, p, more) (w, s₂, rest₂, told₂, q, more₂) =
    let one = line_once rules n s s₁ s₂ line v w told told₂ in
    let on = rows-once rules (n + 1) s₁ t u lines rest rest₂ more (subst (λ s. Rows (by_machine rules) (n + 1) s lines rest₂ u) (sym one.1) more₂) in
    (p ∙ (λ i. row_bytes n (one.0 i) ++ on.0 i) ∙ sym q, on.1)

-- A text read as the outcomes that wrote it.
use Rattle.line_laws.proofs.Words.{◌≡◌, ℕ, List, [], ◌∷◌, ◌++◌, refl, sym, ap, subst, ◌∙◌, arith, length-append, append_assoc, append-nil, inl, AllByRecursion, Event, Step, Outcome, lines_of, Moment, now, IsRun, State, Instruction, Once, RunJob, CarriesOut, IsToldByLine, AsksForOneLine, WritesOneLine, IsOfLines, lines_of_all, AskForOneLine, EndsAs}
use Rattle.std.proofs.Common.{length}
use Rattle.machine_defs.proofs.Untouched.{run_back}
use Rattle.line_laws.proofs.OneLine.{one-line}
use Rattle.line_laws.proofs.LastLines.{one-told, last-told}
use Rattle.line_laws.proofs.OfLines.{joined, outcome-lines, run-lines}
use Rattle.line_laws.proofs.Happened.{happened}

-- what outcomes write is of whole lines
pub written-lines : (rs : List Outcome) → IsOfLines (lines_of_all rs)
written-lines [] = inl refl
written-lines (r ∷ rs) = joined (lines_of_all rs) (lines_of r) (written-lines rs) (outcome-lines r)

-- one line is something
not-nothing : (r : Outcome) (front : List ℕ) → WritesOneLine r → front ++ lines_of r ≡ [] → ⊥
not-nothing r front one none =
    let text = one-line r one in
    let size = length-append text.0 (10 ∷ []) in
    omega (arith, ap length none, length-append front (lines_of r), ap length text.2, size)

-- the newest moment of a run
newest-one : (limit : ℕ) (start : State) (m : Moment) (ms : List Moment) (event : Event) → m.event ≡ event →
    AsksForOneLine event → IsRun limit start (m ∷ ms) → WritesOneLine m.outcome
newest-one limit start m ms event is asks run = happened (now start ms) m.state limit (length ms) m.event
    m.outcome (subst AsksForOneLine (sym is) asks) run.1

told-one : (r s : Outcome) (before : List ℕ) (ss : List Outcome) → WritesOneLine r → IsToldByLine s →
    IsOfLines before → before ++ lines_of r ≡ lines_of_all (s ∷ ss) → (before ≡ lines_of_all ss) × (r ≡ s)
told-one r s before ss one told of same =
    last-told r s before (lines_of_all ss) one told of (written-lines ss) same

module _ (limit : ℕ) (start : State) (base : List Moment) where
  -- the outcomes that a text tells are those of the commands
  pub text-tells : (commands : List Instruction) (ms : List Moment) (bytes : List ℕ) (ss : List Outcome) →
      IsRun limit start (ms ++ base) → AskForOneLine commands → CarriesOut commands ms bytes →
      AllByRecursion IsToldByLine ss → bytes ≡ lines_of_all ss → EndsAs commands ms ss
  text-tells [] ms bytes [] run asks C told same = C.0
  text-tells [] ms bytes (s ∷ ss) run asks C told same =
      absurd (not-nothing s (lines_of_all ss) (one-told s told.0) (sym same ∙ C.1))
  text-tells (Once event ∷ commands) ms bytes [] run asks C told same =
      let here : IsRun limit start (C.0 ∷ (C.1 ++ base)) =
      subst (λ l. IsRun limit start (l ++ base)) C.3 run in
      let one = newest-one limit start C.0 (C.1 ++ base) event C.4 asks.0 here in
      absurd (not-nothing C.0.outcome C.2 one (sym C.6 ∙ same))
  text-tells (Once event ∷ commands) ms bytes (s ∷ ss) run asks C told same =
      let here : IsRun limit start (C.0 ∷ (C.1 ++ base)) =
      subst (λ l. IsRun limit start (l ++ base)) C.3 run in
      let one = newest-one limit start C.0 (C.1 ++ base) event C.4 asks.0 here in
      let parts =
      told-one C.0.outcome s C.2 ss one told.0 (run-lines commands C.1 C.2 C.5) (sym C.6 ∙ same) in
      (C.0, C.1, C.3, C.4, parts.1, text-tells commands C.1 C.2 ss here.2 asks.1 C.5 told.1 parts.0)
  text-tells (RunJob job ∷ commands) ms bytes [] run asks C told same =
      let here : IsRun limit start (C.0 ∷ ((C.1 ++ C.2) ++ base)) =
      subst (λ l. IsRun limit start (l ++ base)) C.4 run in
      let one = newest-one limit start C.0 ((C.1 ++ C.2) ++ base) (Step job) C.5.step tt here in
      absurd (not-nothing C.0.outcome C.3 one (sym C.7 ∙ same))
  text-tells (RunJob job ∷ commands) ms bytes (s ∷ ss) run asks C told same =
      let here : IsRun limit start (C.0 ∷ ((C.1 ++ C.2) ++ base)) =
      subst (λ l. IsRun limit start (l ++ base)) C.4 run in
      let one = newest-one limit start C.0 ((C.1 ++ C.2) ++ base) (Step job) C.5.step tt here in
      let parts =
      told-one C.0.outcome s C.3 ss one told.0 (run-lines commands C.2 C.3 C.6) (sym C.7 ∙ same) in
      let rest = run_back limit start C.1 (C.2 ++ base)
      (subst (IsRun limit start) (append_assoc C.1 C.2 base) here.2) in
      (C.0, C.1, C.2, C.4, C.5, parts.1, text-tells commands C.2 C.3 ss rest asks C.6 told.1 parts.0)

  -- one more line behind others
  one-behind : (r s : Outcome) (front other before : List ℕ) (ss : List Outcome) → WritesOneLine r →
      IsToldByLine s → IsOfLines front → IsOfLines other → IsOfLines before →
      front ++ (before ++ lines_of r) ≡ other ++ lines_of_all (s ∷ ss) →
      (front ++ before ≡ other ++ lines_of_all ss) × (r ≡ s)
  one-behind r s front other before ss one told whole ahead of same =
      last-told r s (front ++ before) (other ++ lines_of_all ss) one told (joined front before whole of)
      (joined other (lines_of_all ss) ahead (written-lines ss)) (append_assoc front before (lines_of r)
      ∙ (same ∙ sym (append_assoc other (lines_of_all ss) (lines_of s))))

  -- so they are behind any text of whole lines, as many as commands, and what stands before them is that text
  pub text-behind : (commands : List Instruction) (ms : List Moment) (bytes front other : List ℕ)
      (ss : List Outcome) → IsRun limit start (ms ++ base) → AskForOneLine commands →
      CarriesOut commands ms bytes → AllByRecursion IsToldByLine ss → length ss ≡ length commands →
      IsOfLines front → IsOfLines other → front ++ bytes ≡ other ++ lines_of_all ss →
      (front ≡ other) × EndsAs commands ms ss
  text-behind [] ms bytes front other [] run asks C told many whole ahead same = (
    sym (append-nil front) ∙ (ap (λ l. front ++ l) (sym C.1) ∙ same) ∙ append-nil other,
    C.0,
  )
  text-behind [] ms bytes front other (s ∷ ss) run asks C told many whole ahead same =
      absurd (omega (arith, many))
  text-behind (command ∷ commands) ms bytes front other [] run asks C told many whole ahead same =
      absurd (omega (arith, many))
  text-behind (Once event ∷ commands) ms bytes front other (s ∷ ss) run asks C told many whole ahead same =
      let here : IsRun limit start (C.0 ∷ (C.1 ++ base)) =
      subst (λ l. IsRun limit start (l ++ base)) C.3 run in
      let one = newest-one limit start C.0 (C.1 ++ base) event C.4 asks.0 here in
      let parts = one-behind C.0.outcome s front other C.2 ss one told.0 whole ahead
      (run-lines commands C.1 C.2 C.5) (ap (λ l. front ++ l) (sym C.6) ∙ same) in
      let rest = text-behind commands C.1 C.2 front other ss here.2 asks.1 C.5 told.1 (omega (arith, many))
      whole ahead parts.0 in
      (rest.0, (C.0, C.1, C.3, C.4, parts.1, rest.1))
  text-behind (RunJob job ∷ commands) ms bytes front other (s ∷ ss) run asks C told many whole ahead same =
      let here : IsRun limit start (C.0 ∷ ((C.1 ++ C.2) ++ base)) =
      subst (λ l. IsRun limit start (l ++ base)) C.4 run in
      let one = newest-one limit start C.0 ((C.1 ++ C.2) ++ base) (Step job) C.5.step tt here in
      let parts = one-behind C.0.outcome s front other C.3 ss one told.0 whole ahead
      (run-lines commands C.2 C.3 C.6) (ap (λ l. front ++ l) (sym C.7) ∙ same) in
      let older = run_back limit start C.1 (C.2 ++ base)
      (subst (IsRun limit start) (append_assoc C.1 C.2 base) here.2) in
      let rest = text-behind commands C.2 C.3 front other ss older asks C.6 told.1 (omega (arith, many))
      whole ahead parts.0 in
      (rest.0, (C.0, C.1, C.2, C.4, C.5, parts.1, rest.1))

-- Steps that went on count nothing, so a run's counts grow by those of its last moment.
use Rattle.hail_replay.proofs.Words.{◌≡◌, ℕ, ◌+◌, Bool, false, List, [], ◌∷◌, ◌++◌, length, refl, sym, ap, ◌∙◌, arith, append-nil, Outcome, More, Moment, setup_in, Instruction, GoOn, TrialCounts, one_if, how_many, is_got, is_expected, is_audited, is_repaired, is_stopped, flagged_by, flagged_in, counts_of, counts_on, SeesOne}

-- steps that went on are not counted
how_many-more : (is_one : Outcome → Bool) → is_one More ≡ false → (job : ℕ) (steps ms : List Moment) →
    GoOn job steps → how_many is_one (steps ++ ms) ≡ how_many is_one ms
how_many-more is_one none job [] ms on = refl
how_many-more is_one none job (m ∷ steps) ms on =
    let here : one_if (is_one m.outcome) ≡ 0 = ap (λ (o : Outcome). one_if (is_one o)) on.1
    ∙ ap (λ (b : Bool). one_if b) none in
    let same = how_many-more is_one none job steps ms on.2 in
    ap (λ (n : ℕ). how_many is_one (steps ++ ms) + n) here ∙ plus_none (how_many is_one (steps ++ ms)) ∙ same
  where
    plus_none : (n : ℕ) → n + 0 ≡ n
    plus_none n = omega arith

-- nor do they flag anybody
flagged-more : (job : ℕ) (steps ms : List Moment) → GoOn job steps → flagged_in (steps ++ ms) ≡ flagged_in ms
flagged-more job [] ms on = refl
flagged-more job (m ∷ steps) ms on =
    ap (λ (o : Outcome). flagged_in (steps ++ ms) ++ flagged_by (setup_in m.state).tolerance o) on.1
    ∙ append-nil (flagged_in (steps ++ ms)) ∙ flagged-more job steps ms on.2

-- counts of these numbers
unfoldable made : ℕ → ℕ → ℕ → ℕ → List ℕ → ℕ → ℕ → TrialCounts
made events gets right audits flagged repairs stops =
    record {
      events = events;
      gets = gets;
      right = right;
      audits = audits;
      flagged = flagged;
      repairs = repairs;
      stops = stops;
    }

-- counts of the same numbers are the same
made-same : (a b c d f g h i j k m n : ℕ) (e l : List ℕ) → a ≡ h → b ≡ i → c ≡ j → d ≡ k → e ≡ l → f ≡ m →
    g ≡ n → made a b c d e f g ≡ made h i j k l m n
made-same a b c d f g h i j k m n e l o p q r s t u = cc

-- one command more
on-one : (expected : List ℕ) (commands : List Instruction) (command : Instruction) (ms steps : List Moment)
    (m : Moment) (job : ℕ) → GoOn job steps
    → counts_on expected (setup_in m.state).tolerance m.outcome (counts_of expected commands ms)
    ≡ counts_of expected (command ∷ commands) (m ∷ (steps ++ ms))
unfolding made
on-one expected commands command ms steps m job on =
    let one : length commands + 1 ≡ length (command ∷ commands) = omega arith in
    let same = λ (is_one : Outcome → Bool) (none : is_one More ≡ false).
    ap (λ (n : ℕ). n + one_if (is_one m.outcome)) (sym (how_many-more is_one none job steps ms on)) in
    made-same _ _ _ _ _ _ _ _ _ _ _ _ _ _ one (same is_got refl) (same (is_expected expected) refl)
    (same is_audited refl)
    (ap (λ (js : List ℕ). js ++ flagged_by (setup_in m.state).tolerance m.outcome)
    (sym (flagged-more job steps ms on)))
    (same is_repaired refl) (same is_stopped refl)

-- tolerances by which the same providers are flagged count the same
same-flags : (expected : List ℕ) (a b : ℕ) (outcome : Outcome) (old : TrialCounts) →
    flagged_by a outcome ≡ flagged_by b outcome
    → counts_on expected a outcome old ≡ counts_on expected b outcome old
same-flags expected a b outcome old same =
    ap (λ (js : List ℕ). record (counts_on expected a outcome old) { flagged = old.flagged ++ js }) same

-- counts that took an outcome in saw one
pub sees_one : (expected : List ℕ) (tolerance : ℕ) (outcome : Outcome) (old new : TrialCounts) →
    new ≡ counts_on expected tolerance outcome old → SeesOne expected tolerance outcome old new
sees_one expected tolerance outcome old new is commands command ms steps m job came flags on before = is
    ∙ ap (λ (c : TrialCounts). counts_on expected tolerance outcome c) before
    ∙ ap (λ (o : Outcome). counts_on expected tolerance o (counts_of expected commands ms)) (sym came)
    ∙ same-flags expected tolerance (setup_in m.state).tolerance m.outcome (counts_of expected commands ms)
    (sym flags)
    ∙ on-one expected commands command ms steps m job on

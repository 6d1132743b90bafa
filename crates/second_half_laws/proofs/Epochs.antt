-- A mark may move to a later moment since which all damage is new, while no get and no repair runs.
use Rattle.second_half_laws.proofs.Words.{true, refl, sym, subst, arith, IsTrue, le-leb, lt-leb, Job, job_of, State, setup_in, Moment, now, first_moments, IsRun, is_replaced_since, Mark, relies, replaced_count, IsCalm, DamagesOnly, Relies, NoneRuns, cond_true, cond_false, begun_later, first_enough, first_fewer, among_since, IsMark, BeginsNoScrub, AreMarks, IsMarkedRun}
use Rattle.std.proofs.Common.{◌≡◌, ℕ, ◌≤◌, ◌<◌, List, [], ◌∷◌, ◌++◌, length, Some, append_assoc}
use Rattle.second_half_laws.specs.Epochs.{moved_mark}
use Rattle.second_half_laws.proofs.FewDamaged.{AreFew, few_now, few_before}
use Rattle.second_half_laws.proofs.Finished.{unscrubbed}
use Rattle.second_half_laws.proofs.InRuns.{mark_stays}

module _ (k from : ℕ) (mark : Mark) where
  -- at that moment and behind it the mark is the new one, before it the old one
  pub moved : (ms : List Moment) → k ≤ length ms → moved_mark k from mark ms ≡ from
  moved ms l = cond_true _ from _ (le-leb k (length ms) l)

  unmoved : (ms : List Moment) → length ms < k → moved_mark k from mark ms ≡ mark ms
  unmoved ms l = cond_false _ from _ (lt-leb k (length ms) l)

  -- before, what is calm by the mark is calm by the moved one, and marks are marks
  pub same_first : (m : Moment) (ms : List Moment) (begun : ℕ) → length (m ∷ ms) < k →
      replaced_count m.state (mark (first_moments begun (m ∷ ms))) (m ∷ ms) ≤ (setup_in m.state).b →
      replaced_count m.state (moved_mark k from mark (first_moments begun (m ∷ ms))) (m ∷ ms)
      ≤ (setup_in m.state).b
  same_first m ms begun l few = subst (λ n. replaced_count m.state n (m ∷ ms) ≤ (setup_in m.state).b)
      (sym (unmoved _ (let s = first_fewer begun (m ∷ ms) in omega arith))) few

  calm_same : (ms : List Moment) → length ms < k → IsCalm relies mark ms →
      IsCalm relies (moved_mark k from mark) ms
  calm_same [] l calm = tt
  calm_same (m ∷ ms) l calm = (
    λ number job runs reads. same_first m ms job.begun l (calm.0 number job runs reads),
    calm_same ms (omega arith) calm.1,
  )

  marks_same : (start : State) (ms : List Moment) → length ms < k → AreMarks mark start ms →
      AreMarks (moved_mark k from mark) start ms
  marks_same start [] l marks = (rw (← (unmoved [] l)) at marks)
  marks_same start (m ∷ ms) l marks =
      ((rw (← (unmoved (m ∷ ms) l)) at marks.0), marks_same start ms (omega arith) marks.1)

module _ (limit : ℕ) (mark : Mark) (start : State) (base : List Moment) (from : ℕ)
    (h : IsMarkedRun limit mark start base) (new : IsMark start base from)
    (none : NoneRuns Relies (now start base)) where
  calm_first : (xs : List Moment) → xs ≡ base → NoneRuns Relies (now start xs) → IsCalm relies mark xs →
      IsCalm relies (moved_mark (length base) from mark) xs
  calm_first [] is free calm = tt
  calm_first (m ∷ xs) is free calm = (
    λ number job runs reads. absurd (free number job runs reads),
    calm_same (length base) from mark xs (subst (λ hs. length xs < length hs) is (omega arith)) calm.1,
  )

  marks_first : (xs : List Moment) → xs ≡ base → IsMark start xs from → AreMarks mark start xs →
      AreMarks (moved_mark (length base) from mark) start xs
  marks_first [] is moment marks = subst (IsMark start []) (cc) moment
  marks_first (m ∷ xs) is moment marks = (
    subst (IsMark start (m ∷ xs)) (sym (moved (length base) from mark (m ∷ xs)
        (subst (λ hs. length base ≤ length hs) (sym is) (omega arith)))) moment,
    marks_same (length base) from mark start xs (subst (λ hs. length xs < length hs) is (omega arith)) marks.1,
  )

  -- at the moment itself the run is calm by the moved mark
  pub moved_now : IsMarkedRun limit (moved_mark (length base) from mark) start base
  moved_now = record {
    clean = h.clean;
    tell = h.tell;
    run = h.run;
    calm = calm_first base refl none h.calm;
    marks = marks_first base refl new h.marks;
  }

module _ (limit : ℕ) (mark : Mark) (start : State) (recent older : List Moment) (qs : List ℕ)
    (h : IsMarkedRun limit mark start (recent ++ older))
    (new : IsMark start (recent ++ older) (length older))
    (none : NoneRuns Relies (now start (recent ++ older))) where
  ms : List Moment
  ms = recent ++ older

  next : Mark
  next = moved_mark (length (recent ++ older)) (length older) mark

  no_fewer : (later : List Moment) → length (recent ++ older) ≤ length (later ++ (recent ++ older))
  no_fewer [] = omega arith
  no_fewer (m ∷ later) = omega (arith, no_fewer later)

  -- one event more
  calm_now : (m : Moment) (later : List Moment) → IsRun limit start (m ∷ (later ++ (recent ++ older))) →
      DamagesOnly qs ((m ∷ later) ++ recent) → AreFew qs m.state → (number : ℕ) (job : Job) →
      job_of m.state.jobs number ≡ Some job → IsTrue (relies job.kind) →
      replaced_count m.state (next (first_moments job.begun (m ∷ (later ++ (recent ++ older)))))
      (m ∷ (later ++ (recent ++ older))) ≤ (setup_in m.state).b
  unfolding next
  calm_now m later run only few number job runs reads = (let all = m ∷ (later ++ (recent ++ older)) in
      let late = begun_later Relies limit start (m ∷ later) (recent ++ older) run none number job runs reads in
      let n = no_fewer later in
      let is = moved (length (recent ++ older)) (length older) mark (first_moments job.begun all)
      (first_enough (length (recent ++ older)) job.begun all late (omega arith)) in
      subst (λ from. replaced_count m.state from all ≤ (setup_in m.state).b) (sym is)
      (few_now m.state qs (length older) all few
      (λ j r. among_since qs ((m ∷ later) ++ recent) older (length older) j (omega arith) only
      (subst (λ hs. is_replaced_since (length older) j hs ≡ true)
      (sym (append_assoc (m ∷ later) recent older)) r))))

  -- each later moment
  pub goes_on : (later : List Moment) → IsRun limit start (later ++ (recent ++ older)) →
      BeginsNoScrub (later ++ (recent ++ older)) → DamagesOnly qs (later ++ recent) →
      AreFew qs (now start (later ++ (recent ++ older))) →
      IsMarkedRun limit (moved_mark (length (recent ++ older)) (length older) mark) start
      (later ++ (recent ++ older)) × IsMark start (later ++ (recent ++ older)) (length older)
  unfolding next
  goes_on [] run scrubs only few =
      (moved_now limit mark start (recent ++ older) (length older) h new none, new)
  goes_on (m ∷ later) run scrubs only few = (let all = later ++ (recent ++ older) in
      let p = goes_on later run.2 scrubs.1 only.1 (few_before limit start m all qs h.clean run few) in
      let moment = mark_stays limit next start m all p.0 (unscrubbed limit next start all h.clean run.2 scrubs.1)
      run (length older) p.1 in
      let n = no_fewer later in (
        record {
          clean = h.clean;
          tell = h.tell;
          run = run;
          calm = (calm_now m later run only few, p.0.calm);
          marks = (
            (rw (← (moved (length (recent ++ older)) (length older) mark (m ∷ all) (omega arith))) at moment),
            p.0.marks,
          );
        },
        moment,
      ))

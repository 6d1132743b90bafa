-- Behind a scrub that ended well a run goes on calm, whoever was damaged before.
use Rattle.epoch_laws.proofs.Words.{◌≡◌, ℕ, ◌≤◌, true, false, List, [], ◌∷◌, ◌++◌, length, Option, Some, None, refl, sym, subst, ◌∙◌, inl, inr, arith, append_assoc, nat_le, is_some, cases_Bool, le-leb, false≢true, In, columns, Setup, Outcome, Ended, State, Alone, Scrubbing, Packing, IsStart, setup_in, file_object, Moment, now, IsRun, first_moments, is_replaced_since, replaced_count, scrub_begun, mark_scrubbed, scrubbed, IsScrubCalm, DamagesOnly, AllTell, Relies, NoneRuns, among_since, both_only, cond_true, cond_false, found_none, setup_same, begun_later, run_back, setups_stay, few_now, few_before, few_calm, few_scrubs, exact_by_scrubs, IsSwept, AreExactBut}
use Rattle.record_defs.specs.Table.{setup_of}
use Rattle.machine_defs.specs.Answers.{Scrubbed}
use Rattle.second_half_laws.proofs.FewDamaged.{AreFew}
use Rattle.epoch_laws.proofs.Sweeps.{no_fewer, NoScrub, scrub_later, IsOver, is_over}

module _ (limit : ℕ) (start : State) (clean : IsStart start) (from : ℕ) (base : List Moment)
    (mark : from ≤ scrubbed start base) (none : NoScrub (now start base)) (late : from ≤ length base) where
  -- the mark is never an earlier one
  mark_later : (later : List Moment) → IsRun limit start (later ++ base) → from ≤ scrubbed start (later ++ base)
  mark_later [] run = mark
  mark_later (m ∷ later) run = marks_on m.outcome (mark_later later run.2)
    where
      ms : List Moment
      ms = later ++ base

      by_alone : (x : Option Alone) → (now start ms).alone ≡ x → from ≤ scrubbed start ms →
          from ≤ scrub_begun x (scrubbed start ms)
      by_alone (Some (Scrubbing scrub)) at before =
          (let l = scrub_later limit start clean later base run.2 none scrub at in omega (arith, l, late))
      by_alone x at before = before

      marks_on : (r : Outcome) → from ≤ scrubbed start ms →
          from ≤ mark_scrubbed (now start ms).alone r (scrubbed start ms)
      marks_on (Ended (Scrubbed a xs ys)) before = by_alone (now start ms).alone refl before
      marks_on r before = before

  -- so it is of the first moments, where these are as many as were there
  mark_first : (k : ℕ) → length base ≤ k → (later : List Moment) → IsRun limit start (later ++ base) →
      from ≤ scrubbed start (first_moments k (later ++ base))
  mark_first k enough [] run = subst (λ hs. from ≤ scrubbed start hs) (sym (whole base enough)) mark
    where
      whole : (hs : List Moment) → length hs ≤ k → first_moments k hs ≡ hs
      whole [] l = refl
      whole (m ∷ hs) l = cond_true (nat_le (length (m ∷ hs)) k) (m ∷ hs) (first_moments k hs) (le-leb (length (m ∷ hs)) k l)
  mark_first k enough (m ∷ later) run = elim (cases_Bool (nat_le (length (m ∷ (later ++ base))) k)) [
    | inl t ↦ subst (λ hs. from ≤ scrubbed start hs) (sym (cond_true (nat_le (length (m ∷ (later ++ base))) k)
        (m ∷ (later ++ base)) (first_moments k (later ++ base)) t)) (mark_later (m ∷ later) run)
    | inr f ↦ subst (λ hs. from ≤ scrubbed start hs) (sym (cond_false (nat_le (length (m ∷ (later ++ base))) k)
        (m ∷ (later ++ base)) (first_moments k (later ++ base)) f)) (mark_first k enough later run.2)
  ]

  -- who was replaced since a later mark is named
  module _ (qs : List ℕ) (idle : NoneRuns Relies (now start base)) (calm : IsScrubCalm start base)
      (named : (later : List Moment) → DamagesOnly qs later → (mark : ℕ) → from ≤ mark → (j : ℕ) →
      is_replaced_since mark j (later ++ base) ≡ true → In j qs) where
    few_since : (m : Moment) (later : List Moment) (k : ℕ) → length base ≤ k →
        IsRun limit start (m ∷ (later ++ base)) → DamagesOnly qs (m ∷ later) → AreFew qs m.state →
        replaced_count m.state (scrubbed start (first_moments k (m ∷ (later ++ base)))) (m ∷ (later ++ base))
        ≤ (setup_in m.state).b
    few_since m later k enough run only few = few_now m.state qs
        (scrubbed start (first_moments k (m ∷ (later ++ base)))) (m ∷ (later ++ base)) few
        (λ j h. named (m ∷ later) only _ (mark_first k enough (m ∷ later) run) j h)

    pub goes_on : (later : List Moment) → IsRun limit start (later ++ base) → DamagesOnly qs later →
        AreFew qs (now start (later ++ base)) → IsScrubCalm start (later ++ base)
    goes_on [] run only few = calm
    goes_on (m ∷ later) run only few = (let before = goes_on later run.2 only.1
        (few_before limit start m (later ++ base) qs clean run few) in
        record {
          jobs = (
            λ number job runs reads. few_since m later job.begun
                (begun_later Relies limit start (m ∷ later) base run idle number job runs reads) run only few,
            before.jobs,
          );
          scrubs = (
            λ scrub at. few_since m later scrub.begun
                (scrub_later limit start clean (m ∷ later) base run none scrub at) run only few,
            before.scrubs,
          );
        })

-- of moments that damage some alone, the newest and the others do
pub parts_only : (qs : List ℕ) (later recent : List Moment) → DamagesOnly qs (later ++ recent) →
    DamagesOnly qs later × DamagesOnly qs recent
parts_only qs [] recent only = (tt, only)
parts_only qs (m ∷ later) recent only = (let p = parts_only qs later recent only.1 in ((only.0, p.0), p.1))

-- few are at each start of a run where they are at its end
pub few_first : (limit : ℕ) (start : State) (ps : List ℕ) → IsStart start → (later ms : List Moment) →
    IsRun limit start (later ++ ms) → AreFew ps (now start (later ++ ms)) → AreFew ps (now start ms)
few_first limit start ps clean [] ms run few = few
few_first limit start ps clean (m ∷ later) ms run few = few_first limit start ps clean later ms run.2
    (few_before limit start m (later ++ ms) ps clean run few)

-- a setup in effect stays so
pub setup_stays : (limit : ℕ) (start : State) (later ms : List Moment) → IsStart start →
    IsRun limit start (later ++ ms) → is_some (setup_of (now start ms).records) ≡ true →
    setup_in (now start (later ++ ms)) ≡ setup_in (now start ms)
setup_stays limit start later ms clean run up = by (setup_of (now start ms).records) refl up
  where
    by : (o : Option Setup) → setup_of (now start ms).records ≡ o → is_some o ≡ true →
        setup_in (now start (later ++ ms)) ≡ setup_in (now start ms)
    by None is up = absurd (false≢true up)
    by (Some s) is up = setup_same (now start (later ++ ms)) (now start ms)
        (setups_stay limit start later ms s clean run is ∙ sym is)

-- where few are named, it is calm
pub first_calm : (limit : ℕ) (start : State) (ms : List Moment) (ps : List ℕ) → IsStart start →
    IsRun limit start ms → DamagesOnly ps ms → length ps ≤ (setup_in (now start ms)).b → IsScrubCalm start ms
first_calm limit start ms ps clean run only few = record {
  jobs = few_calm limit (scrubbed start) start ps clean ms run only (inr few);
  scrubs = few_scrubs limit (scrubbed start) start ps clean ms run only (inr few);
}

module _ (limit : ℕ) (start : State) (later recent older : List Moment) (qs : List ℕ) (clean : IsStart start)
    (run : IsRun limit start (later ++ (recent ++ older))) (S : IsSwept older (recent ++ older))
    (only : DamagesOnly qs (later ++ recent)) where
  since : IsOver start older (recent ++ older)
  since = is_over limit start clean older (recent ++ older)
      (run_back limit start later (recent ++ older) run) S

  named : (hs : List Moment) → DamagesOnly qs hs → (mark : ℕ) → length older ≤ mark → (j : ℕ) →
      is_replaced_since mark j (hs ++ (recent ++ older)) ≡ true → In j qs
  named hs new mark l j h = among_since qs (hs ++ recent) older mark j l
      (both_only qs hs recent new (parts_only qs later recent only).1)
      (subst (λ all. is_replaced_since mark j all ≡ true) (sym (append_assoc hs recent older)) h)

  pub calm_on : IsScrubCalm start (recent ++ older) → AreFew qs (now start (later ++ (recent ++ older))) →
      IsScrubCalm start (later ++ (recent ++ older))
  calm_on calm few = goes_on limit start clean (length older) (recent ++ older)
      (let e = since.mark in omega arith) since.none since.late qs
      (λ number job runs reads. found_none (now start (recent ++ older)).jobs number job since.idle runs) calm
      named later run (parts_only qs later recent only).0 few

  -- who is not named was not replaced since the scrub's begin
  unnamed : (j : ℕ) → (In j qs → ⊥) → is_replaced_since (length older) j (later ++ (recent ++ older)) ≡ false
  unnamed j none = elim (cases_Bool (is_replaced_since (length older) j (later ++ (recent ++ older)))) [
    | inl t ↦ absurd (none (named later (parts_only qs later recent only).0 (length older) (omega arith) j t))
    | inr f ↦ f
  ]

  pub exact_on : AllTell start → IsScrubCalm start (later ++ (recent ++ older)) →
      AreExactBut qs (now start (later ++ (recent ++ older)))
  exact_on tell calm = λ name file j stripe stands l k none. (
    Some (columns (file_object (now start (later ++ (recent ++ older))) file)
        ((now start (later ++ (recent ++ older))).bytes file.id) j stripe),
    exact_by_scrubs limit start later (recent ++ older) clean tell run calm name file j stripe stands l k
        (subst (λ from. is_replaced_since from j (later ++ (recent ++ older)) ≡ false) (sym since.mark)
        (unnamed j none)),
    refl,
  )

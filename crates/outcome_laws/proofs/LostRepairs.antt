-- A repair that relies on providers is lost only where a provider's count rose.
use Rattle.outcome_laws.proofs.Words.{◌≡◌, ℕ, ◌<◌, ◌≤◌, Bool, true, List, length, Some, refl, sym, subst, inl, inr, arith, LosesRow, block_at, Pinned, Job, job_of, profiled, stripes_of, pinned_stripes, Fetch, Work, IsStart, pinned_object, worked_object, block_given, blocks_given, next_action, Mark, relies, replaced_count, runs_shape, RoseSince, always, worked_is, fetched_before_work, Facts, begin_of, mark_of, some_rose}
use Rattle.std.specs.Prelude.{IsTrue}
use Rattle.algebra_laws.specs.Lists.{In}
use Rattle.code_defs.specs.Points.{upto}
use Rattle.column_defs.specs.Objects.{Object, symbols_in}
use Rattle.column_defs.specs.Columns.{row_polynomial, is_wrong_block}
use Rattle.column_defs.specs.Forgeries.{count_of}
use Rattle.column_laws.proofs.Counts.{count_of-within}
use Rattle.column_laws.proofs.UniqueLaws.{profile-room}
use Rattle.column_laws.proofs.RightRows.{row-right}
use Rattle.machine_defs.specs.States.{State, setup_in}
use Rattle.machine_defs.specs.Runs.{Moment, now, is_replaced_since, IsRun}
use Rattle.machine_defs.proofs.Given.{block_at-given}
use Rattle.second_half_laws.specs.Behind.{HasMade}
use Rattle.second_half_laws.proofs.MadeFacts.{given_block, made_fetch_gave}
use Rattle.second_half_laws.proofs.MovePlaces.{works_within}

-- ---- the work of a job that relies on providers

module _ (limit : ℕ) (mark : Mark) (start : State) (ms : List Moment) (clean : IsStart start)
    (run : IsRun limit start ms) (F : Facts mark start ms)
    (calm : (k : ℕ) (j : Job) → job_of (now start ms).jobs k ≡ Some j → IsTrue (relies j.kind) →
    replaced_count (now start ms) (mark_of mark ms j) ms ≤ (setup_in (now start ms)).b)
    (job : Job) (runs : job_of (now start ms).jobs job.number ≡ Some job)
    (reads : relies job.kind ≡ true) where
  module _ (f : Pinned) (stripe : ℕ) (in_file : In f job.pinned)
      (below : stripe < stripes_of (profiled (setup_in (now start ms)) f.profile)
      (length ((now start ms).bytes f.id)))
      (asked : (i : ℕ) → i < (setup_in (now start ms)).n →
      HasMade (setup_in (now start ms)) job (Fetch i f.id stripe))
      (none : (i : ℕ) → i < (setup_in (now start ms)).n →
      RoseSince (begin_of start ms job) (now start ms) i → ⊥) where
    abbrev is_bad : ℕ → Bool
    is_bad i = is_wrong_block (pinned_object (now start ms) f) ((now start ms).bytes f.id) i stripe
        (block_at (blocks_given job.given (setup_in (now start ms)).n f.id stripe) i)

    one : (i : ℕ) → i < (setup_in (now start ms)).n → is_bad i ≡ true →
        is_replaced_since (mark_of mark ms job) i ms ≡ true
    one i l wrong =
        (let g = made_fetch_gave limit start clean ms run job.number job i f.id stripe runs (asked i l) in
        let given = given_block job.given i f.id stripe g.0 g.1 in
        let bad : is_wrong_block (pinned_object (now start ms) f) ((now start ms).bytes f.id) i stripe
        (block_given job.given f.id stripe i) ≡ true =
        subst (λ y. is_wrong_block (pinned_object (now start ms) f) ((now start ms).bytes f.id) i stripe y
        ≡ true) (block_at-given job.given (setup_in (now start ms)).n f.id stripe i l) wrong in
        elim (F.gave job.number job f i stripe (block_given job.given f.id stripe i) runs in_file l below
        given bad) [
          | inl r ↦ r
          | inr q ↦ absurd (none i l q.1)
        ])

    -- where no count rose, few providers gave a wrong block, or none
    few : count_of is_bad (upto (setup_in (now start ms)).n) ≤ (setup_in (now start ms)).b
    few = (let w = count_of-within is_bad (λ i. is_replaced_since (mark_of mark ms job) i ms) 0
        (setup_in (now start ms)).n (λ i l wrong. one i (omega (arith, l)) wrong) in
        let c : count_of (λ i. is_replaced_since (mark_of mark ms job) i ms)
        (upto (setup_in (now start ms)).n) ≤ (setup_in (now start ms)).b =
        calm job.number job runs reads in
        omega (arith, w, c))

    -- so no row is lost
    not_lost : (row : ℕ) → LosesRow (pinned_object (now start ms) f) stripe
        (blocks_given job.given (setup_in (now start ms)).n f.id stripe) row → ⊥
    not_lost row h = h.lost (row_polynomial (pinned_object (now start ms) f)
        (symbols_in (pinned_object (now start ms) f) ((now start ms).bytes f.id) stripe) h.place)
        (row-right (pinned_object (now start ms) f) ((now start ms).bytes f.id) f.profile stripe h.place
        (blocks_given job.given (setup_in (now start ms)).n f.id stripe) h.opened refl
        (runs_shape limit start ms clean run job.number job runs) few h.opens
        (let room = profile-room (pinned_object (now start ms) f) f.profile refl in let k = h.kept in
        omega (arith, room, k)))

  -- work that loses a row, and no count that rose, do not go together
  loses_none : ((i : ℕ) → i < (setup_in (now start ms)).n →
      RoseSince (begin_of start ms job) (now start ms) i → ⊥) → (f : Pinned) → In f job.pinned →
      (stripe row : ℕ) → stripe < pinned_stripes (setup_in (now start ms)) f →
      next_action (now start ms) job ≡ Some (Work f.id stripe) →
      LosesRow (worked_object (now start ms) job f.id) stripe
      (blocks_given job.given (setup_in (now start ms)).n f.id stripe) row → ⊥
  loses_none none f in_file stripe row low next_is lost = (let E = always limit start clean ms run in
      not_lost f stripe in_file
      (subst (λ (y : List ℕ). stripe < stripes_of (profiled (setup_in (now start ms)) f.profile) (length y))
      (E.pinned job.number job f runs in_file) low)
      (λ i l. fetched_before_work (now start ms) job f.id stripe i next_is l) none row
      (subst (λ (o : Object). LosesRow o stripe
      (blocks_given job.given (setup_in (now start ms)).n f.id stripe) row)
      (worked_is start ms E job f.id runs (record { file = f; pinned = in_file; id_is = refl })) lost))

  -- where work loses a row, a provider's count rose since the job's begin
  pub count_rose : (o stripe row : ℕ) → next_action (now start ms) job ≡ Some (Work o stripe) →
      LosesRow (worked_object (now start ms) job o) stripe
      (blocks_given job.given (setup_in (now start ms)).n o stripe) row →
      (i : ℕ) × (i < (setup_in (now start ms)).n) × RoseSince (begin_of start ms job) (now start ms) i
  count_rose o stripe row next_is lost =
      elim (some_rose (begin_of start ms job) (now start ms) (setup_in (now start ms)).n) [
        | inl p ↦ p
        | inr none ↦ absurd (by_file none
            (works_within (now start ms) job o stripe job.kind refl reads next_is))
      ]
    where
      by_file : ((i : ℕ) → i < (setup_in (now start ms)).n →
          RoseSince (begin_of start ms job) (now start ms) i → ⊥) →
          (f : Pinned) × In f job.pinned × (f.id ≡ o)
          × (stripe < pinned_stripes (setup_in (now start ms)) f) → ⊥
      by_file none (f, in_file, id_is, low) = loses_none none f in_file stripe row low
          (subst (λ n. next_action (now start ms) job ≡ Some (Work n stripe)) (sym id_is) next_is)
          (subst (λ n. LosesRow (worked_object (now start ms) job n) stripe
          (blocks_given job.given (setup_in (now start ms)).n n stripe) row) (sym id_is) lost)

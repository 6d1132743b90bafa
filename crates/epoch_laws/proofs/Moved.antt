-- A mark moves on to a later moment since which all damage is new, while nothing that reads is under way; scrubs
-- may come before and behind it.
use Rattle.epoch_laws.proofs.Words.{◌≡◌, ℕ, ◌≤◌, ◌<◌, true, false, List, [], ◌∷◌, ◌++◌, length, Option, Some, None, refl, ap, sym, subst, ◌∙◌, inl, inr, arith, append_assoc, IsSome, cases_Bool, false≢true, In, is_wrong_block, RepairJob, Repaired, NoneBegan, Begin, BeginScrub, Step, Begun, Ended, State, Scrubbing, IsStart, setup_in, file_object, Moment, now, first_moments, IsRun, is_replaced_since, Mark, since, relies, replaced_count, DamagesOnly, AllTell, AreScrubsCalm, Relies, NoneRuns, NoneUnderWay, found_none, ended_of_kind, begun_later, none_under_way, run_back, first_enough, calm_back, among_since, both_only, moved_mark, AreMarks, IsMarkedRun, IsCalmRun, IsMended, few_now, few_before, all_tell, Scrub_is, scrub_was, AreRightBut}
use Rattle.std.specs.Option.{option_map}
use Rattle.device_defs.specs.Providers.{Held}
use Rattle.machine_defs.specs.Deeds.{told_block}
use Rattle.second_half_laws.specs.Marks.{IsMark}
use Rattle.second_half_laws.proofs.Epochs.{moved, same_first, moved_now}
use Rattle.second_half_laws.proofs.FewDamaged.{AreFew}
use Rattle.second_half_laws.proofs.InRuns.{calm_marked, mark_stays}
use Rattle.second_half_laws.proofs.Mended.{mended_mark}
use Rattle.epoch_laws.proofs.Sweeps.{no_fewer, NoScrub, scrub_later, lone}
use Rattle.epoch_laws.proofs.Epochs.{parts_only}

module _ (k from : ℕ) (mark : Mark) where
  -- before, what is calm by the mark is calm by the moved one
  scrubs_same : (ms : List Moment) → length ms < k → AreScrubsCalm mark ms →
      AreScrubsCalm (moved_mark k from mark) ms
  scrubs_same [] l calm = tt
  scrubs_same (m ∷ ms) l calm = (
    λ scrub at. same_first k from mark m ms scrub.begun l (calm.0 scrub at),
    scrubs_same ms (omega arith) calm.1,
  )

-- what holds of a run behind the moved mark
pub record GoesOn (limit : ℕ) (mark : Mark) (start : State) (ms : List Moment) (from : ℕ) : Type 0 where
  pub marked : IsMarkedRun limit mark start ms
  pub scrubs : AreScrubsCalm mark ms
  pub moment : IsMark start ms from

module _ (limit : ℕ) (mark : Mark) (start : State) (base : List Moment) (from : ℕ) (qs : List ℕ)
    (h : IsMarkedRun limit mark start base) (calm_scrubs : AreScrubsCalm mark base)
    (new : IsMark start base from) (none : NoneRuns Relies (now start base))
    (none_sweeps : NoScrub (now start base))
    (named : (later : List Moment) → DamagesOnly qs later → (j : ℕ) →
    is_replaced_since from j (later ++ base) ≡ true → In j qs) where
  next : Mark
  next = moved_mark (length base) from mark

  -- at the moment itself
  scrubs_first : (xs : List Moment) → xs ≡ base → NoScrub (now start xs) → AreScrubsCalm mark xs →
      AreScrubsCalm next xs
  unfolding next
  scrubs_first [] is free calm = tt
  scrubs_first (m ∷ xs) is free calm = (
    λ scrub at. absurd (free scrub at),
    scrubs_same (length base) from mark xs (subst (λ hs. length xs < length hs) is (omega arith)) calm.1,
  )

  first : GoesOn limit next start base from
  unfolding next
  first = record {
    marked = moved_now limit mark start base from h new none;
    scrubs = scrubs_first base refl none_sweeps calm_scrubs;
    moment = new;
  }

  -- one event more
  few_on : (m : Moment) (later : List Moment) (begun : ℕ) → length base ≤ begun →
      DamagesOnly qs (m ∷ later) → AreFew qs m.state →
      replaced_count m.state (next (first_moments begun (m ∷ (later ++ base)))) (m ∷ (later ++ base))
      ≤ (setup_in m.state).b
  unfolding next
  few_on m later begun late only few = (let all = m ∷ (later ++ base) in
      let n = no_fewer later base in
      let is = moved (length base) from mark (first_moments begun all)
      (first_enough (length base) begun all late (omega arith)) in
      subst (λ f. replaced_count m.state f all ≤ (setup_in m.state).b) (sym is)
      (few_now m.state qs from all few (λ j r. named (m ∷ later) only j r)))

  -- each later moment
  goes_on : (later : List Moment) → IsRun limit start (later ++ base) → DamagesOnly qs later →
      AreFew qs (now start (later ++ base)) → GoesOn limit next start (later ++ base) from
  unfolding next
  goes_on [] run only few = first
  goes_on (m ∷ later) run only few = (let all = later ++ base in
      let p = goes_on later run.2 only.1 (few_before limit start m all qs h.clean run few) in
      let moment = mark_stays limit next start m all p.marked p.scrubs run from p.moment in
      let n = no_fewer later base in record {
        marked = record {
          clean = h.clean;
          tell = h.tell;
          run = run;
          calm = (
            λ number job runs reads. few_on m later job.begun
                (begun_later Relies limit start (m ∷ later) base run none number job runs reads) only few,
            p.marked.calm,
          );
          marks = (
            subst (IsMark start (m ∷ all)) (sym (moved (length base) from mark (m ∷ all) (omega arith))) moment,
            p.marked.marks,
          );
        };
        scrubs = (
          λ scrub at. few_on m later scrub.begun
              (scrub_later limit start h.clean (m ∷ later) base run none_sweeps scrub at) only few,
          p.scrubs,
        );
        moment = moment;
      })

-- since a mark no provider is wrong that was not replaced
pub mark_right : (limit : ℕ) (start : State) (ms : List Moment) (from : ℕ) (qs : List ℕ) → AllTell start →
    IsRun limit start ms → IsMark start ms from →
    ((j : ℕ) → is_replaced_since from j ms ≡ true → In j qs) → AreRightBut qs (now start ms)
mark_right limit start ms from qs tell run M named name file j stripe stands l k none =
    by_told ((now start ms).providers j).held refl (all_tell limit start ms tell run j)
  where
    Found : Type 0
    Found = (block : Option (List ℕ)) × (told_block (now start ms) j file.id stripe ≡ Some block)
        × (is_wrong_block (file_object (now start ms) file) ((now start ms).bytes file.id) j stripe block ≡ false)

    right : (block : Option (List ℕ)) → told_block (now start ms) j file.id stripe ≡ Some block → Found
    right block told = elim (cases_Bool
        (is_wrong_block (file_object (now start ms) file) ((now start ms).bytes file.id) j stripe block)) [
          | inl wrong ↦ elim (M.clear name file j stripe stands l k (block, told, wrong)) [
            | inl replaced ↦ absurd (none (named j replaced))
            | inr never ↦ absurd never
          ]
          | inr fine ↦ (block, told, fine)
        ]

    by_told : (x : Option Held) → ((now start ms).providers j).held ≡ x → IsSome x → Found
    by_told None is some = absurd (false≢true some)
    by_told (Some held) is some = right (held file.id stripe) (ap (option_map (λ (y : Held). y file.id stripe)) is)

-- behind the end of a repair no scrub runs
repair_over : (limit : ℕ) (start : State) (r rb : Moment) (repairing older : List Moment) (k number : ℕ) →
    IsStart start → IsRun limit start (r ∷ (repairing ++ rb ∷ older)) → rb.event ≡ Begin RepairJob →
    rb.outcome ≡ Begun k → NoneBegan k repairing → r.event ≡ Step k → r.outcome ≡ Ended (Repaired number) →
    NoScrub r.state
repair_over limit start r rb repairing older k number clean run begins begun none step over = λ scrub at.
    (let ms = repairing ++ rb ∷ older in
    let y = ended_of_kind limit start repairing older r rb RepairJob k (Repaired number) clean run (inl begins)
    begun none step over in
    elim (scrub_was limit start r ms clean run scrub at) [
      | Scrub_is.kept was beside ↦
          found_none (now start ms).jobs k y.0 (lone limit start clean ms run.2 (Scrubbing scrub) was) y.1
      | Scrub_is.begun event is alone is_open unbarred beside ↦
          (let e : Step k ≡ BeginScrub = sym step ∙ event in cc)
      | Scrub_is.went other was goes beside ↦
          found_none (now start ms).jobs k y.0 (lone limit start clean ms run.2 (Scrubbing other) was) y.1
    ])

repair_alone : (limit : ℕ) (start : State) (older ms : List Moment) → IsStart start → IsRun limit start ms →
    IsMended older ms → NoScrub (now start ms)
repair_alone limit start older ms clean run M = subst (λ hs. NoScrub (now start hs)) (sym M.split)
    (repair_over limit start M.repair_end M.repair_begin M.repairing
    (M.between ++ M.audit_end ∷ (M.auditing ++ M.audit_begin ∷ older)) M.repair M.number clean
    (subst (IsRun limit start) M.split run) M.repair_event M.repair_begun M.none_repair M.repair_step M.repaired)

-- behind an audit and its repair, in a calm run in which no audit missed damage
module _ (limit : ℕ) (start : State) (later recent older : List Moment) (qs : List ℕ)
    (h : IsCalmRun limit start (recent ++ older)) (M : IsMended older (recent ++ older))
    (over : NoneUnderWay Relies (recent ++ older)) (run : IsRun limit start (later ++ (recent ++ older)))
    (only : DamagesOnly qs (later ++ recent)) where
  named : (hs : List Moment) → DamagesOnly qs hs → (j : ℕ) →
      is_replaced_since (length older) j (hs ++ (recent ++ older)) ≡ true → In j qs
  named hs fresh j r = among_since qs (hs ++ recent) older (length older) j (omega arith)
      (both_only qs hs recent fresh (parts_only qs later recent only).1)
      (subst (λ all. is_replaced_since (length older) j all ≡ true) (sym (append_assoc hs recent older)) r)

  pub mended_on : length qs ≤ (setup_in (now start (later ++ (recent ++ older)))).b →
      GoesOn limit (moved_mark (length (recent ++ older)) (length older) (since start)) start
      (later ++ (recent ++ older)) (length older)
  unfolding next
  mended_on few = goes_on limit (since start) start (recent ++ older) (length older) qs
      (calm_marked limit start (recent ++ older) h) h.scrubs
      (mended_mark limit start older (recent ++ older) h M)
      (none_under_way Relies limit start h.clean (recent ++ older) over h.run)
      (repair_alone limit start older (recent ++ older) h.clean h.run M) named later run
      (parts_only qs later recent only).0 (inr few)

  pub mended_right : length qs ≤ (setup_in (now start (later ++ (recent ++ older)))).b →
      AreRightBut qs (now start (later ++ (recent ++ older)))
  mended_right few = mark_right limit start (later ++ (recent ++ older)) (length older) qs h.tell run
      (mended_on few).moment (named later (parts_only qs later recent only).0)

-- ---- up to a moment

marks_back : (mark : Mark) (start : State) (later ms : List Moment) → AreMarks mark start (later ++ ms) →
    AreMarks mark start ms
marks_back mark start [] ms marks = marks
marks_back mark start (m ∷ later) ms marks = marks_back mark start later ms marks.1

-- a run that is calm by a mark is so up to each moment
pub marked_back : (limit : ℕ) (mark : Mark) (start : State) (later ms : List Moment) →
    IsMarkedRun limit mark start (later ++ ms) → IsMarkedRun limit mark start ms
marked_back limit mark start later ms h = record {
  clean = h.clean;
  tell = h.tell;
  run = run_back limit start later ms h.run;
  calm = calm_back relies mark later ms h.calm;
  marks = marks_back mark start later ms h.marks;
}

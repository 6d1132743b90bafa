-- How a repair ends in a run that is calm by a mark.
use Rattle.outcome_laws.proofs.Words.{◌≡◌, ℕ, ◌<◌, Bool, true, false, List, ◌∷◌, ◌++◌, length, Option, Some, None, refl, ap, sym, subst, ◌∙◌, inl, LosesRow, Due, due_of, Kind, PutJob, GetJob, DropJob, AuditJob, RepairJob, UpgradeJob, Job, job_of, Action, WriteBody, SyncBody, WriteGate, SyncGate, Store, Fetch, Ask, Work, Remove, End, Answer, Event, Begin, Step, Outcome, Begun, Ended, Append, Alone, worked_object, blocks_given, Moves, Ends, next_action, holder_of, Acts, ActsOrWaits, StepsOn, StepsJob, StepsOne, StepsOpen, Steps, Happens, Mark, relies, NoneBegan, EndsSo, IsLone, first_behind, all, job_ends_so, ended_of_kind, event_end, RoseSince, IsMarkedRun, run_onward, begin_of, rose_on, calm_now, marked_facts, EndsRepair}
use Rattle.machine_defs.specs.Answers as answer
use Rattle.machine_defs.specs.States.{State, setup_in}
use Rattle.machine_defs.specs.Runs.{Moment, now, first_moments}
use Rattle.second_half_laws.proofs.GetEnds.{none_beside}
use Rattle.outcome_laws.proofs.Begun.{as_begun}
use Rattle.outcome_laws.proofs.LostRepairs.{count_rose}

-- ---- a step that ends a job as lost is its work, which lost the row

module _ (old : State) (job : Job) (new : State) (stripe row : ℕ) where
  abbrev WorkLost : Type 0
  WorkLost = (o : ℕ) × (next_action old job ≡ Some (Work o stripe))
      × LosesRow (worked_object old job o) stripe (blocks_given job.given (setup_in old).n o stripe) row

  moves_not : (action : Action) (flight : Option Append) →
      Moves old job action flight (Ended (answer.Lost stripe row)) new → ⊥
  moves_not WriteBody flight h = h
  moves_not SyncBody (Some a) h = h
  moves_not WriteGate (Some a) h = h
  moves_not SyncGate (Some a) h = h
  moves_not action flight h = absurd h

  ends_not : (kind : Kind) → Ends old job kind (answer.Lost stripe row) → ⊥
  ends_not (PutJob name bytes) h = h
  ends_not (GetJob name) h = h
  ends_not (DropJob name) h = h
  ends_not AuditJob h = h
  ends_not RepairJob h = h
  ends_not UpgradeJob h = h

  acts_lost : (action : Action) → next_action old job ≡ Some action →
      Acts old job action (Ended (answer.Lost stripe row)) new → WorkLost
  acts_lost (Work o s) next_is (is, lost, same) = (
    o,
    next_is ∙ ap (λ n. Some (Work o n)) (sym is),
    subst (λ n. LosesRow (worked_object old job o) n (blocks_given job.given (setup_in old).n o n) row)
        (sym is) lost,
  )
  acts_lost End next_is h = absurd (ends_not job.kind h.0)
  acts_lost WriteBody next_is h = absurd (moves_not WriteBody old.append h)
  acts_lost SyncBody next_is h = absurd (moves_not SyncBody old.append h)
  acts_lost WriteGate next_is h = absurd (moves_not WriteGate old.append h)
  acts_lost SyncGate next_is h = absurd (moves_not SyncGate old.append h)
  acts_lost (Store i o s) next_is h = absurd h
  acts_lost (Fetch i o s) next_is h = absurd h
  acts_lost (Ask i o s) next_is h = absurd h
  acts_lost (Remove i o) next_is h = absurd h

  waits_lost : (action : Action) (holder : Option ℕ) → next_action old job ≡ Some action →
      ActsOrWaits old job action holder (Ended (answer.Lost stripe row)) new → WorkLost
  waits_lost action None next_is h = acts_lost action next_is h
  waits_lost action (Some n) next_is h = absurd h

  on_lost : (action : Option Action) → next_action old job ≡ action →
      StepsOn old job action (Ended (answer.Lost stripe row)) new → WorkLost
  on_lost None is h = absurd h
  on_lost (Some action) is h = waits_lost action (holder_of old.append action) is h

  job_lost : (found : Option Job) → found ≡ Some job →
      StepsJob old found (Ended (answer.Lost stripe row)) new → WorkLost
  job_lost None is h = absurd h
  job_lost (Some x) is h = on_lost (next_action old job) refl
      (subst (λ (y : Job). StepsOn old y (next_action old y) (Ended (answer.Lost stripe row)) new)
      (let e : x ≡ job = cc in e) h)

  open_lost : (is_barred : Bool) → IsLone old → job_of old.jobs job.number ≡ Some job →
      StepsOpen old job.number is_barred (Ended (answer.Lost stripe row)) new → WorkLost
  open_lost true lone runs h = absurd h
  open_lost false lone runs h = job_lost (job_of old.jobs job.number) runs
      (subst (λ (x : Option Alone). StepsOne old job.number x (Ended (answer.Lost stripe row)) new)
      (none_beside old job.number job lone runs) h)

  step_lost : (is_open : Bool) → IsLone old → job_of old.jobs job.number ≡ Some job →
      Steps old job.number is_open (Ended (answer.Lost stripe row)) new → WorkLost
  step_lost true lone runs h = open_lost old.is_barred lone runs h
  step_lost false lone runs h = absurd h

-- ---- a repair

module _ (limit : ℕ) (mark : Mark) (start : State) (m : Moment) (ms : List Moment)
    (h : IsMarkedRun limit mark start (m ∷ ms)) (job : Job)
    (runs : job_of (now start ms).jobs job.number ≡ Some job) (kind : job.kind ≡ RepairJob)
    (event : m.event ≡ Step job.number) where
  -- it is lost only where a provider's count rose since its begin
  lost_by : (stripe row : ℕ) → m.outcome ≡ Ended (answer.Lost stripe row) →
      (i : ℕ) × (i < (setup_in (now start ms)).n) × RoseSince (begin_of start ms job) m.state i
  lost_by stripe row outcome = (let w = step_lost (now start ms) job m.state stripe row (now start ms).is_open
      (all limit start h.clean ms h.run.2).numbers.idle.lone runs (subst
      (λ (x : Event). Happens limit (length ms) (now start ms) x (Ended (answer.Lost stripe row)) m.state)
      event (subst (λ (r : Outcome). Happens limit (length ms) (now start ms) m.event r m.state) outcome
      h.run.1)) in
      let r = count_rose limit mark start ms h.clean h.run.2
      (marked_facts limit mark start h.clean h.tell ms h.run.2 h.calm.1 h.marks.1)
      (calm_now mark start h.clean ms h.calm.1) job runs (ap relies kind) w.0 stripe row w.1 w.2 in
      (r.0, r.1, rose_on _ _ _ r.2 ((run_onward limit start m ms h.run).provider r.0).others))

  -- it says the number of the audit that was due
  due_at : (number : ℕ) → m.outcome ≡ Ended (answer.Repaired number) →
      (u : Due) × (due_of (begin_of start ms job).records ≡ Some u) × (number ≡ u.number)
  due_at number outcome = (let e = event_end limit (length ms) (now start ms) m.event m.outcome m.state job
      (answer.Repaired number) (λ z. z) event outcome runs h.run.1 in
      let is : number ≡ job.subject =
      subst (λ kd. Ends (now start ms) job kd (answer.Repaired number)) kind e.1 in
      let d = (as_begun limit start h.clean ms h.run.2 job.number job runs).due kind in
      (d.0, d.1, is ∙ d.2))

  repair_ends : (how : Answer) → m.outcome ≡ Ended how → EndsSo (now start ms) m.state RepairJob how →
      EndsRepair (begin_of start ms job) (now start ms) m.state how
  repair_ends (answer.Repaired number) outcome so = due_at number outcome
  repair_ends (answer.Lost stripe row) outcome so = lost_by stripe row outcome
  repair_ends (answer.ProviderFault j) outcome so = so
  repair_ends answer.DiskFault outcome so = so
  repair_ends answer.Memory outcome so = tt
  repair_ends how outcome so = absurd so

-- so a repair ends, told by events
pub repairs_end : (limit : ℕ) (mark : Mark) (start : State) (between older : List Moment) (m b : Moment)
    (number : ℕ) (how : Answer) → IsMarkedRun limit mark start (m ∷ (between ++ b ∷ older)) →
    b.event ≡ Begin RepairJob → b.outcome ≡ Begun number → NoneBegan number between →
    m.event ≡ Step number → m.outcome ≡ Ended how →
    EndsRepair (now start older) (now start (between ++ b ∷ older)) m.state how
repairs_end limit mark start between older m b number how h on begun none event outcome =
    (let ms = between ++ b ∷ older in
    let q = ended_of_kind limit start between older m b RepairJob number how h.clean h.run (inl on) begun none
    event outcome in
    let job = q.0 in
    let runs : job_of (now start ms).jobs job.number ≡ Some job = ap (job_of (now start ms).jobs) q.2 ∙ q.1 in
    let first : first_moments job.begun ms ≡ older = ap (λ n. first_moments n ms) q.4
    ∙ first_behind between b older in
    subst (λ hs. EndsRepair (now start hs) (now start ms) m.state how) first
    (repair_ends limit mark start m ms h job runs q.3 (event ∙ ap Step (sym q.2)) how outcome
    (subst (λ kd. EndsSo (now start ms) m.state kd how) q.3
    (job_ends_so limit start m ms number job how h.clean h.run q.1 event outcome))))

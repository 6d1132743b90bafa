-- A scrub that was begun and ended, told by events and outcomes.
use Rattle.epoch_laws.proofs.Words.{◌≡◌, ℕ, zero, suc, ◌≤◌, ◌==◌, Bool, true, false, List, [], ◌∷◌, ◌++◌, length, Option, Some, None, refl, ap, sym, subst, ◌∙◌, arith, eqb-true, some-not-none, Kind, PutJob, GetJob, DropJob, AuditJob, RepairJob, UpgradeJob, Job, job_of, Event, BeginScrub, Step, Outcome, Closed, Refused, Begun, Ended, State, Scrub, Pack, Alone, Scrubbing, Packing, IsStart, NoneBegan, Moment, now, IsRun, mark_scrubbed, scrubbed, Scrub_goes, Scrub_is, scrub_was, IsSwept}
use Rattle.machine_defs.specs.Actions.{Action, End}
use Rattle.machine_defs.specs.Answers.{Scrubbed}
use Rattle.machine_defs.specs.Alone.{number_alone, unalone, Scrubs, StepsScrub, Packs, new_scrub, BeginsScrub, BeginsAlone, alone_refusal}
use Rattle.machine_defs.specs.JobEnds.{EndsSo}
use Rattle.machine_defs.specs.Machine.{Happens}
use Rattle.machine_defs.specs.Refusals.{Refusal}
use Rattle.machine_defs.specs.Steps.{StepsJob, StepsMine, StepsOne, StepsOpen, Steps}
use Rattle.machine_defs.proofs.Changes.{IsLone}
use Rattle.machine_defs.proofs.JobEnds.{job_ends_so}
use Rattle.machine_defs.proofs.Numbers.{objects}
use Rattle.machine_defs.proofs.Numbers as num

-- no scrub runs
abbrev pub NoScrub : State → Type 0
NoScrub w = (scrub : Scrub) → w.alone ≡ Some (Scrubbing scrub) → ⊥

pub lone : (limit : ℕ) (start : State) → IsStart start → (ms : List Moment) → IsRun limit start ms →
    IsLone (now start ms)
lone limit start clean ms run = (num.facts objects limit start clean ms run).idle.lone

-- ---- the begin

-- what a scrub keeps from its begin on
same_scrub : (old new : State) (scrub next : Scrub) → Scrub_goes old new scrub next →
    (next.begun ≡ scrub.begun) × (next.number ≡ scrub.number) × (next.files ≡ scrub.files)
same_scrub old new scrub next (Scrub_goes.stored i o s rest todo is told) =
    (ap (λ (x : Scrub). x.begun) is, ap (λ (x : Scrub). x.number) is, ap (λ (x : Scrub). x.files) is)
same_scrub old new scrub next (Scrub_goes.fetched i o s rest block todo is gives) =
    (ap (λ (x : Scrub). x.begun) is, ap (λ (x : Scrub). x.number) is, ap (λ (x : Scrub). x.files) is)
same_scrub old new scrub next (Scrub_goes.worked o s rest symbols todo gives is) =
    (ap (λ (x : Scrub). x.begun) is, ap (λ (x : Scrub). x.number) is, ap (λ (x : Scrub). x.files) is)

-- a begin of a scrub behind which one runs, and before which none did, has come to its number
begin_told : (old : State) (moment : ℕ) (r : Outcome) (new : State) (next : Scrub) →
    BeginsScrub moment old r new → old.alone ≡ None → new.alone ≡ Some (Scrubbing next) →
    r ≡ Begun old.next_job
begin_told old moment r new next h none at = by_outcome (alone_refusal old []) r h
  where
    none_still : new ≡ old → ⊥
    none_still is = some-not-none new.alone (Scrubbing next) at (ap (λ (w : State). w.alone) is ∙ none)

    by_outcome : (why : Option Refusal) (r : Outcome) →
        BeginsAlone old why (Scrubbing (new_scrub old moment)) r new → r ≡ Begun old.next_job
    by_outcome why Closed h = absurd (none_still h.1)
    by_outcome why (Refused refused) h = absurd (none_still h.2)
    by_outcome why (Begun job) h = ap Begun h.2
    by_outcome why r h = absurd h

scrub_of : (x y : Scrub) → Some (Scrubbing x) ≡ Some (Scrubbing y) → x ≡ y
scrub_of x y is = cc

-- moments in front of others make no fewer
pub no_fewer : (later base : List Moment) → length base ≤ length (later ++ base)
no_fewer [] base = omega arith
no_fewer (m ∷ later) base = (let l = no_fewer later base in omega arith)

module _ (limit : ℕ) (start : State) (clean : IsStart start) where
  begun_told : (m : Moment) (ms : List Moment) (next : Scrub) → IsRun limit start (m ∷ ms) →
      m.event ≡ BeginScrub → next ≡ new_scrub (now start ms) (length ms) → (now start ms).alone ≡ None →
      m.state.alone ≡ Some (Scrubbing next) → m.outcome ≡ Begun next.number
  begun_told m ms next run event is none at =
      begin_told (now start ms) (length ms) m.outcome m.state next
      (subst (λ (e : Event). Happens limit (length ms) (now start ms) e m.outcome m.state) event run.1) none at
      ∙ ap Begun (sym (ap (λ (x : Scrub). x.number) is))

  -- behind the begin of a scrub, and no later one of its number, a scrub of the number is the one begun there
  begun_there : (gaps older : List Moment) (b : Moment) (k : ℕ) → IsRun limit start (gaps ++ b ∷ older) →
      b.event ≡ BeginScrub → b.outcome ≡ Begun k → NoneBegan k gaps → (scrub : Scrub) →
      (now start (gaps ++ b ∷ older)).alone ≡ Some (Scrubbing scrub) → scrub.number ≡ k →
      scrub.begun ≡ length older
  begun_there [] older b k run event begun none scrub at number =
      (let h = subst (λ (r : Outcome). Happens limit (length older) (now start older) BeginScrub r b.state) begun
      (subst (λ (e : Event). Happens limit (length older) (now start older) e b.outcome b.state) event run.1) in
      ap (λ (x : Scrub). x.begun) (scrub_of scrub (new_scrub (now start older) (length older))
      (sym at ∙ ap (λ (w : State). w.alone) h.3)))
  begun_there (m ∷ gaps) older b k run event begun none scrub at number =
      elim (scrub_was limit start m (gaps ++ b ∷ older) clean run scrub at) [
        | Scrub_is.kept was beside ↦ begun_there gaps older b k run.2 event begun none.1 scrub was number
        | Scrub_is.begun again is alone is_open unbarred beside ↦
            absurd (none.0 (begun_told m (gaps ++ b ∷ older) scrub run again is alone at ∙ ap Begun number))
        | Scrub_is.went other was goes beside ↦
            (let same = same_scrub (now start (gaps ++ b ∷ older)) m.state other scrub goes in
            same.0 ∙ begun_there gaps older b k run.2 event begun none.1 other was (sym same.1 ∙ number))
      ]

  -- a scrub that runs behind a moment at which none did began there or later
  pub scrub_later : (later base : List Moment) → IsRun limit start (later ++ base) →
      NoScrub (now start base) → (scrub : Scrub) →
      (now start (later ++ base)).alone ≡ Some (Scrubbing scrub) → length base ≤ scrub.begun
  scrub_later [] base run none scrub at = absurd (none scrub at)
  scrub_later (m ∷ later) base run none scrub at =
      elim (scrub_was limit start m (later ++ base) clean run scrub at) [
        | Scrub_is.kept was beside ↦ scrub_later later base run.2 none scrub was
        | Scrub_is.begun event is alone is_open unbarred beside ↦ (let l = no_fewer later base in
            let e : scrub.begun ≡ length (later ++ base) = ap (λ (x : Scrub). x.begun) is in omega arith)
        | Scrub_is.went other was goes beside ↦
            (let same = (same_scrub (now start (later ++ base)) m.state other scrub goes).0 in
            let l = scrub_later later base run.2 none other was in omega arith)
      ]

-- ---- the end

module _ (old new : State) (k a : ℕ) (xs ys : List ℕ) where
  scrubs : (scrub : Scrub) (action : Action) (rest : List Action) →
      Scrubs old scrub action rest (Ended (Scrubbed a xs ys)) new → new ≡ unalone old
  scrubs scrub End rest h = h.3
  scrubs scrub action rest h = absurd h

  steps_scrub : (scrub : Scrub) (todo : List Action) → StepsScrub old scrub todo (Ended (Scrubbed a xs ys)) new →
      new ≡ unalone old
  steps_scrub scrub [] h = absurd h
  steps_scrub scrub (action ∷ rest) h = scrubs scrub action rest h

  packs : (pack : Pack) (moves : ℕ) → Packs old pack moves (Ended (Scrubbed a xs ys)) new → ⊥
  packs pack (suc (suc (suc (suc zero)))) h = h
  packs pack moves h = h

  -- a job of no kind ends so
  no_kind : (kind : Kind) → EndsSo old new kind (Scrubbed a xs ys) → ⊥
  no_kind (PutJob name bytes) h = h
  no_kind kind h = h

  -- a scrub of the number ran, and runs no more
  abbrev pub EndsScrub : Type 0
  EndsScrub = (scrub : Scrub) × (old.alone ≡ Some (Scrubbing scrub)) × (scrub.number ≡ k)
      × (new ≡ unalone old)

  module _ (no_job : (job : Job) → job_of old.jobs k ≡ Some job → ⊥) where
    of_job : (job : Option Job) → job_of old.jobs k ≡ job → StepsJob old job (Ended (Scrubbed a xs ys)) new →
        EndsScrub
    of_job None is h = absurd h
    of_job (Some job) is h = absurd (no_job job is)

    mine : (x : Alone) (own : Bool) → old.alone ≡ Some x → (number_alone x == k) ≡ own →
        StepsMine old k x own (Ended (Scrubbed a xs ys)) new → EndsScrub
    mine (Scrubbing scrub) true at is h =
        (scrub, at, eqb-true scrub.number k is, steps_scrub scrub scrub.todo h)
    mine (Packing pack) true at is h = absurd (packs pack pack.moves h)
    mine x false at is h = of_job (job_of old.jobs k) refl h

    one : (x : Option Alone) → old.alone ≡ x → StepsOne old k x (Ended (Scrubbed a xs ys)) new → EndsScrub
    one None at h = of_job (job_of old.jobs k) refl h
    one (Some x) at h = mine x (number_alone x == k) at refl h

    unbarred : (is_barred : Bool) → StepsOpen old k is_barred (Ended (Scrubbed a xs ys)) new → EndsScrub
    unbarred true h = absurd h
    unbarred false h = one old.alone refl h

    opened : (is_open : Bool) → Steps old k is_open (Ended (Scrubbed a xs ys)) new → EndsScrub
    opened true h = unbarred old.is_barred h
    opened false h = absurd h

-- a step that ended so ended a scrub of its number
ends_scrub : (limit : ℕ) (start : State) (m : Moment) (ms : List Moment) (k a : ℕ) (xs ys : List ℕ) →
    IsStart start → IsRun limit start (m ∷ ms) → m.event ≡ Step k → m.outcome ≡ Ended (Scrubbed a xs ys) →
    EndsScrub (now start ms) m.state k a xs ys
ends_scrub limit start m ms k a xs ys clean run event over = opened (now start ms) m.state k a xs ys
    (λ job runs. no_kind (now start ms) m.state k a xs ys job.kind
    (job_ends_so limit start m ms k job (Scrubbed a xs ys) clean run runs event over)) (now start ms).is_open
    (subst (λ (r : Outcome). Happens limit (length ms) (now start ms) (Step k) r m.state) over
    (subst (λ (e : Event). Happens limit (length ms) (now start ms) e m.outcome m.state) event run.1))

-- behind the end of a scrub the mark is its begin, and nothing runs
pub record IsOver (start : State) (older ms : List Moment) : Type 0 where
  pub mark : scrubbed start ms ≡ length older
  pub none : NoScrub (now start ms)
  pub idle : (now start ms).jobs ≡ []
  pub late : length older ≤ length ms

module _ (limit : ℕ) (start : State) (clean : IsStart start) where
  over : (end b : Moment) (sweeping older : List Moment) (k a : ℕ) (xs ys : List ℕ) →
      IsRun limit start (end ∷ (sweeping ++ b ∷ older)) → b.event ≡ BeginScrub → b.outcome ≡ Begun k →
      NoneBegan k sweeping → end.event ≡ Step k → end.outcome ≡ Ended (Scrubbed a xs ys) →
      IsOver start older (end ∷ (sweeping ++ b ∷ older))
  over end b sweeping older k a xs ys run begins begun none event ended = (let ms = sweeping ++ b ∷ older in
      let E = ends_scrub limit start end ms k a xs ys clean run event ended in record {
        mark = ap (λ r. mark_scrubbed (now start ms).alone r (scrubbed start ms)) ended
            ∙ (ap (λ x. mark_scrubbed x (Ended (Scrubbed a xs ys)) (scrubbed start ms)) E.1
            ∙ begun_there limit start clean sweeping older b k run.2 begins begun none E.0 E.1 E.2);
        none = λ scrub at. some_none scrub (sym at ∙ ap (λ (w : State). w.alone) E.3);
        idle = ap (λ (w : State). w.jobs) E.3 ∙ lone limit start clean ms run.2 (Scrubbing E.0) E.1;
        late = (let l = no_fewer sweeping (b ∷ older) in omega arith);
      })
    where
      some_none : (scrub : Scrub) → Some (Scrubbing scrub) ≡ None → ⊥
      some_none scrub is = some-not-none (Some (Scrubbing scrub)) (Scrubbing scrub) refl is

  pub is_over : (older ms : List Moment) → IsRun limit start ms → IsSwept older ms → IsOver start older ms
  is_over older ms run S = subst (IsOver start older) (sym S.split)
      (over S.end S.begin S.sweeping older S.number S.stripes S.symbols S.blocks
      (subst (IsRun limit start) S.split run) S.begin_event S.begun S.none S.end_event S.ended)

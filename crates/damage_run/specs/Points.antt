-- Places in the run at which the premises of the laws over runs are met.
--
--   at k ms                     == the state after the first k events
--   Runs w number kind place    == a job of this number and kind runs, and has come to this place in its
--                                  actions
--   InDoubt w entry             == a record is in doubt, and a job made it
--   IsEvent ms k event outcome  == event k is this one, with this outcome
--   EndsBy ms k number answer   == event k is a step that ends the job so
--   IsDamaged w j               == provider j is wrong for a file in effect
--   without_two stripe          == the own blocks of a stripe of the file, but for that of provider 2,
--                                  which is absent
--   HasPoints ms                == what runs, ends, is in doubt, takes effect and is wrong in the run, and
--                                  when
use Rattle.std.specs.Prelude.{◌≡◌, ℕ, suc, true, List, [], ◌∷◌, Some, None, is_some}
use Rattle.std.specs.Option.{option_map}
use Rattle.damage_run.specs.Words.{Record, PutDone, AuditDone, RepairDone, File, due_of, four, columns, SeenBlock, object_of, Kind, PutJob, GetJob, AuditJob, RepairJob, Job, job_of, Answer, Put, Got, Event, Step, Outcome, Ended, State, Doubt, file_in, Moment, now, first_moments, came, since, is_wrong_now, set_up}
pub use Rattle.damage_run.specs.Schedule.{name, byte}

-- the state after the first events
abbrev pub at : ℕ → List Moment → State
at k ms = now set_up (first_moments k ms)

-- a job runs
abbrev pub Runs : State → ℕ → Kind → ℕ → Type 0
Runs w number kind place = (option_map (λ (job : Job). job.kind) (job_of w.jobs number) ≡ Some kind)
    × (option_map (λ (job : Job). job.place) (job_of w.jobs number) ≡ Some place)

-- a record is in doubt
abbrev pub InDoubt : State → Record → Type 0
InDoubt w entry = (option_map (λ (d : Doubt). d.entry) w.doubt ≡ Some entry)
    × (option_map (λ (d : Doubt). is_some d.maker) w.doubt ≡ Some true)

-- an event, and what came of it
pub record IsEvent (ms : List Moment) (k : ℕ) (what : Event) (how : Outcome) : Type 0 where
  pub moment : Moment
  pub is : first_moments (suc k) ms ≡ moment ∷ first_moments k ms
  pub event : moment.event ≡ what
  pub outcome : moment.outcome ≡ how

-- an event is a step that ends a job
abbrev pub EndsBy : List Moment → ℕ → ℕ → Answer → Type 0
EndsBy ms k number answer = IsEvent ms k (Step number) (Ended answer)

-- a provider is wrong for a file in effect
abbrev pub IsDamaged : State → ℕ → Type 0
IsDamaged w j = option_map (λ (file : File). is_wrong_now w file j) (file_in w name) ≡ Some true

-- the own blocks of a stripe, but for that of provider 2
abbrev pub without_two : ℕ → List SeenBlock
without_two s = Some (columns (object_of four 1) byte 0 s) ∷ Some (columns (object_of four 1) byte 1 s) ∷ None
    ∷ Some (columns (object_of four 1) byte 3 s) ∷ []

-- the counts of the audit
abbrev pub counts : List ℕ
counts = 0 ∷ 0 ∷ 1 ∷ 0 ∷ []

-- what runs, ends, is in doubt, takes effect and is wrong in the run, and when
pub record HasPoints (ms : List Moment) : Type 0 where
  -- the put: past its stores, its end in doubt, in effect, and told
  pub put_runs : Runs (at 10 ms) 1 (PutJob name byte) 8
  pub put_in_doubt : InDoubt (at 13 ms) (PutDone 1 1)
  pub put_came : came (at 13 ms) (at 14 ms) ≡ Some (PutDone 1 1)
  pub put_ends : EndsBy ms 14 1 Put
  -- the first get: past its work, and at its end
  pub get_runs : Runs (at 24 ms) 2 (GetJob name) 5
  pub get_ends : EndsBy ms 24 2 (Got byte)
  -- the audit: past its asks, its end in doubt, and in effect; the damage that it is to find
  pub audit_runs : Runs (at 32 ms) 3 AuditJob 8
  pub audit_in_doubt : InDoubt (at 35 ms) (AuditDone 1 0 counts)
  pub audit_came : came (at 35 ms) (at 36 ms) ≡ Some (AuditDone 1 0 counts)
  pub damaged_before : IsDamaged (at 21 ms) 2
  pub damaged_in_audit : IsDamaged (at 32 ms) 2
  pub damaged_in_doubt : IsDamaged (at 35 ms) 2
  -- the repair: due, before its store, past it, its end in doubt, and in effect
  pub due : due_of (at 37 ms).records ≡ Some (record { number = 1; counts = counts })
  pub damaged_when_due : IsDamaged (at 37 ms) 2
  pub repair_runs : Runs (at 43 ms) 4 RepairJob 5
  pub damaged_in_repair : IsDamaged (at 43 ms) 2
  pub repair_stored : Runs (at 44 ms) 4 RepairJob 6
  pub repair_in_doubt : InDoubt (at 47 ms) (RepairDone 1)
  pub repair_came : came (at 47 ms) (at 48 ms) ≡ Some (RepairDone 1)
  -- then the begin of the audit is the mark; the second damage, and the second get
  pub mark_before : since set_up (first_moments 47 ms) ≡ 0
  pub mark_after : since set_up (first_moments 48 ms) ≡ 21
  pub damaged_again : IsDamaged (at 51 ms) 0
  pub second_ends : EndsBy ms 56 5 (Got byte)

-- How a step ends a job, by its kind.
use Rattle.machine_defs.proofs.Words.{◌≡◌, refl, ap, sym, subst, ◌∙◌, eq-eqb, Rose, Provider, FailsToStore, Kind, PutJob, GetJob, DropJob, AuditJob, RepairJob, UpgradeJob, Job, job_of, Action, WriteBody, SyncBody, WriteGate, SyncGate, Store, Work, End, Answer, Step, Outcome, Ended, State, Append, IsStart, ProviderCall, Moves, Ends, Acts, Steps, Happens, Moment, now, IsRun, IsBeginOfKind, NoneBegan, Begun}
use Rattle.std.proofs.Common.{ℕ, ◌==◌, List, ◌∷◌, ◌++◌, length, Option, Some}
use Rattle.machine_defs.specs.Answers as answer
use Rattle.machine_defs.specs.States.{ended}
use Rattle.machine_defs.specs.JobEnds.{StoreRose, EndsSo}
use Rattle.machine_defs.proofs.JobLists.{cond_true, found_none, number_of}
use Rattle.machine_defs.proofs.Fair.{IsFair, is_fair}
use Rattle.machine_defs.proofs.Numbers.{objects}
use Rattle.machine_defs.proofs.Numbers as num
use Rattle.machine_defs.proofs.Lone.{ended_of_kind}
use Rattle.machine_defs.proofs.StepEnds.{by_end}

-- a move of an append
abbrev IsMove : Action → Type 0
IsMove SyncBody = Unit {0}
IsMove WriteGate = Unit {0}
IsMove SyncGate = Unit {0}
IsMove action = ⊥

-- a job that makes a later move of an append makes a first one
appends : (job : Job) (kind : Kind) (action : Action) → IsMove action → IsFair job kind action →
    IsFair job kind WriteBody
appends job (GetJob name) SyncBody move fair = fair
appends job (GetJob name) WriteGate move fair = fair
appends job (GetJob name) SyncGate move fair = fair
appends job (GetJob name) action move fair = absurd move
appends job kind action move fair = tt

module _ (old new : State) where
  -- a job that makes moves may end so by a failed disk, or by want of memory
  disk_so : (kind : Kind) (job : Job) → IsFair job kind WriteBody → Rose old.disk_faults new.disk_faults →
      EndsSo old new kind answer.DiskFault
  disk_so (GetJob name) job fair rose = absurd fair
  disk_so kind job fair rose = rose

  memory_so : (kind : Kind) (job : Job) → IsFair job kind WriteBody → EndsSo old new kind answer.Memory
  memory_so (GetJob name) job fair = absurd fair
  memory_so kind job fair = tt

  rose_in : (faults : ℕ) → Rose old.disk_faults faults → new.disk_faults ≡ faults →
      Rose old.disk_faults new.disk_faults
  rose_in faults rose is = subst (Rose old.disk_faults) (sym is) rose

  moves_so : (kind : Kind) (job : Job) (action : Action) (flight : Option Append) (how : Answer) →
      IsFair job kind WriteBody → Moves old job action flight (Ended how) new → EndsSo old new kind how
  moves_so kind job WriteBody flight answer.DiskFault fair (faults, low, rose, is) =
      disk_so kind job fair (rose_in faults rose (ap (λ (w : State). w.disk_faults) is))
  moves_so kind job WriteBody flight answer.Memory fair h = memory_so kind job fair
  moves_so kind job SyncBody (Some a) answer.DiskFault fair (at, (faults, low, rose, is)) =
      disk_so kind job fair (rose_in faults rose (ap (λ (w : State). w.disk_faults) is))
  moves_so kind job WriteGate (Some a) answer.DiskFault fair (at, (faults, low, rose, is)) =
      disk_so kind job fair (rose_in faults rose (ap (λ (w : State). w.disk_faults) is))
  moves_so kind job WriteGate (Some a) answer.Memory fair h = memory_so kind job fair
  moves_so kind job SyncGate (Some a) answer.DiskFault fair (at, (faults, low, rose, is)) =
      disk_so kind job fair (rose_in faults rose (ap (λ (w : State). w.disk_faults) is))
  moves_so kind job action flight how fair h = absurd h

  store_rose : (j : ℕ) (left : State) → ProviderCall old j FailsToStore left new → StoreRose old new j
  store_rose j left (p, call, is) = subst (Rose (old.providers j).store_faults)
      (sym (ap (λ (w : State). (w.providers j).store_faults) is
      ∙ ap (λ (q : Provider). q.store_faults) (cond_true (j == j) p (old.providers j) (eq-eqb j j refl)))) call.cause

  store_so : (kind : Kind) (job : Job) (i o s j : ℕ) → IsFair job kind (Store i o s) → StoreRose old new j →
      EndsSo old new kind (answer.ProviderFault j)
  store_so (PutJob name bytes) job i o s j fair rose = rose
  store_so RepairJob job i o s j fair rose = rose
  store_so kind job i o s j fair rose = absurd fair

  store_memory : (kind : Kind) (job : Job) (i o s : ℕ) → IsFair job kind (Store i o s) →
      EndsSo old new kind answer.Memory
  store_memory (PutJob name bytes) job i o s fair = tt
  store_memory RepairJob job i o s fair = tt
  store_memory kind job i o s fair = absurd fair

  work_so : (kind : Kind) (job : Job) (o s stripe row : ℕ) → IsFair job kind (Work o s) →
      EndsSo old new kind (answer.Lost stripe row)
  work_so (GetJob name) job o s stripe row fair = tt
  work_so RepairJob job o s stripe row fair = tt
  work_so kind job o s stripe row fair = absurd fair

  end_so : (job : Job) (kind : Kind) (how : Answer) → Ends old job kind how → EndsSo old new kind how
  end_so job (PutJob name bytes) answer.Put h = tt
  end_so job (GetJob name) (answer.Got bytes) h = tt
  end_so job (DropJob name) answer.Dropped h = tt
  end_so job AuditJob (answer.Audited number undecided counts) h = tt
  end_so job RepairJob (answer.Repaired number) h = tt
  end_so job UpgradeJob answer.Upgraded h = tt
  end_so job kind how h = absurd h

  acts_so : (job : Job) (action : Action) (how : Answer) → IsFair job job.kind action →
      Acts old job action (Ended how) new → EndsSo old new job.kind how
  acts_so job (Store j o s) (answer.ProviderFault k) fair (k_is, call) =
      subst (λ i. EndsSo old new job.kind (answer.ProviderFault i)) (sym k_is)
      (store_so job.kind job j o s j fair (store_rose j (ended old job) call))
  acts_so job (Store j o s) answer.Memory fair h = store_memory job.kind job j o s fair
  acts_so job (Work o s) (answer.Lost t row) fair h = work_so job.kind job o s t row fair
  acts_so job End how fair h = end_so job job.kind how h.0
  acts_so job WriteBody how fair h = moves_so job.kind job WriteBody old.append how fair h
  acts_so job SyncBody how fair h =
      moves_so job.kind job SyncBody old.append how (appends job job.kind SyncBody tt fair) h
  acts_so job WriteGate how fair h =
      moves_so job.kind job WriteGate old.append how (appends job job.kind WriteGate tt fair) h
  acts_so job SyncGate how fair h =
      moves_so job.kind job SyncGate old.append how (appends job job.kind SyncGate tt fair) h
  acts_so job action how fair h = absurd h

-- a step that ends a job does so by its kind
pub job_ends_so : (limit : ℕ) (start : State) (m : Moment) (ms : List Moment) (k : ℕ) (job : Job)
    (how : Answer) → IsStart start → IsRun limit start (m ∷ ms) → job_of (now start ms).jobs k ≡ Some job →
    m.event ≡ Step k → m.outcome ≡ Ended how → EndsSo (now start ms) m.state job.kind how
job_ends_so limit start m ms k job how clean run runs event over = (let w = now start ms in
    let number = number_of w.jobs k job runs in
    by_end w job how m.state (EndsSo w m.state job.kind how) (ap (job_of w.jobs) number ∙ runs)
    (λ action next made. acts_so w m.state job action how (is_fair w job action next) made)
    (λ x at made. absurd
    (found_none w.jobs k job ((num.facts objects limit start clean ms run.2).idle.lone x at) runs))
    (subst (λ n. Steps w n w.is_open (Ended how) m.state) (sym number)
    (rw event at (subst (λ (o : Outcome). Happens limit (length ms) w m.event o m.state) over run.1))))

-- the same by the event that began it
pub begun_ends_so : (limit : ℕ) (start : State) (between older : List Moment) (m b : Moment) (kind : Kind)
    (k : ℕ) (how : Answer) → IsStart start → IsRun limit start (m ∷ (between ++ b ∷ older)) →
    IsBeginOfKind b.event kind → b.outcome ≡ Begun k → NoneBegan k between → m.event ≡ Step k →
    m.outcome ≡ Ended how → EndsSo (now start (between ++ b ∷ older)) m.state kind how
begun_ends_so limit start between older m b kind k how clean run on begun none event over =
    (let f = ended_of_kind limit start between older m b kind k how clean run on begun none event over in
    (rw f.3 at (job_ends_so limit start m (between ++ b ∷ older) k f.0 how clean run f.1 event over)))

-- What a job works with stays, over a move of its append.
--
--   IsMove action      == a move of an append
--   moved_on job x y   == the job after a move, with this number and these objects to take away
use Rattle.vault.proofs.Words.{◌≡◌, ℕ, ◌+◌, ◌<◌, ◌≤◌, ◌⊎◌, cond, List, [], ◌∷◌, drop, Some, refl, sym, ap, subst, inl, inr, arith, nat_lt, cases_Bool, ltb-true, ltb-false, sum_by-cons, Sums, Setup, WriteBody, SyncBody, WriteGate, SyncGate, End, actions_of, actions_by, actions_left, Kind, GetJob, AuditJob, RepairJob, Job, State, setup_in, next_action, next-left, AuditTask, RepairTask, Running, Task, Phase, Fetching, asks_left, is_ask, Round, JudgesEach, AsksOn, IsAudit, IsRepair, IsTask, IsRunning}
use Rattle.machine_defs.specs.Actions.{Action}
use Rattle.vault.specs.declared.tasks.Task.TheVariants as task
use Rattle.vault.specs.Orders.{GoesOn}
use Rattle.vault.proofs.Allowed.{IsAllowed, next_allowed}

-- a move of an append
abbrev pub IsMove : Action → Type 0
IsMove WriteBody = Unit {0}
IsMove SyncBody = Unit {0}
IsMove WriteGate = Unit {0}
IsMove SyncGate = Unit {0}
IsMove action = ⊥

-- the job after a move
abbrev pub moved_on : Job → ℕ → List ℕ → Job
moved_on job subject older = record job { place = job.place + 1; subject = subject; older = older }

-- ---- the order of what is left

goes_on_move : (n : ℕ) (phase : Phase) (a : Action) (tail : List Action) → IsMove a →
    GoesOn n phase (a ∷ tail) → GoesOn n phase tail
goes_on_move n (Fetching o s c) WriteBody tail move order = absurd order
goes_on_move n (Fetching o s c) SyncBody tail move order = absurd order
goes_on_move n (Fetching o s c) WriteGate tail move order = absurd order
goes_on_move n (Fetching o s c) SyncGate tail move order = absurd order
goes_on_move n _ WriteBody tail move order = order
goes_on_move n _ SyncBody tail move order = order
goes_on_move n _ WriteGate tail move order = order
goes_on_move n _ SyncGate tail move order = order
goes_on_move n _ _ tail move order = absurd move

asks_on_move : (n : ℕ) (xs : List Round) (c : ℕ) (a : Action) (tail : List Action) → IsMove a →
    AsksOn n xs c (a ∷ tail) → AsksOn n xs c tail
asks_on_move n [] c WriteBody tail move order = order
asks_on_move n _ c WriteBody tail move order = order
asks_on_move n _ c SyncBody tail move order = order
asks_on_move n _ c WriteGate tail move order = order
asks_on_move n _ c SyncGate tail move order = order
asks_on_move n _ c _ tail move order = absurd move

asks_are : (a : Action) (tail : List Action) → IsMove a → asks_left (a ∷ tail) ≡ 0 + asks_left tail
asks_are WriteBody tail move = sum_by-cons (λ x. cond (is_ask x) 1 0) WriteBody tail
asks_are SyncBody tail move = sum_by-cons (λ x. cond (is_ask x) 1 0) SyncBody tail
asks_are WriteGate tail move = sum_by-cons (λ x. cond (is_ask x) 1 0) WriteGate tail
asks_are SyncGate tail move = sum_by-cons (λ x. cond (is_ask x) 1 0) SyncGate tail
asks_are _ tail move = absurd move

not_end : (a : Action) → IsMove a → a ≡ End → ⊥
not_end End move is = absurd move
not_end _ move is = (let f : ⊥ = cc in f)

no_get : (n : ℕ) (name : List ℕ) (a : Action) → IsMove a → IsAllowed n (GetJob name) a → ⊥
no_get n name WriteBody move h = h
no_get n name SyncBody move h = h
no_get n name WriteGate move h = h
no_get n name SyncGate move h = h
no_get n name _ move h = move

-- ---- the sums of an audit

-- rounds are judged by what the job was given and by its number alone
judges_same : (s : Setup) (job : Job) (place subject : ℕ) (older : List ℕ) (xs : List Round) (a b : Sums) →
    subject ≡ job.subject → JudgesEach s job xs a b
    → JudgesEach s (record job { place = place; subject = subject; older = older }) xs a b
judges_same s job place subject older [] a b same judges = judges
judges_same s job place subject older (x ∷ xs) a b same judges = (
  judges.0,
  (rw (← same) at judges.1),
  judges_same s job place subject older xs judges.0 b same judges.2,
)

few_or_not : (n : ℕ) → (n < 4) ⊎ (4 ≤ n)
few_or_not n = elim (cases_Bool (nat_lt n 4)) [
  | inl t ↦ inl (ltb-true n 4 t)
  | inr f ↦ inr (ltb-false n 4 f)
]

-- ---- the job

-- the actions of such a kind do not depend on what a move draws
same_by : (s : Setup) (job : Job) (place subject : ℕ) (older : List ℕ) (kind : Kind) → job.kind ≡ kind →
    actions_by s (record job { place = place; subject = subject; older = older }) kind ≡ actions_by s job kind
    → actions_of s (record job { place = place; subject = subject; older = older }) ≡ actions_of s job
unfolding actions_of
same_by s job place subject older kind is =
    subst (λ (k : Kind). actions_by s (record job { place = place; subject = subject; older = older }) k
    ≡ actions_by s job k) (sym is)

-- a job works with the same after a move
pub move_runs : (w : State) (job : Job) (a : Action) (subject : ℕ) (older : List ℕ) (r : Running) → IsMove a →
    next_action w job ≡ Some a → (4 ≤ job.place → subject ≡ job.subject)
    → IsRunning (setup_in w) r job → IsRunning (setup_in w) r (moved_on job subject older)
move_runs w job a subject older r move next kept running =
    record { number = running.number; task = by_task r.task running.task }
  where
    tail : List Action
    tail = drop (job.place + 1) (actions_of (setup_in w) job)

    next_job : Job
    next_job = moved_on job subject older

    left_is : actions_left (setup_in w) job ≡ a ∷ tail
    left_is = next-left w job a next (not_end a move)

    audited : (t : AuditTask) → IsAudit (setup_in w) t job (a ∷ tail) → IsAudit (setup_in w) t next_job tail
    audited t is =
        let count = asks_are a tail move in
        record {
          kind = is.kind;
          job_is = is.job_is;
          heard = is.heard;
          asks = is.asks;
          over = is.over;
          left = is.left;
          rounds = is.rounds;
          opening = λ few. is.opening (omega (arith, few));
          asked = is.asked;
          order = asks_on_move (setup_in w).n is.left is.asked a tail move is.order;
          in_work = is.in_work;
          counts = is.counts;
          sums = sums _ _ is.over is.opening is.sums;
          room_asks = omega (arith, is.room_asks, count);
          room_symbols = omega (arith, is.room_symbols, count);
        }
      where
        sums : (x y : Sums) → (over : List Round) → (job.place < 4 → over ≡ []) →
            JudgesEach (setup_in w) job over x y → JudgesEach (setup_in w) next_job over x y
        sums x y over opening judges = elim (few_or_not job.place) [
          | inl few ↦ (
              let none = opening few in
              subst (λ (l : List Round). JudgesEach (setup_in w) next_job l x y) (sym none)
              (subst (λ (l : List Round). JudgesEach (setup_in w) job l x y) none judges))
          | inr many ↦ judges_same (setup_in w) job (job.place + 1) subject older over x y (kept many) judges
        ]

    repaired : (t : RepairTask) → IsRepair (setup_in w) t job (a ∷ tail) → IsRepair (setup_in w) t next_job tail
    repaired t is = record {
      kind = is.kind;
      benches = is.benches;
      each = is.each;
      bench = is.bench;
      size = is.size;
      phase = is.phase;
      order = goes_on_move (setup_in w).n is.phase a tail move is.order;
      in_work = is.in_work;
      present = is.present;
      symbols = is.symbols;
      room_present = is.room_present;
      room_symbols = is.room_symbols;
    }

    by_task : (t : Task) → IsTask (setup_in w) job (actions_left (setup_in w) job) t →
        IsTask (setup_in w) next_job (actions_left (setup_in w) next_job) t
    by_task (task.Put t) is = record { name = is.name; kind = is.kind; bench = is.bench }
    by_task (task.Stream t) is =
        record { name = is.name; bytes = is.bytes; kind = is.kind; bench = is.bench; rows = is.rows }
    by_task (task.Get t) is =
        absurd (no_get (setup_in w).n is.name a move (rw is.kind at (next_allowed w job a next)))
    by_task task.Drop is = record { name = is.name; kind = is.kind }
    by_task (task.Audit t) is =
        subst (λ (l : List Action). IsAudit (setup_in w) t next_job l) (sym (ap (drop (job.place + 1))
        (same_by (setup_in w) job (job.place + 1) subject older AuditJob is.kind refl)))
        (audited t (subst (λ (l : List Action). IsAudit (setup_in w) t job l) left_is is))
    by_task (task.Repair t) is =
        subst (λ (l : List Action). IsRepair (setup_in w) t next_job l) (sym (ap (drop (job.place + 1))
        (same_by (setup_in w) job (job.place + 1) subject older RepairJob is.kind refl)))
        (repaired t (subst (λ (l : List Action). IsRepair (setup_in w) t job l) left_is is))
    by_task task.Upgrade is = is

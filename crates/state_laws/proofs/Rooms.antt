-- The room that a job's records need, by its kind and the number of its appends that are left.
use Rattle.state_laws.proofs.Words.{◌≡◌, ◌<◌, ◌==◌, cond, length, refl, ap, ◌∙◌, inl, inr, arith, cases_Bool, cases_lt, Sums, Setup, Record, PutStart, AuditStart, AuditDone, record_size, version_of, next_id, next_audit, Kind, PutJob, GetJob, DropJob, AuditJob, RepairJob, UpgradeJob, aim_of, Job, appends_left, HasSums, State, setup_in, room_left, reserved, Writes, done_record, is_first_append, cond_true, cond_false, first_above, first_below}
use Rattle.std.proofs.Common.{ℕ, ◌+◌, ◌≤◌, List}
use Rattle.state_laws.proofs.Orders.{put-first, put-later, audit-first, audit-later, drop-first, repair-first, upgrade-first}

-- the room of a job's last so many records
abbrev pub room_of : ℕ → Setup → Kind → ℕ → ℕ
room_of version s kind k = room_left version s (aim_of kind) k

-- jobs of one kind with equally many appends left need the same room
pub room-same : (version : ℕ) (s : Setup) (i j : Job) → j.kind ≡ i.kind →
    appends_left s j ≡ appends_left s i → reserved version s j ≡ reserved version s i
room-same version s i j kind left =
    ap (λ kd. room_of version s kd (appends_left s j)) kind ∙ ap (room_of version s i.kind) left

-- the record that ends a put takes what is kept for it
size-done : (version id size profile : ℕ) → 1 + record_size (done_record version id size profile)
    ≡ cond (version == 2) 15 14
size-done version id size profile = elim (cases_Bool (version == 2)) [
  | inl t ↦ rw t refl
  | inr f ↦ rw f refl
]

-- the record that a put writes, and that an audit writes
pub put-writes_first : (w : State) (job : Job) (name bytes : List ℕ) (entry : Record) → job.place < 4 →
    Writes w job (PutJob name bytes) entry → entry ≡ PutStart (next_id w.records) name
put-writes_first w job name bytes entry l h = h
    ∙ cond_true (is_first_append job) (PutStart (next_id w.records) name)
    (done_record (version_of w.records) job.subject (length bytes) job.profile) (first_below job l)

-- a put writes its end from its second append on
pub put-writes_later : (w : State) (job : Job) (name bytes : List ℕ) (entry : Record) → 4 ≤ job.place →
    Writes w job (PutJob name bytes) entry →
    entry ≡ done_record (version_of w.records) job.subject (length bytes) job.profile
put-writes_later w job name bytes entry l h = h
    ∙ cond_false (is_first_append job) (PutStart (next_id w.records) name)
    (done_record (version_of w.records) job.subject (length bytes) job.profile) (first_above job l)

-- an audit writes its start with its first append
pub audit-writes_first : (w : State) (job : Job) (entry : Record) → job.place < 4 →
    Writes w job AuditJob entry → entry ≡ AuditStart (next_audit w.records)
audit-writes_first w job entry l h = (let g = rw (first_below job l) at h in g)

-- an audit writes its end from its second append on, with its sums
pub audit-writes_later : (w : State) (job : Job) (entry : Record) → 4 ≤ job.place →
    Writes w job AuditJob entry →
    (sums : Sums) × HasSums (setup_in w) job sums × (entry ≡ AuditDone job.subject sums.undecided sums.counts)
audit-writes_later w job entry l h = (let g = rw (first_above job l) at h in g)

-- the record that a job writes is the first of those that are left
pub room-step : (w : State) (job : Job) (kind : Kind) (entry : Record) (k : ℕ) → job.kind ≡ kind →
    Writes w job kind entry → appends_left (setup_in w) job ≡ k + 1 →
    ((sums : Sums) → HasSums (setup_in w) job sums → length sums.counts ≡ (setup_in w).n) →
    room_of (version_of w.records) (setup_in w) kind (k + 1)
    ≡ (1 + record_size entry) + room_of (version_of w.records) (setup_in w) kind k
room-step w job (PutJob name bytes) entry k kind h left sizes = elim (cases_lt job.place 4) [
  | inl l ↦ (let one : k ≡ 1 = omega (arith, put-first (setup_in w) job name bytes kind l) in
      rw (one, put-writes_first w job name bytes entry l h) (omega arith))
  | inr l ↦ (let none : k ≡ 0 = omega (arith, put-later (setup_in w) job name bytes kind l) in
      rw (none, put-writes_later w job name bytes entry l h)
      (omega (arith, size-done (version_of w.records) job.subject (length bytes) job.profile)))
]
room-step w job (GetJob name) entry k kind h left sizes = absurd h
room-step w job (DropJob name) entry k kind h left sizes =
    (let none : k ≡ 0 = omega (arith, drop-first (setup_in w) job name kind) in rw (none, h) (omega arith))
room-step w job AuditJob entry k kind h left sizes = elim (cases_lt job.place 4) [
  | inl l ↦ (let one : k ≡ 1 = omega (arith, audit-first (setup_in w) job kind l) in
      rw (one, audit-writes_first w job entry l h) (omega arith))
  | inr l ↦ (let none : k ≡ 0 = omega (arith, audit-later (setup_in w) job kind l) in
      let wrote = audit-writes_later w job entry l h in
      rw (none, wrote.2) (omega (arith, sizes wrote.0 wrote.1)))
]
room-step w job RepairJob entry k kind h left sizes =
    (let none : k ≡ 0 = omega (arith, repair-first (setup_in w) job kind) in rw (none, h) (omega arith))
room-step w job UpgradeJob entry k kind h left sizes =
    (let none : k ≡ 0 = omega (arith, upgrade-first (setup_in w) job kind) in rw (none, h) (omega arith))

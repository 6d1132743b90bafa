-- A move of an append is a step of the machine.
use Rattle.vault.proofs.Words.{le-ltb, ◌≡◌, ℕ, ◌+◌, ◌≤◌, List, [], ◌∷◌, ◌++◌, Option, Some, None, refl, sym, ap, subst, ◌∙◌, arith, length-append, nat_lt, none-some, Cells, Provider, Goes, spelling, Area, end_in, length-spelling, length-entries, subject_drawn, More, Ended, Kind, PutJob, AuditJob, Job, with_job, without_job, State, Doubt, StandsForState, cond_false, Appends, gate_of, body_of, SameFrom, AllStandIn, MayStandWith, ComesNext, entry_in, Tells, Reply, Answer, Turn, Desk, devices, IsSameBeyond, IsSamePast, machine_answer, KeepsAll, IsFed, IsStopped, DeskStands, DeskMakesStep, all-shown, doubt-shown, wants_in}
use Rattle.std.proofs.Common.{length}
use Rattle.std.specs.Prelude.{◌≢◌}
use Rattle.record_defs.specs.Records.{Record}
use Rattle.machine_defs.specs.Actions.{Action}
use Rattle.machine_defs.specs.Answers as answers
use Rattle.machine_defs.specs.States.{Append}
use Rattle.machine_defs.specs.Steps.{Acts}
use Rattle.journal_core.specs.declared.append.Append.{Append as AppendValue}
use Rattle.vault_core.specs.declared.reply.Reply.TheVariants as reply
use Rattle.vault.specs.declared.turn.Turn.TheVariants as turn
use Rattle.vault.proofs.JobPlaces.{place_is}
use Rattle.vault.proofs.Moving.{IsMove, moved_on, move_runs}
use Rattle.vault.proofs.Stops.{ends_left}
use Rattle.vault.proofs.Ways.{IsLeft, goes_left, set_same, working}

-- a job goes on behind a move
pub moves_on : (v v' : Desk) (w new : State) (holds holds' : Option Cells) (faults faults' moment number : ℕ)
    (ps : List Provider) (action : Action) (subject : ℕ) (older : List ℕ)
    → DeskStands v (devices holds faults ps) w → (next : ComesNext w number action None) → IsMove action →
    (4 ≤ next.job.place → subject ≡ next.job.subject) → Acts w next.job action More new
    → new.jobs ≡ with_job w.jobs (moved_on next.job subject older) → v'.jobs.items ≡ v.jobs.items →
    IsLeft v' w new holds' faults' ps
    → ((a : Append) → new.append ≡ Some a → a.job ≡ number → entry_in v.core number ≡ Some a.entry)
    → IsSameBeyond new (devices holds faults ps) (devices holds' faults' ps) → KeepsAll v v' →
    IsFed v.core number reply.Done v'.core → wants_in v.core number ≡ None
    → DeskMakesStep w moment number turn.More v' (devices holds faults ps) (devices holds' faults' ps)
moves_on v v' w new holds holds' faults faults' moment number ps action subject older stands next move kept acts jobs same left entry beyond keeps fed wants =
    let f = working v (devices holds faults ps) w number action stands next in
    goes_left v v' w new holds holds' faults faults' moment number f.place ps ps action f.running f.running
    (moved_on next.job subject older) reply.Done stands next acts left jobs refl
    (move_runs w next.job action subject older f.running move next.comes kept f.is)
    (place_is v.jobs.items number ∙ f.at) f.there (same ∙ set_same v.jobs.items f.place f.running f.there) entry
    beyond keeps fed tt
    (record { wants = wants; number_is = refl; hand = refl; kind = refl; profile = refl; place_is = refl })

-- a job ends by a move
pub moves_end : (v v1 v2 : Desk) (w new : State) (holds holds' : Option Cells)
    (faults faults' moment number : ℕ) (ps : List Provider) (action : Action) (reply : Reply)
    (answer : Answer) (t : Turn)
    → DeskStands v (devices holds faults ps) w → (next : ComesNext w number action None) →
    Acts w next.job action (Ended (machine_answer answer)) new → new.jobs ≡ without_job w.jobs number
    → v1.core ≡ v.core → v1.jobs.items ≡ v.jobs.items → KeepsAll v v1 →
    IsStopped v1 number reply answer t v2 → Tells number reply (Ended (machine_answer answer)) new
    → IsLeft v1 w new holds' faults' ps → new.append ≡ None
    → (Ended (machine_answer answer) ≢ Ended answers.DiskFault →
    IsSameBeyond new (devices holds faults ps) (devices holds' faults' ps))
    → (Ended (machine_answer answer) ≡ Ended answers.DiskFault →
    IsSamePast w number (devices holds faults ps) (devices holds' faults' ps))
    → DeskMakesStep w moment number t v2 (devices holds faults ps) (devices holds' faults' ps)
moves_end v v1 v2 w new holds holds' faults faults' moment number ps action reply answer t stands next acts jobs same_core same_jobs keeps stopped tells left none beyond torn =
    let f = working v (devices holds faults ps) w number action stands next in
    ends_left v v1 v2 w new holds holds' faults faults' moment number f.place ps ps action f.running f.running
    reply answer t stands next acts left jobs (place_is v.jobs.items number ∙ f.at) f.there
    (record {
      core = same_core;
      jobs = same_jobs ∙ set_same v.jobs.items f.place f.running f.there;
      number = refl;
      heard = refl;
      keeps = keeps;
    })
    stopped tells (λ a is. absurd (none-some a (sym none ∙ is))) beyond torn

-- ---- texts

-- the text with the record, by what an append writes
past : (area : Area) (rs : List Record) (r : Record) (a : AppendValue) (holds : Option Cells) →
    Appends area rs r a holds → gate_of a + 1 + length (body_of a) ≡ end_in area (r ∷ rs)
past area rs r a holds appends =
    let size = length-entries rs appends.records in
    let body : length (body_of a) ≡ length (spelling r ++ 0 ∷ []) = ap length appends.body in
    let gate = appends.gate in
    let long = length-append (spelling r) (0 ∷ []) in
    let spelled = length-spelling r appends.entry in
    omega (arith, size, body, gate, long, spelled)

-- what did not change behind the bytes of an append did not behind the text with its record
pub beyond_of : (area : Area) (rs : List Record) (r : Record) (a : AppendValue) (holds holds' : Option Cells) →
    Appends area rs r a holds → Goes (SameFrom (gate_of a + 1 + length (body_of a))) holds holds' →
    Goes (SameFrom (end_in area (r ∷ rs))) holds holds'
beyond_of area rs r a holds holds' appends =
    subst (λ (n : ℕ). Goes (SameFrom n) holds holds') (past area rs r a holds appends)

-- ---- images

-- images that stand for the journal of a state stand for it
pub all_images : (told : Option Cells) (new : State) → AllStandIn new.area new.journal told →
    StandsForState told new
all_images told new = all-shown told new new.area new.journal refl refl

-- images that stand for it, or for it and the record in doubt, do so too
pub doubted_images : (told : Option Cells) (new : State) (entry : Record) (d : Doubt) → new.doubt ≡ Some d →
    d.entry ≡ entry → MayStandWith new.area new.journal entry told → StandsForState told new
doubted_images told new entry d doubt same may =
    doubt-shown told new new.area new.journal refl refl d doubt (rw (← same) at may)

-- ---- the number of a job

-- behind its first append, a job draws no other number
pub subject_kept : (w : State) (job : Job) (kind : Kind) → 4 ≤ job.place →
    subject_drawn w job kind ≡ job.subject
subject_kept w job (PutJob name bytes) many = cond_false (nat_lt job.place 4)
    (Rattle.record_defs.specs.Table.next_id w.records) job.subject (le-ltb job.place 4 many)
subject_kept w job AuditJob many = cond_false (nat_lt job.place 4)
    (Rattle.record_defs.specs.Table.next_audit w.records) job.subject (le-ltb job.place 4 many)
subject_kept w job _ many = refl

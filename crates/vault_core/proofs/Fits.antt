-- The record that a job writes fits into the journal.
use Rattle.vault_core.proofs.Words.{◌≡◌, ℕ, ◌+◌, ◌≤◌, ◌^◌, true, List, [], ◌∷◌, Some, None, inl, inr, ap, sym, ◌∙◌, arith, IfSome, if◌then◌else◌, ◌==◌, slice_get, sum_by, option_map, cases_Bool, sum_by-cons, Setup, Record, record_size, entry_of, Action, Kept, CoreJob, CoreView, job_in, planned, is_move, written_as, written_by, entry_of_job, reserved_of, Reserves, plan_kept, sums_kept, core_job, IsJobKept, aim_of_wish}
use Rattle.std.specs.Prelude.{Option}
use Rattle.record_codec.specs.declared.records.Record.{Record as RecordValue}
use Rattle.vault_core.specs.declared.job.Job.{Job}
use Rattle.vault_core.proofs.Gates.{first_is}
use Rattle.vault_core.proofs.Gating.{room_of_entry}
use Rattle.vault_core.proofs.Standing.{head_moves, in_append, get-first}

-- the room of a record is reserved until its append is done
written_room : (s : Setup) (job : Job) (t : Kept) (entry : Record) → IsJobKept s job →
    is_move (slice_get (planned s (plan_kept job)) job.place) ≡ true →
    written_by s t (core_job job) ≡ Some entry →
    1 + record_size entry ≤ reserved_of t.version s (core_job job)
written_room s job t entry kept mv w =
    let first = first_is s.n job kept.steady in
    let r = room_of_entry t kept first
    (ap is_move (sym first ∙ (ap (λ (xs : List Action). slice_get xs 0) kept.listed
    ∙ get-first (planned s (plan_kept job)) job.place)) ∙ mv)
    (ap (λ k. written_as t k job.profile job.subject (sums_kept job) (aim_of_wish job.wish))
    kept.appends ∙ w) in
    omega (arith, r)

job_sum : (f : CoreJob → ℕ) (cs : List CoreJob) (k : ℕ) (j : CoreJob) → job_in cs k ≡ Some j →
    f j ≤ sum_by f cs
job_sum f [] k j e = let g : None ≡ Some j = e in cc
job_sum f (c ∷ cs) k j e = elim (cases_Bool (c.number == k)) [
  | inl t ↦ (let g : Some c ≡ Some j = sym (ap (λ b. if b then Some c else job_in cs k) t) ∙ e in
      let r : c ≡ j = cc in let p = ap f r in let q = sum_by-cons f c cs in omega (arith, p, q))
  | inr b ↦ (let p = job_sum f cs k j (sym (ap (λ x. if x then Some c else job_in cs k) b) ∙ e) in
      let q = sum_by-cons f c cs in omega (arith, p, q))
]

-- the record that a kept job is about to write fits behind the end of the journal
pub writing_room : {c : CoreView} (k : ℕ) {job : Job} {t : Kept} (o : Option RecordValue) → c.table ≡ t →
    Reserves c → IsJobKept c.setup job → Some (core_job job) ≡ job_in c.jobs k →
    option_map entry_of o ≡ entry_of_job c.setup t (core_job job) →
    IfSome o (λ entry. c.end + (1 + record_size (entry_of entry)) ≤ 2 ^ 24)
writing_room k None same h kept found e = tt
writing_room {c} k {job} {t} (Some r) same h kept found e =
    let a = in_append c.setup t (core_job job) (entry_of r) (sym e) in
    let b = written_room c.setup job t (entry_of r) kept (head_moves c.setup t (core_job job) a.0) a.1 in
    let s = job_sum (reserved_of c.table.version c.setup) c.jobs k (core_job job) (sym found) in
    let v = ap (λ x. reserved_of x.version c.setup (core_job job)) same in
    let m = h.room in
    omega (arith, b, s, m, v)

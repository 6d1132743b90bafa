-- Object numbers and audit numbers: each is drawn once, and what uses it is the job that drew it.
use Rattle.machine_defs.proofs.Words.{◌≡◌, suc, ◌≤◌, false, cond, ◌⊎◌, refl, ap, sym, subst, ◌∙◌, inl, inr, arith, slice_get, nat_lt, cases_Bool, cases_eq, cases_lt, ltb-true, lt-ltb, Record, SetUp, PutStart, AuditStart, Resume, InEffect, RepairDue, next_id, next_audit, Kind, PutJob, AuditJob, Job, job_of, Action, WriteBody, SyncGate, End, actions_by, actions_of, State, Append, IsStart, setup_in, Writes, is_first_append, subject_drawn, next_action, is_idle_drop, Moment, now, IsRun}
use Rattle.std.proofs.Common.{ℕ, ◌+◌, ◌<◌, true, List, [], ◌∷◌, length, Option, Some, None}
use Rattle.machine_defs.proofs.JobLists.{cond_true, cond_false, same_value, found_none}
use Rattle.machine_defs.proofs.Changes.{Job_is, Append_is, Records_is, IsQuietState, Changes}
use Rattle.machine_defs.proofs.Written.{IsAppended, IsWritten, written_on}
use Rattle.machine_defs.proofs.Events.{changes}

-- the two series of numbers
pub data Series : Type 0 where
  objects : Series
  audits : Series

-- the next number of a series
abbrev pub next : Series → List Record → ℕ
next objects rs = next_id rs
next audits rs = next_audit rs

-- a job of this kind draws a number of the series
abbrev pub Draws : Series → Kind → Type 0
Draws objects (PutJob name bytes) = Unit {0}
Draws audits AuditJob = Unit {0}
Draws series kind = ⊥

-- its number is in effect
abbrev pub HasNumber : Series → Job → Type 0
HasNumber series j = Draws series j.kind × (4 ≤ j.place)

next_grows : (series : Series) (r : Record) (rs : List Record) → IsAppended r →
    next series rs ≤ next series (r ∷ rs)
next_grows objects (Resume next audit) rs good = absurd good
next_grows objects (InEffect id size profile kept) rs good = absurd good
next_grows objects (RepairDue number counts) rs good = absurd good
next_grows audits (Resume next audit) rs good = absurd good
next_grows audits (InEffect id size profile kept) rs good = absurd good
next_grows audits (RepairDue number counts) rs good = absurd good
next_grows series r rs good = omega arith

on_top : (series : Series) (rs more : List Record) → more ≡ rs → next series rs ≤ next series more
on_top series rs more is = (let e : next series more ≡ next series rs = ap (next series) is in omega arith)

-- the next number never falls while records come as events bring them
pub next_of_records : (series : Series) (old new : State) → IsWritten old → Records_is old new →
    next series old.records ≤ next series new.records
next_of_records series old new W (Records_is.same is) = on_top series old.records new.records is
next_of_records series old new W (Records_is.finished before a runs next_is flight mine moves is) =
    (let e = on_top series (a.entry ∷ old.records) new.records is in
    let g = next_grows series a.entry old.records (W.0 a flight) in omega arith)
next_of_records series old new W (Records_is.settled d in_doubt is) =
    (let e = on_top series (d.entry ∷ old.records) new.records is in
    let g = next_grows series d.entry old.records (W.1 d in_doubt) in omega arith)
next_of_records series old new W (Records_is.set_up s none is) =
    (let e = on_top series (SetUp s ∷ old.records) new.records is in
    let g = next_grows series (SetUp s) old.records tt in omega arith)
next_of_records series old new W (Records_is.settled_set_up s d in_doubt none is) =
    (let e = on_top series (SetUp s ∷ d.entry ∷ old.records) new.records is in
    let g = next_grows series (SetUp s) (d.entry ∷ old.records) tt in
    let f = next_grows series d.entry old.records (W.1 d in_doubt) in omega arith)

-- the next action, by kind and place
abbrev pub next_by : State → Job → Kind → ℕ → Option Action
next_by w job kind place =
    cond (is_idle_drop w job kind) (Some End) (slice_get (actions_by (setup_in w) job kind) place)

-- the next action of a job, by its kind and its place
pub next_is_by : (w : State) (job : Job) → next_action w job ≡ next_by w job job.kind job.place
unfolding actions_of
next_is_by w job = refl

three_by : (series : Series) (w : State) (job : Job) (kind : Kind) → Draws series kind →
    next_by w job kind 3 ≡ Some SyncGate
three_by objects w job (PutJob name bytes) d = refl
three_by audits w job AuditJob d = refl
three_by series w job kind d = absurd d

-- at place 3 a put or an audit makes the fourth move of its first append
pub at_three : (series : Series) (w : State) (job : Job) → Draws series job.kind → job.place ≡ 3 →
    next_action w job ≡ Some SyncGate
at_three series w job d is =
    next_is_by w job ∙ (ap (next_by w job job.kind) is ∙ three_by series w job job.kind d)

-- what a job has drawn at its first move, and at a later first move
pub drawn_later : (w : State) (job : Job) (kind : Kind) → is_first_append job ≡ false →
    subject_drawn w job kind ≡ job.subject
drawn_later w job (PutJob name bytes) h = cond_false _ _ _ h
drawn_later w job AuditJob h = cond_false _ _ _ h
drawn_later w job kind h = refl

-- with its first append a job draws the next number
pub drawn_first : (series : Series) (w : State) (job : Job) (kind : Kind) → Draws series kind →
    is_first_append job ≡ true → subject_drawn w job kind ≡ next series w.records
drawn_first objects w job (PutJob name bytes) d h = cond_true _ _ _ h
drawn_first audits w job AuditJob d h = cond_true _ _ _ h
drawn_first series w job kind d h = absurd d

-- a record that raises the next number
abbrev pub Raises : Series → Record → Type 0
Raises series r = (rs : List Record) → next series (r ∷ rs) ≡ suc (next series rs)

raises_start : (series : Series) (r s : Record) → r ≡ s → Raises series s → Raises series r
raises_start series r s is h rs = ap (λ x. next series (x ∷ rs)) is ∙ h rs

writes_first : (series : Series) (w : State) (job : Job) (kind : Kind) (entry : Record) → Draws series kind →
    is_first_append job ≡ true → Writes w job kind entry → Raises series entry
writes_first objects w job (PutJob name bytes) entry d first h =
    raises_start objects entry (PutStart (next_id w.records) name) (h ∙ cond_true _ _ _ first) (λ rs. refl)
writes_first audits w job AuditJob entry d first h =
    raises_start audits entry (AuditStart (next_audit w.records)) (let g = rw first at h in g) (λ rs. refl)
writes_first series w job kind entry d first h = absurd d

-- a job before its fifth action is in its first append
pub first_below : (job : Job) → job.place < 4 → is_first_append job ≡ true
first_below job l = lt-ltb job.place 4 l

-- a job behind its fourth action is past its first append
pub first_above : (job : Job) → 4 ≤ job.place → is_first_append job ≡ false
first_above job l = elim (cases_Bool (nat_lt job.place 4))
    [ inl t ↦ absurd (let e = ltb-true job.place 4 t in omega arith) | inr f ↦ f ]

-- a step of a job whose number is in effect
pub record Uses (series : Series) (old : State) (begun number : ℕ) : Type 0 where
  pub job : Job
  pub runs : job_of old.jobs job.number ≡ Some job
  pub has : HasNumber series job
  pub begun_is : job.begun ≡ begun
  pub number_is : job.subject ≡ number

-- at one of these moments a job that began then made a step under this number
abbrev pub HasUsed : Series → State → List Moment → ℕ → ℕ → Type 0
HasUsed series start [] begun number = ⊥
HasUsed series start (m ∷ ms) begun number =
    Uses series (now start ms) begun number ⊎ HasUsed series start ms begun number

-- what holds at each moment of the numbers of a series: each is of one job, and lies below the next one
pub record Facts (series : Series) (start : State) (ms : List Moment) : Type 0 where
  pub below : (k : ℕ) (j : Job) → job_of (now start ms).jobs k ≡ Some j → HasNumber series j →
      j.subject < next series (now start ms).records
  pub apart : (k l : ℕ) (i j : Job) → job_of (now start ms).jobs k ≡ Some i →
      job_of (now start ms).jobs l ≡ Some j →
      HasNumber series i → HasNumber series j → i.subject ≡ j.subject → k ≡ l
  pub fits : (a : Append) (j : Job) → (now start ms).append ≡ Some a →
      job_of (now start ms).jobs a.job ≡ Some j → Draws series j.kind → j.place < 4 →
      (j.subject ≡ next series (now start ms).records) × Raises series a.entry
  pub holder : (a : Append) → (now start ms).append ≡ Some a → a.job < (now start ms).next_job
  pub jobs_below : (k : ℕ) (j : Job) → job_of (now start ms).jobs k ≡ Some j → k < (now start ms).next_job
  pub idle : IsQuietState (now start ms)
  pub written : IsWritten (now start ms)
  pub used_below : (b n : ℕ) → HasUsed series start ms b n → n < next series (now start ms).records
  pub used_mine : (b n k : ℕ) (j : Job) → HasUsed series start ms b n →
      job_of (now start ms).jobs k ≡ Some j → HasNumber series j → j.subject ≡ n → b ≡ j.begun
  pub used_once : (b c n : ℕ) → HasUsed series start ms b n → HasUsed series start ms c n → b ≡ c

-- a job whose number is in effect after an event had it before, or has it by this event
pub data Numbered (series : Series) (old new : State) (k : ℕ) (j : Job) : Type 0 where
  was : (before : Job) → job_of old.jobs k ≡ Some before → HasNumber series before →
      before.subject ≡ j.subject → before.begun ≡ j.begun → Numbered series old new k j
  fresh : (a : Append) → old.append ≡ Some a → a.job ≡ k → j.subject ≡ next series old.records →
      next series new.records ≡ suc (next series old.records) → Numbered series old new k j

module _ (series : Series) (limit : ℕ) (start : State) (m : Moment) (ms : List Moment)
    (F : Facts series start ms) (X : Changes limit (length ms) (now start ms) m.event m.outcome m.state) where
  abbrev old : State
  old = now start ms

  abbrev before_state : State
  before_state = now start ms

  grows : next series old.records ≤ next series m.state.records
  grows = next_of_records series old m.state F.written X.records

  draws_back : (i j : Job) → j.kind ≡ i.kind → Draws series j.kind → Draws series i.kind
  draws_back i j is d = subst (Draws series) is d

  numbered : (k : ℕ) (j : Job) → job_of m.state.jobs k ≡ Some j → HasNumber series j →
      Numbered series old m.state k j
  numbered k j h has = elim (X.job k j h) [
    | Job_is.kept r grown ↦ Numbered.was j r has refl refl
    | Job_is.begun kind profile is k_is none rec ↦ absurd
        (let e : j.place ≡ 0 = ap (λ x. x.place) is in let l = has.1 in omega arith)
    | Job_is.plain i action runs next_is is_plain goes rec stores_it ↦ elim (cases_eq i.place 3) [
      | inl three ↦ absurd (rw (same_value _ action SyncGate next_is
          (at_three series old i (draws_back i j goes.kind has.0) three)) at is_plain)
      | inr other ↦ Numbered.was i runs
          (draws_back i j goes.kind has.0, (let e = goes.place in let l = has.1 in omega arith))
          (sym goes.subject) (sym goes.begun)
    ]
    | Job_is.drew i runs next_is none is rec ↦
        let d : Draws series i.kind = draws_back i j (ap (λ x. x.kind) is) has.0 in
        let place : j.place ≡ i.place + 1 = ap (λ x. x.place) is in
        elim (cases_eq i.place 3) [
          | inl three ↦ absurd (let e : WriteBody ≡ SyncGate =
              same_value _ WriteBody SyncGate next_is (at_three series old i d three) in cc)
          | inr other ↦ (let l : 4 ≤ i.place = (let g = has.1 in omega arith) in
              Numbered.was i runs (d, l)
              (sym (ap (λ x. x.subject) is ∙ drawn_later old i i.kind (first_above i l)))
              (sym (ap (λ x. x.begun) is)))
        ]
    | Job_is.finished i a runs next_is flight mine is rec none ↦
        let d : Draws series i.kind = draws_back i j (ap (λ x. x.kind) is) has.0 in
        let place : j.place ≡ i.place + 1 = ap (λ x. x.place) is in
        elim (cases_lt i.place 4) [
          | inl first ↦ (let f = F.fits a i flight (rw (← mine) at runs) d first in
              Numbered.fresh a flight mine (ap (λ x. x.subject) is ∙ f.0)
              (ap (next series) rec ∙ f.1 old.records))
          | inr later ↦ Numbered.was i runs (d, later) (sym (ap (λ x. x.subject) is))
              (sym (ap (λ x. x.begun) is))
        ]
  ]

  below_step : (k : ℕ) (j : Job) → job_of m.state.jobs k ≡ Some j → HasNumber series j →
      j.subject < next series m.state.records
  below_step k j h has = elim (numbered k j h has) [
    | Numbered.was i runs had subject begun ↦ (let l = F.below k i runs had in let g = grows in omega arith)
    | Numbered.fresh a flight mine subject raised ↦ omega arith
  ]

  apart_step : (k l : ℕ) (i j : Job) → job_of m.state.jobs k ≡ Some i → job_of m.state.jobs l ≡ Some j →
      HasNumber series i → HasNumber series j → i.subject ≡ j.subject → k ≡ l
  apart_step k l i j hi hj ni nj same = elim (numbered k i hi ni) [
    | Numbered.was i2 ri had_i si bi ↦ elim (numbered l j hj nj) [
      | Numbered.was j2 rj had_j sj bj ↦ F.apart k l i2 j2 ri rj had_i had_j (si ∙ (same ∙ sym sj))
      | Numbered.fresh b flight_b mine_b subject_b raised_b ↦ absurd (omega (arith, F.below k i2 ri had_i))
    ]
    | Numbered.fresh a flight mine subject raised ↦ elim (numbered l j hj nj) [
      | Numbered.was j2 rj had_j sj bj ↦ absurd (omega (arith, F.below l j2 rj had_j))
      | Numbered.fresh b flight_b mine_b subject_b raised_b ↦ (sym mine
          ∙ (ap (λ x. x.job) (same_value _ a b flight flight_b) ∙ mine_b))
    ]
  ]

  fits_step : (a : Append) (j : Job) → m.state.append ≡ Some a → job_of m.state.jobs a.job ≡ Some j →
      Draws series j.kind → j.place < 4 → (j.subject ≡ next series m.state.records) × Raises series a.entry
  fits_step a j h hj d small = elim (X.append a h) [
    | Append_is.kept b flight job_is entry rec ↦ elim (X.job a.job j hj) [
      | Job_is.kept r grown ↦ carried b entry rec j refl (F.fits b j flight (rw job_is at r) d small)
      | Job_is.begun kind profile is k_is none rec2 ↦ absurd (let l = F.holder b flight in omega arith)
      | Job_is.plain i action runs next_is is_plain goes rec2 stores_it ↦ carried b entry rec i goes.subject
          (F.fits b i flight (rw job_is at runs)
          (draws_back i j goes.kind d) (let e = goes.place in omega arith))
      | Job_is.drew i runs next_is none is rec2 ↦ absurd (let e : None ≡ Some b = sym none ∙ flight in cc)
      | Job_is.finished i c runs next_is flight_c mine is rec2 none ↦
          absurd (let e : None ≡ Some a = sym none ∙ h in cc)
    ]
    | Append_is.drew i runs next_is mine writes found rec ↦
        let is = same_value _ j _ (rw mine at hj) found in
        let di : Draws series i.kind = draws_back i j (ap (λ x. x.kind) is) d in
        let place : j.place ≡ i.place + 1 = ap (λ x. x.place) is in
        let first = first_below i (omega arith) in (
          ap (λ x. x.subject) is ∙ (drawn_first series old i i.kind di first ∙ sym (ap (next series) rec)),
          writes_first series old i i.kind a.entry di first writes,
        )
  ]
    where
      carried : (b : Append) → a.entry ≡ b.entry → m.state.records ≡ old.records → (i : Job) →
          j.subject ≡ i.subject → (i.subject ≡ next series old.records) × Raises series b.entry →
          (j.subject ≡ next series m.state.records) × Raises series a.entry
      carried b entry rec i subject f =
          (subject ∙ (f.0 ∙ sym (ap (next series) rec)), raises_start series a.entry b.entry entry f.1)

  holder_step : (a : Append) → m.state.append ≡ Some a → a.job < m.state.next_job
  holder_step a h = elim X.numbers [
    | inl p ↦ absurd (cc (sym p.1 ∙ h))
    | inr l ↦ elim (X.append a h) [
      | Append_is.kept b flight job_is entry rec ↦ (omega (arith, F.holder b flight))
      | Append_is.drew i runs next_is mine writes found rec ↦ (omega (arith, F.jobs_below i.number i runs))
    ]
  ]

  jobs_below_step : (k : ℕ) (j : Job) → job_of m.state.jobs k ≡ Some j → k < m.state.next_job
  jobs_below_step k j h = elim (X.next k j h) [
    | inl l ↦ l
    | inr r ↦ elim X.numbers [
      | inl p ↦ absurd (found_none m.state.jobs k j p.0 h)
      | inr l ↦ elim r [
        | inl q ↦ (let z = F.jobs_below k j q in omega arith)
        | inr q ↦ (let z = F.jobs_below k q.0 q.1 in omega arith)
      ]
    ]
  ]

  used_below_step : (b n : ℕ) → HasUsed series start (m ∷ ms) b n → n < next series m.state.records
  used_below_step b n (inl u) =
      (let l = F.below u.job.number u.job u.runs u.has in let e = u.number_is in let g = grows in omega arith)
  used_below_step b n (inr u) = (let l = F.used_below b n u in let g = grows in omega arith)

  used_mine_step : (b n k : ℕ) (j : Job) → HasUsed series start (m ∷ ms) b n →
      job_of m.state.jobs k ≡ Some j → HasNumber series j → j.subject ≡ n → b ≡ j.begun
  used_mine_step b n k j (inl u) h has same = elim (numbered k j h has) [
    | Numbered.was i runs had subject begun ↦ (let number : u.job.number ≡ k = F.apart u.job.number k u.job i
        u.runs runs u.has had (u.number_is ∙ (sym same ∙ sym subject)) in
        let is : u.job ≡ i = same_value _ u.job i
        (subst (λ x. job_of old.jobs x ≡ Some u.job) number u.runs) runs in
        sym u.begun_is ∙ (ap (λ (x : Job). x.begun) is ∙ begun))
    | Numbered.fresh a flight mine subject raised ↦
        absurd (let l = F.below u.job.number u.job u.runs u.has in let e = u.number_is in omega arith)
  ]
  used_mine_step b n k j (inr u) h has same = elim (numbered k j h has) [
    | Numbered.was i runs had subject begun ↦ F.used_mine b n k i u runs had (subject ∙ same) ∙ begun
    | Numbered.fresh a flight mine subject raised ↦ absurd (let l = F.used_below b n u in omega arith)
  ]

  used_once_step : (b c n : ℕ) → HasUsed series start (m ∷ ms) b n → HasUsed series start (m ∷ ms) c n → b ≡ c
  used_once_step b c n (inl u) (inl v) = (let is = same_value _ u.job v.job
      (subst (λ x. job_of old.jobs x ≡ Some u.job) (F.apart u.job.number v.job.number u.job v.job u.runs
      v.runs u.has v.has (u.number_is ∙ sym v.number_is)) u.runs) v.runs in
      sym u.begun_is ∙ (ap (λ x. x.begun) is ∙ v.begun_is))
  used_once_step b c n (inl u) (inr v) =
      sym (F.used_mine c n u.job.number u.job v u.runs u.has u.number_is ∙ u.begun_is)
  used_once_step b c n (inr u) (inl v) =
      F.used_mine b n v.job.number v.job u v.runs v.has v.number_is ∙ v.begun_is
  used_once_step b c n (inr u) (inr v) = F.used_once b c n u v

  -- these facts hold after one more event
  pub step_facts : Facts series start (m ∷ ms)
  step_facts = record {
    below = below_step;
    apart = apart_step;
    fits = fits_step;
    holder = holder_step;
    jobs_below = jobs_below_step;
    idle = record { idle = X.idle F.idle.idle; lone = X.lone F.idle.lone };
    written = written_on limit (length ms) old m.event m.outcome m.state X F.written;
    used_below = used_below_step;
    used_mine = used_mine_step;
    used_once = used_once_step;
  }

start_facts : (series : Series) (start : State) → IsStart start → Facts series start []
start_facts series start clean = record {
  below = λ k j h has. absurd (found_none start.jobs k j clean.jobs h);
  apart = λ k l i j h g a b s. absurd (found_none start.jobs k i clean.jobs h);
  fits = λ a j h g d s. absurd (found_none start.jobs a.job j clean.jobs g);
  holder = λ a h. absurd (cc (sym clean.append ∙ h));
  jobs_below = λ k j h. absurd (found_none start.jobs k j clean.jobs h);
  idle = record {
    idle = λ closed. (clean.jobs, clean.append);
    lone = λ x h. absurd (cc (sym clean.none_alone ∙ h));
  };
  written = (λ a h. absurd (cc (sym clean.append ∙ h)), λ d h. absurd (cc (sym clean.doubt ∙ h)));
  used_below = λ b n u. absurd u;
  used_mine = λ b n k j u h has s. absurd u;
  used_once = λ b c n u v. absurd u;
}

-- these facts hold at each moment of a run
pub facts : (series : Series) (limit : ℕ) (start : State) → IsStart start → (ms : List Moment) →
    IsRun limit start ms → Facts series start ms
facts series limit start clean [] run = start_facts series start clean
facts series limit start clean (m ∷ ms) run = (let F = facts series limit start clean ms run.2 in
    step_facts series limit start m ms F
    (changes limit (length ms) (now start ms) m.event m.outcome m.state F.idle run.1))

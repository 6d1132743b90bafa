-- A put that ended well had brought its file in.
use Rattle.machine_defs.proofs.Words.{◌≡◌, zero, suc, ◌≤◌, refl, ap, sym, subst, ◌∙◌, inl, inr, arith, slice_get, cases_eq, eq-eqb, Record, File, file_as, setup_of, PutJob, Job, job_of, Action, WriteBody, SyncBody, WriteGate, SyncGate, End, append_actions, State, Append, IsStart, next_action, Moment, now, newest, came, IsRun, HasComeIn, IsAcknowledged}
use Rattle.std.proofs.Common.{ℕ, ◌+◌, ◌==◌, List, [], ◌∷◌, length, Some, None}
use Rattle.machine_defs.specs.Answers as answer
use Rattle.machine_defs.proofs.JobLists.{cond_true, found_none}
use Rattle.machine_defs.proofs.Changes.{IsPlain, Grown, Job_is, Changes}
use Rattle.machine_defs.proofs.StepEnds.{event_end}
use Rattle.machine_defs.proofs.Events.{changes}
use Rattle.machine_defs.proofs.Numbers.{objects, first_above, drawn_later}
use Rattle.machine_defs.proofs.Numbers as num
use Rattle.machine_defs.proofs.Fair.{PutAt, put_next, stores_count, gate_place}
use Rattle.machine_defs.proofs.PinFacts.{count_same, setup_one}
use Rattle.machine_defs.proofs.PinFacts as pin
use Rattle.machine_defs.proofs.PutProfiles.{Ended}
use Rattle.machine_defs.proofs.PutProfiles as prof
use Rattle.machine_defs.proofs.Held.{all}

-- the action of a put behind its stores and three moves is the fourth move
pub gate_at : (w : State) (job : Job) (name bytes : List ℕ) (action : Action) → job.kind ≡ PutJob name bytes →
    job.place ≡ 7 + stores_count w job bytes → next_action w job ≡ Some action → action ≡ SyncGate
gate_at w job name bytes action kind place h = elim (put_next w job name bytes action kind h) [
  | PutAt.first l e ↦ absurd (omega arith)
  | PutAt.store l k is ↦ absurd (omega arith)
  | PutAt.second q is l e ↦ (let q_is : q ≡ 3 = omega arith in let f : Some SyncGate ≡ Some action = subst
      (λ n. slice_get append_actions n ≡ Some action) q_is e in let g : action ≡ SyncGate = cc in g)
  | PutAt.after l is ↦ absurd (omega arith)
]

-- its end stands behind its second append
pub end_place : (w : State) (job : Job) (name bytes : List ℕ) → job.kind ≡ PutJob name bytes →
    next_action w job ≡ Some End → 8 + stores_count w job bytes ≤ job.place
end_place w job name bytes kind h = elim (put_next w job name bytes End kind h) [
  | PutAt.first l e ↦ absurd (no_end job.place e)
  | PutAt.store l k is ↦ absurd is
  | PutAt.second q is l e ↦ absurd (no_end q e)
  | PutAt.after l is ↦ l
]
  where
    no_end : (q : ℕ) → slice_get append_actions q ≡ Some End → ⊥
    no_end zero e = (let f : Some WriteBody ≡ Some End = e in cc)
    no_end (suc zero) e = (let f : Some SyncBody ≡ Some End = e in cc)
    no_end (suc (suc zero)) e = (let f : Some WriteGate ≡ Some End = e in cc)
    no_end (suc (suc (suc zero))) e = (let f : Some SyncGate ≡ Some End = e in cc)
    no_end (suc (suc (suc (suc q)))) e = (let f : None ≡ Some End = e in cc)

-- the record that a state has more than the one before is what came in
pub came_by : (old new : State) (r : Record) → new.records ≡ r ∷ old.records → came old new ≡ Some r
came_by old new r rec = cond_true (length new.records == suc (length old.records)) (newest new.records) None
    (eq-eqb _ _ (ap length rec)) ∙ ap newest rec

-- what has come in before an event has come in after it
later_on : (start : State) (m : Moment) (ms : List Moment) (name : List ℕ) (file : File) →
    HasComeIn start ms name file → HasComeIn start (m ∷ ms) name file
later_on start m ms name file h =
    record {
      later = m ∷ h.later;
      moment = h.moment;
      before = h.before;
      split = ap (λ l. m ∷ l) h.split;
      comes = h.comes;
    }

-- a put behind its second append has brought its file in
abbrev Facts : State → List Moment → Type 0
Facts start ms = (k : ℕ) (j : Job) (name bytes : List ℕ) → job_of (now start ms).jobs k ≡ Some j →
    j.kind ≡ PutJob name bytes → 8 + stores_count (now start ms) j bytes ≤ j.place →
    HasComeIn start ms name (file_as name j.subject (length bytes) j.profile)

module _ (limit : ℕ) (start : State) (m : Moment) (ms : List Moment) (N : num.Facts objects start ms)
    (P : pin.Facts start ms) (V : prof.Facts start ms) (F : Facts start ms)
    (X : Changes limit (length ms) (now start ms) m.event m.outcome m.state) where
  abbrev old : State
  old = now start ms

  step_facts : Facts start (m ∷ ms)
  step_facts k j name bytes h kind late = elim (X.job k j h) [
    | Job_is.kept r (Grown.as_before rec) ↦ later_on start m ms name _
        (F k j name bytes r kind
        (let e = count_same m.state old j j bytes (ap setup_of rec) refl refl in omega arith))
    | Job_is.kept r (Grown.by_other x a runs next_is flight mine other rec) ↦
        later_on start m ms name _ (F k j name bytes r kind (let e = count_same m.state old j j
        bytes (setup_one limit start m ms N P X a x flight runs mine rec) refl refl in omega arith))
    | Job_is.begun kd profile is k_is allowed rec ↦
        absurd (let e : j.place ≡ 0 = ap (λ x. x.place) is in omega arith)
    | Job_is.plain x action runs next_is is_plain goes rec stores_it ↦
        (let kx : x.kind ≡ PutJob name bytes = sym goes.kind ∙ kind in
        let e = count_same m.state old j x bytes (ap setup_of rec) goes.subject goes.profile in
        let place = goes.place in elim (cases_eq x.place (7 + stores_count old x bytes)) [
          | inl gate ↦ absurd (subst IsPlain (gate_at old x name bytes action kx gate next_is) is_plain)
          | inr other ↦ carried x goes.subject goes.profile (F k x name bytes runs kx (omega arith))
        ])
    | Job_is.drew x runs next_is none_ is rec ↦
        (let kx : x.kind ≡ PutJob name bytes = sym (ap (λ y. y.kind) is) ∙ kind in
        let place : j.place ≡ x.place + 1 = ap (λ y. y.place) is in
        let late_x : 4 ≤ x.place = omega arith in
        let subject : j.subject ≡ x.subject = ap (λ y. y.subject) is
        ∙ drawn_later old x x.kind (first_above x late_x) in
        let e = count_same m.state old j x bytes (ap setup_of rec) subject (ap (λ y. y.profile) is) in
        elim (cases_eq x.place (7 + stores_count old x bytes)) [
          | inl gate ↦ absurd (let z : WriteBody ≡ SyncGate =
              gate_at old x name bytes WriteBody kx gate next_is in cc)
          | inr other ↦ carried x subject (ap (λ y. y.profile) is) (F k x name bytes runs kx (omega arith))
        ])
    | Job_is.finished x a runs next_is flight mine is rec none_ ↦
        (let kx : x.kind ≡ PutJob name bytes = sym (ap (λ y. y.kind) is) ∙ kind in
        let place : j.place ≡ x.place + 1 = ap (λ y. y.place) is in
        let late_x : 4 ≤ x.place = omega arith in
        comes_now x a runs kx next_is late_x (ap (λ y. y.subject) is)
        (ap (λ y. y.profile) is) rec
        (V.ended a x name bytes flight (subst (λ n. job_of old.jobs n ≡ Some x) (sym mine) runs) kx
        late_x))
  ]
    where
      carried : (x : Job) → j.subject ≡ x.subject → j.profile ≡ x.profile →
          HasComeIn start ms name (file_as name x.subject (length bytes) x.profile) →
          HasComeIn start (m ∷ ms) name (file_as name j.subject (length bytes) j.profile)
      carried x subject profile c = later_on start m ms name (file_as name j.subject (length bytes) j.profile)
          (subst (λ n. HasComeIn start ms name (file_as name n (length bytes) j.profile)) (sym subject)
          (subst (λ p. HasComeIn start ms name (file_as name x.subject (length bytes) p)) (sym profile) c))

      comes_now : (x : Job) (a : Append) → job_of old.jobs k ≡ Some x → x.kind ≡ PutJob name bytes →
          next_action old x ≡ Some SyncGate → 4 ≤ x.place → j.subject ≡ x.subject → j.profile ≡ x.profile →
          m.state.records ≡ a.entry ∷ old.records → Ended old.records x bytes a.entry → HasComeIn start
          (m ∷ ms) name (file_as name j.subject (length bytes) j.profile)
      comes_now x a runs kx next_is late_x subject profile rec e =
          (let place = gate_place old x name bytes kx next_is late_x in
          subst (λ p. HasComeIn start (m ∷ ms) name (file_as name j.subject (length bytes) p)) (sym profile)
          (subst (λ n. HasComeIn start (m ∷ ms) name (file_as name n (length bytes) x.profile)) (sym subject)
          (record {
            later = [];
            moment = m;
            before = ms;
            split = refl;
            comes = record {
              version = e.version;
              done = came_by old m.state a.entry rec ∙ ap Some e.entry_is;
              profiled = e.profiled;
              started = P.started k x name bytes runs kx late_x (omega arith);
              named = refl;
            };
          })))

facts : (limit : ℕ) (start : State) → IsStart start → (ms : List Moment) → IsRun limit start ms →
    Facts start ms
facts limit start clean [] run = λ k j name bytes h kind late. absurd (found_none start.jobs k j clean.jobs h)
facts limit start clean (m ∷ ms) run = (let A = all limit start clean ms run.2 in
    step_facts limit start m ms A.numbers A.pins (prof.facts limit start clean ms run.2)
    (facts limit start clean ms run.2)
    (changes limit (length ms) (now start ms) m.event m.outcome m.state A.numbers.idle run.1))

-- a put that ended well had brought its file in
pub acknowledged : IsAcknowledged
acknowledged limit start m ms job name bytes clean run e =
    facts limit start clean ms run.2 job.number job name bytes e.runs e.kind
    (end_place (now start ms) job name bytes e.kind (event_end limit (length ms) (now start ms) m.event
    m.outcome m.state job answer.Put (λ x. x) e.event e.outcome e.runs run.1).0)

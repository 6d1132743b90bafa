-- Sound states after the first three moves of an append.
use Rattle.state_laws.proofs.Words.{◌≡◌, ◌<◌, ◌==◌, Bool, true, false, cond, Option, refl, ap, sym, subst, ◌∙◌, inl, inr, arith, cases_lt, cases_eq, false≢true, some-not-none, Record, next_id, next_audit, Kind, PutJob, AuditJob, RepairJob, Given, Job, job_of, with_job, Action, WriteBody, End, ends_append, appends_left, actions_left, State, Append, Doubt, setup_in, journal_end, Writes, is_first_append, subject_drawn, bytes_drawn, audits_drawn, next_action, same_value, found_itself, objects, Draws, first_above, drawn_later, moves_made, moves_after, IsInOrder, MayFollow, MayFollowIn, IsSoundJob, IsGatedDoubt, IsDoubtOf, IsSoundAppend, IsPutUnderWay, IsSound}
use Rattle.std.proofs.Common.{ℕ, ◌+◌, ◌≤◌, ◌^◌, List, Some, None}
use Rattle.machine_defs.proofs.Events.{drawn_bytes}
use Rattle.state_laws.proofs.Orders.{put-second, audit-second}
use Rattle.state_laws.proofs.JobLists.{mine, other}
use Rattle.state_laws.proofs.Written.{ids-fit, audits-fit, written-follows}
use Rattle.state_laws.proofs.Going.{onward, not-three, went-ready, went}
use Rattle.state_laws.proofs.Turns.{follows-on, writes-on, drawn-on, bytes-on, gone_on, going-sound, order-now, count-now}

-- ---- what a first move draws

drawn-small : (w : State) (job : Job) (kind : Kind) → next_id w.records < 2 ^ 64 →
    next_audit w.records < 2 ^ 64 → job.subject < 2 ^ 64 → subject_drawn w job kind < 2 ^ 64
drawn-small w job (PutJob name bytes) i a s = by_first (is_first_append job)
  where
    by_first : (b : Bool) → cond b (next_id w.records) job.subject < 2 ^ 64
    by_first true = i
    by_first false = s
drawn-small w job AuditJob i a s = by_first (is_first_append job)
  where
    by_first : (b : Bool) → cond b (next_audit w.records) job.subject < 2 ^ 64
    by_first true = a
    by_first false = s
drawn-small w job kind i a s = s

module _ (limit : ℕ) (old : State) (S : IsSound limit old) (job : Job)
    (runs : job_of old.jobs job.number ≡ Some job) where
  own-job : IsSoundJob (setup_in old) old.records old.bytes (moves_made old.append job.number) job
  own-job = S.jobs job.number job runs

  -- a put whose first append is done stays so, and was so unless it made the fourth move
  under-way : (kind : Kind) (n : ℕ) (action : Action) (given : List Given) → job.kind ≡ kind →
      next_action old job ≡ Some action → ends_append action ≡ false → (4 ≤ job.place → n ≡ job.subject) →
      IsPutUnderWay (onward job n given) kind → IsPutUnderWay job kind × (n ≡ job.subject)
  under-way (PutJob name bytes) n action given kind next plain later l = elim (cases_eq job.place 3) [
    | inl three ↦ absurd (not-three objects old job action
        (subst (Draws objects) (sym kind) tt) next plain three)
    | inr far ↦ (let behind : 4 ≤ job.place = omega (arith, l, far) in (behind, later behind))
  ]
  under-way h n action given kind next plain later l = absurd l

  -- ---- the first move

  -- the number that the job has with its first move
  abbrev pub drawn_number : ℕ
  drawn_number = subject_drawn old job job.kind

  later-same : 4 ≤ job.place → drawn_number ≡ job.subject
  later-same l = drawn_later old job job.kind (first_above job l)

  repair-same : job.kind ≡ RepairJob → drawn_number ≡ job.subject
  repair-same kind = ap (subject_drawn old job) kind

  -- what is left of the job is in order after its first move, with as many appends to finish
  abbrev pub HasBegun : ℕ → Type 0
  HasBegun n = IsInOrder 1 (actions_left (setup_in old) (onward job n job.given)) ×
      (appends_left (setup_in old) (onward job n job.given) ≡ appends_left (setup_in old) job)

  pub body-order : next_action old job ≡ Some WriteBody → HasBegun drawn_number
  body-order next = by_kind job.kind refl
    where
      same : drawn_number ≡ job.subject → HasBegun drawn_number
      same e = subst HasBegun (sym e) (
        (order-now limit old S job runs WriteBody job.given next (λ f. cc)).1,
        count-now limit old S job runs WriteBody job.given next (λ f. cc) refl,
      )

      by_kind : (kind : Kind) → job.kind ≡ kind → HasBegun drawn_number
      by_kind (PutJob name bytes) kind = elim (cases_lt job.place 4) [
        | inl l ↦ put-second old job (onward job drawn_number job.given) name bytes kind next l refl refl
        | inr l ↦ same (later-same l)
      ]
      by_kind AuditJob kind = elim (cases_lt job.place 4) [
        | inl l ↦ audit-second old job (onward job drawn_number job.given) kind next l refl refl
        | inr l ↦ same (later-same l)
      ]
      by_kind h kind = same (ap (subject_drawn old job) kind)

  begun-follows : (entry : Record) → next_action old job ≡ Some WriteBody → Writes old job job.kind entry →
      MayFollow old.records old.journal (journal_end old) (bytes_drawn old job job.kind) entry
  begun-follows entry next writes = follows-on old.records old.journal (journal_end old) old.bytes
      (bytes_drawn old job job.kind) entry S.accepted (drawn_bytes old job job.kind)
      (written-follows limit old S job.number job runs entry next writes)

  abbrev first_flight : Record → Append
  first_flight entry = record { job = job.number; entry = entry; moves = 1 }

  abbrev begun_state : Record → State
  begun_state entry = gone_on old (onward job drawn_number job.given) (Some (first_flight entry)) old.doubt
      (bytes_drawn old job job.kind) (audits_drawn old job job.kind)

  begun-append : (entry : Record) → next_action old job ≡ Some WriteBody → Writes old job job.kind entry →
      IsSoundAppend (begun_state entry) (first_flight entry)
  unfolding setup_in
  begun-append entry next writes = record {
    job = onward job drawn_number job.given;
    runs = found_itself old.jobs (onward job drawn_number job.given) job runs;
    begun = omega arith;
    undone = omega arith;
    writes = writes-on old job drawn_number WriteBody job.kind entry refl next refl later-same repair-same
        writes;
    drawn = drawn-on old job WriteBody job.kind refl next refl;
    bytes = λ id. bytes-on old job drawn_number (bytes_drawn old job job.kind) WriteBody job.kind id refl next
        refl refl;
    follows = begun-follows entry next writes;
  }

  -- the state is sound after the first move of an append
  pub begun-sound : (entry : Record) → old.is_open ≡ true → old.is_barred ≡ false → old.append ≡ None →
      next_action old job ≡ Some WriteBody → Writes old job job.kind entry → IsSound limit (begun_state entry)
  begun-sound entry opened unbarred free next writes = (let o = body-order next in
      let undoubted : old.doubt ≡ None = subst (λ f. IsDoubtOf f old.doubt) free
      (S.undoubted opened unbarred) in
      going-sound limit old S job runs (onward job drawn_number job.given)
      (Some (first_flight entry)) old.doubt (bytes_drawn old job job.kind)
      (audits_drawn old job job.kind) refl refl (omega arith) (drawn_bytes old job job.kind)
      (λ k n. other (first_flight entry) k (λ e. n (sym e)) ∙ ap (λ f. moves_made f k) (sym free))
      (went (setup_in old) old.records old.bytes (bytes_drawn old job job.kind)
      (drawn_bytes old job job.kind) old (moves_made old.append job.number)
      (moves_made (Some (first_flight entry)) job.number) job drawn_number job.given WriteBody next refl
      later-same repair-same
      (drawn-small old job job.kind (ids-fit limit old S) (audits-fit limit old S) own-job.subject) o.1
      (subst (λ m. IsInOrder m (actions_left (setup_in old) (onward job drawn_number job.given)))
      (sym (mine (first_flight entry) job.number refl)) o.0) own-job)
      (went-ready (setup_in old) old.journal old.bytes (bytes_drawn old job job.kind)
      (λ id l. drawn_bytes old job job.kind id (omega (arith, l, S.journal.alike.id))) old
      job drawn_number job.given WriteBody next refl later-same repair-same o.1 job.kind refl
      (S.in_journal job.number job runs))
      (under-way job.kind drawn_number WriteBody job.given refl next refl later-same) o.1
      (λ a flight. subst (IsSoundAppend (begun_state entry)) (same_value _ (first_flight entry) a refl flight)
      (begun-append entry next writes))
      (λ b. absurd (false≢true (sym unbarred ∙ b))) (λ p q. undoubted)
      (λ d h. absurd (some-not-none old.doubt d h undoubted)))

  -- ---- the second and the third move

  module _ (a : Append) (flight : old.append ≡ Some a) (own : a.job ≡ job.number) where
    abbrev moved_flight : Append
    moved_flight = record a { moves = a.moves + 1 }

    abbrev next_job : Job
    next_job = onward job job.subject job.given

    moved-append : (action : Action) (doubt : Option Doubt) → next_action old job ≡ Some action →
        ends_append action ≡ false → a.moves ≤ 2 →
        IsSoundAppend (gone_on old next_job (Some moved_flight) doubt old.bytes old.audits) moved_flight
    unfolding setup_in
    moved-append action doubt next plain few = record {
      job = next_job;
      runs = ap (λ n. job_of (with_job old.jobs next_job) n) own ∙ found_itself old.jobs next_job job runs;
      begun = omega arith;
      undone = omega (arith, few);
      writes = writes-on old job job.subject action job.kind a.entry refl next plain (λ l. refl) (λ l. refl)
          (subst (λ x. Writes old x x.kind a.entry) is_job A.writes);
      drawn = subst (λ n. subject_drawn old (onward job n job.given) job.kind ≡ n) drawn_job
          (drawn-on old job action job.kind refl next plain);
      bytes = λ id. bytes-on old job job.subject old.bytes action job.kind id refl next plain
          (sym (subst (λ x. bytes_drawn old x x.kind id ≡ old.bytes id) is_job (A.bytes id)));
      follows = A.follows;
    }
      where
        A : IsSoundAppend old a
        A = S.append a flight

        is_job : (S.append a flight).job ≡ job
        is_job = same_value (job_of old.jobs job.number) (S.append a flight).job job
            (subst (λ n. job_of old.jobs n ≡ Some (S.append a flight).job) own (S.append a flight).runs) runs

        drawn_job : subject_drawn old job job.kind ≡ job.subject
        drawn_job = subst (λ x. subject_drawn old x x.kind ≡ x.subject) is_job (S.append a flight).drawn

    -- the state is sound after the second move and after the third, with the record then in doubt
    pub moved-sound : (action : Action) (doubt : Option Doubt) → next_action old job ≡ Some action →
        (action ≡ End → ⊥) → ends_append action ≡ false → a.moves ≤ 2 → moves_after action ≡ a.moves + 1 →
        old.is_barred ≡ false → IsGatedDoubt moved_flight (a.moves + 1 == 3) doubt →
        ((d : Doubt) → doubt ≡ Some d → MayFollowIn old d.entry) →
        IsSound limit (gone_on old next_job (Some moved_flight) doubt old.bytes old.audits)
    moved-sound action doubt next n plain few after unbarred gated doubts =
        (let o = order-now limit old S job runs action job.given next n in
        let count = count-now limit old S job runs action job.given next n plain in
        going-sound limit old S job runs next_job (Some moved_flight) doubt old.bytes old.audits refl refl
        (omega arith) (λ id l. refl)
        (λ k m. other moved_flight k (λ e. m (sym e ∙ own))
        ∙ sym (ap (λ f. moves_made f k) flight ∙ other a k (λ e. m (sym e ∙ own))))
        (went (setup_in old) old.records old.bytes old.bytes (λ id l. refl) old
        (moves_made old.append job.number) (moves_made (Some moved_flight) job.number) job job.subject
        job.given action next plain (λ l. refl) (λ l. refl) own-job.subject count
        (subst (λ m. IsInOrder m (actions_left (setup_in old) next_job))
        (after ∙ sym (mine moved_flight job.number own)) o.1) own-job)
        (went-ready (setup_in old) old.journal old.bytes old.bytes
        (λ id l. refl) old job job.subject job.given action next plain (λ l. refl)
        (λ l. refl) count job.kind refl (S.in_journal job.number job runs))
        (under-way job.kind job.subject action job.given refl next plain (λ l. refl)) count
        (λ b h. subst (IsSoundAppend (gone_on old next_job (Some moved_flight) doubt old.bytes old.audits))
        (same_value _ moved_flight b refl h) (moved-append action doubt next plain few))
        (λ b. absurd (false≢true (sym unbarred ∙ b))) (λ p q. gated)
        doubts)

-- What sound states give: their setup, their files, and the next actions of their jobs.
use Rattle.state_laws.proofs.Words.{◌≡◌, ◌-◌, ◌<◌, false, refl, ap, sym, ◌∙◌, inl, inr, arith, IsTrue, nat_lt, slice_get, list_all, cases_Bool, and_parts, ltb-true, Setup, SetUp, is_setup, is_master, is_appended, is_in_grammar, next_id, next_audit, Kind, PutJob, AuditJob, aim_of, Job, job_of, Action, End, actions_of, actions_left, IsAt, State, Append, setup_in, sight_of, are_numbers_used_up, is_idle_drop, next_action, cond_true, cond_false, number_of, moves_made, moves_before, IsSound}
use Rattle.std.proofs.Common.{ℕ, ◌≤◌, ◌^◌, Some}
use Rattle.hail_field.specs.Shape.{IsShape}
use Rattle.state_laws.proofs.Orders.{in_order-first, get-drop}
use Rattle.state_laws.proofs.JobLists.{mine, made-some}
use Rattle.state_laws.proofs.Written.{ids-small, audits-small}
use Rattle.state_laws.proofs.Events.{moves-next}

-- the numbers of a setup in the grammar are a shape of the code
pub valid-shape : (s : Setup) → IsTrue (is_in_grammar (SetUp s)) → IsShape s.n s.l s.b
valid-shape s h = grind (arith, (and_parts (is_setup s) (is_master s.master) h).0)

not-above : (n : ℕ) → n ≤ 2 ^ 64 - 32 → nat_lt (2 ^ 64 - 32) n ≡ false
not-above n l = elim (cases_Bool (nat_lt (2 ^ 64 - 32) n)) [
  | inl t ↦ absurd (omega (arith, ltb-true (2 ^ 64 - 32) n t, l))
  | inr f ↦ f
]

module _ (limit : ℕ) (w : State) (S : IsSound limit w) where
  -- while nothing is packed no begin is refused for want of numbers
  pub numbers-left : (kind : Kind) → IsTrue (list_all is_appended w.journal) →
      are_numbers_used_up (sight_of w) (aim_of kind) ≡ false
  numbers-left (PutJob name bytes) appended =
      not-above (next_id w.records) (omega (arith, ids-small limit w S appended))
  numbers-left AuditJob appended =
      not-above (next_audit w.records) (omega (arith, audits-small limit w S appended))
  numbers-left kind appended = refl

  -- a job that runs has a next action
  pub next-some : (number : ℕ) (job : Job) → job_of w.jobs number ≡ Some job →
      (action : Action) × (next_action w job ≡ Some action)
  next-some number job runs = elim (cases_Bool (is_idle_drop w job job.kind)) [
    | inl t ↦ (
      End,
      cond_true (is_idle_drop w job job.kind) (Some End)
          (slice_get (actions_of (setup_in w) job) job.place) t,
    )
    | inr f ↦ (let x = in_order-first (moves_made w.append number) (actions_left (setup_in w) job)
        (S.jobs number job runs).order in (
          x.0,
          cond_false (is_idle_drop w job job.kind) (Some End)
              (slice_get (actions_of (setup_in w) job) job.place) f
              ∙ (sym (get-drop (actions_of (setup_in w) job) job.place) ∙ x.1),
        ))
  ]

  -- a job at a later move of an append has its own append in flight, at that move
  pub mover : (number : ℕ) (job : Job) (action : Action) → job_of w.jobs number ≡ Some job →
      next_action w job ≡ Some action → 0 < moves_before action →
      (a : Append) × (w.append ≡ Some a) × IsAt a job (moves_before action)
  mover number job action runs next l =
      (let e = moves-next w job action (moves_made w.append number) next (S.jobs number job runs).order in
      let m = made-some w.append number (omega (arith, l, e)) in
      (m.0, m.1, (m.2 ∙ sym (number_of w.jobs number job runs), m.3 ∙ e)))

  -- the append in flight is of a job that runs, at the move that comes next
  pub holder : (a : Append) → w.append ≡ Some a → (job : Job) × (job_of w.jobs a.job ≡ Some job) ×
      ((action : Action) × (next_action w job ≡ Some action) × (a.moves ≡ moves_before action))
  holder a flight = (let A = S.append a flight in
      let n = next-some a.job A.job A.runs in
      let e = moves-next w A.job n.0 (moves_made w.append a.job) n.1 (S.jobs a.job A.job A.runs).order in
      (A.job, A.runs, (n.0, n.1, sym (mine a a.job refl) ∙ (ap (λ f. moves_made f a.job) (sym flight) ∙ e))))

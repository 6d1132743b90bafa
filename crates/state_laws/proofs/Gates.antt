-- What is left of a job after the fourth move of its append, by which it may have decided on an object to
-- take away.
use Rattle.state_laws.proofs.Words.{◌≡◌, ◌++◌, length, drop, ap, sym, subst, ◌∙◌, arith, slice_get, Setup, PutJob, DropJob, AuditJob, RepairJob, UpgradeJob, Job, advanced, Action, SyncGate, End, append_actions, store_actions, actions_by, actions_of, actions_left, appends_left, State, setup_in, next_action, next_stands, IsInOrder}
use Rattle.std.proofs.Common.{ℕ, ◌+◌, ◌≤◌, List, ◌∷◌, Some}
use Rattle.std.proofs.Math.Seq.{drop-append-add}
use Rattle.machine_defs.proofs.Fair.{gate_place}
use Rattle.state_laws.proofs.Orders.{drop-move, put_rest, drop_rest, put-list, in_order-removals, appends-removals, appends-cons, appends_in, next-left}

-- a job one action further that takes these objects away
abbrev pub decided : Job → List ℕ → Job
decided job older = record (advanced job) { older = older }

-- a drop makes an append and then its removals
pub drop-list : (s : Setup) (job : Job) (name : List ℕ) → job.kind ≡ DropJob name →
    actions_of s job ≡ append_actions ++ drop_rest s job
unfolding actions_of
drop-list s job name kind = ap (actions_by s job) kind

-- an audit, an upgrade and a repair have the same actions, whatever they take away
pub audit-same : (s : Setup) (job : Job) (older : List ℕ) → job.kind ≡ AuditJob →
    actions_of s (decided job older) ≡ actions_of s job
unfolding actions_of
audit-same s job older kind = ap (actions_by s (decided job older)) kind ∙ ap (actions_by s job) (sym kind)

-- an upgrade has the same actions, whatever it takes away
pub upgrade-same : (s : Setup) (job : Job) (older : List ℕ) → job.kind ≡ UpgradeJob →
    actions_of s (decided job older) ≡ actions_of s job
unfolding actions_of
upgrade-same s job older kind = ap (actions_by s (decided job older)) kind ∙ ap (actions_by s job) (sym kind)

-- a repair has the same actions, whatever it takes away
pub repair-same : (s : Setup) (job : Job) (older : List ℕ) → job.kind ≡ RepairJob →
    actions_of s (decided job older) ≡ actions_of s job
unfolding actions_of
repair-same s job older kind = ap (actions_by s (decided job older)) kind ∙ ap (actions_by s job) (sym kind)

-- the fourth move of a drop stands at place 3
pub drop-gate : (s : Setup) (job : Job) (p : ℕ) →
    slice_get (append_actions ++ drop_rest s job) p ≡ Some SyncGate → p ≡ 3
drop-gate s job p h = drop-move s job p SyncGate (λ i. i) (λ e. cc) h

-- behind the second append of a put
pub put-behind : (s : Setup) (job : Job) (bytes : List ℕ) (p : ℕ) →
    p ≡ 8 + length (store_actions s job bytes) → drop p (append_actions ++ put_rest s job bytes)
    ≡ drop_rest s job
put-behind s job bytes p e = ap (λ n. drop n (append_actions ++ put_rest s job bytes)) (omega (arith, e))
    ∙ (drop-append-add append_actions (put_rest s job bytes) (length (store_actions s job bytes) + (4 + 0))
    ∙ (drop-append-add (store_actions s job bytes) (append_actions ++ drop_rest s job) (4 + 0)
    ∙ drop-append-add append_actions (drop_rest s job) 0))

module _ (w : State) (job : Job) (older : List ℕ) (next : next_action w job ≡ Some SyncGate)
    (order : IsInOrder 3 (actions_left (setup_in w) job)) where
  -- what is left is in order, and one append less
  abbrev pub GoesOn : Type 0
  GoesOn = IsInOrder 0 (actions_left (setup_in w) (decided job older)) ×
      (appends_left (setup_in w) job ≡ 1 + appends_left (setup_in w) (decided job older))

  not-end : SyncGate ≡ End → ⊥
  not-end e = cc

  -- with the same list of actions
  pub same-list : actions_of (setup_in w) (decided job older) ≡ actions_of (setup_in w) job → GoesOn
  same-list e = (let left = next-left w job SyncGate next not-end ∙
      ap (λ xs. SyncGate ∷ drop (job.place + 1) xs) (sym e) in (
        (subst (IsInOrder 3) left order).1,
        ap appends_in left ∙ appends-cons SyncGate (actions_left (setup_in w) (decided job older)),
      ))

  -- with only removals and the end left
  removals-left : (rest : List Action) → actions_left (setup_in w) job ≡ SyncGate ∷ rest →
      appends_in rest ≡ 0 → actions_left (setup_in w) (decided job older)
      ≡ drop_rest (setup_in w) (decided job older) → GoesOn
  removals-left rest left none behind = (
    (rw (← behind) at (in_order-removals (setup_in w) (decided job older))),
    ap appends_in left ∙ (appends-cons SyncGate rest
        ∙ (omega (arith, ap appends_in behind ∙ appends-removals (setup_in w) (decided job older), none))),
  )

  -- a put goes on in order at the end of its first append
  pub put-first_gate : (name bytes : List ℕ) → job.kind ≡ PutJob name bytes → older ≡ job.older → GoesOn
  put-first_gate name bytes kind e = same-list (put-list (setup_in w) (decided job older) name bytes kind
      ∙ (ap (λ o. append_actions ++ put_rest (setup_in w) (decided job o) bytes) e
      ∙ sym (put-list (setup_in w) job name bytes kind)))

  -- a put goes on in order at the end of its second append
  pub put-later_gate : (name bytes : List ℕ) → job.kind ≡ PutJob name bytes → 4 ≤ job.place → GoesOn
  put-later_gate name bytes kind l = (let at = gate_place w job name bytes kind next l in
      removals-left (drop_rest (setup_in w) job) (next-left w job SyncGate next not-end
      ∙ ap (λ xs. SyncGate ∷ xs) (ap (drop (job.place + 1)) (put-list (setup_in w) job name bytes kind)
      ∙ put-behind (setup_in w) job bytes (job.place + 1) (omega (arith, at))))
      (appends-removals (setup_in w) job) (ap (drop (job.place + 1))
      (put-list (setup_in w) (decided job older) name bytes kind)
      ∙ put-behind (setup_in w) (decided job older) bytes (job.place + 1) (omega (arith, at))))

  -- a drop goes on in order at the end of its append
  pub drop-first_gate : (name : List ℕ) → job.kind ≡ DropJob name → GoesOn
  drop-first_gate name kind = (let four : job.place + 1 ≡ 4 + 0 = omega (
    arith,
    drop-gate (setup_in w) job job.place
        (ap (λ xs. slice_get xs job.place) (sym (drop-list (setup_in w) job name kind))
        ∙ next_stands w job SyncGate next not-end),
  ) in
      removals-left (drop_rest (setup_in w) job) (next-left w job SyncGate next not-end
      ∙ ap (λ xs. SyncGate ∷ xs) (ap (drop (job.place + 1)) (drop-list (setup_in w) job name kind)
      ∙ (ap (λ n. drop n (append_actions ++ drop_rest (setup_in w) job)) four
      ∙ drop-append-add append_actions (drop_rest (setup_in w) job) 0))) (appends-removals (setup_in w) job)
      (ap (drop (job.place + 1)) (drop-list (setup_in w) (decided job older) name kind)
      ∙ (ap (λ n. drop n (append_actions ++ drop_rest (setup_in w) (decided job older))) four
      ∙ drop-append-add append_actions (drop_rest (setup_in w) (decided job older)) 0)))

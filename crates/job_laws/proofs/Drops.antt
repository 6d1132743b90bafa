-- What a drop leaves whose job was the only one.
use Rattle.job_laws.proofs.Words.{◌≡◌, ℕ, ◌-◌, ◌<◌, ◌==◌, true, false, List, [], ◌∷◌, ◌++◌, length, take, None, Some, refl, ap, sym, subst, ◌∙◌, inl, inr, arith, slice_get, is_some, cases_Bool, and_parts, eqb-true, false≢true, Each, each_get, each_take, Rose, Goes, Provider, rose-before, Setup, File, file_of, DropJob, Given, Job, Action, WriteBody, SyncBody, WriteGate, SyncGate, Store, Work, End, append_actions, remove_actions, actions_of, Answer, Ended, Entry, State, setup_in, file_in, ended, Moves, removable, is_idle_drop, next_action, split_get, DroppedFrom, DropsFile, DropLeaves, Leaves, Ran, ran_from, SameHeld, NoFetches, drop_rest, With, Made, IsOpenAtRest, with_job_of, appends-whole, made-split}
use Rattle.std.proofs.Common.{not}
use Rattle.machine_defs.specs.Answers as answer
use Rattle.machine_defs.specs.Steps as step
use Rattle.state_laws.proofs.Gates.{drop-list}
use Rattle.job_laws.proofs.Runs.{Ends}
use Rattle.job_laws.proofs.Providers.{Called, made-keeps}
use Rattle.job_laws.proofs.Moving.{IsMove}
use Rattle.job_laws.proofs.Leaving.{counts-rise, others-stay}
use Rattle.job_laws.proofs.Gets.{take-within}
use Rattle.job_laws.proofs.Removals.{IsWriting, writing-fetches, moves-made, older-goes}
use Rattle.job_laws.proofs.Endings.{listed, last-kept, move-ends, act-ends, end-left, end-sure, end-made, none-written, one-whole, one-doubted, one-cut}
use Rattle.job_laws.proofs.Tails.{IsTail, NoStore, each-tail}

-- ---- the list of a drop

writing-drop : (s : Setup) (job : Job) (name : List ℕ) → job.kind ≡ DropJob name →
    Each IsWriting (actions_of s job)
writing-drop s job name kind =
    rw (drop-list s job name kind) (tt, (tt, (tt, (tt, each-tail IsWriting s job (λ k o. tt) tt))))

-- a drop of a name that is in effect is not idle
not-idle : (w : State) (job : Job) (name : List ℕ) (f : File) → (job.place ≡ 0 → file_in w name ≡ Some f) →
    is_idle_drop w job (DropJob name) ≡ false
not-idle w job name f h = elim (cases_Bool (is_idle_drop w job (DropJob name))) [
  | inl t ↦ absurd (let p = and_parts (job.place == 0) (not (is_some (file_in w name))) t in
      let g : false ≡ true = sym (cc (h (eqb-true job.place 0 p.0))) ∙ p.1 in false≢true g)
  | inr n ↦ n
]

-- ---- the drop

module _ (start new : State) (name : List ℕ) (how : Answer) (heard : List Entry) (O : IsOpenAtRest start 1)
    (E : Ends start (DropJob name) None how heard new) (file : File)
    (in_effect : file_in start name ≡ Some file) where
  abbrev drop_with : With
  drop_with = with_job_of start (DropJob name) E.job

  abbrev ran : Ran
  ran = ran_from start new heard

  nothing-heard : heard ≡ []
  nothing-heard = cc

  list-is : actions_of (setup_in start) E.job ≡ append_actions ++ drop_rest (setup_in start) E.job
  list-is = drop-list (setup_in start) E.job name E.walked.kind_is

  -- ---- a drop that was cut off

  moves-taken : (action : Action) → E.action ≡ action → (action ≡ End → ⊥) → (IsTail action → ⊥) →
      Each IsMove (take E.job.place (actions_of (setup_in start) E.job))
  moves-taken action at n m = subst (λ xs. Each IsMove (take E.job.place xs)) (sym list-is)
      (elim (split_get append_actions (drop_rest (setup_in start) E.job) E.job.place action
      (ap (λ xs. slice_get xs E.job.place) (sym list-is) ∙ listed E action at n)) [
        | inl a ↦ subst (Each IsMove) (sym (take-within append_actions (drop_rest (setup_in start) E.job)
            E.job.place (omega arith))) (each_take IsMove append_actions E.job.place
            (tt, (tt, (tt, (tt, tt)))))
        | inr b ↦ absurd (m (each_get IsTail (drop_rest (setup_in start) E.job)
            (E.job.place - length append_actions) action
            (each-tail IsTail (setup_in start) E.job (λ k o. tt) tt) b.1))
      ])

  same-held : (action : Action) → E.action ≡ action → (action ≡ End → ⊥) → (IsTail action → ⊥) → SameHeld ran
  same-held action at n m j l = (last-kept E j).0
      ∙ made-keeps drop_with j (λ p q. q.held ≡ p.held) IsMove (λ p. refl) (λ p q r a b. b ∙ a) one
      (take E.job.place (actions_of (setup_in start) E.job)) start.providers E.before.providers [] E.job.given
      (moves-taken action at n m) E.walked.made
    where
      one : (a : Action) (given now : List Given) (p q : Provider) → IsMove a →
          Called drop_with a given now j p q → q.held ≡ p.held
      one WriteBody given now p q u c = absurd c
      one SyncBody given now p q u c = absurd c
      one WriteGate given now p q u c = absurd c
      one SyncGate given now p q u c = absurd c
      one a given now p q u c = absurd u

  abbrev Gives : Answer → Type 0
  Gives a = DropLeaves ran name a

  moved : (action : Action) → E.action ≡ action → SameHeld ran →
      Moves E.before E.job action E.before.append (Ended how) new → Gives how
  moved action at same h = move-ends O E Gives action at (λ failed F. (
    rose-before start.disk_faults E.before.disk_faults new.disk_faults E.walked.disk F.low F.rose,
    one-doubted O E.walked refl new heard F,
    same,
  ))
      (λ N. (one-cut O E.walked refl new heard N.left N.records N.doubt, same)) h

  -- ---- a drop that came to its end

  -- before its first move the records are those of the begin
  at-begin : E.job.place ≡ 0 → file_in E.before name ≡ Some file
  at-begin first = ap (λ rs. file_of rs name) (none-written O E.walked refl
      (omega (arith, appends-whole E.before E.job (DropJob name) E.walked.kind_is first))) ∙ in_effect

  idle : is_idle_drop E.before E.job (DropJob name) ≡ false
  idle = not-idle E.before E.job name file at-begin

  module _ (at : E.action ≡ End) where
    last : next_action E.before E.job ≡ Some End
    last = E.next ∙ ap Some at

    removed : (given : List Given) × (now : List Given) ×
        Made drop_with (remove_actions (setup_in start) E.job) start.providers E.before.providers given now
    removed = (let a = made-split drop_with append_actions (drop_rest (setup_in start) E.job) start.providers
        E.before.providers [] E.job.given (rw list-is at (end-made O E.walked idle last)) in
        let d = made-split drop_with (remove_actions (setup_in start) E.job)
        (End ∷ []) a.0 E.before.providers a.1 E.job.given a.3 in
        let first : a.0 ≡ start.providers = moves-made drop_with start.providers a.0 [] a.1 a.2 in
        let end : E.before.providers ≡ d.0 = d.3.3.0 ∙ d.3.2.0 in (
          a.1,
          d.1,
          (rw (← end) at (subst (λ f. Made drop_with (remove_actions (setup_in start) E.job) f d.0 a.1 d.1)
              first d.2)),
        ))

    drops-file : new.providers ≡ E.before.providers → DropsFile ran name
    unfolding setup_in
    drops-file providers = record { file = file; in_effect = in_effect; held = each }
      where
        each : (j : ℕ) → j < (setup_in start).n →
            Goes (DroppedFrom file.id (Rose (start.providers j).other_faults (new.providers j).other_faults))
            (start.providers j).held (new.providers j).held
        each j l = rw (← (ap (λ (f : ℕ → Provider). f j) providers)) at
            (older-goes drop_with start (setup_in start) E.job
            (Some file) start.providers E.before.providers removed.0 removed.1 j O.rest.idle.0
            (E.walked.older (end-left O E.walked idle last) ∙ ap (removable start) in_effect) l removed.2)

  drop-ends : (a : Answer) → E.action ≡ End → step.Ends E.before E.job (DropJob name) a →
      new ≡ ended E.before E.job → Gives a
  drop-ends answer.Dropped at so is = (
    one-whole O E.walked refl new heard (end-left O E.walked idle (last at))
        (end-sure O E.walked idle (last at)) (ap (λ (v : State). v.records) is)
        (ap (λ (v : State). v.doubt) is),
    drops-file at (ap (λ (v : State). v.providers) is),
  )
  drop-ends a at so is = absurd so

  -- ---- all ends

  unstored : Each NoStore (actions_of (setup_in start) E.job)
  unstored = rw list-is (tt, (tt, (tt, (tt, each-tail NoStore (setup_in start) E.job (λ k o. tt) tt))))

  gives : Gives how
  gives = act-ends E Gives (drop-ends how) (λ action at move tail h. moved action at
      (same-held action at (λ e. subst IsMove e move) tail) h) (λ k o t at h. absurd
      (each_get NoStore (actions_of (setup_in start) E.job) E.job.place (Store k o t) unstored
      (listed E (Store k o t) at (λ e. cc)))) (λ o t at h. absurd
      (each_get IsWriting (actions_of (setup_in start) E.job) E.job.place (Work o t)
      (writing-drop (setup_in start) E.job name E.walked.kind_is) (listed E (Work o t) at (λ e. cc))))

  no-fetches : NoFetches ran
  no-fetches j l = (last-kept E j).1
      ∙ writing-fetches drop_with (take E.job.place (actions_of (setup_in start) E.job)) start.providers
      E.before.providers [] E.job.given j
      (each_take IsWriting (actions_of (setup_in start) E.job) E.job.place
      (writing-drop (setup_in start) E.job name E.walked.kind_is)) E.walked.made

  -- a drop leaves its record, and takes its file away from each provider; or it was cut off
  pub drop-leaves : Leaves ran (DropJob name) None how
  unfolding setup_in
  drop-leaves = record {
    by_kind = (gives, no-fetches, nothing-heard);
    counts = counts-rise start new (DropJob name) None how heard O E;
    others = others-stay start new (DropJob name) None how heard O E;
  }

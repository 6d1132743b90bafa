-- What an upgrade leaves whose job was the only one.
use Rattle.job_laws.proofs.Words.{◌≡◌, ℕ, List, [], take, None, Some, refl, ap, sym, subst, ◌∙◌, Each, each_get, each_take, Provider, rose-before, UpgradeJob, Given, Action, Store, Fetch, Ask, Work, Remove, End, actions_of, Answer, Ended, Entry, State, setup_in, ended, Moves, next_action, UpgradeLeaves, Leaves, Ran, ran_from, SameHeld, NoFetches, With, IsOpenAtRest, with_job_of, upgrade-list}
use Rattle.machine_defs.specs.Answers as answer
use Rattle.machine_defs.specs.Steps as step
use Rattle.job_laws.proofs.Runs.{Ends}
use Rattle.job_laws.proofs.Providers.{Called, made-keeps}
use Rattle.job_laws.proofs.Leaving.{counts-rise, others-stay}
use Rattle.job_laws.proofs.Endings.{listed, last-kept, move-ends, act-ends, end-left, end-sure, one-whole, one-doubted, one-cut}

-- a move of an append, or the end
abbrev IsStill : Action → Type 0
IsStill (Store k o t) = ⊥
IsStill (Fetch k o t) = ⊥
IsStill (Ask k o r) = ⊥
IsStill (Work o t) = ⊥
IsStill (Remove k o) = ⊥
IsStill action = Unit {0}

module _ (start new : State) (how : Answer) (heard : List Entry) (O : IsOpenAtRest start 1)
    (E : Ends start UpgradeJob None how heard new) where
  abbrev upgrade_with : With
  upgrade_with = with_job_of start UpgradeJob E.job

  abbrev ran : Ran
  ran = ran_from start new heard

  nothing-heard : heard ≡ []
  nothing-heard = cc

  still-list : Each IsStill (actions_of (setup_in start) E.job)
  still-list = subst (Each IsStill) (sym (upgrade-list (setup_in start) E.job E.walked.kind_is))
      (tt, (tt, (tt, (tt, (tt, tt)))))

  -- providers are not called
  kept : (i : ℕ) → E.before.providers i ≡ start.providers i
  kept i = made-keeps upgrade_with i (λ p q. q ≡ p) IsStill (λ p. refl) (λ p q r a b. b ∙ a) one
      (take E.job.place (actions_of (setup_in start) E.job)) start.providers E.before.providers [] E.job.given
      (each_take IsStill (actions_of (setup_in start) E.job) E.job.place still-list) E.walked.made
    where
      one : (a : Action) (given now : List Given) (p q : Provider) → IsStill a →
          Called upgrade_with a given now i p q → q ≡ p
      one (Store k o t) given now p q u c = absurd u
      one (Fetch k o t) given now p q u c = absurd u
      one (Ask k o r) given now p q u c = absurd u
      one (Work o t) given now p q u c = absurd u
      one (Remove k o) given now p q u c = absurd u
      one a given now p q u c = absurd c

  same-held : SameHeld ran
  same-held j l = cc ((last-kept E j).0, kept j)

  no-fetches : NoFetches ran
  no-fetches j l = cc ((last-kept E j).1, kept j)

  abbrev Gives : Answer → Type 0
  Gives a = UpgradeLeaves ran a

  -- an upgrade that came to its end
  upgrade-ends : (a : Answer) → E.action ≡ End → step.Ends E.before E.job UpgradeJob a →
      new ≡ ended E.before E.job → Gives a
  upgrade-ends answer.Upgraded at so is =
      (let next : next_action E.before E.job ≡ Some End = E.next ∙ ap Some at in (
        one-whole O E.walked refl new heard (end-left O E.walked refl next) (end-sure O E.walked refl next)
            (cc) (cc),
        same-held,
      ))
  upgrade-ends a at so is = absurd so

  -- one that was cut off
  upgrade-moved : (action : Action) → E.action ≡ action →
      Moves E.before E.job action E.before.append (Ended how) new → Gives how
  upgrade-moved action at h = move-ends O E Gives action at (λ failed F. (
    rose-before start.disk_faults E.before.disk_faults new.disk_faults E.walked.disk F.low F.rose,
    one-doubted O E.walked refl new heard F,
    same-held,
  ))
      (λ N. (one-cut O E.walked refl new heard N.left N.records N.doubt, same-held)) h

  none-acts : (action : Action) → E.action ≡ action → (action ≡ End → ⊥) → (IsStill action → ⊥) → ⊥
  none-acts action at n none = none (each_get IsStill (actions_of (setup_in start) E.job) E.job.place action
      still-list (listed E action at n))

  gives : Gives how
  gives = act-ends E Gives (upgrade-ends how) (λ action at move tail h. upgrade-moved action at h)
      (λ k o t at h. absurd (none-acts (Store k o t) at (λ e. cc) (λ u. u)))
      (λ o t at h. absurd (none-acts (Work o t) at (λ e. cc) (λ u. u)))

  -- an upgrade leaves its record, and providers as they were; or it was cut off
  pub upgrade-leaves : Leaves ran UpgradeJob None how
  unfolding setup_in
  upgrade-leaves = record {
    by_kind = (gives, no-fetches, nothing-heard);
    counts = counts-rise start new UpgradeJob None how heard O E;
    others = others-stay start new UpgradeJob None how heard O E;
  }

-- What every job leaves: no count of faults falls, and providers beyond the setup's stay as they are.
use Rattle.job_laws.proofs.Words.{◌≡◌, ℕ, zero, suc, ◌+◌, ◌<◌, ◌≤◌, Bool, true, false, cond, List, [], ◌∷◌, ◌++◌, length, take, Option, Some, refl, ap, sym, subst, ◌∙◌, inl, inr, arith, flat_map, range_with_len, Each, each_get, each_append, each_flat, each_take, upto, Provider, StoreCounts, Setup, Kind, PutJob, GetJob, DropJob, AuditJob, RepairJob, UpgradeJob, Pinned, Job, profiled, stripes_of, Action, WriteBody, SyncBody, WriteGate, SyncGate, Store, Fetch, Ask, Work, Remove, End, append_actions, on_each_provider, on_each_stripe, open_actions, store_actions, read_actions, rewrite_actions, repair_actions, rounds_of, ask_actions, remove_actions, actions_by, actions_of, Answer, Ended, State, Append, setup_in, Entry, chosen, Moves, Acts, next_stands, ran_from, CountsRise, With, CallsOne, Made, IsOpenAtRest, with_job_at}
use Rattle.machine_defs.specs.Answers as answer
use Rattle.job_laws.proofs.Runs.{Ends}
use Rattle.job_laws.proofs.Providers.{calls-at, Rises, rises-same, rises-more, IsBelow, called-below, each-upto, made-keeps}
use Rattle.job_laws.proofs.Truth.{made-rises}

-- ---- no action calls a provider beyond the setup's

below-open : (s : Setup) (object stripe : ℕ) → Each (IsBelow s.n) (open_actions s object stripe)
below-open s object stripe = each_append (IsBelow s.n) (on_each_provider s (λ j. Fetch j object stripe))
    (Work object stripe ∷ [])
    (each-upto (IsBelow s.n) (λ j. Fetch j object stripe) 0 s.n (λ k l. omega (arith, l))) (tt, tt)

below-removals : (s : Setup) (job : Job) → Each (IsBelow s.n) (remove_actions s job)
below-removals s job = each_flat (IsBelow s.n) (λ object. on_each_provider s (λ j. Remove j object)) job.older
    (λ object. each-upto (IsBelow s.n) (λ j. Remove j object) 0 s.n (λ k l. omega (arith, l)))

below-rewrites : (s : Setup) (job : Job) (object stripe : ℕ) →
    Each (IsBelow s.n) (rewrite_actions s job object stripe)
below-rewrites s job object stripe = range 0 s.n (omega arith)
  where
    range : (a n : ℕ) → a + n ≤ s.n →
        Each (IsBelow s.n) (flat_map (λ j. cond (job.flagged j) (Store j object stripe ∷ []) [])
        (range_with_len a n))
    range a zero l = tt
    range a (suc n) l = each_append (IsBelow s.n) (cond (job.flagged a) (Store a object stripe ∷ []) [])
        (flat_map (λ j. cond (job.flagged j) (Store j object stripe ∷ []) []) (range_with_len (a + 1) n))
        (one (job.flagged a)) (range (a + 1) n (omega (arith, l)))
      where
        one : (b : Bool) → Each (IsBelow s.n) (cond b (Store a object stripe ∷ []) [])
        one true = (omega (arith, l), tt)
        one false = tt

below-append : (n : ℕ) → Each (IsBelow n) append_actions
below-append n = (tt, (tt, (tt, (tt, tt))))

below-by : (s : Setup) (job : Job) (kind : Kind) → Each (IsBelow s.n) (actions_by s job kind)
below-by s job (PutJob name bytes) = each_append (IsBelow s.n) append_actions
    (store_actions s job bytes ++ (append_actions ++ (remove_actions s job ++ End ∷ []))) (below-append s.n)
    (each_append (IsBelow s.n) (store_actions s job bytes)
    (append_actions ++ (remove_actions s job ++ End ∷ []))
    (each_flat (IsBelow s.n) (λ stripe. on_each_provider s (λ j. Store j job.subject stripe))
    (upto (stripes_of (profiled s job.profile) (length bytes)))
    (λ stripe. each-upto (IsBelow s.n) (λ j. Store j job.subject stripe) 0 s.n (λ k l. omega arith)))
    (each_append (IsBelow s.n) append_actions (remove_actions s job ++ End ∷ []) (below-append s.n)
    (each_append (IsBelow s.n) (remove_actions s job) (End ∷ []) (below-removals s job) (tt, tt))))
below-by s job (GetJob name) = each_append (IsBelow s.n) (read_actions s job.pinned) (End ∷ [])
    (each_flat (IsBelow s.n) (λ (f : Pinned). on_each_stripe (profiled s f.profile) (length f.bytes)
    (open_actions s f.id)) job.pinned (λ f. each_flat (IsBelow s.n) (open_actions s f.id)
    (upto (stripes_of (profiled s f.profile) (length f.bytes))) (λ stripe. below-open s f.id stripe)))
    (tt, tt)
below-by s job (DropJob name) =
    each_append (IsBelow s.n) append_actions (remove_actions s job ++ End ∷ []) (below-append s.n)
    (each_append (IsBelow s.n) (remove_actions s job) (End ∷ []) (below-removals s job) (tt, tt))
below-by s job AuditJob = each_append (IsBelow s.n) append_actions (ask_actions s job ++
    (append_actions ++ End ∷ [])) (below-append s.n) (each_append (IsBelow s.n) (ask_actions s job)
    (append_actions ++ End ∷ []) (each_flat (IsBelow s.n) _ job.pinned
    (λ f. each_flat (IsBelow s.n) (λ round. on_each_provider s (λ j. Ask j f.id round))
    (rounds_of (profiled s f.profile) (length f.bytes))
    (λ round. each-upto (IsBelow s.n) (λ j. Ask j f.id round) 0 s.n (λ k l. omega (arith, l)))))
    (tt, (tt, (tt, (tt, (tt, tt))))))
below-by s job RepairJob = each_append (IsBelow s.n) (repair_actions s job) (append_actions ++ End ∷ [])
    (each_flat (IsBelow s.n) _ job.pinned (λ f. each_flat (IsBelow s.n)
    (λ stripe. open_actions s f.id stripe ++ rewrite_actions s job f.id stripe)
    (upto (stripes_of (profiled s f.profile) (length f.bytes))) (λ stripe. each_append (IsBelow s.n)
    (open_actions s f.id stripe) (rewrite_actions s job f.id stripe) (below-open s f.id stripe)
    (below-rewrites s job f.id stripe)))) (tt, (tt, (tt, (tt, (tt, tt)))))
below-by s job UpgradeJob = omega arith

-- each call of a job's actions is of a provider of the setup
pub below : (s : Setup) (job : Job) → Each (IsBelow s.n) (actions_of s job)
unfolding actions_of
below s job = below-by s job job.kind

-- ---- the last step

-- providers after the last step: as they were, or one of them failed at a store or found no memory for it
pub data LastCall (action : Action) (w new : State) : Type 0 where
  none : new.providers ≡ w.providers → LastCall action w new
  store : (j object stripe : ℕ) → action ≡ Store j object stripe →
      CallsOne w.providers j (λ p q. (q.held ≡ p.held) × StoreCounts p q) new.providers →
      LastCall action w new

module _ (w : State) (job : Job) (new : State) where
  -- what moves leave
  moves-last : (action : Action) (flight : Option Append) (how : Answer) →
      Moves w job action flight (Ended how) new → (new.providers ≡ w.providers) ×
      (w.disk_faults ≤ new.disk_faults)
  moves-last WriteBody flight answer.DiskFault (faults, low, rose, is)
      = (cc, (let e = ap (λ (v : State). v.disk_faults) is in omega (arith, e)))
  moves-last WriteBody flight answer.Memory is = (
    cc,
    (let e = ap (λ (v : State). v.disk_faults) is in omega (arith, e)),
  )
  moves-last SyncBody (Some a) answer.DiskFault (at, (faults, low, rose, is)) = (
    cc,
    (let e = ap (λ (v : State). v.disk_faults) is in omega (arith, low, e)),
  )
  moves-last WriteGate (Some a) answer.DiskFault (at, (faults, low, rose, is)) = (
    cc,
    (let e = ap (λ (v : State). v.disk_faults) is in omega (arith, low, e)),
  )
  moves-last WriteGate (Some a) answer.Memory (at, is) = (
    cc,
    (let e = ap (λ (v : State). v.disk_faults) is in omega (arith, e)),
  )
  moves-last SyncGate (Some a) answer.DiskFault (at, (faults, low, rose, is)) = (
    cc,
    (let e = ap (λ (v : State). v.disk_faults) is in omega (arith, low, e)),
  )
  moves-last action flight how h = absurd h

  of-move : (action : Action) (how : Answer) → Moves w job action w.append (Ended how) new →
      LastCall action w new × (w.disk_faults ≤ new.disk_faults)
  of-move action how h = (let m = moves-last action w.append how h in (LastCall.none m.0, m.1))

  quiet-end : (action : Action) → (faults : ℕ) → new.providers ≡ w.providers →
      new.disk_faults ≡ w.disk_faults → LastCall action w new × (w.disk_faults ≤ new.disk_faults)
  quiet-end action faults p d = (LastCall.none p, omega (arith, d))

  -- a last step leaves providers, or is a failed store of one; the disk's count does not fall
  pub last-call : (action : Action) (how : Answer) → Acts w job action (Ended how) new →
      LastCall action w new × (w.disk_faults ≤ new.disk_faults)
  last-call (Store j o s) (answer.ProviderFault k) (same, (p, made, is)) = (
    LastCall.store j o s refl (p, (made.held, made.counts), cc),
    (let e = ap (λ (v : State). v.disk_faults) is in omega (arith, e)),
  )
  last-call (Store j o s) answer.Memory (p, made, is) = (
    LastCall.store j o s refl (p, (made.held, made.counts), cc),
    (let e = ap (λ (v : State). v.disk_faults) is in omega (arith, e)),
  )
  last-call (Work o s) (answer.Lost t row) (same, loses, is) = quiet-end (Work o s) 0 (cc) (cc)
  last-call End how (so, is) = quiet-end End 0 (cc) (cc)
  last-call action how h = of-move action how h

-- ---- the whole run

module _ (start new : State) (kind : Kind) (own : Option ℕ) (how : Answer) (heard : List Entry)
    (O : IsOpenAtRest start 1) (E : Ends start kind own how heard new) where
  abbrev with_all : With
  with_all = with_job_at start kind (chosen (setup_in start) own) E.job

  L : LastCall E.action E.before new × (E.before.disk_faults ≤ new.disk_faults)
  L = last-call E.before E.job new E.action how E.acts

  taken-below : Each (IsBelow (setup_in start).n) (take E.job.place (actions_of (setup_in start) E.job))
  taken-below = each_take (IsBelow (setup_in start).n) (actions_of (setup_in start) E.job) E.job.place
      (below (setup_in start) E.job)

  made-all : Made with_all (take E.job.place (actions_of (setup_in start) E.job))
      start.providers E.before.providers [] E.job.given
  made-all = E.walked.made

  rises-last : (j : ℕ) → LastCall E.action E.before new → Rises (E.before.providers j) (new.providers j)
  rises-last j (LastCall.none is) = subst (λ (f : ℕ → Provider). Rises (E.before.providers j) (f j)) (sym is)
      (rises-same (E.before.providers j))
  rises-last j (LastCall.store k o s at call) =
      elim (calls-at E.before.providers k (λ p q. (q.held ≡ p.held) × StoreCounts p q) new.providers j call) [
        | inl e ↦ subst (Rises (E.before.providers j)) (sym e) (rises-same (E.before.providers j))
        | inr c ↦ (c.1.1.store_faults, (omega arith))
      ]

  rises : (j : ℕ) → Rises (start.providers j) (new.providers j)
  rises j = rises-more (start.providers j) (E.before.providers j) (new.providers j)
      (made-rises with_all (take E.job.place (actions_of (setup_in start) E.job))
      start.providers E.before.providers [] E.job.given j made-all) (rises-last j L.0)

  -- in the run of a job no count of faults falls
  pub counts-rise : CountsRise (ran_from start new heard)
  counts-rise = record {
    disk = (omega (arith, E.walked.disk, L.1));
    stores = λ j. (rises j).0;
    others = λ j. (rises j).1;
  }

  others-before : (j : ℕ) → (setup_in start).n ≤ j → E.before.providers j ≡ start.providers j
  others-before j l = made-keeps with_all j (λ p q. q ≡ p) (IsBelow (setup_in start).n) (λ p. refl)
      (λ p q r a b. b ∙ a) (λ a given now p q b c. absurd
      (called-below with_all (setup_in start).n a given now j p q b l c))
      (take E.job.place (actions_of (setup_in start) E.job)) start.providers E.before.providers [] E.job.given
      taken-below made-all

  others-last : (j : ℕ) → (setup_in start).n ≤ j → LastCall E.action E.before new →
      new.providers j ≡ E.before.providers j
  others-last j l (LastCall.none is) = cc
  others-last j l (LastCall.store k o s at call) =
      elim (calls-at E.before.providers k (λ p q. (q.held ≡ p.held) × StoreCounts p q) new.providers j call) [
        | inl e ↦ e
        | inr c ↦ absurd (let b : k < (setup_in start).n =
            each_get (IsBelow (setup_in start).n) (actions_of (setup_in start) E.job) E.job.place
            (Store k o s) (below (setup_in start) E.job) (cc (next_stands E.before E.job (Store k o s) (E.next
            ∙ ap Some at) (λ e. cc))) in let f = c.0 in omega (arith, b, f, l))
      ]

  -- the run of a job leaves providers beyond the setup's
  pub others-stay : (j : ℕ) → (setup_in start).n ≤ j → new.providers j ≡ start.providers j
  others-stay j l = others-last j l L.0 ∙ others-before j l

-- Where moves and works stand in the lists of actions of puts and repairs.
use Rattle.second_half_laws.proofs.Words.{◌-◌, true, cond, refl, ap, sym, subst, ◌∙◌, inl, inr, arith, not, is_some, slice_get, and_left, ne_eqb, false≢true, flat_map, Each, In, each_get, each_append, get_behind, upto, Setup, setup_of, Kind, PutJob, GetJob, DropJob, AuditJob, RepairJob, UpgradeJob, Pinned, Job, advanced, Action, WriteGate, SyncGate, Store, Work, End, append_actions, on_each_stripe, open_actions, store_actions, read_actions, remove_actions, repair_actions, actions_by, actions_of, profiled, pinned_stripes, State, setup_in, file_in, next_action, is_idle_drop, relies, split_get, next_by, next_is_by, stores_count, PutAt, put_next, actions_are, cond_false, setup_same, get_left, next_stands, actions_by-advanced}
use Rattle.std.proofs.Common.{◌≡◌, ℕ, zero, suc, ◌+◌, ◌<◌, ◌≤◌, ◌==◌, Bool, false, List, [], ◌∷◌, ◌++◌, length, Some}
use Rattle.second_half_laws.proofs.Places.{by_kind, reads_all, repairs_all, stores_all, asks_all, tail_all}

-- ---- puts

abbrev NotGate : Action → Type 0
NotGate WriteGate = ⊥
NotGate action = Unit {0}

gate_third : (q : ℕ) → slice_get append_actions q ≡ Some WriteGate → q ≡ 2
gate_third (suc (suc zero)) h = refl
gate_third (suc (suc (suc zero))) h = absurd (cc h)
gate_third _ h = absurd (cc h)

-- a third move of a put's last append stands behind its stores and two more
pub write_gate_place : (w : State) (job : Job) (name bytes : List ℕ) → job.kind ≡ PutJob name bytes →
    next_action w job ≡ Some WriteGate → 4 ≤ job.place → job.place ≡ 6 + stores_count w job bytes
write_gate_place w job name bytes kind h later = elim (put_next w job name bytes WriteGate kind h) [
  | PutAt.first l e ↦ absurd (omega arith)
  | PutAt.store l k is ↦ absurd is
  | PutAt.second q is l e ↦ (omega (arith, gate_third q e))
  | PutAt.after l is ↦ absurd (late_gate l)
]
  where
    at : slice_get (actions_by (setup_in w) job (PutJob name bytes)) job.place ≡ Some WriteGate
    at = by_kind (setup_in w) job (PutJob name bytes) job.place WriteGate kind
        (next_stands w job WriteGate h (λ e. cc))

    none_late : Each NotGate (remove_actions (setup_in w) job ++ End ∷ [])
    none_late = tail_all (setup_in w) job NotGate (λ j o. tt) tt

    late_gate : 8 + stores_count w job bytes ≤ job.place → ⊥
    late_gate l = elim (split_get append_actions (store_actions (setup_in w) job bytes ++
        (append_actions ++ (remove_actions (setup_in w) job ++ End ∷ []))) job.place WriteGate at) [
          | inl a ↦ (omega (arith, a.0))
          | inr b ↦ elim (split_get (store_actions (setup_in w) job bytes)
              (append_actions ++ (remove_actions (setup_in w) job ++ End ∷ [])) (job.place - 4) WriteGate b.1) [
                | inl c ↦ (omega (arith, c.0))
                | inr d ↦ elim (split_get append_actions (remove_actions (setup_in w) job ++ End ∷ [])
                    (job.place - 4 - stores_count w job bytes) WriteGate d.1) [
                      | inl e ↦ (omega (arith, e.0))
                      | inr f ↦ each_get NotGate (remove_actions (setup_in w) job ++ End ∷ [])
                          (job.place - 4 - stores_count w job bytes - 4) WriteGate none_late f.1
                    ]
              ]
        ]

-- ---- repairs

abbrev IsWithin : Setup → Job → Action → Type 0
IsWithin t job (Work o s) = (f : Pinned) × In f job.pinned × (f.id ≡ o) × (s < pinned_stripes t f)
IsWithin t job action = Unit {0}

-- the work of a repair is on a stripe of one of its files
work_within : (w : State) (job : Job) (o s : ℕ) → job.kind ≡ RepairJob → next_action w job ≡ Some (Work o s) →
    (f : Pinned) × In f job.pinned × (f.id ≡ o) × (s < pinned_stripes (setup_in w) f)
work_within w job o s kind h = each_get (IsWithin (setup_in w) job) (actions_by (setup_in w) job RepairJob)
    job.place (Work o s) (each_append (IsWithin (setup_in w) job) (repair_actions (setup_in w) job)
    (append_actions ++ End ∷ []) (repairs_all (setup_in w) job (IsWithin (setup_in w) job)
    (λ f st in_f l. (λ j. tt, (f, in_f, refl, l), λ j. tt))) (tt, (tt, (tt, (tt, (tt, tt))))))
    (by_kind (setup_in w) job RepairJob job.place (Work o s) kind (next_stands w job (Work o s) h (λ e. cc)))

-- so is that of a get
pub read_within : (w : State) (job : Job) (name : List ℕ) (o s : ℕ) → job.kind ≡ GetJob name →
    next_action w job ≡ Some (Work o s) → (f : Pinned) × In f job.pinned × (f.id ≡ o) ×
    (s < pinned_stripes (setup_in w) f)
read_within w job name o s kind h = each_get (IsWithin (setup_in w) job)
    (actions_by (setup_in w) job (GetJob name)) job.place (Work o s) (each_append (IsWithin (setup_in w) job)
    (read_actions (setup_in w) job.pinned) (End ∷ []) (reads_all (setup_in w) job (IsWithin (setup_in w) job)
    (λ f st in_f l. (λ j. tt, (f, in_f, refl, l)))) (tt, tt)) (by_kind (setup_in w) job (GetJob name)
    job.place (Work o s) kind (next_stands w job (Work o s) h (λ e. cc)))

-- so is that of each job that relies on providers
pub works_within : (w : State) (job : Job) (o s : ℕ) (kind : Kind) → job.kind ≡ kind → relies kind ≡ true →
    next_action w job ≡ Some (Work o s) → (f : Pinned) × In f job.pinned × (f.id ≡ o) ×
    (s < pinned_stripes (setup_in w) f)
works_within w job o s (GetJob name) is reads h = read_within w job name o s is h
works_within w job o s RepairJob is reads h = work_within w job o s is h
works_within w job o s kind is reads h = absurd (false≢true reads)

-- the actions of a repair hang on its files and on what it flags
abbrev repair_list : Setup → (ℕ → Bool) → List Pinned → List Action
repair_list t flagged pinned = flat_map (λ (f : Pinned). on_each_stripe (profiled t f.profile)
    (length f.bytes) (λ stripe. open_actions t f.id stripe ++ flat_map
    (λ j. cond (flagged j) (Store j f.id stripe ∷ []) []) (upto t.n))) pinned ++ (append_actions ++ End ∷ [])

repair_list_is : (t : Setup) (job : Job) → actions_by t job RepairJob ≡ repair_list t job.flagged job.pinned
repair_list_is t job = refl

-- repairs with the same files and the same flags have the same actions
pub same_actions : (t : Setup) (x j : Job) → x.kind ≡ RepairJob → j.kind ≡ RepairJob → j.pinned ≡ x.pinned →
    j.flagged ≡ x.flagged → actions_of t j ≡ actions_of t x
same_actions t x j kx kj pinned flagged =
    cc (actions_are t j RepairJob kj, repair_list_is t j, actions_are t x RepairJob kx, repair_list_is t x)

-- ---- a third move is followed by a fourth

abbrev Followed : List Action → Type 0
Followed xs = (k : ℕ) → slice_get xs k ≡ Some WriteGate → slice_get xs (suc k) ≡ Some SyncGate

followed_append : (xs ys : List Action) → Followed xs → Followed ys → Followed (xs ++ ys)
followed_append xs ys p q k h = elim (split_get xs ys k WriteGate h) [
  | inl x ↦ get_left xs ys (suc k) SyncGate (p k x.1)
  | inr y ↦ subst (λ n. slice_get (xs ++ ys) n ≡ Some SyncGate)
      (let l = y.0 in omega arith) (get_behind xs ys _ _ (q (k - length xs) y.1))
]

followed_none : (xs : List Action) → Each NotGate xs → Followed xs
followed_none xs e k h = absurd (each_get NotGate xs k WriteGate e h)

followed_moves : Followed append_actions
followed_moves (suc (suc zero)) h = refl
followed_moves (suc (suc (suc zero))) h = absurd (cc h)
followed_moves _ h = absurd (cc h)

followed_end : Followed (append_actions ++ End ∷ [])
followed_end = followed_append append_actions (End ∷ []) followed_moves (followed_none (End ∷ []) (tt, tt))

followed_by : (t : Setup) (job : Job) (kind : Kind) → Followed (actions_by t job kind)
followed_by t job (PutJob name bytes) =
    followed_append append_actions _ followed_moves (followed_append _ _ (followed_none _ (stores_all t job
    bytes NotGate (λ j s. tt))) (followed_append append_actions _ followed_moves (followed_none _
    (tail_all t job NotGate (λ j o. tt) tt))))
followed_by t job (GetJob name) = followed_append _ _ (followed_none _ (reads_all t job NotGate
    (λ f st in_f l. (λ j. tt, tt)))) (followed_none (End ∷ []) (tt, tt))
followed_by t job (DropJob name) =
    followed_append append_actions _ followed_moves (followed_none _ (tail_all t job NotGate (λ j o. tt) tt))
followed_by t job AuditJob = followed_append append_actions _ followed_moves
    (followed_append _ _ (followed_none _ (asks_all t job NotGate (λ j o r. tt))) followed_end)
followed_by t job RepairJob = followed_append _ _
    (followed_none _ (repairs_all t job NotGate (λ f st in_f l. (λ j. tt, tt, λ j. tt)))) followed_end
followed_by t job UpgradeJob = followed_end

-- a job that has made an action is no idle drop
not_idle : (w : State) (job : Job) (kind : Kind) → is_idle_drop w (advanced job) kind ≡ false
not_idle w job (DropJob name) = and_left (job.place + 1 == 0) (not (is_some (file_in w name)))
    (ne_eqb (job.place + 1) 0 (λ e. omega arith))
not_idle w job kind = refl

-- behind a third move comes the fourth
pub gate_next : (w : State) (job : Job) → next_action w job ≡ Some WriteGate →
    next_action w (advanced job) ≡ Some SyncGate
gate_next w job h = (let one : suc job.place ≡ job.place + 1 = omega arith in
    cc (
      next_is_by w (advanced job),
      cond_false _ _ _ (not_idle w job job.kind),
      actions_by-advanced (setup_in w) job job.kind,
      followed_by (setup_in w) job job.kind job.place (by_kind (setup_in w) job job.kind job.place WriteGate
          refl (next_stands w job WriteGate h (λ e. cc))),
    ))

-- the next action hangs on the records alone
same_by : (v w : State) (job : Job) (kind : Kind) (place : ℕ) → v.records ≡ w.records →
    next_by v job kind place ≡ next_by w job kind place
same_by v w job UpgradeJob place e = refl
same_by v w job _ place e = cc (setup_same v w (ap setup_of e))

-- a job has the same next action wherever the records are the same
pub next_same : (v w : State) (job : Job) → v.records ≡ w.records → next_action v job ≡ next_action w job
next_same v w job e = next_is_by v job ∙ (same_by v w job job.kind job.place e ∙ sym (next_is_by w job))

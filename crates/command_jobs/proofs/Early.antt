-- A put that ends before its stores are done has not begun its last append.
use Rattle.command_jobs.proofs.Words.{◌≡◌, ℕ, zero, suc, ◌+◌, ◌*◌, ◌<◌, ◌≤◌, ◌⊎◌, List, [], ◌∷◌, ◌++◌, length, reverse, Option, Some, None, refl, ap, sym, subst, ◌∙◌, inl, inr, arith, slice_get, cases_Bool, cases_lt, length-append, length-reverse, some-not-none, Record, PutStart, PutDone, PutDoneIn, next_id, Action, WriteBody, SyncBody, WriteGate, SyncGate, Store, End, append_actions, remove_actions, store_actions, actions_of, done_record, Step, PutJob, Happens, profiled, stripes_of, State, setup_in, chosen, next_action, is_idle_drop, cond_true, cond_false, put-list, put-first, IsOpenAtRest, WalkedAt, RecordsAre, length-stores, put_done, put_records, MayHaveEnd, PutLeaves, PutIsCut, Ran, IsCut}
use Rattle.std.specs.Prelude.{◌==◌}
use Rattle.algebra_laws.specs.Lists.{Each}
use Rattle.record_defs.specs.Records.{Setup}
use Rattle.machine_defs.specs.Answers as answer
use Rattle.machine_defs.specs.Answers.{Answer}
use Rattle.machine_defs.specs.Events.{Ended}
use Rattle.machine_defs.specs.Jobs.{Job}
use Rattle.machine_defs.specs.Steps.{Acts}
use Rattle.machine_defs.proofs.Fair.{IsStore, all_stores}
use Rattle.command_jobs.proofs.Acting.{moves-end, step-makes}
use Rattle.command_jobs.proofs.Cuts.{fault-records}

-- ---- the actions of a put up to its stores

abbrev IsMove : Action → Type 0
IsMove WriteBody = Unit {0}
IsMove SyncBody = Unit {0}
IsMove WriteGate = Unit {0}
IsMove SyncGate = Unit {0}
IsMove action = ⊥

in-front : {X : Type 0} (P : X → Type 0) (xs ys : List X) (i : ℕ) (a : X) → i < length xs → Each P xs →
    slice_get (xs ++ ys) i ≡ Some a → P a
in-front P [] ys i a l h e = absurd (omega (arith, l))
in-front P (x ∷ xs) ys zero a l h e = subst P (let f : x ≡ a = cc in f) h.0
in-front P (x ∷ xs) ys (suc i) a l h e = in-front P xs ys i a (omega (arith, l)) h.1 e

in-middle : {X : Type 0} (P : X → Type 0) (xs ys zs : List X) (i : ℕ) (a : X) → length xs ≤ i →
    i < length xs + length ys → Each P ys → slice_get (xs ++ (ys ++ zs)) i ≡ Some a → P a
in-middle P [] ys zs i a l m h e = in-front P ys zs i a (omega arith) h e
in-middle P (x ∷ xs) ys zs zero a l m h e = absurd (omega arith)
in-middle P (x ∷ xs) ys zs (suc i) a l m h e = in-middle P xs ys zs i a (omega arith) (omega arith) h e

-- what a put does next stands in its list
put-next : (w : State) (job : Job) (name bytes : List ℕ) → job.kind ≡ PutJob name bytes →
    next_action w job ≡ slice_get (actions_of (setup_in w) job) job.place
put-next w job name bytes kind = cond_false (is_idle_drop w job job.kind) (Some End)
    (slice_get (actions_of (setup_in w) job) job.place) (ap (is_idle_drop w job) kind)

-- ---- what they may end in

move-ends : (w : State) (job : Job) (action : Action) (how : Answer) (new : State) → IsMove action →
    Acts w job action (Ended how) new → (how ≡ answer.DiskFault) ⊎ (how ≡ answer.Memory)
move-ends w job WriteBody how new m h = moves-end w job WriteBody w.append how new h
move-ends w job SyncBody how new m h = moves-end w job SyncBody w.append how new h
move-ends w job WriteGate how new m h = moves-end w job WriteGate w.append how new h
move-ends w job SyncGate how new m h = moves-end w job SyncGate w.append how new h
move-ends w job action how new m h = absurd m

store-put : (w : State) (job : Job) (action : Action) (new : State) → IsStore action →
    Acts w job action (Ended answer.Put) new → ⊥
store-put w job (Store j object stripe) new s h =
    elim (moves-end w job (Store j object stripe) w.append answer.Put new h) [ inl e ↦ cc | inr e ↦ cc ]
store-put w job action new s h = absurd s

store-fault : (w : State) (job : Job) (action : Action) (new : State) → IsStore action →
    Acts w job action (Ended answer.DiskFault) new → ⊥
store-fault w job (Store j object stripe) new s h = h
store-fault w job action new s h = absurd s

-- a step that ends a put that has not made all stores of its file
module _ (start w new : State) (name bytes : List ℕ) (own : Option ℕ) (job : Job) (O : IsOpenAtRest start 1)
    (W : WalkedAt start (PutJob name bytes) (chosen (setup_in start) own) w job)
    (early : job.place < 4 + stripes_of (profiled (setup_in start) (chosen (setup_in start) own)) (length bytes)
    * (setup_in start).n) where
  abbrev stores : List Action
  stores = store_actions (setup_in start) job bytes

  abbrev rest : List Action
  rest = append_actions ++ (remove_actions (setup_in start) job ++ End ∷ [])

  list : actions_of (setup_in w) job ≡ append_actions ++ (stores ++ rest)
  list = ap (λ (s : Setup). actions_of s job) W.setup ∙ put-list (setup_in start) job name bytes W.kind_is

  short : job.place < 4 + length stores
  short = (let e = length-stores (setup_in start) job bytes in
      let p = ap (λ p. stripes_of (profiled (setup_in start) p) (length bytes) * (setup_in start).n)
      W.profile_is in
      omega (arith, early, e, p))

  listed : (action : Action) → next_action w job ≡ Some action →
      slice_get (append_actions ++ (stores ++ rest)) job.place ≡ Some action
  listed action is = ap (λ xs. slice_get xs job.place) (sym list)
      ∙ (sym (put-next w job name bytes W.kind_is) ∙ is)

  its : (action : Action) → next_action w job ≡ Some action →
      ((job.place < 4) × IsMove action) ⊎ IsStore action
  its action is = elim (cases_lt job.place 4) [
    | inl l ↦ inl (
      l,
      in-front IsMove append_actions (stores ++ rest) job.place action l
          (tt, (tt, (tt, (tt, tt)))) (listed action is),
    )
    | inr l ↦ inr (in-middle IsStore append_actions stores rest job.place action l short
        (all_stores (setup_in start) job bytes) (listed action is))
  ]

  -- the put has not done its work
  pub no-put : (moment : ℕ) → Happens 8 moment w (Step 1) (Ended answer.Put) new → ⊥
  no-put moment h = (let a = step-makes start O (PutJob name bytes) w job W (Ended answer.Put) new h in
      elim (its a.0 a.1) [
        | inl m ↦ elim (move-ends w job a.0 answer.Put new m.1 a.2) [ inl e ↦ cc | inr e ↦ cc ]
        | inr s ↦ store-put w job a.0 new s a.2
      ])

  -- where a call of the disk failed, its first record was not yet in effect
  pub fault-first : (moment : ℕ) → Happens 8 moment w (Step 1) (Ended answer.DiskFault) new →
      new.records ≡ start.records
  fault-first moment h =
      (let a = step-makes start O (PutJob name bytes) w job W (Ended answer.DiskFault) new h in
      elim (its a.0 a.1) [
        | inl m ↦ fault-records start O (PutJob name bytes) own w job W moment new h
            ∙ by_records w.records refl W.records m.0
        | inr s ↦ absurd (store-fault w job a.0 new s a.2)
      ])
    where
      by_records : (rs : List Record) → w.records ≡ rs → RecordsAre start (PutJob name bytes) job rs →
          job.place < 4 → w.records ≡ start.records
      by_records rs e (RecordsAre.none l is) first = e ∙ is
      by_records rs e (RecordsAre.one l is) first =
          absurd (let c = put-first (setup_in start) job name bytes W.kind_is first in omega (arith, l, c))
      by_records rs e (RecordsAre.two entry l sec is) first =
          absurd (let c = put-first (setup_in start) job name bytes W.kind_is first in omega (arith, l, c))

-- ---- what such a put left

more-than : (rs xs : List Record) (a b : Record) → rs ≡ xs → rs ≡ a ∷ b ∷ xs → ⊥
more-than rs xs a b e f = (let g = ap (λ (ys : List Record). length ys) (sym e ∙ f) in omega (arith, g))

start-not-done : (version id size profile : ℕ) (name : List ℕ) →
    Some (PutStart id name) ≡ Some (done_record version id size profile) → ⊥
start-not-done version id size profile name e = elim (cases_Bool (version == 2)) [
  | inl t ↦ (let f = e ∙ ap (λ (r : Record). Some r)
      (cond_true (version == 2) (PutDoneIn id size profile) (PutDone id size) t) in cc)
  | inr t ↦ (let f = e ∙ ap (λ (r : Record). Some r)
      (cond_false (version == 2) (PutDoneIn id size profile) (PutDone id size) t) in cc)
]

-- the last record is neither in effect nor in doubt
module _ (x : Ran) (own : Option ℕ) (name bytes : List ℕ) where
  abbrev its_done : Record
  its_done = put_done x.records (length bytes) own

  abbrev its_start : Record
  its_start = PutStart (next_id x.records) name

  abbrev Whole : Type 0
  Whole = MayHaveEnd x.records x.after x.doubt name (length bytes) own

  none-in-doubt : x.doubt ≡ None → x.doubt ≡ Some its_done → ⊥
  none-in-doubt a b = some-not-none x.doubt its_done b a

  pub not-whole : (how : Answer) → PutLeaves x own name bytes how → (how ≡ answer.Put → ⊥) →
      (how ≡ answer.DiskFault → x.after ≡ x.records) → Whole → ⊥
  not-whole answer.Put h no_put fault w = no_put refl
  not-whole (answer.ProviderFault j) h no_put fault (inl e) =
      (let f = ap (λ (ys : List Record). length ys) (sym h.2.after ∙ e) in omega (arith, f))
  not-whole (answer.ProviderFault j) h no_put fault (inr e) = none-in-doubt h.2.sure e
  not-whole answer.DiskFault h no_put fault (inl e) =
      more-than x.after x.records its_done its_start (fault refl) e
  not-whole answer.DiskFault (rose, PutIsCut.at_start after (inl none) same) no_put fault (inr e) =
      none-in-doubt none e
  not-whole answer.DiskFault (rose, PutIsCut.at_start after (inr some) same) no_put fault (inr e) =
      start-not-done _ _ _ _ name (sym some ∙ e)
  not-whole answer.DiskFault (rose, PutIsCut.at_done after doubt kept) no_put fault (inr e) =
      (let f = ap (λ (ys : List Record). length ys) (sym (fault refl) ∙ after) in omega (arith, f))
  not-whole answer.Memory h no_put fault (inl e) = cut-short h.0 e
    where
      cut-short : IsCut x (put_records x.records name (length bytes) own) →
          x.after ≡ its_done ∷ its_start ∷ x.records → ⊥
      cut-short c e = (let a = ap (λ (ys : List Record). length ys) (sym c.after ∙ e) in
          let b = length-append (reverse c.done) x.records in
          let r = length-reverse c.done in
          let p = ap (λ (ys : List Record). length ys) c.parts in
          let q = length-append c.done (c.next ∷ c.rest) in
          omega (arith, a, b, r, p, q))
  not-whole answer.Memory h no_put fault (inr e) = none-in-doubt h.0.sure e
  not-whole how h no_put fault w = absurd h

-- What a put leaves whose job was the only one.
use Rattle.job_laws.proofs.Words.{◌≡◌, ℕ, zero, suc, ◌+◌, ◌-◌, ◌<◌, ◌≤◌, ◌==◌, ◌&&◌, ◌⊎◌, List, [], ◌∷◌, ◌++◌, length, take, drop, Option, None, Some, refl, ap, sym, subst, ◌∙◌, inl, inr, arith, slice_get, option_map, flat_map, range_with_len, cases_Bool, cases_eq, cases_lt, eq-eqb, eqb-true, and_parts, and_from, append_assoc, Each, each_get, each_append, each_take, drop-get, upto, columns, Object, stripes, Rose, Goes, Held, Provider, with_block, Stores, rose-before, Setup, Record, PutStart, File, version_of, file_of, next_id, PutJob, Pinned, Given, Job, profiled, object_of, stripes_of, Action, WriteBody, SyncBody, WriteGate, SyncGate, Store, Fetch, Ask, Work, Remove, End, append_actions, on_each_provider, store_actions, remove_actions, actions_of, appends_left, Answer, Ended, Entry, State, Doubt, setup_in, ended, chosen, done_record, next_action, Acts, cond_true, split_get, next_stands, StoredOn, PartlyStored, DroppedFrom, put_done, StoresFile, StoresAll, PutIsCut, StoresPart, PutLeaves, Leaves, Ran, ran_from, NoFetches, moves_made, put_rest, put-list, put-first, put-later, appends_in, appends-append, moves-first, sound-accepted, With, Made, IsOpenAtRest, RecordsAre, with_job_at, made-split, Wrote, wrote, runs, first-body}
use Rattle.machine_defs.specs.Answers as answer
use Rattle.machine_defs.specs.Steps as step
use Rattle.job_laws.proofs.Runs.{Ends}
use Rattle.job_laws.proofs.Providers.{Called, IsBelow, made-keeps}
use Rattle.job_laws.proofs.Truth.{made-rises}
use Rattle.job_laws.proofs.Lasts.{Faults, NoRoom, none-moving}
use Rattle.job_laws.proofs.Moving.{IsMove, IsUnmoved, moved-first, moved-second}
use Rattle.job_laws.proofs.Leaving.{below, counts-rise, others-stay}
use Rattle.job_laws.proofs.Gets.{take-within}
use Rattle.job_laws.proofs.Removals.{left-within, row-hit, goes-same, goes-more, goes-map, goes-mono, IsWriting, writing-fetches, moves-made, dropped-over, OlderGoes, older-goes}
use Rattle.job_laws.proofs.Endings.{listed, last-kept, move-ends, act-ends, first-doubted, Stand, two-stand, two-cut, end-left, end-sure, end-made}
use Rattle.job_laws.proofs.Tails.{IsTail, NoStore, each-tail, each-stored}

-- ---- blocks that are set

with_block-hit : (o t : ℕ) (block : List ℕ) (p : Held) → with_block o t block p o t ≡ Some block
with_block-hit o t block p = cond_true ((o == o) && (t == t)) (Some block) (p o t)
    (and_from (o == o) (t == t) (eq-eqb o o refl) (eq-eqb t t refl))

with_block-cases : (o t : ℕ) (block : List ℕ) (p : Held) (i u : ℕ) →
    (with_block o t block p i u ≡ p i u) ⊎ ((i ≡ o) × (u ≡ t) × (with_block o t block p i u ≡ Some block))
with_block-cases o t block p i u = elim (cases_Bool ((i == o) && (u == t))) [
  | inl y ↦ (let b = and_parts (i == o) (u == t) y in inr (eqb-true i o b.0, eqb-true u t b.1, cc))
  | inr n ↦ inl (cc)
]

-- ---- the stores of a file, for one provider

module _ (s : Setup) (profile : ℕ) (name bytes : List ℕ) (subject id : ℕ) (pinned : List Pinned)
    (j : ℕ) where
  abbrev made : Object
  made = object_of (profiled s profile) id

  abbrev x : With
  x = record { setup = s; kind = PutJob name bytes; profile = profile; subject = subject; pinned = pinned }

  abbrev block : ℕ → List ℕ
  block t = columns made bytes j t

  abbrev pub stripe_stores : ℕ → List Action
  stripe_stores t = on_each_provider s (λ k. Store k id t)

  -- the blocks of these stripes are set, and all else is as before
  pub record StoresRange (a n : ℕ) (p q : Held) : Type 0 where
    pub stored : (t : ℕ) → a ≤ t → t < a + n → q id t ≡ Some (block t)
    pub others : (o t : ℕ) → (o ≡ id → (t < a) ⊎ (a + n ≤ t)) → q o t ≡ p o t

  range-none : (a : ℕ) (p : Held) → StoresRange a 0 p p
  range-none a p = record { stored = λ t l u. absurd (omega (arith, l, u)); others = λ o t n. refl }

  range-more : (a n : ℕ) (p q : Held) → StoresRange (a + 1) n (with_block id a (block a) p) q →
      StoresRange a (suc n) p q
  range-more a n p q R = record {
    stored = λ t l u. elim (cases_eq t a) [
      | inl e ↦ cc (R.others id t (λ f. inl (omega (arith, e))), with_block-hit id a (block a) p)
      | inr m ↦ R.stored t (omega (arith, l, m)) (omega (arith, u))
    ];
    others = λ o t n. R.others o t
        (λ e. elim (n e) [ inl l ↦ inl (omega (arith, l)) | inr g ↦ inr (omega (arith, g)) ])
        ∙ elim (with_block-cases id a (block a) p o t) [
          | inl same ↦ same
          | inr hit ↦ absurd (elim (n hit.0) [
            | inl l ↦ (omega (arith, l))
            | inr g ↦ (omega (arith, g))
          ])
        ];
  }

  stores-go : (n a : ℕ) (old new : ℕ → Provider) (given now : List Given) → j < s.n →
      Made x (flat_map stripe_stores (range_with_len a n)) old new given now →
      Goes (StoresRange a n) (old j).held (new j).held
  stores-go zero a old new given now below m = subst
      (λ (f : ℕ → Provider). Goes (StoresRange a 0) (old j).held (f j).held) (sym m.0)
      (goes-same (StoresRange a 0) (range-none a) (old j).held)
  stores-go (suc n) a old new given now below m = (let p = made-split x (stripe_stores a)
      (flat_map stripe_stores (range_with_len (a + 1) n)) old new given now m in
      goes-more (λ h k. k ≡ with_block id a (block a) h) (StoresRange (a + 1) n) (StoresRange a (suc n))
      (λ h k r e R. range-more a n h r (rw e at R)) (old j).held (p.0 j).held
      (new j).held
      (goes-map (λ h k. k ≡ with_block id a (block a) h) (with_block id a (block a)) (λ h. refl) (old j).held
      (p.0 j).held (row-hit x (λ k. Store k id a) (λ k. Stores id a (columns made bytes k a))
      (λ k b c g h did. did.0) j 0 s.n old p.0 given p.1 (omega arith) (omega (arith, below)) p.2).held)
      (stores-go n (a + 1) p.0 new p.1 now below p.3))

  -- ---- some of them

  -- a store of the file, or a move
  abbrev pub IsStoring : Action → Type 0
  IsStoring (Store k o t) = o ≡ id
  IsStoring (Fetch k o t) = ⊥
  IsStoring (Ask k o r) = ⊥
  IsStoring (Work o t) = ⊥
  IsStoring (Remove k o) = ⊥
  IsStoring End = ⊥
  IsStoring action = Unit {0}

  abbrev pub Partly : Held → Held → Type 0
  Partly = PartlyStored made bytes j

  partly-same : (p : Held) → Partly p p
  partly-same p = record { stored = λ t. inl refl; others = λ o t n. refl }

  partly-more : (p q r : Held) → Partly p q → Partly q r → Partly p r
  partly-more p q r a b = record {
    stored = λ t. elim (b.stored t) [
      | inl same ↦ elim (a.stored t) [ inl still ↦ inl (same ∙ still) | inr set ↦ inr (same ∙ set) ]
      | inr set ↦ inr set
    ];
    others = λ o t n. b.others o t n ∙ a.others o t n;
  }

  partly-store : (t : ℕ) (p : Held) → Partly p (with_block id t (block t) p)
  partly-store t p = record {
    stored = λ u. elim (with_block-cases id t (block t) p id u) [ inl same ↦ inl same | inr hit ↦ inr (cc) ];
    others = λ o u n. elim (with_block-cases id t (block t) p o u)
        [ inl same ↦ same | inr hit ↦ absurd (n hit.0) ];
  }

  partly-goes : (xs : List Action) (old new : ℕ → Provider) (given now : List Given) → Each IsStoring xs →
      Made x xs old new given now → Goes Partly (old j).held (new j).held
  partly-goes xs old new given now e m =
      made-keeps x j (λ p q. Goes Partly p.held q.held) IsStoring (λ p. goes-same Partly partly-same p.held)
      (λ p q r a b. goes-more Partly Partly Partly partly-more p.held q.held r.held a b) one xs old new given
      now e m
    where
      stored : (k o t : ℕ) (p q : Provider) → j ≡ k → o ≡ id →
          Stores o t (columns (object_of (profiled s profile) o) bytes k t) p q → Goes Partly p.held q.held
      stored k o t p q at is c = goes-map Partly (with_block id t (block t)) (partly-store t) p.held q.held
          (cc)

      one : (a : Action) (given now : List Given) (p q : Provider) → IsStoring a →
          Called x a given now j p q → Goes Partly p.held q.held
      one (Store k o t) given now p q u (e, c, is) = stored k o t p q e u c
      one WriteBody given now p q u c = absurd c
      one SyncBody given now p q u c = absurd c
      one WriteGate given now p q u c = absurd c
      one SyncGate given now p q u c = absurd c
      one a given now p q u c = absurd u

-- ---- a file that is stored whole, and an older one taken away

module _ (s : Setup) (profile : ℕ) (name bytes : List ℕ) (subject id count : ℕ) (pinned : List Pinned)
    (j : ℕ) where
  abbrev whole_made : Object
  whole_made = object_of (profiled s profile) id

  whole-none : (rose : Type 0) (p q r : Held) → count ≡ stripes whole_made (length bytes) →
      StoresRange s profile name bytes subject id pinned j 0 count p q → r ≡ q →
      StoredOn whole_made bytes None rose j p r
  whole-none rose p q r size R same = record {
    stored = λ t l. cc (R.stored t (omega arith) (omega (arith, l, size)));
    removed = tt;
    others = λ o t n. ap (λ (h : Held). h o t) same
        ∙ R.others o t (λ e. inr (omega (arith, n.stored e, size)));
  }

  whole-some : (rose : Type 0) (f : File) (p q r : Held) → count ≡ stripes whole_made (length bytes) →
      (f.id ≡ id → ⊥) → StoresRange s profile name bytes subject id pinned j 0 count p q →
      DroppedFrom f.id rose q r → StoredOn whole_made bytes (Some f) rose j p r
  whole-some rose f p q r size apart R D = record {
    stored = λ t l. D.others id t (λ e. apart (sym e)) ∙ R.stored t (omega arith) (omega (arith, l, size));
    removed = λ t. elim (D.gone t)
        [ inl none ↦ inl none | inr same ↦ inr (same.0, same.1 ∙ R.others f.id t (λ e. absurd (apart e))) ];
    others = λ o t n. D.others o t n.removed ∙ R.others o t (λ e. inr (omega (arith, n.stored e, size)));
  }

-- the stores of a put, once all are made, store its file on each provider
pub all-stored : (s : Setup) (profile : ℕ) (name bytes : List ℕ) (job : Job) (id : ℕ) (pinned : List Pinned)
    (old new : ℕ → Provider) (given now : List Given) (j : ℕ) → job.profile ≡ profile → job.subject ≡ id →
    j < s.n → Made (x s profile name bytes job.subject id pinned j) (store_actions s job bytes) old new given
    now → Goes (StoredOn (object_of (profiled s profile) id) bytes None ⊥ j) (old j).held (new j).held
all-stored s profile name bytes job id pinned old new given now j is drawn below m =
    goes-mono (StoresRange s profile name bytes job.subject id pinned j 0 count)
    (StoredOn (object_of (profiled s profile) id) bytes None ⊥ j) (λ h k R. whole-none s profile name bytes
    job.subject id count pinned j ⊥ h k k size R refl) (old j).held (new j).held
    (stores-go s profile name bytes job.subject id pinned j count 0 old new given now below
    (subst (λ i. Made (x s profile name bytes job.subject id pinned j)
    (flat_map (λ t. on_each_provider s (λ k. Store k i t)) (upto count)) old new given now) drawn m))
  where
    count : ℕ
    count = stripes_of (profiled s job.profile) (length bytes)

    size : count ≡ stripes (object_of (profiled s profile) id) (length bytes)
    size = cc

-- ---- the list of a put

-- all but the removals and the end
abbrev put_front : Setup → Job → List ℕ → List Action
put_front s job bytes = append_actions ++ (store_actions s job bytes ++ append_actions)

put-parts : (s : Setup) (job : Job) (name bytes : List ℕ) → job.kind ≡ PutJob name bytes →
    actions_of s job ≡ put_front s job bytes ++ (remove_actions s job ++ End ∷ [])
put-parts s job name bytes kind = cc (
  put-list s job name bytes kind,
  append_assoc (store_actions s job bytes) append_actions (remove_actions s job ++ End ∷ []),
)

pub writing-put : (s : Setup) (job : Job) (name bytes : List ℕ) → job.kind ≡ PutJob name bytes →
    Each IsWriting (actions_of s job)
writing-put s job name bytes kind = rw (put-list s job name bytes kind)
    (each_append IsWriting append_actions (put_rest s job bytes) (tt, (tt, (tt, (tt, tt))))
    (each_append IsWriting (store_actions s job bytes) _ (each-stored IsWriting s job bytes (λ k t. tt))
    (tt, (tt, (tt, (tt, each-tail IsWriting s job (λ k o. tt) tt))))))

-- a store stands behind the first append, and before the second
store-place : (s : Setup) (job : Job) (bytes : List ℕ) (p k o t : ℕ) →
    slice_get (append_actions ++ put_rest s job bytes) p ≡ Some (Store k o t) →
    (4 ≤ p) × (0 < appends_in (drop p (append_actions ++ put_rest s job bytes)))
store-place s job bytes (suc (suc (suc (suc q)))) k o t h = (
  omega arith,
  elim (split_get _ (append_actions ++ (remove_actions s job ++ End ∷ [])) q (Store k o t) h) [
    | inl a ↦ left-within _ _ q a.0 (omega (
      arith,
      appends-append append_actions (remove_actions s job ++ End ∷ []),
    ))
    | inr b ↦ absurd (each_get NoStore (append_actions ++ (remove_actions s job ++ End ∷ []))
        _ _ (tt, (tt, (tt, (tt, each-tail NoStore s job (λ k o. tt) tt)))) b.1)
  ],
)
store-place s job bytes _ k o t h = cc

-- ---- the put

module _ (start new : State) (name bytes : List ℕ) (own : Option ℕ) (how : Answer) (heard : List Entry)
    (O : IsOpenAtRest start 1) (E : Ends start (PutJob name bytes) own how heard new) where
  -- the profile of the file
  abbrev its : ℕ
  its = chosen (setup_in start) own

  abbrev put_with : With
  put_with = with_job_at start (PutJob name bytes) its E.job

  -- its object
  abbrev stored_as : Object
  stored_as = object_of (profiled (setup_in start) its) (next_id start.records)

  abbrev ran : Ran
  ran = ran_from start new heard

  -- the stripes are those of its profile
  count-same : stripes_of (profiled (setup_in start) E.job.profile) (length bytes)
      ≡ stripes stored_as (length bytes)
  count-same = cc

  -- its last record
  ends-with : done_record (version_of start.records) (next_id start.records) (length bytes) E.job.profile
      ≡ put_done start.records (length bytes) own
  unfolding setup_in
  ends-with = cc

  nothing-heard : heard ≡ []
  nothing-heard = cc

  -- ---- a put that was cut off

  subject-is : 1 ≤ E.job.place → E.job.subject ≡ next_id start.records
  subject-is l = E.walked.subject l

  storing-front : Each (IsStoring (setup_in start) its name bytes E.job.subject E.job.subject [] 0)
      (put_front (setup_in start) E.job bytes)
  storing-front = each_append _ append_actions _ (tt, (tt, (tt, (tt, tt))))
      (each_append _ (store_actions (setup_in start) E.job bytes) append_actions
      (each-stored _ (setup_in start) E.job bytes (λ k t. refl)) (tt, (tt, (tt, (tt, tt)))))

  storing-taken : (action : Action) → E.action ≡ action → (action ≡ End → ⊥) → (IsTail action → ⊥) →
      Each (IsStoring (setup_in start) its name bytes E.job.subject (next_id start.records) [] 0)
      (take E.job.place (actions_of (setup_in start) E.job))
  storing-taken action at n m = elim (cases_eq E.job.place 0) [
    | inl first ↦ cc
    | inr later ↦ subst (λ i. Each (IsStoring (setup_in start) its name bytes E.job.subject i [] 0)
        (take E.job.place (actions_of (setup_in start) E.job))) (subject-is (omega arith))
        (rw (← (put-parts (setup_in start) E.job name bytes E.walked.kind_is)) at front)
  ]
    where
      front : Each (IsStoring (setup_in start) its name bytes E.job.subject E.job.subject [] 0)
          (take E.job.place (put_front (setup_in start) E.job
          bytes ++ (remove_actions (setup_in start) E.job ++ End ∷ [])))
      front = elim (split_get (put_front (setup_in start) E.job bytes) (remove_actions (setup_in start) E.job
          ++ End ∷ []) E.job.place action (cc (
            put-parts (setup_in start) E.job name bytes E.walked.kind_is,
            listed E action at n,
          ))) [
            | inl a ↦ (rw (← (take-within (put_front (setup_in start) E.job bytes)
                (remove_actions (setup_in start) E.job ++ End ∷ []) E.job.place (omega arith))) at
                (each_take (IsStoring (setup_in start) its name bytes E.job.subject E.job.subject [] 0)
                (put_front (setup_in start) E.job bytes) E.job.place storing-front))
            | inr b ↦ absurd (m (each_get IsTail (remove_actions (setup_in start) E.job ++ End ∷ [])
                (E.job.place - length (put_front (setup_in start) E.job bytes)) action
                (each-tail IsTail (setup_in start) E.job (λ k o. tt) tt) b.1))
          ]

  stores-part : (action : Action) → E.action ≡ action → (action ≡ End → ⊥) → (IsTail action → ⊥) →
      StoresPart ran own bytes
  unfolding setup_in
  stores-part action at n m = λ j l. (rw (← (last-kept E j).0) at (partly-goes (setup_in start) its name bytes
      E.job.subject (next_id start.records) [] j (take E.job.place (actions_of (setup_in start) E.job))
      start.providers E.before.providers [] E.job.given (storing-taken action at n m) E.walked.made))

  abbrev Gives : Answer → Type 0
  Gives a = PutLeaves ran own name bytes a

  -- ---- a move of an append that failed

  unmoved-stores : Each IsUnmoved (store_actions (setup_in start) E.job bytes)
  unmoved-stores = each-stored IsUnmoved (setup_in start) E.job bytes (λ k t m. m)

  unmoved-tail : Each IsUnmoved (remove_actions (setup_in start) E.job ++ End ∷ [])
  unmoved-tail = each-tail IsUnmoved (setup_in start) E.job (λ k o m. m) (λ m. m)

  module _ (action : Action) (at : E.action ≡ action) (n : action ≡ End → ⊥) (move : IsMove action) where
    list : actions_of (setup_in start) E.job
        ≡ append_actions ++ (store_actions (setup_in start) E.job
        bytes ++ (append_actions ++ (remove_actions (setup_in start) E.job ++ End ∷ [])))
    list = put-list (setup_in start) E.job name bytes E.walked.kind_is

    here : slice_get (append_actions ++ (store_actions
        (setup_in start) E.job
        bytes ++ (append_actions ++ (remove_actions (setup_in start) E.job ++ End ∷ [])))) E.job.place
        ≡ Some action
    here = ap (λ xs. slice_get xs E.job.place) (sym list) ∙ listed E action at n

    made-so-far : Made put_with
        (take E.job.place (append_actions ++ (store_actions
        (setup_in start) E.job
        bytes ++ (append_actions ++ (remove_actions (setup_in start) E.job ++ End ∷ [])))))
        start.providers E.before.providers [] E.job.given
    made-so-far = rw list at E.walked.made

    untouched : appends_left (setup_in E.before) E.job ≡ 2 → E.before.providers ≡ start.providers
    untouched two = elim (cases_lt E.job.place 4) [
      | inl l ↦ (moved-first put_with (store_actions (setup_in start) E.job bytes)
          (remove_actions (setup_in start) E.job ++ End ∷ []) E.job.place action move unmoved-stores
          unmoved-tail start.providers E.before.providers E.job.given here made-so-far l).0
      | inr l ↦ absurd (omega (arith, put-later (setup_in E.before) E.job name bytes E.walked.kind_is l, two))
    ]

    second : appends_left (setup_in E.before) E.job ≡ 1 → 4 ≤ E.job.place
    second one = elim (cases_lt E.job.place 4) [
      | inl l ↦ absurd (omega (arith, put-first (setup_in E.before) E.job name bytes E.walked.kind_is l, one))
      | inr l ↦ l
    ]

    stores-made : 4 ≤ E.job.place →
        Made put_with (store_actions (setup_in start) E.job bytes) start.providers E.before.providers
        [] E.job.given
    stores-made l = moved-second put_with (store_actions (setup_in start) E.job bytes)
        (remove_actions (setup_in start) E.job ++ End ∷ []) E.job.place action move unmoved-stores
        unmoved-tail start.providers E.before.providers E.job.given here made-so-far l

    all-goes : 4 ≤ E.job.place → (j : ℕ) → j < (setup_in start).n →
        Goes (StoredOn stored_as bytes None ⊥ j) (start.providers j).held (E.before.providers j).held
    all-goes l j below = all-stored (setup_in start) its name bytes E.job (next_id start.records)
        [] start.providers E.before.providers [] E.job.given j E.walked.profile_is
        (subject-is (omega (arith, l))) below (stores-made l)

    stores-all : 4 ≤ E.job.place → new.providers ≡ E.before.providers → StoresAll ran own bytes
    unfolding setup_in
    stores-all l same j below = rw (← same) at (all-goes l j below)

    doubt-second : appends_left (setup_in E.before) E.job ≡ 1 →
        (F : Faults start O (PutJob name bytes) E.before E.job E.walked new) →
        (ran.doubt ≡ None) ⊎ (ran.doubt ≡ Some (put_done start.records (length bytes) own))
    doubt-second one F = elim F.doubt [
      | inl none ↦ inl (cc)
      | inr (d, in_doubt, writes) ↦
          elim (wrote start O (PutJob name bytes) E.before E.job E.walked d.entry F.left writes) [
            | Wrote.first l is entry ↦ absurd (omega (arith, l, one))
            | Wrote.second l is sec ↦ inr (ap (option_map (λ (z : Doubt). z.entry)) in_doubt
                ∙ ap Some (sec ∙ ends-with))
          ]
    ]

    faulted : Faults start O (PutJob name bytes) E.before E.job E.walked new → Gives answer.DiskFault
    faulted F = (
      rose-before start.disk_faults E.before.disk_faults new.disk_faults E.walked.disk F.low F.rose,
      elim (two-stand O E.walked refl F.left) [
        | Stand.at_first l is ↦ PutIsCut.at_start (F.records
            ∙ is) (first-doubted O E.walked F (λ b. omega (arith, b, l))) (λ j below. cc (untouched l))
        | Stand.at_second l is ↦ PutIsCut.at_done (F.records ∙ is) (doubt-second l F)
            (stores-all (second l) F.providers)
      ],
    )

  no-room : StoresPart ran own bytes → NoRoom start O (PutJob name bytes) E.before E.job E.walked new →
      Gives answer.Memory
  no-room part N = (
    two-cut O E.walked refl new heard (put_done start.records (length bytes) own) N.left N.records N.doubt,
    part,
  )

  -- ---- a store that ended it

  module _ (k o t : ℕ) (at : E.action ≡ Store k o t) where
    place : (4 ≤ E.job.place) × (0 < appends_left (setup_in E.before) E.job)
    place = (let list = put-list (setup_in start) E.job name bytes E.walked.kind_is in
        let p = store-place (setup_in start) E.job bytes E.job.place k o t (cc) in (
          p.0,
          subst (λ n. 0 < n) (cc) p.1,
        ))

    started : E.before.records ≡ PutStart (next_id start.records) name ∷ start.records
    started = elim (two-stand O E.walked refl place.1) [
      | Stand.at_first l is ↦
          absurd (omega (arith, put-later (setup_in E.before) E.job name bytes E.walked.kind_is place.0, l))
      | Stand.at_second l is ↦ is
    ]

    calm : E.before.doubt ≡ None
    calm = (none-moving start O (PutJob name bytes) E.before E.job E.walked
        (moves-first (moves_made E.before.append E.job.number) (Store k o t)
        (drop (E.job.place + 1) (actions_of (setup_in E.before) E.job))
        (rw (drop-get (actions_of (setup_in E.before) E.job) E.job.place (Store k o t)
        (next_stands E.before E.job (Store k o t) (E.next ∙ ap Some at) (λ e. cc))) at
        (E.walked.sound.jobs E.job.number E.job
        (runs start O (PutJob name bytes) E.before E.job E.walked)).order))).1

    below-n : k < (setup_in start).n
    below-n = each_get (IsBelow (setup_in start).n) (actions_of (setup_in start) E.job) E.job.place
        (Store k o t) (below (setup_in start) E.job) (listed E (Store k o t) at (λ e. cc))

    store-ends : (a : Answer) → Acts E.before E.job (Store k o t) (Ended a) new → Gives a
    unfolding setup_in
    store-ends (answer.ProviderFault i) (same, (p, made, is)) = (
      (rw (← same) at below-n),
      (rw (← same) at (rose-before (start.providers k).store_faults (E.before.providers k).store_faults
          (new.providers k).store_faults (made-rises put_with
          (take E.job.place (actions_of (setup_in start) E.job)) start.providers E.before.providers []
          E.job.given k E.walked.made).0 (let f = made.counts.store_faults in omega (arith, f, hit))
          (subst (Rose (E.before.providers k).store_faults) (sym hit) made.cause))),
      record {
        after = ap (λ (v : State). v.records) is ∙ started;
        sure = ap (λ (v : State). option_map (λ (d : Doubt). d.entry) v.doubt) is
            ∙ ap (option_map (λ (d : Doubt). d.entry)) calm;
      },
      stores-part (Store k o t) at (λ e. cc) (λ u. u),
    )
      where
        hit : (new.providers k).store_faults ≡ p.store_faults
        hit = ap (λ (v : State). (v.providers k).store_faults) is
            ∙ ap (λ (z : Provider). z.store_faults)
            (cond_true (k == k) p (E.before.providers k) (eq-eqb k k refl))
    store-ends answer.Memory (p, made, is) = (
      two-cut O E.walked refl new heard (put_done start.records (length bytes) own) place.1
          (ap (λ (v : State). v.records) is) (ap (λ (v : State). v.doubt) is ∙ calm),
      stores-part (Store k o t) at (λ e. cc) (λ u. u),
    )
    store-ends a h = absurd h

  -- ---- a put that came to its end

  module _ (at : E.action ≡ End) where
    last : next_action E.before E.job ≡ Some End
    last = E.next ∙ ap Some at

    no-append : appends_left (setup_in start) E.job ≡ 0
    no-append = end-left O E.walked refl last

    -- providers once the file is stored, and the givens by then
    record Stored : Type 0 where
      mid : ℕ → Provider
      given : List Given
      now : List Given
      stores : Made put_with (store_actions (setup_in start) E.job bytes) start.providers mid given now
      later : List Given
      last : List Given
      removes : Made put_with (remove_actions (setup_in start) E.job) mid E.before.providers later last

    stored : Stored
    stored =
        (let a = made-split put_with append_actions (put_rest (setup_in start) E.job bytes) start.providers
        E.before.providers [] E.job.given
        (rw (put-list (setup_in start) E.job name bytes E.walked.kind_is) at (end-made O E.walked refl last)) in
        let b = made-split put_with (store_actions (setup_in start) E.job bytes)
        (append_actions ++ (remove_actions (setup_in start) E.job ++ End ∷ [])) a.0 E.before.providers a.1
        E.job.given a.3 in
        let c = made-split put_with append_actions (remove_actions (setup_in start) E.job ++ End ∷ []) b.0
        E.before.providers b.1 E.job.given b.3 in
        let d = made-split put_with (remove_actions (setup_in start) E.job)
        (End ∷ []) c.0 E.before.providers c.1 E.job.given c.3 in
        let second : c.0 ≡ b.0 = moves-made put_with b.0 c.0 b.1 c.1 c.2 in
        let end : E.before.providers ≡ d.0 = d.3.3.0 ∙ d.3.2.0 in
        record {
          mid = b.0;
          given = a.1;
          now = b.1;
          stores = subst (λ f. Made put_with (store_actions (setup_in start) E.job bytes) f b.0 a.1 b.1)
              (moves-made put_with start.providers a.0 [] a.1 a.2) b.2;
          later = c.1;
          last = d.1;
          removes = rw (← end) at (subst (λ f. Made put_with (remove_actions (setup_in start) E.job) f d.0 c.1
              d.1) second d.2);
        })

    drawn : E.job.subject ≡ next_id start.records
    drawn = subject-is ((first-body start O (PutJob name bytes) E.before E.job E.walked E.action E.next
        (λ e. (let f : End ≡ WriteBody = sym at ∙ e in cc)) (PutJob name bytes) refl).0 name bytes refl)

    abbrev count : ℕ
    count = stripes_of (profiled (setup_in start) E.job.profile) (length bytes)

    range-go : (j : ℕ) → j < (setup_in start).n →
        Goes (StoresRange (setup_in start) its name bytes E.job.subject (next_id start.records) [] j 0 count)
        (start.providers j).held (stored.mid j).held
    range-go j l = stores-go (setup_in start) its name bytes E.job.subject (next_id start.records)
        [] j count 0 start.providers stored.mid stored.given stored.now l
        (subst (λ i. Made put_with
        (flat_map (λ t. on_each_provider (setup_in start) (λ k. Store k i t)) (upto count))
        start.providers stored.mid stored.given stored.now) drawn stored.stores)

    stored-on : (o : Option File) (j : ℕ) (p q : Provider) →
        ((f : File) → o ≡ Some f → f.id ≡ next_id start.records → ⊥) → (rose : Type 0) →
        (Rose p.other_faults q.other_faults → rose) →
        Goes (StoresRange (setup_in start) its name bytes E.job.subject (next_id start.records) [] j 0 count)
        (start.providers j).held p.held → OlderGoes o p q →
        Goes (StoredOn stored_as bytes o rose j)
        (start.providers j).held q.held
    stored-on None j p q apart rose up range older =
        (rw (← older) at (goes-mono (StoresRange (setup_in start) its name bytes E.job.subject
        (next_id start.records) [] j 0 count) (StoredOn stored_as bytes None rose j)
        (λ h k R. whole-none (setup_in start) its name bytes E.job.subject (next_id start.records) count
        [] j rose h k k count-same R refl) (start.providers j).held p.held range))
    stored-on (Some f) j p q apart rose up range older =
        goes-more (StoresRange (setup_in start) its name bytes E.job.subject (next_id start.records) [] j 0
        count) (DroppedFrom f.id (Rose p.other_faults q.other_faults)) (StoredOn stored_as bytes (Some f) rose
        j) (λ h k r R D. whole-some (setup_in start) its name bytes E.job.subject (next_id start.records)
        count [] j rose f h k r count-same (apart f refl) R
        (dropped-over f.id (Rose p.other_faults q.other_faults) rose k r up D)) (start.providers j).held
        p.held q.held range older

    stores-file : new.providers ≡ E.before.providers → StoresFile ran own name bytes
    unfolding setup_in
    stores-file providers j l =
        (let same : new.providers j ≡ E.before.providers j = ap (λ (f : ℕ → Provider). f j) providers in
        let rises = made-rises put_with (store_actions (setup_in start) E.job bytes) start.providers
        stored.mid stored.given stored.now j stored.stores in
        let more = made-rises put_with (remove_actions (setup_in start) E.job) stored.mid E.before.providers
        stored.later stored.last j stored.removes in
        (rw (← same) at (stored-on (file_of start.records name) j (stored.mid j) (E.before.providers j)
        (λ f e g. (let m : f.id < next_id start.records =
        ((sound-accepted start.records O.rest.accepted).file name f e).0 in omega (arith, m, g)))
        (Rose (start.providers j).other_faults (E.before.providers j).other_faults)
        (rose-before (start.providers j).other_faults (stored.mid j).other_faults
        (E.before.providers j).other_faults rises.1 more.1)
        (range-go j l)
        (older-goes put_with start (setup_in start) E.job
        (file_of start.records name) stored.mid E.before.providers stored.later stored.last j
        O.rest.idle.0 (E.walked.older no-append) l stored.removes))))

    whole-records : E.before.records ≡ put_done start.records (length bytes) own ∷ PutStart
        (next_id start.records) name ∷ start.records
    whole-records = by_records E.before.records refl E.walked.records
      where
        by_records : (rs : List Record) → E.before.records ≡ rs →
            RecordsAre start (PutJob name bytes) E.job rs →
            E.before.records ≡ put_done start.records (length bytes) own ∷ PutStart
            (next_id start.records) name ∷ start.records
        by_records rs e (RecordsAre.none l is) = absurd (omega (arith, no-append, l))
        by_records rs e (RecordsAre.one l is) = absurd (omega (arith, no-append, l))
        by_records rs e (RecordsAre.two entry l sec is) = cc ((is ∙
            ap (λ (r : Record). r ∷ PutStart (next_id start.records) name ∷ start.records) (sec ∙ ends-with)))

  put-ends : (a : Answer) → E.action ≡ End → step.Ends E.before E.job (PutJob name bytes) a →
      new ≡ ended E.before E.job → Gives a
  put-ends answer.Put at so is = (
    record {
      after = cc (whole-records at);
      sure = cc (end-sure O E.walked refl (last at));
    },
    stores-file at (cc),
  )
  put-ends a at so is = absurd so

  -- ---- all ends

  gives : Gives how
  gives = act-ends E Gives (put-ends how)
      (λ action at move tail h. let n : action ≡ End → ⊥ = λ e. subst IsMove e move in
      move-ends O E Gives action at (λ failed F. faulted action at n move F)
      (no-room (stores-part action at n tail)) h)
      (λ k o t at h. store-ends k o t at how h)
      (λ o t at h. absurd
      (each_get IsWriting (actions_of (setup_in start) E.job) E.job.place (Work o t)
      (writing-put (setup_in start) E.job name bytes E.walked.kind_is) (listed E (Work o t) at (λ e. cc))))

  no-fetches : NoFetches ran
  no-fetches j l = (last-kept E j).1
      ∙ writing-fetches put_with (take E.job.place (actions_of (setup_in start) E.job)) start.providers
      E.before.providers [] E.job.given j
      (each_take IsWriting (actions_of (setup_in start) E.job) E.job.place
      (writing-put (setup_in start) E.job name bytes E.walked.kind_is)) E.walked.made

  -- a put leaves its records and stores its file on each provider; or it failed or was cut off
  pub put-leaves : Leaves ran (PutJob name bytes) own how
  unfolding setup_in
  put-leaves = record {
    by_kind = (gives, no-fetches, nothing-heard);
    counts = counts-rise start new (PutJob name bytes) own how heard O E;
    others = others-stay start new (PutJob name bytes) own how heard O E;
  }

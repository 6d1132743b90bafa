-- What stands before what in the list of actions of a job.
use Rattle.second_half_laws.proofs.Words.{◌-◌, true, cond, refl, inl, inr, arith, slice_get, flat_map, slice_get_within, Each, In, each_get, each_append, each_map, each_flat, each_flat_in, get_behind, upto, Setup, Kind, PutJob, GetJob, AuditJob, RepairJob, Pinned, Job, profiled, pinned_stripes, put_stripes, Action, WriteBody, SyncBody, WriteGate, SyncGate, Store, Fetch, Ask, Work, Remove, End, append_actions, on_each_provider, on_each_stripe, store_actions, open_actions, read_actions, rewrite_actions, repair_actions, rounds_of, ask_actions, remove_actions, actions_by, actions_of, State, setup_in, next_action, HasMadeStore, IsFair, fair, split_get, get_left, actions_are, stores_count, PutAt, put_at, next_stands, HasMade}
use Rattle.std.proofs.Common.{◌≡◌, ℕ, ◌+◌, ◌<◌, ◌≤◌, Bool, false, List, [], ◌∷◌, ◌++◌, length, Some}
use Rattle.second_half_laws.proofs.Lists.{only, Stands, stands_left, stands_right, stands_map, stands_flat, in_upto, upto_in, Behind, behind_none, behind_append, behind_flat, stands_before}

-- what stands at a place of a job's list stands there in the list of its kind
pub by_kind : (s : Setup) (job : Job) (kind : Kind) (p : ℕ) (action : Action) → job.kind ≡ kind →
    slice_get (actions_of s job) p ≡ Some action → slice_get (actions_by s job kind) p ≡ Some action
by_kind s job kind p action is h = cc (actions_are s job kind is)

-- what stands at a place of the list of a job's kind stands there in the job's list
pub of_kind : (s : Setup) (job : Job) (kind : Kind) (p : ℕ) (action : Action) → job.kind ≡ kind →
    slice_get (actions_by s job kind) p ≡ Some action → slice_get (actions_of s job) p ≡ Some action
of_kind s job kind p action is h = cc (actions_are s job kind is)

-- ---- kinds of actions

-- not the work on a stripe
abbrev pub NoWork : Action → Type 0
NoWork (Work o s) = ⊥
NoWork action = Unit {0}

abbrev pub NoStore : Action → Type 0
NoStore (Store j o s) = ⊥
NoStore action = Unit {0}

-- neither a move nor the end
abbrev pub IsCall : Action → Type 0
IsCall WriteBody = ⊥
IsCall SyncBody = ⊥
IsCall WriteGate = ⊥
IsCall SyncGate = ⊥
IsCall End = ⊥
IsCall action = Unit {0}

each_not : (P : Action → Type 0) (a : Action) (xs : List Action) → (P a → ⊥) → Each P xs →
    Each (λ x. x ≡ a → ⊥) xs
each_not P a [] bad h = tt
each_not P a (x ∷ xs) bad h = (λ e. bad (rw e at h.0), each_not P a xs bad h.1)

-- ---- the opening of a stripe

fetches_stand : (t : Setup) (id st i : ℕ) → i < t.n →
    Stands (Fetch i id st) (on_each_provider t (λ j. Fetch j id st))
fetches_stand t id st i l = stands_map _ _ i (in_upto t.n i l)

open_behind : (t : Setup) (id st i o s : ℕ) → i < t.n → Behind (Fetch i o s) (Work o s) (open_actions t id st)
open_behind t id st i o s l p h =
    elim (split_get (on_each_provider t (λ j. Fetch j id st)) (Work id st ∷ []) p (Work o s) h) [
      | inl x ↦ absurd (each_get NoWork (on_each_provider t (λ j. Fetch j id st)) p (Work o s)
          (each_map NoWork (λ j. Fetch j id st) (upto t.n) (λ j. tt)) x.1)
      | inr x ↦ (let e : Work id st ≡ Work o s = only (Work id st) (Work o s)
          (p - length (on_each_provider t (λ j. Fetch j id st))) x.1 in
          let at = fetches_stand t id st i l in
          let early = slice_get_within (on_each_provider t (λ j. Fetch j id st)) at.0 (Fetch i id st) at.1 in
          let late = x.0 in
          let same : Fetch i id st ≡ Fetch i o s = (let a : id ≡ o = cc in let b : st ≡ s = cc in cc) in (
            at.0,
            omega arith,
            cc (get_left (on_each_provider t (λ j. Fetch j id st)) (Work id st ∷ []) at.0 (Fetch i id st)
                at.1),
          ))
    ]

rewrites_fair : (t : Setup) (job : Job) (P : Action → Type 0) (id st : ℕ) → ((j : ℕ) → P (Store j id st)) →
    Each P (rewrite_actions t job id st)
rewrites_fair t job P id st h = each_flat P (λ j. cond (job.flagged j) (Store j id st ∷ []) []) (upto t.n)
    (λ j. one (job.flagged j) (Store j id st) (h j))
  where
    one : (b : Bool) (a : Action) → P a → Each P (cond b (a ∷ []) [])
    one true a g = (g, tt)
    one false a g = tt

abbrev repair_piece : Setup → Job → ℕ → ℕ → List Action
repair_piece t job id st = open_actions t id st ++ rewrite_actions t job id st

piece_opens : (t : Setup) (job : Job) (id st i o s : ℕ) → i < t.n →
    Behind (Fetch i o s) (Work o s) (repair_piece t job id st)
piece_opens t job id st i o s l = behind_append _ _ _ _ (open_behind t id st i o s l) (behind_none _ _ _
    (each_not NoWork _ _ (λ z. z) (rewrites_fair t job NoWork id st (λ j. tt))))

-- a store of this stripe of this object
abbrev IsOf : ℕ → ℕ → Action → Type 0
IsOf id st (Store j o s) = (o ≡ id) × (s ≡ st)
IsOf id st action = Unit {0}

opens_nothing : (t : Setup) (P : Action → Type 0) (id st : ℕ) → ((j : ℕ) → P (Fetch j id st)) →
    P (Work id st) → Each P (open_actions t id st)
opens_nothing t P id st f g = each_append P _ _ (each_map P (λ j. Fetch j id st) (upto t.n) f) (g, tt)

piece_stores : (t : Setup) (job : Job) (id st i o s : ℕ) →
    Behind (Work o s) (Store i o s) (repair_piece t job id st)
piece_stores t job id st i o s p h =
    elim (split_get (open_actions t id st) (rewrite_actions t job id st) p (Store i o s) h) [
      | inl x ↦ absurd (each_get NoStore (open_actions t id st) p (Store i o s)
          (opens_nothing t NoStore id st (λ j. tt) tt) x.1)
      | inr x ↦ (let of = each_get (IsOf id st) (rewrite_actions t job id st)
          (p - length (open_actions t id st))
          (Store i o s) (rewrites_fair t job (IsOf id st) id st (λ j. (refl, refl))) x.1 in
          let at : Stands (Work id st) (open_actions t id st) =
          stands_right (on_each_provider t (λ j. Fetch j id st)) (Work id st ∷ []) (Work id st) (0, refl) in
          let early = slice_get_within (open_actions t id st) at.0 (Work id st) at.1 in
          let late = x.0 in
          let same : Work id st ≡ Work o s = (let a = of.0 in let b = of.1 in cc) in (
            at.0,
            omega arith,
            cc (get_left (open_actions t id st) (rewrite_actions t job id st) at.0 (Work id st) at.1),
          ))
    ]

-- ---- lists without work

-- what holds of every removal holds of those of a job
pub removals : (t : Setup) (job : Job) (P : Action → Type 0) → ((j o : ℕ) → P (Remove j o)) →
    Each P (remove_actions t job)
removals t job P h = each_flat P (λ object. on_each_provider t (λ j. Remove j object)) job.older
    (λ o. each_map P (λ j. Remove j o) (upto t.n) (λ j. h j o))

-- what holds of every store under its number holds of those of a put
pub stores_all : (t : Setup) (job : Job) (bytes : List ℕ) (P : Action → Type 0) →
    ((j s : ℕ) → P (Store j job.subject s)) → Each P (store_actions t job bytes)
stores_all t job bytes P h = each_flat P (λ stripe. on_each_provider t (λ j. Store j job.subject stripe))
    (upto (put_stripes t job bytes))
    (λ stripe. each_map P (λ j. Store j job.subject stripe) (upto t.n) (λ j. h j stripe))

-- what holds of every ask holds of those of an audit
pub asks_all : (t : Setup) (job : Job) (P : Action → Type 0) → ((j o r : ℕ) → P (Ask j o r)) →
    Each P (ask_actions t job)
asks_all t job P h = each_flat P (λ f. flat_map (λ round. on_each_provider t (λ j. Ask j f.id
    round)) (rounds_of (profiled t f.profile) (length f.bytes))) job.pinned (λ f. each_flat P
    (λ round. on_each_provider t (λ j. Ask j f.id round)) (rounds_of (profiled t f.profile) (length f.bytes))
    (λ round. each_map P _ _ (λ j. h j f.id round)))

-- what holds of every removal and of the end holds of the last actions of a put or a drop
pub tail_all : (t : Setup) (job : Job) (P : Action → Type 0) → ((j o : ℕ) → P (Remove j o)) → P End →
    Each P (remove_actions t job ++ End ∷ [])
tail_all t job P h e = each_append P (remove_actions t job) (End ∷ []) (removals t job P h) (e, tt)

-- ---- what stands before the work on a stripe

work_behind : (t : Setup) (job : Job) (kind : Kind) (i o s : ℕ) → i < t.n →
    Behind (Fetch i o s) (Work o s) (actions_by t job kind)
work_behind t job (GetJob name) i o s l p h = behind_append (Fetch i o s) (Work o s)
    (read_actions t job.pinned) (End ∷ []) (behind_flat (Fetch i o s) (Work o s)
    (λ f. on_each_stripe (profiled t f.profile) (length f.bytes) (open_actions t f.id)) job.pinned
    (λ f in_f. behind_flat (Fetch i o s) (Work o s) (open_actions t f.id) (upto (pinned_stripes t f))
    (λ st in_st. open_behind t f.id st i o s l))) (behind_none (Fetch i o s) (Work o s) (End ∷ [])
    (each_not NoWork (Work o s) (End ∷ []) (λ z. z) (tt, tt))) p h
work_behind t job RepairJob i o s l p h =
    behind_append (Fetch i o s) (Work o s) (repair_actions t job) (append_actions ++ End ∷ [])
    (behind_flat (Fetch i o s) (Work o s) (λ f. on_each_stripe (profiled t f.profile) (length f.bytes)
    (λ stripe. open_actions t f.id stripe ++ rewrite_actions t job f.id stripe)) job.pinned
    (λ f in_f. behind_flat (Fetch i o s) (Work o s)
    (λ stripe. open_actions t f.id stripe ++ rewrite_actions t job f.id stripe) (upto (pinned_stripes t f))
    (λ st in_st. piece_opens t job f.id st i o s l))) (behind_none (Fetch i o s) (Work o s)
    (append_actions ++ End ∷ []) (each_not NoWork (Work o s) (append_actions ++ End ∷ []) (λ z. z)
    (tt, (tt, (tt, (tt, (tt, tt))))))) p h
work_behind t job kind i o s l p h =
    absurd (each_get (IsFair job kind) (actions_by t job kind) p (Work o s) (fair t job kind) h)

-- before each place of the work on a stripe stands each fetch of it
pub fetch_before_work : (t : Setup) (job : Job) (p i o s : ℕ) →
    slice_get (actions_of t job) p ≡ Some (Work o s) → i < t.n →
    (q : ℕ) × (q < p) × (slice_get (actions_of t job) q ≡ Some (Fetch i o s))
fetch_before_work t job p i o s h l =
    (let r = work_behind t job job.kind i o s l p (by_kind t job job.kind p (Work o s) refl h) in
    (r.0, r.1, of_kind t job job.kind r.0 (Fetch i o s) refl r.2))

-- a job that comes to the work on a stripe has fetched it from each provider
pub fetched_before_work : (w : State) (job : Job) (o s i : ℕ) → next_action w job ≡ Some (Work o s) →
    i < (setup_in w).n → HasMade (setup_in w) job (Fetch i o s)
fetched_before_work w job o s i h l = (let r = fetch_before_work (setup_in w) job job.place i o s
    (next_stands w job (Work o s) h (λ e. cc)) l in record { place = r.0; made = r.1; action = r.2 })

-- ---- what stands before the end of a get

-- what holds of fetches and work on stripes of its files holds of what a get reads
pub reads_all : (t : Setup) (job : Job) (P : Action → Type 0) →
    ((f : Pinned) (st : ℕ) → In f job.pinned → st < pinned_stripes t f →
    ((j : ℕ) → P (Fetch j f.id st)) × P (Work f.id st)) → Each P (read_actions t job.pinned)
reads_all t job P h = each_flat_in P _ _ (λ f in_f. each_flat_in P _ _ (λ st in_st. (let g =
    h f st in_f (upto_in (pinned_stripes t f) st in_st) in opens_nothing t P f.id st g.0 g.1)))

fetch_stands : (t : Setup) (job : Job) (name : List ℕ) (f : Pinned) (s i : ℕ) → In f job.pinned →
    s < pinned_stripes t f → i < t.n → Stands (Fetch i f.id s) (read_actions t job.pinned)
fetch_stands t job name f s i in_f l k = stands_flat _ _ f _ in_f (stands_flat _ _ s _
    (in_upto (pinned_stripes t f) s l) (stands_left (on_each_provider t (λ j. Fetch j f.id s))
    (Work f.id s ∷ []) (Fetch i f.id s) (fetches_stand t f.id s i k)))

-- the next action of a get is the one at its place
get_stands : (w : State) (job : Job) (name : List ℕ) (action : Action) → job.kind ≡ GetJob name →
    next_action w job ≡ Some action → slice_get (actions_of (setup_in w) job) job.place ≡ Some action
get_stands w job name action kind h = cc

-- a get that comes to its end has fetched each stripe of its file from each provider
pub fetched_before_end : (w : State) (job : Job) (name : List ℕ) (f : Pinned) (s i : ℕ) →
    job.kind ≡ GetJob name → next_action w job ≡ Some End → In f job.pinned →
    s < pinned_stripes (setup_in w) f → i < (setup_in w).n → HasMade (setup_in w) job (Fetch i f.id s)
fetched_before_end w job name f s i kind h in_f l k =
    (let r = stands_before _ _ _ End _ (fetch_stands (setup_in w) job name f s i in_f l k) (each_not IsCall
    End _ (λ z. z) (reads_all (setup_in w) job IsCall (λ h st in_h l2. (λ j. tt, tt)))) (by_kind (setup_in w) job (GetJob name) job.place End
    kind (get_stands w job name End kind h)) in
    record {
      place = r.0;
      made = r.1;
      action = of_kind (setup_in w) job (GetJob name) r.0 (Fetch i f.id s) kind r.2;
    })

-- ---- the stores of a repair

-- a store of a file of the job
abbrev IsPinnedStore : Setup → Job → Action → Type 0
IsPinnedStore t job (Store j o s) = (f : Pinned) × In f job.pinned × (f.id ≡ o) × (s < pinned_stripes t f)
IsPinnedStore t job action = Unit {0}

-- what holds of fetches, work and stores on stripes of its files holds of those of a repair
pub repairs_all : (t : Setup) (job : Job) (P : Action → Type 0) →
    ((f : Pinned) (st : ℕ) → In f job.pinned → st < pinned_stripes t f →
    ((j : ℕ) → P (Fetch j f.id st)) × P (Work f.id st) × ((j : ℕ) → P (Store j f.id st))) →
    Each P (repair_actions t job)
repairs_all t job P h = each_flat_in P _ _ (λ f in_f. each_flat_in P _ _ (λ st in_st. (let g =
    h f st in_f (upto_in (pinned_stripes t f) st in_st) in
    each_append P _ _ (opens_nothing t P f.id st g.0 g.1) (rewrites_fair t job P f.id st g.2))))

store_pinned : (t : Setup) (job : Job) → Each (IsPinnedStore t job) (actions_by t job RepairJob)
store_pinned t job = each_append _ _ _ (repairs_all t job (IsPinnedStore t job)
    (λ f st in_f l. (λ j. tt, tt, λ j. (f, in_f, refl, l)))) (tt, (tt, (tt, (tt, (tt, tt)))))

stores_behind : (t : Setup) (job : Job) (i o s : ℕ) →
    Behind (Work o s) (Store i o s) (actions_by t job RepairJob)
stores_behind t job i o s =
    behind_append (Work o s) (Store i o s) (repair_actions t job) (append_actions ++ End ∷ [])
    (behind_flat (Work o s) (Store i o s) (λ (f : Pinned). on_each_stripe (profiled t f.profile)
    (length f.bytes) (λ stripe. open_actions t f.id stripe ++ rewrite_actions t job f.id stripe)) job.pinned
    (λ f in_f. behind_flat (Work o s) (Store i o s)
    (λ stripe. open_actions t f.id stripe ++ rewrite_actions t job f.id stripe) (upto (pinned_stripes t f))
    (λ st in_st. piece_stores t job f.id st i o s))) (behind_none (Work o s) (Store i o s)
    (append_actions ++ End ∷ []) (each_not NoStore (Store i o s) (append_actions ++ End ∷ []) (λ z. z)
    (tt, (tt, (tt, (tt, (tt, tt)))))))

-- before each place of a store of a repair stands the work on its stripe
work_before_store : (t : Setup) (job : Job) (p i o s : ℕ) → job.kind ≡ RepairJob →
    slice_get (actions_of t job) p ≡ Some (Store i o s) →
    (q : ℕ) × (q < p) × (slice_get (actions_of t job) q ≡ Some (Work o s))
work_before_store t job p i o s kind h =
    (let r = stores_behind t job i o s p (by_kind t job RepairJob p (Store i o s) kind h) in
    (r.0, r.1, of_kind t job RepairJob r.0 (Work o s) kind r.2))

-- a repair that comes to a store has worked on its stripe, which is one of its files'
pub worked_before_store : (w : State) (job : Job) (i o s : ℕ) → job.kind ≡ RepairJob →
    next_action w job ≡ Some (Store i o s) →
    HasMade (setup_in w) job (Work o s) ×
    ((f : Pinned) × In f job.pinned × (f.id ≡ o) × (s < pinned_stripes (setup_in w) f))
worked_before_store w job i o s kind h = (let at = next_stands w job (Store i o s) h (λ e. cc) in
    let r = work_before_store (setup_in w) job job.place i o s kind at in (
      record { place = r.0; made = r.1; action = r.2 },
      each_get _ _ _ _ (store_pinned (setup_in w) job) (by_kind (setup_in w) job RepairJob job.place
          (Store i o s) kind at),
    ))

repair_calls : (t : Setup) (job : Job) → Each IsCall (repair_actions t job)
repair_calls t job = repairs_all t job IsCall (λ f st in_f l. (λ j. tt, tt, λ j. tt))

-- each store of its files on a flagged provider is among those of a repair
pub store_in_repair : (t : Setup) (job : Job) (f : Pinned) (i s : ℕ) → In f job.pinned →
    job.flagged i ≡ true → i < t.n → s < pinned_stripes t f → Stands (Store i f.id s) (repair_actions t job)
store_in_repair t job f i s in_f flag k l = stands_flat _ _ f _ in_f (stands_flat _ _ s _
    (in_upto (pinned_stripes t f) s l) (stands_right _ _ _ (stands_flat _ _ i _ (in_upto t.n i k) (0, cc))))

-- each store of its files on a flagged provider stands in a repair's list of actions
pub store_stands : (t : Setup) (job : Job) (f : Pinned) (i s : ℕ) → job.kind ≡ RepairJob → In f job.pinned →
    job.flagged i ≡ true → i < t.n → s < pinned_stripes t f →
    (p : ℕ) × (slice_get (actions_of t job) p ≡ Some (Store i f.id s))
store_stands t job f i s kind in_f flag k l = (let r = stands_left (repair_actions t job)
    (append_actions ++ End ∷ []) (Store i f.id s) (store_in_repair t job f i s in_f flag k l) in
    (r.0, of_kind t job RepairJob r.0 (Store i f.id s) kind r.1))

-- a move of a repair stands behind its stores
pub move_behind : (t : Setup) (job : Job) (p : ℕ) (action : Action) → job.kind ≡ RepairJob →
    slice_get (actions_of t job) p ≡ Some action → (IsCall action → ⊥) → length (repair_actions t job) ≤ p
move_behind t job p action kind h bad =
    elim (split_get (repair_actions t job) (append_actions ++ End ∷ []) p action
    (by_kind t job RepairJob p action kind h)) [
      | inl x ↦ absurd (bad (each_get IsCall (repair_actions t job) p action (repair_calls t job) x.1))
      | inr x ↦ x.0
    ]

pub store_within : (t : Setup) (job : Job) (p i o s : ℕ) → job.kind ≡ RepairJob →
    slice_get (actions_of t job) p ≡ Some (Store i o s) → p < length (repair_actions t job)
store_within t job p i o s kind h =
    elim (split_get (repair_actions t job) (append_actions ++ End ∷ []) p (Store i o s)
    (by_kind t job RepairJob p (Store i o s) kind h)) [
      | inl x ↦ x.0
      | inr x ↦ absurd (each_get NoStore (append_actions ++ End ∷ []) (p - length (repair_actions t job))
          (Store i o s) (tt, (tt, (tt, (tt, (tt, tt))))) x.1)
    ]

-- a repair that comes to the third move of its append has made each of its stores
pub gate_behind : (w : State) (job : Job) (p i o s : ℕ) → job.kind ≡ RepairJob →
    next_action w job ≡ Some WriteGate → slice_get (actions_of (setup_in w) job) p ≡ Some (Store i o s) →
    p < job.place
gate_behind w job p i o s kind h at =
    (let late = move_behind _ job _ _ kind (next_stands w job WriteGate h (λ e. cc)) (λ z. z) in
    omega (arith, store_within (setup_in w) job p i o s kind at))

-- ---- the stores of a put

-- each store of a put stands in its list, before its second append
pub put_store_at : (t : Setup) (job : Job) (name bytes : List ℕ) (i s : ℕ) → job.kind ≡ PutJob name bytes →
    i < t.n → s < put_stripes t job bytes →
    (p : ℕ) × (p < 4 + length (store_actions t job bytes)) ×
    (slice_get (actions_of t job) p ≡ Some (Store i job.subject s))
put_store_at t job name bytes i s kind k l =
    (let at = stands_flat _ _ s _ (in_upto _ s l) (stands_map _ _ i (in_upto t.n i k)) in (
      length append_actions + at.0,
      omega (arith, slice_get_within (store_actions t job bytes) at.0 (Store i job.subject s) at.1),
      of_kind t job (PutJob name bytes) (length append_actions + at.0) (Store i job.subject s) kind
          (get_behind append_actions (store_actions t job bytes ++
          (append_actions ++ (remove_actions t job ++ End ∷ []))) at.0 (Store i job.subject s)
          (get_left (store_actions t job bytes) (append_actions ++ (remove_actions t job ++ End ∷ [])) at.0
          (Store i job.subject s) at.1)),
    ))

-- a put that is past its stores has made each of them
pub put_stores : (t : Setup) (job : Job) (name bytes : List ℕ) (i s : ℕ) → job.kind ≡ PutJob name bytes →
    4 + length (store_actions t job bytes) ≤ job.place → i < t.n → s < put_stripes t job bytes →
    HasMadeStore t job i job.subject s
put_stores t job name bytes i s kind late k l =
    (let at = put_store_at t job name bytes i s kind k l in record {
      place = at.0;
      made = omega (arith, at.1, late);
      action = at.2;
    })

-- a store
abbrev pub IsStore : Action → Type 0
IsStore (Store j o s) = Unit {0}
IsStore a = ⊥

-- a move of a put's second append, and what follows it, stands behind its stores
put_late_at : (w : State) (job : Job) (name bytes : List ℕ) (p : ℕ) (action : Action) →
    slice_get (actions_by (setup_in w) job (PutJob name bytes)) p ≡ Some action → 4 ≤ p →
    (IsStore action → ⊥) → 4 + stores_count w job bytes ≤ p
put_late_at w job name bytes p action h late none = elim (put_at w job name bytes p action h) [
  | PutAt.first l e ↦ absurd (omega (arith, l, late))
  | PutAt.store l m is ↦ absurd (none is)
  | PutAt.second q is l e ↦ omega (arith, is, l)
  | PutAt.after l is ↦ omega (arith, l)
]

-- past its first append a put that comes to neither a store nor its end is past its stores
pub put_late : (w : State) (job : Job) (name bytes : List ℕ) (action : Action) →
    job.kind ≡ PutJob name bytes → next_action w job ≡ Some action → 4 ≤ job.place → (IsStore action → ⊥) →
    (action ≡ End → ⊥) → 4 + stores_count w job bytes ≤ job.place
put_late w job name bytes action kind h late none other = put_late_at w job name bytes job.place action
    (by_kind (setup_in w) job (PutJob name bytes) job.place action kind (next_stands w job action h other))
    late none

-- a put that comes to the third move of its second append has made each store
pub stored_before_gate : (w : State) (job : Job) (name bytes : List ℕ) (i s : ℕ) →
    job.kind ≡ PutJob name bytes → next_action w job ≡ Some WriteGate → 4 ≤ job.place → i < (setup_in w).n →
    s < put_stripes (setup_in w) job bytes → HasMadeStore (setup_in w) job i job.subject s
stored_before_gate w job name bytes i s kind h late k l = put_stores (setup_in w) job name bytes i s kind
    (put_late w job name bytes WriteGate kind h late (λ z. z) (λ e. cc)) k l

-- ---- the asks of an audit

-- each ask of an audit stands in its list, before its second append
pub ask_at : (t : Setup) (job : Job) (f : Pinned) (i r : ℕ) → job.kind ≡ AuditJob → In f job.pinned →
    i < t.n → In r (rounds_of (profiled t f.profile) (length f.bytes)) →
    (p : ℕ) × (p < 4 + length (ask_actions t job)) × (slice_get (actions_of t job) p ≡ Some (Ask i f.id r))
ask_at t job f i r kind in_f k in_r =
    (let at = stands_flat _ _ f _ in_f (stands_flat _ _ r _ in_r (stands_map _ _ i (in_upto t.n i k))) in (
      length append_actions + at.0,
      omega (arith, slice_get_within (ask_actions t job) at.0 (Ask i f.id r) at.1),
      of_kind t job AuditJob (length append_actions + at.0) (Ask i f.id r) kind
          (get_behind append_actions (ask_actions t job ++ (append_actions ++ End ∷ [])) at.0 (Ask i f.id r)
          (get_left (ask_actions t job) (append_actions ++ End ∷ []) at.0 (Ask i f.id r) at.1)),
    ))

-- not a move
abbrev pub NotMove : Action → Type 0
NotMove WriteBody = ⊥
NotMove SyncBody = ⊥
NotMove WriteGate = ⊥
NotMove SyncGate = ⊥
NotMove action = Unit {0}

-- a move of an audit past the first four stands behind its asks
pub audit_late : (t : Setup) (job : Job) (p : ℕ) (action : Action) → job.kind ≡ AuditJob →
    slice_get (actions_of t job) p ≡ Some action → 4 ≤ p → (NotMove action → ⊥) →
    4 + length (ask_actions t job) ≤ p
audit_late t job p action kind h late moves =
    elim (split_get append_actions (ask_actions t job ++ (append_actions ++ End ∷ [])) p action
    (by_kind t job AuditJob p action kind h)) [
      | inl a ↦ absurd (omega (arith, a.0, late))
      | inr b ↦ elim (split_get (ask_actions t job) (append_actions ++ End ∷ []) (p - 4) action b.1) [
        | inl c ↦ absurd (moves
            (each_get NotMove (ask_actions t job) (p - 4) action (asks_all t job NotMove (λ j o r. tt)) c.1))
        | inr d ↦ (omega (arith, b.0, d.0))
      ]
    ]

-- neither an ask nor a fetch nor work
abbrev pub IsMute : Action → Type 0
IsMute (Ask i o r) = ⊥
IsMute (Fetch i o s) = ⊥
IsMute (Work o s) = ⊥
IsMute action = Unit {0}

-- behind its asks an audit is given nothing
pub audit_mute : (t : Setup) (job : Job) (p : ℕ) (action : Action) → job.kind ≡ AuditJob →
    slice_get (actions_of t job) p ≡ Some action → 4 + length (ask_actions t job) ≤ p → IsMute action
audit_mute t job p action kind h late =
    elim (split_get append_actions (ask_actions t job ++ (append_actions ++ End ∷ [])) p action
    (by_kind t job AuditJob p action kind h)) [
      | inl a ↦ absurd (omega (arith, a.0, late))
      | inr b ↦ elim (split_get (ask_actions t job) (append_actions ++ End ∷ []) (p - 4) action b.1) [
        | inl c ↦ absurd (omega (arith, c.0, late))
        | inr d ↦ each_get IsMute (append_actions ++ End ∷ []) (p - 4 - length (ask_actions t job)) action
            (tt, (tt, (tt, (tt, (tt, tt))))) d.1
      ]
    ]

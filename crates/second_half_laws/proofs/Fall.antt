-- Steps left fall.
use Rattle.second_half_laws.proofs.Words.{◌⊎◌, ◌-◌, ◌&&◌, true, cond, refl, ap, sym, subst, ◌∙◌, inl, inr, arith, slice_get, drop, count_by, nat_lt, flat_map, cases_Bool, and_parts, and_from, lt-ltb, ltb-true, false≢true, Each, each_get, get_behind, upto, Setup, File, Kind, PutJob, GetJob, DropJob, AuditJob, RepairJob, UpgradeJob, aim_of, Given, Job, job_of, advanced, advanced_with, profiled, stripes_of, Action, SyncGate, Store, Fetch, Remove, End, append_actions, on_each_provider, on_each_stripe, store_actions, read_actions, repair_actions, ask_actions, remove_actions, actions_by, actions_of, ends_append, Step, More, State, IsStart, setup_in, file_in, is_pinned, removable, is_first_append, subject_drawn, taken_out, next_action, Moment, now, IsRun, cond_false, found_none, split_get, Changes, changes, setup_stays, first_above, All, all, actions_are, PutAt, put_at, gate_is_last}
use Rattle.std.proofs.Common.{◌≡◌, ℕ, zero, suc, ◌+◌, ◌<◌, ◌≤◌, Bool, false, List, [], ◌∷◌, ◌++◌, length, map, Option, Some, None}
use Rattle.std.proofs.lemmas.List.{length-append, length-map, map-append, drop-map, length-drop}
use Rattle.std.proofs.lemmas.List.FromFn.{length-map-range_with_len}
use Rattle.std.proofs.lemmas.List.Sums.{sum_by-cons}
use Rattle.std.proofs.Math.Seq.{drop-append-add}
use Rattle.machine_defs.specs.Left.{removes_older, is_undecided, most_left}
use Rattle.second_half_laws.specs.Skips.{SkipsRemovals}
use Rattle.second_half_laws.proofs.Walk.{IsGift, IsSilent, Passed, Went, Walked, walked}
use Rattle.second_half_laws.proofs.Places.{by_kind, tail_all}
use Rattle.second_half_laws.proofs.Passing.{passed_place, passed_not_end, list_before, list_now, list_is}
use Rattle.second_half_laws.proofs.MadeFacts as made

-- ---- lists of actions alike in length and in where their fourth moves stand

abbrev one_if : Bool → ℕ
one_if b = cond b 1 0

one_if-false : (b : Bool) → b ≡ false → one_if b ≡ 0
one_if-false true h = absurd (false≢true (sym h))
one_if-false false h = refl

count_cons : {X : Type 0} (p : X → Bool) (x : X) (xs : List X) →
    count_by p (x ∷ xs) ≡ cond (p x) 1 0 + count_by p xs
count_cons p x xs = sum_by-cons (λ y. cond (p y) 1 0) x xs

drop_here : (l : List Action) (p : ℕ) (a : Action) → slice_get l p ≡ Some a → drop p l ≡ a ∷ drop (p + 1) l
drop_here [] p a h = (cc h)
drop_here (x ∷ l) zero a h = (let e : Some x ≡ Some a = h in let f : x ≡ a = cc in ap (λ y. y ∷ l) f)
drop_here (x ∷ l) (suc p) a h =
    drop_here l p a h ∙ ap (λ n. a ∷ drop n (x ∷ l)) (let e : suc (p + 1) ≡ suc p + 1 = omega arith in e)

abbrev shape : List Action → List Bool
shape l = map ends_append l

shape_length : (p : ℕ) (k l : List Action) → shape k ≡ shape l → length (drop p k) ≡ length (drop p l)
shape_length p k l e = cc (
  length-map (drop p k) ends_append,
  drop-map ends_append p k,
  drop-map ends_append p l,
  length-map (drop p l) ends_append,
)

count_shape : (l : List Action) → count_by ends_append l ≡ count_by (λ b. b) (shape l)
count_shape [] = refl
count_shape (x ∷ l) = cc (count_cons ends_append x l, count_shape l, count_cons _ _ _)

shape_count : (p : ℕ) (k l : List Action) → shape k ≡ shape l →
    count_by ends_append (drop p k) ≡ count_by ends_append (drop p l)
shape_count p k l e = cc (
  count_shape (drop p k),
  drop-map ends_append p k,
  drop-map ends_append p l,
  count_shape (drop p l),
)

count_none : (l : List Action) → Each (λ a. ends_append a ≡ false) l → count_by ends_append l ≡ 0
count_none [] h = refl
count_none (x ∷ l) h =
    (omega (arith, count_cons ends_append x l, one_if-false (ends_append x) h.0, count_none l h.1))

count_some : (l : List Action) (q p : ℕ) → slice_get l p ≡ Some SyncGate → q ≤ p →
    0 < count_by ends_append (drop q l)
count_some [] q p h k = (cc h)
count_some (x ∷ l) zero zero h k = (let e : Some x ≡ Some SyncGate = h in let f : x ≡ SyncGate = cc in
    let g : one_if (ends_append x) ≡ one_if (ends_append SyncGate) = cc in
    let c = count_cons ends_append x l in omega (arith, g, c))
count_some (x ∷ l) zero (suc p) h k =
    (let r : 0 < count_by ends_append (drop 0 l) = count_some l 0 p h (omega arith) in
    let c = count_cons ends_append x l in omega (arith, r, c))
count_some (x ∷ l) (suc q) zero h k = absurd (omega (arith, k))
count_some (x ∷ l) (suc q) (suc p) h k = count_some l q p h (omega (arith, k))

-- ---- the most steps that may remain, by what is left

abbrev left_of : Setup → Job → List Action
left_of t j = drop j.place (actions_of t j)

-- what is left before and after an action
left_next : (t : Setup) (x j : Job) (action : Action) → slice_get (actions_of t x) x.place ≡ Some action →
    j.place ≡ x.place + 1 → shape (actions_of t j) ≡ shape (actions_of t x) →
    (length (left_of t x) ≡ suc (length (left_of t j))) ×
    (count_by ends_append (left_of t x) ≡ cond (ends_append action) 1 0 + count_by ends_append (left_of t j))
left_next t x j action at place same = (let front = drop_here (actions_of t x) x.place action at in
    let len : length (drop (x.place + 1) (actions_of t x)) ≡ length (left_of t j) =
    cc (shape_length _ _ _ same) in
    let count : count_by ends_append (drop (x.place + 1) (actions_of t x)) ≡ count_by ends_append
    (left_of t j) = cc (shape_count _ _ _ same) in (cc, cc (count_cons _ action _)))

-- an action that ends no append
plain_falls : (t : Setup) (x j : Job) (action : Action) → slice_get (actions_of t x) x.place ≡ Some action →
    j.place ≡ x.place + 1 → x.kind ≡ j.kind → shape (actions_of t j) ≡ shape (actions_of t x) →
    ends_append action ≡ false → (most_left t x ≡ suc (most_left t j)) × (is_undecided t x ≡ is_undecided t j)
plain_falls t x j action at place kind same no_gate = (let l = left_next t x j action at place same in
    let count : count_by ends_append (left_of t x) ≡ count_by ends_append (left_of t j) =
    (let e = l.1 in let f = one_if-false (ends_append action) no_gate in omega (arith, e, f)) in
    let one : (n : ℕ) → suc (length (left_of t j)) + n ≡ suc (length (left_of t j) + n) =
    (λ n. omega arith) in (
      cc (one (cond (removes_older (aim_of j.kind) && nat_lt 0 (count_by ends_append (left_of t j))) t.n 0)),
      cc,
    ))

-- an append of a job that takes nothing away, or a first append
gate_falls : (t : Setup) (x j : Job) → slice_get (actions_of t x) x.place ≡ Some SyncGate →
    j.place ≡ x.place + 1 → x.kind ≡ j.kind → shape (actions_of t j) ≡ shape (actions_of t x) →
    (removes_older (aim_of j.kind) ≡ false) ⊎ (0 < count_by ends_append (left_of t j)) →
    most_left t x ≡ suc (most_left t j)
gate_falls t x j at place kind same which = (let l = left_next t x j SyncGate at place same in
    let some : removes_older (aim_of j.kind) && nat_lt 0 (count_by ends_append (left_of t x))
    ≡ removes_older (aim_of j.kind) && nat_lt 0 (count_by ends_append (left_of t j)) = elim which [
      | inl none ↦ cc
      | inr more ↦ (let lots : 0 < count_by ends_append (left_of t x) =
          (let e = l.1 in omega (arith, e, more)) in cc (
            lt-ltb 0 _ lots,
            lt-ltb 0 _ more,
          ))
    ] in let one : (n : ℕ) → suc (length (left_of t j)) + n ≡ suc (length (left_of t j) + n) =
    (λ n. omega arith) in
    cc (one (cond (removes_older (aim_of j.kind) && nat_lt 0 (count_by ends_append (left_of t j))) t.n 0)))

-- ---- a job that decides which object it takes away

abbrev removes_by : Setup → List ℕ → List Action
removes_by t older = flat_map (λ object. on_each_provider t (λ j. Remove j object)) older

-- none, or one
abbrev FewOlder : List ℕ → Type 0
FewOlder l = (l ≡ []) ⊎ ((o : ℕ) × (l ≡ o ∷ []))

no_gate_tail : (t : Setup) (j : Job) → count_by ends_append (remove_actions t j ++ End ∷ []) ≡ 0
no_gate_tail t j = count_none _ (tail_all t j _ (λ i o. refl) refl)

tail_length : (t : Setup) (l : List ℕ) → length (removes_by t l ++ End ∷ []) ≡ length (removes_by t l) + 1
tail_length t l = length-append (removes_by t l) (End ∷ [])

few_length : (t : Setup) (l : List ℕ) → FewOlder l →
    ((l ≡ []) × (length (removes_by t l) ≡ 0)) ⊎ (length (removes_by t l) ≡ t.n)
few_length t l (inl e) = inl (e, cc)
few_length t l (inr (o, e)) = inr (ap (λ k. length (removes_by t k)) e
    ∙ (length-append (on_each_provider t (λ j. Remove j o)) []
    ∙ (omega (arith, length-map-range_with_len (λ j. Remove j o) 0 t.n))))

-- by one, or by the removals that are skipped and one
abbrev pub FallsBy : Setup → Job → Job → Type 0
FallsBy t x j = (most_left t x ≡ suc (most_left t j)) ⊎
    (SkipsRemovals t x j × (most_left t x ≡ suc (most_left t j + t.n)))

decides : (t : Setup) (x j : Job) → removes_older (aim_of x.kind) ≡ true →
    left_of t x ≡ SyncGate ∷ (removes_by t x.older ++ End ∷ []) → x.older ≡ [] →
    left_of t j ≡ remove_actions t j ++ End ∷ [] → FewOlder j.older →
    is_undecided t x ≡ true → is_undecided t j ≡ false → FallsBy t x j
decides t x j removes left none left_j few undecided decided =
    (let lx : left_of t x ≡ SyncGate ∷ End ∷ [] = cc in let mx : most_left t x ≡ 2 + t.n = cc in
    let gj : count_by ends_append (left_of t j) ≡ 0 = cc (no_gate_tail t j) in
    let lj : length (left_of t j) ≡ length (removes_by t j.older) + 1 = cc (tail_length t j.older) in
    let mj : most_left t j ≡ length (removes_by t j.older) + 1 =
    cc (none_decided (removes_older (aim_of j.kind)) (length (removes_by t j.older) + 1)) in
    elim (few_length t j.older few) [
      | inl e ↦ inr (
        record { undecided = undecided; decided = decided; none = e.0 },
        (let z = e.1 in omega (arith, mx, mj, z)),
      )
      | inr e ↦ inl (omega (arith, mx, mj, e))
    ])
  where
    none_decided : (b : Bool) (n : ℕ) → n + cond (b && false) t.n 0 ≡ n
    none_decided true n = omega arith
    none_decided false n = omega arith

removable_few : (w : State) (f : Option File) → FewOlder (removable w f)
removable_few w None = inl refl
removable_few w (Some f) = elim (cases_Bool (is_pinned w f.id)) [
  | inl t ↦ inl (cc)
  | inr e ↦ inr (f.id, cc)
]

-- ---- the fourth move of an append

put_gate : (w : State) (x : Job) (name bytes : List ℕ) (p : ℕ) →
    slice_get (actions_by (setup_in w) x (PutJob name bytes)) p ≡ Some SyncGate →
    (p ≡ 3) ⊎ (p ≡ 7 + length (store_actions (setup_in w) x bytes))
put_gate w x name bytes p h = elim (put_at w x name bytes p SyncGate h) [
  | PutAt.first l e ↦ inl (gate_is_last p e)
  | PutAt.store l m is ↦ absurd is
  | PutAt.second q is l e ↦ inr (omega (arith, is, gate_is_last q e))
  | PutAt.after l is ↦ absurd is
]

drop_tail : (ss tail : List Action) →
    drop (8 + length ss) (append_actions ++ (ss ++ (append_actions ++ tail))) ≡ tail
drop_tail ss tail = ap (λ n. drop n (append_actions ++ (ss ++ (append_actions ++ tail)))) (omega arith)
    ∙ (drop-append-add append_actions (ss ++ (append_actions ++ tail)) (length ss + 4)
    ∙ drop-append-add ss (append_actions ++ tail) 4)

gate_stands : (ss tail : List Action) →
    slice_get (append_actions ++ (ss ++ (append_actions ++ tail))) (7 + length ss) ≡ Some SyncGate
gate_stands ss tail = ap (λ n. slice_get (append_actions ++ (ss ++ (append_actions ++ tail))) n) (omega arith)
    ∙ get_behind append_actions (ss ++ (append_actions ++ tail)) (length ss + 3) SyncGate
    (get_behind ss (append_actions ++ tail) 3 SyncGate refl)

abbrev with_older : Job → List ℕ → Job
with_older x l = record (advanced x) { older = l }

-- what the fourth move does to the steps left
abbrev pub Falls : Setup → Job → Job → Type 0
Falls t x j = FallsBy t x j × (is_undecided t j ≡ true → j.older ≡ [])

undecided_now : (t : Setup) (x : Job) → removes_older (aim_of x.kind) ≡ true →
    slice_get (actions_of t x) x.place ≡ Some SyncGate → is_undecided t x ≡ true
undecided_now t x removes at = and_from (removes_older (aim_of x.kind))
    (nat_lt 0 (count_by ends_append (left_of t x))) removes (lt-ltb 0 (count_by ends_append (left_of t x))
    (count_some (actions_of t x) x.place x.place at (omega arith)))

decided_then : (t : Setup) (j : Job) → left_of t j ≡ remove_actions t j ++ End ∷ [] →
    is_undecided t j ≡ true → ⊥
decided_then t j left h = (let none : count_by ends_append (left_of t j) ≡ 0 = cc (no_gate_tail t j) in
    let some : nat_lt 0 (count_by ends_append (left_of t j)) ≡ true =
    (and_parts (removes_older (aim_of j.kind)) (nat_lt 0 (count_by ends_append (left_of t j))) h).1 in
    let l = ltb-true 0 (count_by ends_append (left_of t j)) some in omega (arith, none, l))

decided_now : (t : Setup) (j : Job) → left_of t j ≡ remove_actions t j ++ End ∷ [] → is_undecided t j ≡ false
decided_now t j left =
    elim (cases_Bool (is_undecided t j)) [ inl h ↦ absurd (decided_then t j left h) | inr f ↦ f ]

module _ (w : State) (x : Job) (next_at : slice_get (actions_of (setup_in w) x) x.place ≡ Some SyncGate)
    (settled : is_undecided (setup_in w) x ≡ true → x.older ≡ []) where
  abbrev t : Setup
  t = setup_in w

  finish_put : (name bytes l : List ℕ) → x.kind ≡ PutJob name bytes → l ≡ taken_out w x (PutJob name bytes) →
      Falls t x (with_older x l)
  finish_put name bytes l kind is =
      elim (put_gate w x name bytes x.place (by_kind t x (PutJob name bytes) x.place SyncGate kind next_at)) [
        | inl first ↦ at_first first
        | inr second ↦ at_second second
      ]
    where
      removes : removes_older (aim_of x.kind) ≡ true
      removes = cc

      none : x.older ≡ []
      none = settled (undecided_now t x removes next_at)

      lists : actions_of t x ≡ actions_by t x (PutJob name bytes)
      lists = actions_are t x (PutJob name bytes) kind

      lists_j : actions_of t (with_older x l) ≡ actions_by t (with_older x l) (PutJob name bytes)
      lists_j = actions_are t (with_older x l) (PutJob name bytes) kind

      at_first : x.place ≡ 3 → Falls t x (with_older x l)
      at_first three = (let empty : l ≡ [] = cc in
          let same : actions_of t (with_older x l) ≡ actions_of t x = lists_j
          ∙ (ap (λ o. append_actions ++ (store_actions t x bytes ++ (append_actions ++ (removes_by t o ++ End
          ∷ [])))) (empty ∙ sym none) ∙ sym lists) in
          let more : 0 < count_by ends_append (left_of t (with_older x l)) =
          count_some (actions_of t (with_older x l)) (x.place + 1) (7 + length (store_actions t x bytes))
          (ap (λ k. slice_get k (7 + length (store_actions t x bytes))) lists_j
          ∙ gate_stands (store_actions t x bytes) (removes_by t l ++ End ∷ [])) (omega (arith, three)) in
          (inl (gate_falls t x (with_older x l) next_at refl refl (ap shape same) (inr more)), λ h. empty))

      at_second : x.place ≡ 7 + length (store_actions t x bytes) → Falls t x (with_older x l)
      at_second far = (let eight : x.place + 1 ≡ 8 + length (store_actions t x bytes) = omega (arith, far) in
          let tail_j : left_of t (with_older x l) ≡ remove_actions t (with_older x l) ++ End ∷ [] =
          ap (λ k. drop (x.place + 1) k) lists_j ∙ (cc (drop_tail (store_actions t x bytes) (removes_by t l ++
          End ∷ []))) in let tail_x : left_of t x ≡ SyncGate ∷ (removes_by t x.older ++ End ∷ []) =
          drop_here (actions_of t x) x.place SyncGate next_at
          ∙ ap (λ k. SyncGate ∷ k) (ap (λ k. drop (x.place + 1) k) lists
          ∙ (cc (drop_tail (store_actions t x bytes) (removes_by t x.older ++ End ∷ [])))) in
          let few : FewOlder l =
          subst FewOlder (sym (is ∙ cond_false (is_first_append x) [] (removable w (file_in w name))
          (first_above x (omega (arith, far))))) (removable_few w (file_in w name)) in (
            decides t x (with_older x l) removes tail_x none tail_j few (undecided_now t x removes next_at)
                (decided_now t (with_older x l) tail_j),
            λ h. absurd (decided_then t (with_older x l) tail_j h),
          ))

  drop_gate_at : (name : List ℕ) → slice_get (actions_by t x (DropJob name)) x.place ≡ Some SyncGate →
      x.place ≡ 3
  drop_gate_at name h = elim (split_get append_actions (remove_actions t x ++ End ∷ []) x.place SyncGate h) [
    | inl a ↦ gate_is_last x.place a.1
    | inr b ↦ absurd (false≢true (sym (each_get (λ a. ends_append a ≡ false) (remove_actions t x ++ End ∷ [])
        (x.place - 4) SyncGate (tail_all t x (λ a. ends_append a ≡ false) (λ i o. refl) refl) b.1)))
  ]

  finish_drop : (name l : List ℕ) → x.kind ≡ DropJob name → l ≡ taken_out w x (DropJob name) →
      Falls t x (with_older x l)
  finish_drop name l kind is = (let removes : removes_older (aim_of x.kind) ≡ true = cc in
      let none : x.older ≡ [] = settled (undecided_now t x removes next_at) in
      let lists : actions_of t x ≡ actions_by t x (DropJob name) = actions_are t x (DropJob name) kind in
      let lists_j : actions_of t (with_older x l) ≡ actions_by t (with_older x l) (DropJob name) =
      actions_are t (with_older x l) (DropJob name) kind in
      let three = drop_gate_at name (by_kind t x (DropJob name) x.place SyncGate kind next_at) in
      let four : x.place + 1 ≡ 4 = omega (arith, three) in
      let tail_j : left_of t (with_older x l) ≡ remove_actions t (with_older x l) ++ End ∷ [] = cc in
      let tail_x : left_of t x ≡ SyncGate ∷ (removes_by t x.older ++ End ∷ []) = cc in (
        decides t x (with_older x l) removes tail_x none tail_j
            (subst FewOlder (sym is) (removable_few w (file_in w name))) (undecided_now t x removes next_at)
            (decided_now t (with_older x l) tail_j),
        λ h. absurd (decided_then t (with_older x l) tail_j h),
      ))

  finish_rest : (kind : Kind) (l : List ℕ) → x.kind ≡ kind → removes_older (aim_of kind) ≡ false →
      actions_by t (with_older x l) kind ≡ actions_by t x kind → Falls t x (with_older x l)
  finish_rest kind l is none same = (let lists : actions_of t (with_older x l) ≡ actions_of t x =
      cc (actions_are t (with_older x l) kind is, actions_are t x kind is) in
      let no_older : removes_older (aim_of x.kind) ≡ false = cc in (
        inl (gate_falls t x (with_older x l) next_at refl refl (ap shape lists) (inl no_older)),
        λ h. absurd (false≢true (cc)),
      ))

  finish : (kind : Kind) (l : List ℕ) → x.kind ≡ kind → l ≡ taken_out w x kind → Falls t x (with_older x l)
  finish (PutJob name bytes) l kind is = finish_put name bytes l kind is
  finish (DropJob name) l kind is = finish_drop name l kind is
  finish h l kind is = finish_rest h l kind refl refl

-- ---- a number drawn leaves the shape

flat_shape : (f g : ℕ → List Action) (us : List ℕ) → ((u : ℕ) → shape (f u) ≡ shape (g u)) →
    shape (flat_map f us) ≡ shape (flat_map g us)
flat_shape f g [] h = refl
flat_shape f g (u ∷ us) h = cc (
  map-append ends_append (f u) (flat_map f us),
  h u,
  flat_shape f g us h,
  map-append ends_append (g u) (flat_map g us),
)

store_shape : (n m stripe : ℕ) (us : List ℕ) → shape (map (λ j. Store j n stripe) us)
    ≡ shape (map (λ j. Store j m stripe) us)
store_shape n m stripe [] = refl
store_shape n m stripe (u ∷ us) = cc (store_shape n m stripe us)

stores_shape : (t : Setup) (p n m : ℕ) (bytes : List ℕ) (rest : List Action) →
    shape (on_each_stripe (profiled t p) (length bytes)
    (λ stripe. on_each_provider t (λ j. Store j n stripe)) ++ rest)
    ≡ shape (on_each_stripe (profiled t p) (length bytes)
    (λ stripe. on_each_provider t (λ j. Store j m stripe)) ++ rest)
stores_shape t p n m bytes rest = (cc (
  map-append ends_append (on_each_stripe (profiled t p) (length bytes) (λ stripe. on_each_provider t
      (λ j. Store j n stripe))) rest,
  flat_shape (λ stripe. on_each_provider t (λ j. Store j n stripe))
      (λ stripe. on_each_provider t (λ j. Store j m stripe)) (upto (stripes_of (profiled t p) (length bytes)))
      (λ stripe. store_shape n m stripe (upto t.n)),
  map-append ends_append (on_each_stripe (profiled t p) (length bytes) (λ stripe. on_each_provider t
      (λ j. Store j m stripe))) rest,
))

abbrev with_subject : Job → ℕ → Job
with_subject x n = record (advanced x) { subject = n }

subject_shape : (t : Setup) (x : Job) (n : ℕ) (kind : Kind) →
    shape (actions_by t (with_subject x n) kind) ≡ shape (actions_by t x kind)
subject_shape t x n (PutJob name bytes) = cc (stores_shape t x.profile n x.subject bytes (append_actions ++
    (remove_actions t x ++ End ∷ [])))
subject_shape t x n kind = refl

-- ---- a step that goes on

gift_plain : (old : State) (x : Job) (new : State) (action : Action) (gift : Given) →
    IsGift old x new action gift → ends_append action ≡ false
gift_plain old x new (Fetch i o s) gift g = refl
gift_plain old x new action gift g = search (refl, absurd)

silent_plain : (action : Action) → IsSilent action → ends_append action ≡ false
silent_plain (Store i o s) h = refl
silent_plain action h = search (refl, absurd)

-- one step of a job
one_step : (old : State) (x : Job) (action : Action) (new : State) (j : Job) →
    next_action old x ≡ Some action → (is_undecided (setup_in old) x ≡ true → x.older ≡ []) →
    Passed old x action new j → Falls (setup_in old) x j
one_step old x action new j next_is settled passed = go passed
  where
    at : slice_get (actions_of (setup_in old) x) x.place ≡ Some action
    at = list_now old x action new j next_is passed

    plain : (y : Job) → j ≡ y → y.place ≡ x.place + 1 → x.kind ≡ y.kind → x.older ≡ y.older →
        shape (actions_by (setup_in old) y x.kind) ≡ shape (actions_by (setup_in old) x x.kind) →
        ends_append action ≡ false → Falls (setup_in old) x j
    plain y is place kind older same no_gate = subst (Falls (setup_in old) x) (sym is)
        (let f = plain_falls (setup_in old) x y action at place kind
        (cc (actions_are (setup_in old) y x.kind (sym kind), list_is (setup_in old) x)) no_gate in
        (inl f.0, λ h. sym older ∙ settled (f.1 ∙ h)))

    go : Passed old x action new j → Falls (setup_in old) x j
    go (Passed.silent quiet is rec) = plain (advanced x) is refl refl refl (cc) (silent_plain action quiet)
    go (Passed.gave gift is_gift is rec) = plain (advanced_with x gift) is refl refl refl (cc)
        (gift_plain old x new action gift is_gift)
    go (Passed.drew act is rec) = plain (with_subject x (subject_drawn old x x.kind)) is refl refl refl
        (subject_shape (setup_in old) x (subject_drawn old x x.kind) x.kind) (ap ends_append act)
    go (Passed.finished a act flight mine is rec) = subst (Falls (setup_in old) x) (sym is)
        (finish old x (at ∙ ap Some act) settled x.kind (taken_out old x x.kind) refl refl)

-- ---- a job that runs has not yet made its end

-- a list that is not empty, in which only the end has nothing behind it
abbrev Ongoing : List Action → Type 0
Ongoing l = (0 < length l) × ((p : ℕ) (a : Action) → slice_get l p ≡ Some a → (a ≡ End) ⊎ (p + 1 < length l))

ongoing_end : Ongoing (End ∷ [])
ongoing_end = (omega arith, λ p a h. inl (end_at p a h))
  where
    end_at : (p : ℕ) (a : Action) → slice_get (End ∷ []) p ≡ Some a → a ≡ End
    end_at zero a h = (let e = h in sym cc)
    end_at (suc p) a h = cc h

ongoing_behind : (xs ys : List Action) → Ongoing ys → Ongoing (xs ++ ys)
ongoing_behind xs ys o = (let e = length-append xs ys in
    let some = o.0 in (
      omega (arith, e, some),
      λ p a h. elim (split_get xs ys p a h) [
        | inl u ↦ inr (omega (arith, e, some, u.0))
        | inr u ↦ elim (o.1 (p - length xs) a u.1)
            [ inl is ↦ inl is | inr l ↦ inr (omega (arith, e, l, u.0)) ]
      ],
    ))

ongoing : (t : Setup) (x : Job) (kind : Kind) → Ongoing (actions_by t x kind)
ongoing t x (PutJob name bytes) = ongoing_behind append_actions
    (store_actions t x bytes ++ (append_actions ++ (remove_actions t x ++ End ∷ [])))
    (ongoing_behind (store_actions t x bytes) (append_actions ++ (remove_actions t x ++ End ∷ []))
    (ongoing_behind append_actions (remove_actions t x ++ End ∷ [])
    (ongoing_behind (remove_actions t x) (End ∷ []) ongoing_end)))
ongoing t x (GetJob name) = ongoing_behind (read_actions t x.pinned) (End ∷ []) ongoing_end
ongoing t x (DropJob name) = ongoing_behind append_actions (remove_actions t x ++ End ∷ [])
    (ongoing_behind (remove_actions t x) (End ∷ []) ongoing_end)
ongoing t x AuditJob = ongoing_behind append_actions (ask_actions t x ++ (append_actions ++ End ∷ []))
    (ongoing_behind (ask_actions t x) (append_actions ++ End ∷ [])
    (ongoing_behind append_actions (End ∷ []) ongoing_end))
ongoing t x RepairJob = ongoing_behind (repair_actions t x) (append_actions ++ End ∷ [])
    (ongoing_behind append_actions (End ∷ []) ongoing_end)
ongoing t x UpgradeJob = ongoing_behind append_actions (End ∷ []) ongoing_end

goes_within : (t : Setup) (x : Job) → Ongoing (actions_of t x)
goes_within t x = rw (← (list_is t x)) at (ongoing t x x.kind)

-- ---- at each moment of a run

pub record Facts (start : State) (ms : List Moment) : Type 0 where
  pub made : made.Facts start ms
  pub within : (k : ℕ) (j : Job) → job_of (now start ms).jobs k ≡ Some j →
      j.place < length (actions_of (setup_in (now start ms)) j)
  pub older : (k : ℕ) (j : Job) → job_of (now start ms).jobs k ≡ Some j →
      is_undecided (setup_in (now start ms)) j ≡ true → j.older ≡ []

module _ (limit : ℕ) (start : State) (m : Moment) (ms : List Moment) (A : All start ms) (F : Facts start ms)
    (X : Changes limit (length ms) (now start ms) m.event m.outcome m.state)
    (W : Walked (length ms) (now start ms) m.event m.outcome m.state) where
  -- the state after these moments
  abbrev w : State
  w = now start ms

  older_step : (k : ℕ) (j : Job) → job_of m.state.jobs k ≡ Some j → is_undecided (setup_in m.state) j ≡ true →
      j.older ≡ []
  older_step k j h undecided = elim (W.job k j h) [
    | Went.kept r apart ↦ F.older k j r open_old
    | Went.begun kind wish is k_is rec ↦ cc
    | Went.went x action g ↦ (one_step w x action m.state j g.next (F.older k x g.runs) g.passed).1 open_old
  ]
    where
      open_old : is_undecided (setup_in w) j ≡ true
      open_old = cc (setup_stays limit start m ms A.numbers A.pins X k j h)

  step_facts : Facts start (m ∷ ms)
  step_facts = record {
    made = made.step_facts limit start m ms A F.made X W;
    within = λ k j h. subst (λ t. j.place < length (actions_of t j))
        (sym (setup_stays limit start m ms A.numbers A.pins X k j h)) (elim (W.job k j h) [
          | Went.kept r apart ↦ F.within k j r
          | Went.begun kind wish is k_is rec ↦ (let e : j.place ≡ 0 = cc in
              let l = (goes_within (setup_in w) j).0 in omega (arith, e, l))
          | Went.went x action g ↦ (let at : slice_get (actions_of (setup_in w) j) x.place ≡ Some action =
              list_before w x action m.state j x.place g.next g.passed (omega arith)
              ∙ list_now w x action m.state j g.next g.passed in
              let place = passed_place w x action m.state j g.passed in
              elim ((goes_within (setup_in w) j).1 x.place action at) [
                | inl e ↦ absurd (passed_not_end w x action m.state j g.passed e)
                | inr l ↦ omega (arith, l, place)
              ])
        ]);
    older = older_step;
  }

  -- a job that ran before and runs after stayed, or went on
  pub stayed : (k : ℕ) (before job : Job) → job_of w.jobs k ≡ Some before → job_of m.state.jobs k ≡ Some job →
      (m.event ≡ Step k → m.outcome ≡ More → ⊥) → most_left (setup_in m.state) job ≡ most_left (setup_in w)
      before
  stayed k before job runs h other = ap (λ t. most_left t job)
      (setup_stays limit start m ms A.numbers A.pins X k job h) ∙ elim (W.job k job h) [
        | Went.kept r apart ↦ cc
        | Went.begun kind wish is k_is rec ↦ absurd (omega (arith, A.numbers.jobs_below k before runs, k_is))
        | Went.went x action g ↦ absurd (other g.event g.outcome)
      ]

  -- by a step that a job makes its steps left fall by one, or also by the removals that it then skips
  pub fell : (k : ℕ) (before job : Job) → job_of w.jobs k ≡ Some before → job_of m.state.jobs k ≡ Some job →
      m.event ≡ Step k → m.outcome ≡ More → (most_left (setup_in w) before ≡ suc (most_left (setup_in m.state)
      job)) ⊎ (SkipsRemovals (setup_in m.state) before job × (most_left (setup_in w) before ≡ suc
      (most_left (setup_in m.state) job + (setup_in m.state).n)))
  fell k before job runs h event outcome = subst (λ t. (most_left (setup_in w) before ≡ suc (most_left t job))
      ⊎ (SkipsRemovals t before job × (most_left (setup_in w) before ≡ suc (most_left t job + t.n))))
      (sym (setup_stays limit start m ms A.numbers A.pins X k job h)) (elim (W.job k job h) [
        | Went.kept r apart ↦ absurd (apart event outcome)
        | Went.begun kind wish is k_is rec ↦
            absurd (let l = A.numbers.jobs_below k before runs in omega (arith, l, k_is))
        | Went.went x action g ↦ subst (λ y. FallsBy (setup_in w) y job) (cc) (one_step w x action
            m.state job g.next (F.older k x g.runs) g.passed).0
      ])

-- in every run a job that runs is before its end, and takes nothing away until it has decided on it
pub facts : (limit : ℕ) (start : State) → IsStart start → (ms : List Moment) → IsRun limit start ms →
    Facts start ms
facts limit start clean [] run =
    record {
      made = made.start_facts start clean;
      within = λ k j h. absurd (found_none start.jobs k j clean.jobs h);
      older = λ k j h undecided. absurd (found_none start.jobs k j clean.jobs h);
    }
facts limit start clean (m ∷ ms) run = (let A = all limit start clean ms run.2 in
    step_facts limit start m ms A (facts limit start clean ms run.2)
    (changes limit (length ms) (now start ms) m.event m.outcome m.state A.numbers.idle run.1)
    (walked (length ms) (now start ms) limit m.event m.outcome m.state A.numbers.idle.lone run.1))

-- at least one step is left to a job that runs
pub one_left : (start : State) (ms : List Moment) → Facts start ms → (k : ℕ) (j : Job) →
    job_of (now start ms).jobs k ≡ Some j → 1 ≤ most_left (setup_in (now start ms)) j
one_left start ms F k j h =
    (omega (arith, F.within k j h, length-drop j.place (actions_of (setup_in (now start ms)) j)))

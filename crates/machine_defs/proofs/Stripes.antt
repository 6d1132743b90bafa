-- Where the fetches and the work on each stripe of a file stand.
use Rattle.machine_defs.proofs.Words.{◌≡◌, zero, suc, ◌-◌, ◌≤◌, ◌⊎◌, refl, ap, sym, ◌∙◌, inl, inr, arith, slice_get, flat_map, range_with_len, cases_eq, length-append, Each, each_get, each_append, each_map, each_mono, get_behind, upto, Setup, Action, Fetch, Work, End, on_each_provider, open_actions}
use Rattle.std.proofs.Common.{ℕ, ◌+◌, ◌<◌, List, [], ◌∷◌, ◌++◌, length, Some, None}
use Rattle.std.proofs.lemmas.Option.{slice_get_within}
use Rattle.machine_defs.proofs.ActionLists.{split_get}

-- what stands in the first of two lists stands there in both together
pub get_left : {X : Type 0} (xs ys : List X) (k : ℕ) (x : X) → slice_get xs k ≡ Some x →
    slice_get (xs ++ ys) k ≡ Some x
get_left [] ys k x h = (let e : None ≡ Some x = h in cc)
get_left (z ∷ xs) ys zero x h = h
get_left (z ∷ xs) ys (suc k) x h = get_left xs ys k x h

single : {X : Type 0} (w x : X) (k : ℕ) → slice_get (w ∷ []) k ≡ Some x → (k ≡ 0) × (w ≡ x)
single w x zero h = (refl, (let e : Some w ≡ Some x = h in let f : w ≡ x = cc in f))
single w x (suc k) h = (let e : None ≡ Some x = h in cc)

module _ (s : Setup) (id : ℕ) where
  -- the fetches from each provider and the work, of each of these stripes
  abbrev pub flat : List ℕ → List Action
  flat stripes = flat_map (open_actions s id) stripes

  -- an action of this object, on a stripe from one on
  abbrev pub From : ℕ → Action → Type 0
  From low (Fetch i o t) = (low ≤ t) × (o ≡ id)
  From low (Work o t) = (low ≤ t) × (o ≡ id)
  From low End = ⊥
  From low action = Unit {0}

  lower : (low : ℕ) (a : Action) → From (suc low) a → From low a
  lower low (Fetch i o t) h = ((let l = h.0 in omega arith), h.1)
  lower low (Work o t) h = ((let l = h.0 in omega arith), h.1)
  lower low a h = h

  -- all of these are of this object and on these stripes
  pub from : (n a : ℕ) → Each (From a) (flat (range_with_len a n))
  from zero a = tt
  from (suc n) a = each_append (From a) (open_actions s id a) (flat (range_with_len (a + 1) n))
      (each_append (From a) (on_each_provider s (λ j. Fetch j id a)) (Work id a ∷ [])
      (each_map (From a) (λ j. Fetch j id a) (upto s.n) (λ j. (omega arith, refl))) ((omega arith, refl), tt))
      (each_mono (From (a + 1)) (From a) (flat (range_with_len (a + 1) n))
      (λ x h. lower a x (rw (let e : a + 1 ≡ suc a = omega arith in e) at h)) (from n (a + 1)))

  piece_at : (a q : ℕ) (x : Action) → slice_get (open_actions s id a) q ≡ Some x →
      (((i : ℕ) × (x ≡ Fetch i id a)) × (q < length (on_each_provider s (λ j. Fetch j id a)))) ⊎
      ((x ≡ Work id a) × (q ≡ length (on_each_provider s (λ j. Fetch j id a))))
  piece_at a q x h = elim (split_get (on_each_provider s (λ j. Fetch j id a)) (Work id a ∷ []) q x h) [
    | inl p ↦ inl (
      each_get (λ y. (i : ℕ) × (y ≡ Fetch i id a)) (on_each_provider s (λ j. Fetch j id a)) q x
          (each_map (λ y. (i : ℕ) × (y ≡ Fetch i id a)) (λ j. Fetch j id a) (upto s.n) (λ j. (j, refl))) p.1,
      p.0,
    )
    | inr p ↦ (let r = single (Work id a) x (q - length (on_each_provider s (λ j. Fetch j id a))) p.1 in
        let l = p.0 in let z = r.0 in inr (sym r.1, (omega arith)))
  ]

  -- the work on a stripe stands behind its fetches
  pub order : (n a q p i o o2 t : ℕ) → slice_get (flat (range_with_len a n)) q ≡ Some (Work o t) →
      slice_get (flat (range_with_len a n)) p ≡ Some (Fetch i o2 t) → p < q
  order zero a q p i o o2 t hq hp = (let e : None ≡ Some (Work o t) = hq in cc)
  order (suc n) a q p i o o2 t hq hp =
      elim (split_get (open_actions s id a) (flat (range_with_len (a + 1) n)) q (Work o t) hq) [
        | inl x ↦ elim (piece_at a q (Work o t) x.1) [
          | inl y ↦ absurd (let e : Work o t ≡ Fetch y.0.0 id a = y.0.1 in cc)
          | inr y ↦ (let t_is : t ≡ a = (let e : Work o t ≡ Work id a = y.0 in cc) in
              elim (split_get (open_actions s id a) (flat (range_with_len (a + 1) n)) p (Fetch i o2 t) hp) [
                | inl u ↦ elim (piece_at a p (Fetch i o2 t) u.1) [
                  | inl v ↦ (let l = v.1 in let z = y.1 in omega arith)
                  | inr v ↦ absurd (let e : Fetch i o2 t ≡ Work id a = v.0 in cc)
                ]
                | inr u ↦ absurd (let l = (each_get (From (a + 1)) (flat (range_with_len (a + 1) n)) _
                    (Fetch i o2 t) (from n (a + 1)) u.1).0 in omega arith)
              ])
        ]
        | inr x ↦ (let l = (each_get (From (a + 1)) (flat (range_with_len (a + 1) n)) _ (Work o t)
            (from n (a + 1)) x.1).0 in
            elim (split_get (open_actions s id a) (flat (range_with_len (a + 1) n)) p (Fetch i o2 t) hp) [
              | inl u ↦ elim (piece_at a p (Fetch i o2 t) u.1) [
                | inl v ↦ absurd (let e : Fetch i o2 t ≡ Fetch v.0.0 id a = v.0.1 in let z : t ≡ a = cc in
                    omega arith)
                | inr v ↦ absurd (let e : Fetch i o2 t ≡ Work id a = v.0 in cc)
              ]
              | inr u ↦ (let r = order n (a + 1) (q - length (open_actions s id a))
                  (p - length (open_actions s id a)) i o o2 t x.1 u.1 in let z = x.0 in let w = u.0 in
                  omega arith)
            ])
      ]

  -- it stands once
  pub once : (n a q p o o2 t : ℕ) → slice_get (flat (range_with_len a n)) q ≡ Some (Work o t) →
      slice_get (flat (range_with_len a n)) p ≡ Some (Work o2 t) → p ≡ q
  once zero a q p o o2 t hq hp = (let e : None ≡ Some (Work o t) = hq in cc)
  once (suc n) a q p o o2 t hq hp =
      elim (split_get (open_actions s id a) (flat (range_with_len (a + 1) n)) q (Work o t) hq) [
        | inl x ↦ elim (piece_at a q (Work o t) x.1) [
          | inl y ↦ absurd (let e : Work o t ≡ Fetch y.0.0 id a = y.0.1 in cc)
          | inr y ↦ (let t_is : t ≡ a = (let e : Work o t ≡ Work id a = y.0 in cc) in
              elim (split_get (open_actions s id a) (flat (range_with_len (a + 1) n)) p (Work o2 t) hp) [
                | inl u ↦ elim (piece_at a p (Work o2 t) u.1) [
                  | inl v ↦ absurd (let e : Work o2 t ≡ Fetch v.0.0 id a = v.0.1 in cc)
                  | inr v ↦ v.1 ∙ sym y.1
                ]
                | inr u ↦ absurd (let l = (each_get (From (a + 1)) (flat (range_with_len (a + 1) n)) _
                    (Work o2 t) (from n (a + 1)) u.1).0 in omega arith)
              ])
        ]
        | inr x ↦ (let l = (each_get (From (a + 1)) (flat (range_with_len (a + 1) n)) _ (Work o t)
            (from n (a + 1)) x.1).0 in
            elim (split_get (open_actions s id a) (flat (range_with_len (a + 1) n)) p (Work o2 t) hp) [
              | inl u ↦ elim (piece_at a p (Work o2 t) u.1) [
                | inl v ↦ absurd (let e : Work o2 t ≡ Fetch v.0.0 id a = v.0.1 in cc)
                | inr v ↦ absurd (let e : Work o2 t ≡ Work id a = v.0 in let z : t ≡ a = cc in omega arith)
              ]
              | inr u ↦ (let r = once n (a + 1) (q - length (open_actions s id a))
                  (p - length (open_actions s id a)) o o2 t x.1 u.1 in let z = x.0 in let w = u.0 in
                  omega arith)
            ])
      ]

  -- each stripe is worked on
  pub worked_on : (n a t : ℕ) → a ≤ t → t < a + n →
      (q : ℕ) × (slice_get (flat (range_with_len a n)) q ≡ Some (Work id t))
  worked_on zero a t l h = absurd (omega arith)
  worked_on (suc n) a t l h = elim (cases_eq t a) [
    | inl e ↦ (
      length (on_each_provider s (λ j. Fetch j id a)) + 0,
      get_left (open_actions s id a) (flat (range_with_len (a + 1) n)) _ (Work id t)
          (get_behind (on_each_provider s (λ j. Fetch j id a)) (Work id a ∷ []) 0 (Work id t)
          (ap (λ x. Some (Work id x)) (sym e))),
    )
    | inr e ↦ (let r = worked_on n (a + 1) t (omega arith) (omega arith) in (
      length (open_actions s id a) + r.0,
      get_behind (open_actions s id a) (flat (range_with_len (a + 1) n)) r.0 (Work id t) r.1,
    ))
  ]

  -- all of them, and then the end
  pub to_flat : (stripes : List ℕ) (q : ℕ) (x : Action) →
      slice_get ((flat stripes ++ []) ++ End ∷ []) q ≡ Some x →
      (slice_get (flat stripes) q ≡ Some x) ⊎ ((x ≡ End) × (length (flat stripes) ≤ q))
  to_flat stripes q x h = elim (split_get (flat stripes ++ []) (End ∷ []) q x h) [
    | inl p ↦ elim (split_get (flat stripes) [] q x p.1) [
      | inl u ↦ inl u.1
      | inr u ↦ absurd (let e : None ≡ Some x = u.1 in cc)
    ]
    | inr p ↦ inr (
      sym (single End x _ p.1).1,
      (let l = p.0 in let e = length-append (flat stripes) [] in omega arith),
    )
  ]

  -- what is to be done on the stripes is an action of the get, at the same place
  pub from_flat : (stripes : List ℕ) (q : ℕ) (x : Action) → slice_get (flat stripes) q ≡ Some x →
      slice_get ((flat stripes ++ []) ++ End ∷ []) q ≡ Some x
  from_flat stripes q x h = get_left (flat stripes ++ []) (End ∷ []) q x (get_left (flat stripes) [] q x h)

  -- what stands among them stands before the end
  pub before_end : (n q p : ℕ) (x : Action) → slice_get (flat (range_with_len 0 n)) q ≡ Some x →
      slice_get ((flat (range_with_len 0 n) ++ []) ++ End ∷ []) p ≡ Some End → q < p
  before_end n q p x hq hp = elim (to_flat (range_with_len 0 n) p End hp) [
    | inl h ↦ absurd (each_get (From 0) (flat (range_with_len 0 n)) p End (from n 0) h)
    | inr h ↦ (let l = slice_get_within (flat (range_with_len 0 n)) q x hq in let g = h.1 in omega arith)
  ]

-- The actions of two puts of one object begin alike: with the first append, and the stores of each stripe
-- that both files have.
use Rattle.vault_core.proofs.Words.{◌≡◌, ℕ, zero, suc, ◌+◌, ◌-◌, ◌^◌, ◌<◌, ◌≤◌, true, false, List, [], ◌∷◌, ◌++◌, Some, None, length, map, inl, inr, refl, ap, sym, ◌∙◌, append_assoc, arith, slice_get, flat_map, range_with_len, cases_lt, false≢true, length-map, drop-append-le, length-range_with_len, le-div, Each, each_get, each_map, each_flat, upto, Setup, profiled, stripes_of, Kind, PutJob, aim_of, Action, WriteBody, Store, Remove, End, append_actions, on_each_provider, remove_plan, plan_actions, actions_by, actions_of, appends_left, moves_before, stripe_size, CoreJob, core_pins, plan_in, planned, planned_by, appends_in, seen_plan, longest, shown, IsPutFrom, IsJobOf, is_move, IsToldAs}
use Rattle.std.proofs.Common.{◌*◌, drop, length-append}
use Rattle.std.specs.Prelude.{Option}
use Rattle.std.proofs.lemmas.Grind.{flat_map-append}
use Rattle.code_defs.proofs.Points.{range_with_len-append}
use Rattle.machine_defs.specs.Jobs.{Job}
use Rattle.vault_core.proofs.Counts.{gates, gates-append, none_map, none_flat, removes_none}
use Rattle.vault_core.proofs.Turns.{length-each}

-- ---- lists

-- what stands in the first of two lists is read there
get-front : (xs ys : List Action) (p : ℕ) → p < length xs → slice_get (xs ++ ys) p ≡ slice_get xs p
get-front [] ys p l = absurd (omega arith)
get-front (x ∷ xs) ys zero l = refl
get-front (x ∷ xs) ys (suc p) l = get-front xs ys p (omega arith)

-- what stands behind the first of two lists is the head of the second
get-seam : (xs ys : List Action) (p : ℕ) → p ≡ length xs → slice_get (xs ++ ys) p ≡ slice_get ys 0
get-seam [] ys zero e = refl
get-seam (x ∷ xs) ys (suc p) e = get-seam xs ys p (omega (arith, e))
get-seam _ ys _ e = absurd (omega (arith, e))

gates-front : (xs ys : List Action) (p : ℕ) → p ≤ length xs →
    gates (drop p (xs ++ ys)) ≡ gates (drop p xs) + gates ys
gates-front xs ys p l = ap gates (drop-append-le p xs ys l) ∙ gates-append (drop p xs) ys

-- ---- a put

NoMove : Action → Type 0
NoMove a = is_move (Some a) ≡ false

module _ (s : Setup) (subject : ℕ) where
  -- the stores of a stripe
  abbrev stores : ℕ → List Action
  stores stripe = on_each_provider s (λ j. Store j subject stripe)

  -- the first append, and the stores of so many stripes
  abbrev pub front : ℕ → List Action
  front k = append_actions ++ flat_map stores (upto k)

  -- the last append, and what is behind it
  abbrev closing : List ℕ → List Action
  closing older = append_actions ++ (remove_plan s older ++ End ∷ [])

  -- what is behind the stores of so many stripes of a file that has more
  abbrev pub behind : ℕ → ℕ → List ℕ → List Action
  behind all k older = flat_map stores (range_with_len k (all - k)) ++ closing older

  -- the actions of a put are those up to a stripe and those behind it
  pub front-behind : (all k : ℕ) (older : List ℕ) → k ≤ all →
      append_actions ++ (flat_map stores (upto all) ++ closing older) ≡ front k ++ behind all k older
  front-behind all k older l = ap (λ xs. append_actions ++ (xs ++ closing older))
      (ap (λ (n : ℕ). flat_map stores (range_with_len 0 n)) (let e : all ≡ k + (all - k) = omega arith in e)
      ∙ (ap (flat_map stores) (range_with_len-append 0 k (all - k)
      ∙ ap (λ (n : ℕ). range_with_len 0 k ++ range_with_len n (all - k))
      (let e : 0 + k ≡ k = omega arith in e))
      ∙ flat_map-append stores (upto k) (range_with_len k (all - k))))
      ∙ (ap (λ xs. append_actions ++ xs)
      (append_assoc (flat_map stores (upto k)) (flat_map stores (range_with_len k (all - k)))
      (closing older))
      ∙ sym (append_assoc append_actions (flat_map stores (upto k)) (behind all k older)))

  long-stripe : (t : ℕ) → length (stores t) ≡ s.n
  long-stripe t = let a : length (stores t) ≡ length (upto s.n) = simp length-map in
      let b = length-range_with_len 0 s.n in omega (arith, a, b)

  -- so many actions are those up to a stripe
  pub front-long : (k : ℕ) → length (front k) ≡ 4 + k * s.n
  front-long k = omega (
    arith,
    length-each stores s.n (upto k) long-stripe,
    ap (λ (m : ℕ). m * s.n) (length-range_with_len 0 k),
    length-append append_actions (flat_map stores (upto k)),
  )

  ungated : (ks : List ℕ) → gates (flat_map stores ks) ≡ 0
  ungated ks = none_flat stores ks (λ t. none_map (λ j. Store j subject t) (upto s.n) (λ j. refl))

  -- one append is among those behind it
  pub one-gate : (all k : ℕ) (older : List ℕ) → gates (behind all k older) ≡ 1
  one-gate all k older = omega (
    arith,
    gates-append (flat_map stores (range_with_len k (all - k))) (closing older),
    ungated (range_with_len k (all - k)),
    gates-append append_actions (remove_plan s older ++ End ∷ []),
    gates-append (remove_plan s older) (End ∷ []),
    none_flat (λ object. on_each_provider s (λ j. Remove j object)) older
        (λ object. removes_none object (upto s.n)),
  )

  -- so many are those behind it, of a put that takes nothing away
  pub behind-long : (all k : ℕ) → length (behind all k []) ≡ (all - k) * s.n + 5
  behind-long all k = omega (
    arith,
    length-each stores s.n (range_with_len k (all - k)) long-stripe,
    ap (λ (m : ℕ). m * s.n) (length-range_with_len k (all - k)),
    length-append (flat_map stores (range_with_len k (all - k))) (closing []),
  )

  unmoved : (ks : List ℕ) → Each NoMove (flat_map stores ks)
  unfolding NoMove
  unmoved ks = each_flat NoMove stores ks
      (λ t. each_map NoMove (λ j. Store j subject t) (upto s.n) (λ j. refl))

  -- no move of an append is among the stores
  late : (k p : ℕ) (a : Action) → 4 ≤ p → slice_get (front k) p ≡ Some a → is_move (Some a) ≡ false
  unfolding NoMove
  late k p a l e = by p l e
    where
      by : (q : ℕ) → 4 ≤ q → slice_get (front k) q ≡ Some a → is_move (Some a) ≡ false
      by (suc (suc (suc (suc q)))) m f = each_get NoMove (flat_map stores (upto k)) q a (unmoved (upto k)) f
      by _ m f = absurd (omega (arith, m))

  -- behind stripes stands a store or the first move of an append
  starting : (all k : ℕ) (older : List ℕ) (a : Action) → slice_get (behind all k older) 0 ≡ Some a →
      moves_before a ≡ 0
  starting all k older a e = by (range_with_len k (all - k)) e
    where
      at_stores : (n : ℕ) (t b : ℕ) (ys : List Action) → (slice_get ys 0 ≡ Some a → moves_before a ≡ 0) →
          slice_get (map (λ j. Store j subject t) (range_with_len b n) ++ ys) 0 ≡ Some a → moves_before a ≡ 0
      at_stores zero t b ys h f = h f
      at_stores (suc n) t b ys h f = (let g : Some (Store b subject t) ≡ Some a = f in
          let r : Store b subject t ≡ a = cc in sym (ap moves_before r))

      by : (ks : List ℕ) → slice_get (flat_map stores ks ++ closing older) 0 ≡ Some a → moves_before a ≡ 0
      by [] f = (let g : Some WriteBody ≡ Some a = f in let r : WriteBody ≡ a = cc in sym (ap moves_before r))
      by (t ∷ ks) f = at_stores s.n t 0 (flat_map stores ks ++ closing older) (by ks)
          (ap (λ xs. slice_get xs 0) (sym (append_assoc (stores t) (flat_map stores ks) (closing older))) ∙ f)

-- ---- a stream and a put that it stands for

-- so many stripes lie in a file that has at least their bytes
pub fits : (s : Setup) (profile k size : ℕ) → 0 < stripe_size s profile → k * stripe_size s profile ≤ size →
    k ≤ stripes_of (profiled s profile) size
fits s profile k size some l =
    le-div k (size + (stripe_size s profile - 1)) (stripe_size s profile) some (omega (arith, l))

-- the actions of a stream and of a put that it stands for, up to the stripes given so far and behind them
pub record Shared (s : Setup) (c : CoreJob) (m : Job) (k : ℕ) : Type 0 where
  pub name : List ℕ
  pub bytes : List ℕ
  pub kind : m.kind ≡ PutJob name bytes
  pub aim : c.plan.aim ≡ longest (aim_of m.kind)
  pub long : length (front s m.subject k) ≡ 4 + k * s.n
  pub mine : planned s c.plan
      ≡ front s m.subject k ++ behind s m.subject (stripes_of (profiled s m.profile) (2 ^ 22)) k m.older
  pub yours : actions_of s m
      ≡ front s m.subject k ++ behind s m.subject (stripes_of (profiled s m.profile) (length bytes)) k m.older

-- a stream shares them with each put that it stands for
pub shared : {s : Setup} {c : CoreJob} {m : Job} {k : ℕ} → IsJobOf s c m → c.told ≡ Some k →
    IsToldAs s c (Some k) → Shared s c m k
unfolding planned_by actions_of
shared {s} {c} {m} {k} is told kept = by m.kind refl (rw told at is.told)
  where
    plan : plan_in c.plan ≡ shown (Some k) (seen_plan m)
    plan = is.plan ∙ ap (λ o. shown o (seen_plan m)) told

    same : c.plan.profile ≡ m.profile
    same = ap (λ p. p.profile) plan

    some : 0 < stripe_size s m.profile
    some = rw same at kept.1

    by : (kind : Kind) → m.kind ≡ kind → IsPutFrom (k * stripe_size s m.profile) (aim_of kind) →
        Shared s c m k
    by (PutJob name bytes) e l = record {
      name = name;
      bytes = bytes;
      kind = e;
      aim = ap (λ p. p.aim) plan;
      long = front-long s m.subject k;
      mine = ap (planned_by s) plan
          ∙ (ap (λ x. plan_actions core_pins s (shown (Some k) (seen_plan m)) (longest (aim_of x))) e
          ∙ front-behind s m.subject (stripes_of (profiled s m.profile) (2 ^ 22)) k m.older
          (fits s m.profile k (2 ^ 22) some (rw same at kept.2)));
      yours = ap (actions_by s m) e
          ∙ front-behind s m.subject (stripes_of (profiled s m.profile) (length bytes)) k m.older
          (fits s m.profile k (length bytes) some l);
    }
    by _ e l = absurd l

module _ {s : Setup} {c : CoreJob} {m : Job} {k : ℕ} (place : c.place ≡ m.place) (sh : Shared s c m k) where
  -- up to the stripes given so far both have the same action next
  pub shared-stands : c.place < 4 + k * s.n →
      slice_get (planned s c.plan) c.place ≡ slice_get (actions_of s m) m.place
  shared-stands l =
      let e = sh.long in
      ap (λ xs. slice_get xs c.place) sh.mine
      ∙ (get-front (front s m.subject k) _ c.place (omega (arith, e, l))
      ∙ (ap (slice_get (front s m.subject k)) place
      ∙ (sym (get-front (front s m.subject k) _ m.place (omega (arith, e, l, place)))
      ∙ ap (λ xs. slice_get xs m.place) (sym sh.yours))))

  -- and as many appends left
  pub shared-appends : c.place ≤ 4 + k * s.n → appends_in s c ≡ appends_left s m
  shared-appends l =
      let e = sh.long in
      omega (
        arith,
        ap (λ (xs : List Action). gates (drop c.place xs)) sh.mine,
        gates-front (front s m.subject k)
            (behind s m.subject (stripes_of (profiled s m.profile) (2 ^ 22)) k m.older) c.place
            (omega (arith, e, l)),
        one-gate s m.subject (stripes_of (profiled s m.profile) (2 ^ 22)) k m.older,
        ap (λ (xs : List Action). gates (drop m.place xs)) sh.yours,
        gates-front (front s m.subject k)
            (behind s m.subject (stripes_of (profiled s m.profile) (length sh.bytes)) k m.older) m.place
            (omega (arith, e, l, place)),
        one-gate s m.subject (stripes_of (profiled s m.profile) (length sh.bytes)) k m.older,
        ap (λ (p : ℕ). gates (drop p (front s m.subject k))) place,
      )

  -- a move of an append up to the stripes given so far is one of the first append
  pub shared-early : c.place < 4 + k * s.n → is_move (slice_get (planned s c.plan) c.place) ≡ true →
      c.place < 4
  shared-early l mv = elim (cases_lt c.place 4) [
    | inl h ↦ h
    | inr h ↦ absurd (by h (slice_get (front s m.subject k) c.place) refl)
  ]
    where
      read : slice_get (planned s c.plan) c.place ≡ slice_get (front s m.subject k) c.place
      read = ap (λ xs. slice_get xs c.place) sh.mine
          ∙ get-front (front s m.subject k) _ c.place (omega (arith, sh.long, l))

      by : 4 ≤ c.place → (o : Option Action) → slice_get (front s m.subject k) c.place ≡ o → ⊥
      by h None e = false≢true (sym (ap is_move (read ∙ e)) ∙ mv)
      by h (Some a) e = false≢true (sym (late s m.subject k c.place a h e)
          ∙ (sym (ap is_move (read ∙ e)) ∙ mv))

  -- where a stream waits, the put has a store or the first move of an append next
  pub shared-waits : (a : Action) → c.place ≡ 4 + k * s.n →
      slice_get (actions_of s m) m.place ≡ Some a → moves_before a ≡ 0
  shared-waits a l e = starting s m.subject (stripes_of (profiled s m.profile) (length sh.bytes)) k m.older a
      (sym (get-seam (front s m.subject k) _ m.place (let x = sh.long in omega (arith, x, l, place)))
      ∙ (ap (λ (xs : List Action). slice_get xs m.place) (sym sh.yours) ∙ e))

-- What a get leaves whose job was the only one.
use Rattle.job_laws.proofs.Words.{◌≡◌, ℕ, zero, suc, ◌+◌, ◌-◌, ◌<◌, ◌≤◌, ◌==◌, ◌⊎◌, cond, List, [], ◌∷◌, ◌++◌, length, take, Option, None, Some, refl, ap, sym, subst, ◌∙◌, inl, inr, arith, slice_get, IfSome, option_map, flat_map, range_with_len, cases_eq, eq-eqb, ne_eqb, append_assoc, append-nil, sum_by-cons, sum_by-append, Each, each_get, each_append, each_map, upto, Object, GivesSymbols, LosesRow, OpensFile, last_count, Held, Provider, sized, Fetches, FailsToGive, Setup, Record, File, GetJob, Given, Fetched, Job, profiled, object_of, stripes_of, Action, Fetch, Ask, Work, End, on_each_provider, open_actions, read_actions, actions_by, actions_of, actions_left, Answer, pinned_file, Ended, block_given, blocks_given, symbols_given, file_given, Entry, entries_of, State, Doubt, setup_in, file_in, worked_object, Acts, GotBytes, cond_true, cond_false, split_get, symbols_given-newest, block_heard, blocks_heard, HearsStripes, GetGives, GetLeaves, Leaves, Ran, ran_from, object_at_begin, stripes_at_begin, missing, IsTruthful, moves_made, appends-order, get-none, With, Did, Made, object_made, IsOpenAtRest, RecordsAre, with_job_of, Walked, made-split, take-append-add, runs}
use Rattle.std.proofs.Common.{map, sum_by}
use Rattle.machine_defs.specs.Answers as answer
use Rattle.machine_defs.specs.Steps as step
use Rattle.machine_defs.proofs.Numbers.{next_is_by}
use Rattle.job_laws.proofs.Runs.{Ends}
use Rattle.job_laws.proofs.Given.{block-heard}
use Rattle.job_laws.proofs.Providers.{Called, made-keeps}
use Rattle.job_laws.proofs.Heard.{IsOver, AreDistinct, block-later, block-newest, symbols-later, distinct-append, distinct-range, distinct-map, entry_for, entries-made, IsNot}
use Rattle.job_laws.proofs.Truth.{if-some, call-hit, call-miss, made-rises, lacks, range-hit, lacks-same, lacks-few}
use Rattle.job_laws.proofs.Questions.{each-front, all-each, each-at}
use Rattle.job_laws.proofs.Profiles.{made-got, worked-made}
use Rattle.job_laws.proofs.Lasts.{none-moving}
use Rattle.job_laws.proofs.Leaving.{counts-rise, others-stay}

-- ---- lists

-- the first elements of two lists, where the first list has as many, are of the first list
pub take-within : {X : Type 0} (xs ys : List X) (p : ℕ) → p ≤ length xs → take p (xs ++ ys) ≡ take p xs
take-within [] ys (suc p) l = absurd (omega (arith, l))
take-within (x ∷ xs) ys (suc p) l = cc (take-within xs ys p (omega (arith, l)))
take-within xs ys zero l = refl

take-beyond : {X : Type 0} (xs ys : List X) (p : ℕ) → length xs ≤ p →
    take p (xs ++ ys) ≡ xs ++ take (p - length xs) ys
take-beyond xs ys p l = ap (λ n. take n (xs ++ ys))
    (let e : p ≡ length xs + (p - length xs) = omega (arith, l) in e) ∙ take-append-add xs ys (p - length xs)

single-get : {X : Type 0} (w x : X) (k : ℕ) → slice_get (w ∷ []) k ≡ Some x → (k ≡ 0) × (x ≡ w)
single-get w x zero h = (refl, (let e : Some w ≡ Some x = h in let f : w ≡ x = cc in sym f))
single-get w x (suc k) h = absurd (cc h)

flat-append : {A X : Type 0} (f : A → List X) (xs ys : List A) →
    flat_map f (xs ++ ys) ≡ flat_map f xs ++ flat_map f ys
flat-append f [] ys = refl
flat-append f (x ∷ xs) ys = cc (flat-append f xs ys, append_assoc (f x) (flat_map f xs) (flat_map f ys))

-- ---- the list of a get, cut at one of its places

module _ (s : Setup) (id : ℕ) where
  abbrev pub fetches : ℕ → List Action
  fetches t = on_each_provider s (λ j. Fetch j id t)

  abbrev pub reads : ℕ → ℕ → List Action
  reads a n = flat_map (open_actions s id) (range_with_len a n)

  -- what stands at a place, and what stands before it
  pub data Cut (n a : ℕ) (x : Action) (front : List Action) : Type 0 where
    at_end : x ≡ End → front ≡ reads a n → Cut n a x front
    at_work : (k : ℕ) → k < n → x ≡ Work id (a + k) → front ≡ reads a k ++ fetches (a + k) → Cut n a x front
    at_fetch : (j t : ℕ) → x ≡ Fetch j id t → Cut n a x front

  -- what stands at a place of a get's list is its end, work or a fetch; and what stands before that
  pub cut : (n a p : ℕ) (x : Action) → slice_get (reads a n ++ End ∷ []) p ≡ Some x →
      Cut n a x (take p (reads a n ++ End ∷ []))
  cut zero a p x h = (let e = single-get End x p h in Cut.at_end e.1 (cc))
  cut (suc n) a p x h =
      elim (split_get (open_actions s id a) (reads (a + 1) n ++ End ∷ []) p x
      (ap (λ xs. slice_get xs p) (sym whole) ∙ h)) [
        | inl in_first ↦ elim (split_get (fetches a) (Work id a ∷ []) p x in_first.1) [
          | inl f ↦ (let g = each_get (λ y. (j : ℕ) × (y ≡ Fetch j id a)) (fetches a) p x
              (each_map (λ y. (j : ℕ) × (y ≡ Fetch j id a)) (λ j. Fetch j id a) (upto s.n) (λ j. (j, refl)))
              f.1 in Cut.at_fetch g.0 a g.1)
          | inr w ↦ (let e = single-get (Work id a) x (p - length (fetches a)) w.1 in
              Cut.at_work 0 (omega arith) (e.1 ∙ ap (Work id) (omega arith))
              (ap (λ q. take q ((open_actions s id a ++ reads (a + 1) n) ++ End ∷ [])) (omega arith)
              ∙ (ap (take (length (fetches a) + 0)) (append_assoc (open_actions s id a) (reads (a + 1) n)
              (End ∷ []) ∙ append_assoc (fetches a) (Work id a ∷ []) (reads (a + 1) n ++ End ∷ []))
              ∙ (take-append-add (fetches a) (Work id a ∷ (reads (a + 1) n ++ End ∷ [])) 0
              ∙ (append-nil (fetches a) ∙ ap fetches (omega arith))))))
        ]
        | inr later ↦ elim (cut n (a + 1) (p - length (open_actions s id a)) x later.1) [
          | Cut.at_end is front ↦ Cut.at_end is (cc (behind later.0))
          | Cut.at_work k l is front ↦ Cut.at_work (suc k) (omega (arith, l))
              (is ∙ ap (Work id) (omega arith)) (behind later.0 ∙ (ap (λ ys. open_actions s id a ++ ys) front
              ∙ (sym (append_assoc (open_actions s id a) (reads (a + 1) k) (fetches (a + 1 + k)))
              ∙ ap (λ t. (open_actions s id a ++ reads (a + 1) k) ++ fetches t)
              (omega arith))))
          | Cut.at_fetch j t is ↦ Cut.at_fetch j t is
        ]
      ]
    where
      whole : (open_actions s id a ++ reads (a + 1) n) ++ End ∷ []
          ≡ open_actions s id a ++ (reads (a + 1) n ++ End ∷ [])
      whole = append_assoc (open_actions s id a) (reads (a + 1) n) (End ∷ [])

      behind : length (open_actions s id a) ≤ p →
          take p ((open_actions s id a ++ reads (a + 1) n) ++ End ∷ [])
          ≡ open_actions s id a ++ take (p - length (open_actions s id a)) (reads (a + 1) n ++ End ∷ [])
      behind l = ap (take p) whole ∙ take-beyond (open_actions s id a) (reads (a + 1) n ++ End ∷ []) p l

  -- ---- no two fetches are the same, and no stripe is worked on twice

  abbrev provider_tag : Action → ℕ
  provider_tag (Fetch j o t) = j
  provider_tag action = 0

  abbrev stripe_tag : Action → ℕ
  stripe_tag (Fetch j o t) = t
  stripe_tag (Work o t) = t
  stripe_tag action = 0

  distinct-fetches : (t : ℕ) → AreDistinct (fetches t)
  distinct-fetches t = distinct-map provider_tag (λ j. Fetch j id t) 0 s.n (λ j. refl)

  fetch-tags : (t : ℕ) → Each (λ x. stripe_tag x ≡ t) (fetches t)
  fetch-tags t = each_map (λ x. stripe_tag x ≡ t) (λ j. Fetch j id t) (upto s.n) (λ j. refl)

  open-tags : (t : ℕ) → Each (λ x. stripe_tag x ≡ t) (open_actions s id t)
  open-tags t = each_append (λ x. stripe_tag x ≡ t) (fetches t) (Work id t ∷ []) (fetch-tags t) (refl, tt)

  distinct-open : (t : ℕ) → AreDistinct (open_actions s id t)
  distinct-open t = distinct-append (fetches t) (Work id t ∷ []) (distinct-fetches t) (tt, tt)
      (each_map (λ x. IsOver x (Work id t ∷ [])) (λ j. Fetch j id t) (upto s.n) (λ j. ((λ e. (cc e)), tt)))

  distinct-reads : (a n : ℕ) → AreDistinct (reads a n)
  distinct-reads a n = distinct-range stripe_tag (open_actions s id) a n open-tags distinct-open

  -- the whole of it without the work on its last stripe
  reads-last : (a k : ℕ) → reads a (suc k) ≡ (reads a k ++ fetches (a + k)) ++ Work id (a + k) ∷ []
  reads-last a zero = append-nil (open_actions s id a)
      ∙ ap (λ t. fetches t ++ Work id t ∷ []) (let z : a ≡ a + 0 = omega arith in z)
  reads-last a (suc k) = ap (λ ys. open_actions s id a ++ ys) (reads-last (a + 1) k)
      ∙ (sym (append_assoc (open_actions s id a) (reads (a + 1) k ++ fetches (a + 1 + k))
      (Work id (a + 1 + k) ∷ []))
      ∙ (ap (λ ys. ys ++ Work id (a + 1 + k) ∷ [])
      (sym (append_assoc (open_actions s id a) (reads (a + 1) k) (fetches (a + 1 + k))))
      ∙ ap (λ t. ((open_actions s id a ++ reads (a + 1) k) ++ fetches t) ++ Work id t ∷ [])
      (let z : a + 1 + k ≡ a + suc k = omega arith in z)))

  distinct-left : (xs ys : List Action) → AreDistinct (xs ++ ys) → AreDistinct xs
  distinct-left [] ys d = tt
  distinct-left (x ∷ xs) ys d = (over-left x d.0, distinct-left xs ys d.1)
    where
      over-left : (x : Action) → IsOver x (xs ++ ys) → IsOver x xs
      over-left (Fetch j o t) h = each-front (IsNot (Fetch j o t)) xs ys h
      over-left (Ask j o r) h = each-front (IsNot (Ask j o r)) xs ys h
      over-left (Work o t) h = each-front (IsNot (Work o t)) xs ys h
      over-left x h = tt

  distinct-cut : (a k : ℕ) → AreDistinct (reads a k ++ fetches (a + k))
  distinct-cut a k = distinct-left (reads a k ++ fetches (a + k)) (Work id (a + k) ∷ [])
      (subst AreDistinct (reads-last a k) (distinct-reads a (suc k)))

  -- ---- what is heard of them

  abbrev pub entries_at : List Given → ℕ → List Entry
  entries_at now t = map (λ j. record { job = 1; given = Fetched j id t (block_given now id t j) }) (upto s.n)

  entries-fetches : (now : List Given) (t : ℕ) → flat_map (entry_for 1 now) (fetches t) ≡ entries_at now t
  entries-fetches now t = singles (upto s.n)
    where
      singles : (js : List ℕ) → flat_map (entry_for 1 now) (map (λ j. Fetch j id t) js)
          ≡ map (λ j. record { job = 1; given = Fetched j id t (block_given now id t j) }) js
      singles [] = refl
      singles (j ∷ js) = ap (λ l. record { job = 1; given = Fetched j id t (block_given now id t j) } ∷ l)
          (singles js)

  entries-reads : (now : List Given) (a n : ℕ) → flat_map (entry_for 1 now) (reads a n)
      ≡ flat_map (entries_at now) (range_with_len a n)
  entries-reads now a zero = refl
  entries-reads now a (suc n) = flat-append (entry_for 1 now) (open_actions s id a) (reads (a + 1) n)
      ∙ (λ i. piece i ++ entries-reads now (a + 1) n i)
    where
      piece : flat_map (entry_for 1 now) (open_actions s id a) ≡ entries_at now a
      piece = flat-append (entry_for 1 now) (fetches a) (Work id a ∷ [])
          ∙ (append-nil (flat_map (entry_for 1 now) (fetches a)) ∙ entries-fetches now a)

-- ---- what fetches gave

-- a fetch, or the work on a stripe
abbrev pub IsReading : Action → Type 0
IsReading (Fetch j o t) = Unit {0}
IsReading (Work o t) = Unit {0}
IsReading action = ⊥

abbrev pub IsWork : Action → Type 0
IsWork (Work o t) = Unit {0}
IsWork action = ⊥

module _ (x : With) (j : ℕ) (held : Held) (now : List Given) where
  -- what is held of a stripe, if it has the size
  abbrev pub has : ℕ → ℕ → Option (List ℕ)
  has o t = sized (object_made x o).profile.size (held o t)

  -- the block that a fetch from provider j gave, if the action is one, is what it holds, or none
  abbrev pub IsToldBlock : Action → Type 0
  IsToldBlock (Fetch k o t) = k ≡ j → (block_given now o t k ≡ has o t) ⊎ (block_given now o t k ≡ None)
  IsToldBlock action = Unit {0}

  -- 1 where it is none though one is held
  abbrev pub lack_block : Action → ℕ
  lack_block (Fetch k o t) = cond (k == j) (lacks (block_given now o t k) (has o t)) 0
  lack_block action = 0

  record ReadStep (a : Action) (p q : Provider) : Type 0 where
    told : IsToldBlock a
    held_is : q.held ≡ Some held
    count : q.other_faults < last_count → p.other_faults + lack_block a ≤ q.other_faults

  still-step : (a : Action) (p q : Provider) → IsToldBlock a → lack_block a ≡ 0 → q ≡ p → p.held ≡ Some held →
      ReadStep a p q
  still-step a p q told none e h =
      record {
        told = told;
        held_is = cc;
        count = λ l. (let f = ap (λ (z : Provider). z.other_faults) e in omega (arith, f, none));
      }

  fetch-step : (k o t : ℕ) (block : Option (List ℕ)) (p q : Provider) → k ≡ j →
      block_given now o t k ≡ block → p.held ≡ Some held →
      Fetches (object_made x o).profile.size o t p block q → ReadStep (Fetch k o t) p q
  fetch-step k o t block p q hit is h c = record {
    told = λ e. elim gives [ inl g ↦ inl (is ∙ g) | inr f ↦ inr (is ∙ f.0) ];
    held_is = c.held ∙ h;
    count = λ l. (let one : lack_block (Fetch k o t) ≡ lacks block (has o t) =
        cc (cond_true (k == j) (lacks (block_given now o t k) (has o t)) 0 (eq-eqb k j hit)) in elim gives [
          | inl g ↦ (omega (arith, lacks-same block (has o t) g))
          | inr f ↦ (let z = lacks-few block (has o t) in let up = f.1 (omega (arith, c.counts.other_faults))
              in omega arith)
        ]);
  }
    where
      gives : (block ≡ has o t) ⊎ FailsToGive p block q
      gives = elim c.gives [
        | inl g ↦ inl (rw h at g)
        | inr f ↦ inr f
      ]

  read-step : (a : Action) (actions : List Action) (old mid new : ℕ → Provider) (given so_far : List Given) →
      IsReading a → IsOver a actions → Did x a old mid given so_far → Made x actions mid new so_far now →
      (old j).held ≡ Some held → ReadStep a (old j) (mid j)
  read-step (Fetch k o t) actions old mid new given so_far reading over (block, called, is) rest h =
      elim (cases_eq k j) [
        | inl hit ↦ fetch-step k o t block (old j) (mid j) hit
            (cc (block-later x actions mid new so_far now k o t rest over, block-newest k o t block given)) h
            (rw hit at (call-hit old k (λ p q. Fetches (object_made x o).profile.size o t p block q) mid
            called))
        | inr miss ↦ still-step (Fetch k o t) (old j) (mid j) (λ e. absurd (miss e))
            (cond_false (k == j) (lacks (block_given now o t k) (has o t)) 0 (ne_eqb k j miss))
            (call-miss old k (λ p q. Fetches (object_made x o).profile.size o t p block q) mid j miss called)
            h
      ]
  read-step (Work o t) actions old mid new given so_far reading over (symbols, gives, still, is) rest h =
      still-step (Work o t) (old j) (mid j) tt refl (ap (λ f. f j) still) h
  read-step a actions old mid new given so_far reading over did rest h = absurd reading

  -- all of them
  blocks-told : (actions : List Action) (old new : ℕ → Provider) (given : List Given) →
      Each IsReading actions → AreDistinct actions → Made x actions old new given now →
      (old j).held ≡ Some held →
      Each IsToldBlock actions ×
      ((new j).other_faults < last_count →
      (old j).other_faults + sum_by lack_block actions ≤ (new j).other_faults)
  blocks-told [] old new given reading d m h =
      (tt, λ l. (let e = ap (λ (f : ℕ → Provider). (f j).other_faults) m.0 in omega (arith, e)))
  blocks-told (a ∷ actions) old new given reading d (mid, so_far, did, rest) h =
      (let s = read-step a actions old mid new given so_far reading.0 d.0 did rest h in
      let r = blocks-told actions mid new so_far reading.1 d.1 rest s.held_is in (
        (s.told, r.0),
        λ l. (omega (
          arith,
          s.count (omega (arith, (made-rises x actions mid new so_far now j rest).1, l)),
          r.1 l,
          sum_by-cons lack_block a actions,
        )),
      ))

  -- works are told of nothing, and lack nothing
  works-told : (ws : List Action) → Each IsWork ws → Each IsToldBlock ws × (sum_by lack_block ws ≡ 0)
  works-told [] w = (tt, refl)
  works-told (Work o t ∷ ws) w = (let r = works-told ws w.1 in
      ((tt, r.0), (let f = sum_by-cons lack_block (Work o t) ws in let e = r.1 in omega (arith, f, e))))
  works-told ws w = absurd w.0

  -- stripe by stripe
  module _ (s : Setup) (id : ℕ) (below : j < s.n) (gave : ℕ → Option (List ℕ))
      (gave_is : (t : ℕ) → gave t ≡ block_given now id t j) where
    left-told : (P : Action → Type 0) (xs ys : List Action) → Each P (xs ++ ys) → Each P xs × Each P ys
    left-told P [] ys h = (tt, h)
    left-told P (y ∷ xs) ys h = (let r = left-told P xs ys h.1 in ((h.0, r.0), r.1))

    stripes-told : (a n : ℕ) → Each IsToldBlock (reads s id a n) →
        Each (λ t. (gave t ≡ has id t) ⊎ (gave t ≡ None)) (range_with_len a n)
    stripes-told a zero h = tt
    stripes-told a (suc n) h =
        (let p = left-told IsToldBlock (open_actions s id a) (reads s id (a + 1) n) h in
        let one = each-at IsToldBlock (λ k. Fetch k id a) 0 s.n j (left-told IsToldBlock (fetches s id a)
        (Work id a ∷ []) p.0).0 (omega arith)
        (omega (arith, below)) refl in
        (elim one [ inl e ↦ inl (gave_is a ∙ e) | inr e ↦ inr (gave_is a ∙ e) ], stripes-told (a + 1) n p.1))

    stripes-lack : (a n : ℕ) → sum_by lack_block (reads s id a n) ≡ missing gave (has id) (range_with_len a n)
    stripes-lack a zero = refl
    stripes-lack a (suc n) = (let f = sum_by-append lack_block (fetches s id a) (Work id a ∷ []) in
        let w = sum_by-cons lack_block (Work id a) [] in
        let d : sum_by lack_block (open_actions s id a) ≡ lacks (gave a) (has id a) =
        (omega (arith, f, w)) ∙ ((range-hit j lack_block (λ k. Fetch k id a) 0 s.n
        (λ k m. cond_false (k == j) _ 0
        (ne_eqb k j m)) (omega arith) (omega (arith, below))) ∙ (cc (
          cond_true (j == j) (lacks (block_given now id a j) (has id a)) 0 (eq-eqb j j refl),
          gave_is a,
        ))) in
        (sum_by-append lack_block (open_actions s id a) (reads s id (a + 1) n)) ∙
        (λ i. d i + stripes-lack (a + 1) n i))

-- ---- what the work on stripes gave

module _ (x : With) (id : ℕ) (now : List Given) where
  abbrev IsFrom : ℕ → Action → Type 0
  IsFrom low (Fetch k o t) = low ≤ t
  IsFrom low (Work o t) = low ≤ t
  IsFrom low action = Unit {0}

  from-fetches : (low a : ℕ) → low ≤ a → Each (IsFrom low) (fetches x.setup id a)
  from-fetches low a l = each_map (IsFrom low) (λ j. Fetch j id a) (upto x.setup.n) (λ j. l)

  from-reads : (low a n : ℕ) → low ≤ a → Each (IsFrom low) (reads x.setup id a n)
  from-reads low a zero l = tt
  from-reads low a (suc n) l =
      each_append (IsFrom low) (open_actions x.setup id a) (reads x.setup id (a + 1) n)
      (each_append (IsFrom low) (fetches x.setup id a) (Work id a ∷ []) (from-fetches low a l) (l, tt))
      (from-reads low (a + 1) n (omega (arith, l)))

  each-not : (low : ℕ) (y : Action) (xs : List Action) → (IsFrom low y → ⊥) → Each (IsFrom low) xs →
      Each (IsNot y) xs
  each-not low y [] n h = tt
  each-not low y (z ∷ zs) n h = ((λ e. n (subst (IsFrom low) (sym e) h.0)), each-not low y zs n h.1)

  -- the stripe a was worked on, and what comes then is of later stripes
  open-gives : (a : ℕ) (rest : List Action) (old new : ℕ → Provider) (given : List Given) →
      Each (IsFrom (a + 1)) rest → Made x (open_actions x.setup id a ++ rest) old new given now →
      GivesSymbols (object_made x id) a (blocks_given now x.setup.n id a) (symbols_given now id a)
  open-gives a rest old new given later m =
      (let p = made-split x (open_actions x.setup id a) rest old new given now m in
      let q = made-split x (fetches x.setup id a) (Work id a ∷ []) old p.0 given p.1 p.2 in let did = q.3.2 in
      let end = q.3.3 in let blocks : (j : ℕ) → block_given now id a j ≡ block_given q.1 id a j =
      λ j. cc (block-later x rest p.0 new p.1 now j id a p.3 (each-not (a + 1) (Fetch j id a) rest
      (λ l. omega arith) later)) in let symbols : symbols_given now id a ≡ did.0 =
      cc (
        symbols-later x rest p.0 new p.1 now id a p.3 (each-not (a + 1) (Work id a) rest
            (λ l. omega arith) later),
        symbols_given-newest id a did.0 q.1,
      ) in
      (rw (← symbols) at (subst (λ (g : ℕ → Option (List ℕ)). GivesSymbols (object_made x id) a
      (map g (upto x.setup.n)) did.0)
      (λ i j. sym (blocks j) i) did.1)))

  reads-give : (rest : List Action) (n a : ℕ) (old new : ℕ → Provider) (given : List Given) →
      Each (IsFrom (a + n)) rest → Made x (reads x.setup id a n ++ rest) old new given now → (t : ℕ) → a ≤ t →
      t < a + n → GivesSymbols (object_made x id) t (blocks_given now x.setup.n id t) (symbols_given now id t)
  reads-give rest zero a old new given from m t l u = absurd (omega (arith, l, u))
  reads-give rest (suc n) a old new given from m t l u =
      (let list = append_assoc (open_actions x.setup id a) (reads x.setup id (a + 1) n) rest in
      let made = rw list at m in
      let onward : Each (IsFrom (a + 1 + n)) rest = subst (λ k. Each (IsFrom k) rest)
      (let e : a + suc n ≡ a + 1 + n = omega arith in e) from in
      elim (cases_eq t a) [
        | inl e ↦ (rw (← e) at (open-gives a (reads x.setup id (a + 1) n ++ rest) old new given
            (each_append (IsFrom (a + 1)) (reads x.setup id (a + 1) n) rest
            (from-reads (a + 1) (a + 1) n (omega arith)) (lower rest onward)) made))
        | inr o ↦ (let p = made-split x (open_actions x.setup id a)
            (reads x.setup id (a + 1) n ++ rest) old new given now made in
            reads-give rest n (a + 1) p.0 new p.1 onward p.3 t (omega arith) (omega arith))
      ])
    where
      one : (y : Action) → IsFrom (a + 1 + n) y → IsFrom (a + 1) y
      one (Fetch k o t) h = omega arith
      one (Work o t) h = omega arith
      one y h = omega (arith, h)

      lower : (xs : List Action) → Each (IsFrom (a + 1 + n)) xs → Each (IsFrom (a + 1)) xs
      lower [] h = omega (arith, h)
      lower (y ∷ ys) h = (one y h.0, lower ys h.1)

-- ---- the get

get-list : (s : Setup) (job : Job) (name : List ℕ) → job.kind ≡ GetJob name →
    actions_of s job ≡ read_actions s job.pinned ++ End ∷ []
unfolding actions_of
get-list s job name kind = ap (actions_by s job) kind

module _ (start new : State) (name : List ℕ) (how : Answer) (heard : List Entry) (O : IsOpenAtRest start 1)
    (E : Ends start (GetJob name) None how heard new) where
  abbrev s : Setup
  s = setup_in start

  abbrev w : State
  w = E.before

  abbrev job : Job
  job = E.job

  abbrev x : With
  x = with_job_of start (GetJob name) E.job

  W : Walked start (GetJob name) E.before E.job
  W = E.walked

  abbrev ran : Ran
  ran = ran_from start new heard

  -- what it heard
  heard-is : heard ≡ entries_of 1 E.job.given
  heard-is = cc

  gave-is : (o t j : ℕ) → block_heard ran o t j ≡ block_given E.job.given o t j
  gave-is o t j = cc (block-heard 1 E.job.given o t j)

  -- what its next action is
  next-at : slice_get (read_actions (setup_in start) E.job.pinned ++ End ∷ []) E.job.place ≡ Some E.action
  next-at = cc (next_is_by E.before E.job)

  -- the records and what is in doubt
  records-before : E.before.records ≡ start.records
  records-before = by_records E.before.records refl E.walked.records
    where
      by_records : (rs : List Record) → E.before.records ≡ rs → RecordsAre start (GetJob name) E.job rs →
          E.before.records ≡ start.records
      by_records rs e (RecordsAre.none l is) = e ∙ is
      by_records rs e (RecordsAre.one l is) = absurd (omega (arith, l))
      by_records rs e (RecordsAre.two entry l sec is) = absurd (omega (arith, l))

  undoubted : E.before.doubt ≡ None
  undoubted = (none-moving start O (GetJob name) E.before E.job E.walked none).1
    where
      none : moves_made E.before.append E.job.number ≡ 0
      none = elim (cases_eq (moves_made E.before.append E.job.number) 0) [
        | inl e ↦ e
        | inr more ↦ absurd (let a = appends-order (moves_made E.before.append E.job.number)
            (actions_left (setup_in E.before) E.job) (omega arith) (E.walked.sound.jobs E.job.number E.job
            (runs start O (GetJob name) E.before E.job E.walked)).order in
            omega (arith, get-none (setup_in E.before) E.job name E.walked.kind_is))
      ]

  -- ---- of the file

  module _ (file : File) (in_effect : file_in start name ≡ Some file) where
    abbrev o : Object
    o = object_of (profiled (setup_in start) file.profile) file.id

    abbrev count : ℕ
    count = stripes_of (profiled (setup_in start) file.profile) (length (start.bytes file.id))

    o-is : object_made x file.id ≡ o
    o-is = made-got start O name E.job file in_effect

    size-is : length (start.bytes file.id) ≡ file.size
    size-is = (O.rest.files name file in_effect).1

    pinned-is : E.job.pinned ≡ pinned_file start file ∷ []
    pinned-is = cc

    list-is : read_actions (setup_in start) E.job.pinned ++ End ∷ []
        ≡ reads (setup_in start) file.id 0 count ++ End ∷ []
    list-is = cc (append-nil (reads (setup_in start) file.id 0 count))

    cut-is : Cut (setup_in start) file.id count 0 E.action
        (take E.job.place (reads (setup_in start) file.id 0 count ++ End ∷ []))
    cut-is = cut (setup_in start) file.id count 0 E.job.place E.action
        (ap (λ xs. slice_get xs E.job.place) (sym list-is) ∙ next-at)

    made-cut : Made x (take E.job.place (reads (setup_in start) file.id 0 count ++ End ∷ [])) start.providers
        E.before.providers [] E.job.given
    made-cut = rw (get-list (setup_in start) E.job name E.walked.kind_is ∙ list-is) at E.walked.made

    -- the stripes that were fetched
    module _ (providers : new.providers ≡ E.before.providers) (m : ℕ) (xs ws : List Action)
        (whole : reads (setup_in start) file.id 0 m ≡ xs ++ ws) (works : Each IsWork ws)
        (made : Made x xs start.providers E.before.providers [] E.job.given) (distinct : AreDistinct xs)
        (reading : Each IsReading xs) where
      entries : entries_of 1 E.job.given ≡ flat_map (entries_at (setup_in start) file.id E.job.given) (upto m)
      entries = cc (
        entries-made 1 x xs start.providers E.before.providers [] E.job.given distinct made,
        append-nil (flat_map (entry_for 1 E.job.given) xs),
        silent ws works,
        flat-append (entry_for 1 E.job.given) xs ws,
        entries-reads (setup_in start) file.id E.job.given 0 m,
      )
        where
          silent : (ys : List Action) → Each IsWork ys → flat_map (entry_for 1 E.job.given) ys ≡ []
          silent [] h = refl
          silent (Work i t ∷ ys) h = silent ys h.1
          silent ys h = absurd h.0

      truth : (j : ℕ) → j < (setup_in start).n → IfSome (start.providers j).held (λ held.
          IsTruthful (λ t. block_heard ran file.id t j) (λ t. sized o.profile.size (held file.id t)) (upto m)
          (start.providers j).other_faults (new.providers j).other_faults)
      truth j below = if-some (start.providers j).held _ (λ held e. subst
          (λ (z : Object). IsTruthful (λ t. block_heard ran file.id t j)
          (λ t. sized z.profile.size (held file.id t)) (upto m) (start.providers j).other_faults
          (new.providers j).other_faults) o-is (let t = blocks-told x j held E.job.given xs start.providers
          E.before.providers [] reading distinct made e in let v = works-told x j held E.job.given ws works in
          let sum : sum_by (lack_block x j held E.job.given) (reads (setup_in start) file.id 0 m) ≡ sum_by
          (lack_block x j held E.job.given) xs = ap (sum_by (lack_block x j held E.job.given)) whole
          ∙ (omega (arith, sum_by-append (lack_block x j held E.job.given) xs ws)) in
          record {
            each = all-each _ (upto m) (stripes-told x j held E.job.given (setup_in start) file.id below
                (λ t. block_heard ran file.id t j) (λ t. gave-is file.id t j) 0 m
                (subst (Each (IsToldBlock x j held E.job.given)) (sym whole)
                (each_append (IsToldBlock x j held E.job.given) xs ws t.0 v.0)));
            few = λ l. (let same : (new.providers j).other_faults ≡ (E.before.providers j).other_faults =
                cc in let d = stripes-lack x j held E.job.given (setup_in start) file.id below _
                (λ t. gave-is file.id t j) 0 m in omega (arith, t.1 (omega (arith, l, same)), sum));
          }))

      hears : HearsStripes ran file m
      unfolding setup_in
      hears = record {
        heard = heard-is ∙ (entries
            ∙ (λ i. flat_map (λ t. map
            (λ j. record { job = 1; given = Fetched j file.id t (sym (gave-is file.id t j) i) })
            (upto (setup_in start).n)) (upto m)));
        truthful = truth;
      }

    -- the blocks that were heard are those that were given
    heard-blocks : (P : List (Option (List ℕ)) → Type 0) (t : ℕ) →
        P (blocks_given E.job.given (setup_in start).n file.id t) → P (blocks_heard ran file.id t)
    unfolding setup_in
    heard-blocks P t h = subst (λ (g : ℕ → Option (List ℕ)). P (map g (upto (setup_in start).n)))
        (λ i j. sym (gave-is file.id t j) i) h

    reading-fetches : (a : ℕ) → Each IsReading (fetches (setup_in start) file.id a)
    reading-fetches a = each_map IsReading (λ j. Fetch j file.id a) (upto (setup_in start).n) (λ j. tt)

    reading-reads : (a n : ℕ) → Each IsReading (reads (setup_in start) file.id a n)
    reading-reads a zero = tt
    reading-reads a (suc n) = each_append IsReading (open_actions (setup_in start) file.id a)
        (reads (setup_in start) file.id (a + 1) n) (each_append IsReading (fetches (setup_in start) file.id a)
        (Work file.id a ∷ []) (reading-fetches a) (tt, tt)) (reading-reads (a + 1) n)

    abbrev Gives : Answer → Type 0
    Gives a = GetGives ran file a × (new.providers ≡ E.before.providers) × (new.records ≡ E.before.records) ×
        (new.doubt ≡ E.before.doubt)

    at-end : (a : Answer) → E.action ≡ End →
        take E.job.place (reads (setup_in start) file.id 0 count ++ End ∷ [])
        ≡ reads (setup_in start) file.id 0 count → Acts E.before E.job End (Ended a) new → Gives a
    unfolding setup_in
    at-end a at front (so, is) = by_answer a (rw E.walked.kind_is at so)
      where
        made : Made x (reads (setup_in start) file.id 0 count) start.providers E.before.providers
            [] E.job.given
        made = (rw front at made-cut)

        providers : new.providers ≡ E.before.providers
        providers = cc

        by_answer : (a : Answer) → step.Ends E.before E.job (GetJob name) a → Gives a
        by_answer (answer.Got bytes) got =
            ((all_heard, opens), providers, ap (λ (v : State). v.records) is, ap (λ (v : State). v.doubt) is)
          where
            all_heard : HearsStripes ran file (stripes_at_begin ran file)
            all_heard = (rw size-is at (hears providers count (reads (setup_in start) file.id 0 count) []
                (sym (append-nil (reads (setup_in start) file.id 0 count))) tt made
                (distinct-reads (setup_in start) file.id 0 count) (reading-reads 0 count)))

            bytes-are : bytes ≡ file_given (setup_in start) E.job.given (pinned_file start file)
            bytes-are = (rw E.walked.setup at (subst (λ ps. GotBytes E.before E.job ps bytes) pinned-is got))

            opens : OpensFile (object_at_begin ran file) file.size (blocks_heard ran file.id) bytes
            opens = subst (λ size. OpensFile o size (blocks_heard ran file.id) bytes) size-is (record {
              symbols = symbols_given E.job.given file.id;
              given = λ t l. heard-blocks (λ bs. GivesSymbols o t bs (symbols_given E.job.given file.id t)) t
                  (rw o-is at (reads-give x file.id E.job.given [] count 0 start.providers E.before.providers
                  [] tt (subst (λ xs. Made x xs start.providers E.before.providers [] E.job.given)
                  (sym (append-nil (reads (setup_in start) file.id 0 count))) made) t (omega arith)
                  (omega (arith, l))));
              cut = bytes-are;
            })
        by_answer a h = absurd h

    at-work : (a : Answer) (k : ℕ) → k < count →
        take E.job.place (reads (setup_in start) file.id 0 count ++ End ∷ [])
        ≡ reads (setup_in start) file.id 0 k ++ fetches (setup_in start) file.id (0 + k) →
        Acts E.before E.job (Work file.id (0 + k)) (Ended a) new → Gives a
    unfolding setup_in
    at-work (answer.Lost t row) k within front (same, loses, is) = (
      record {
        within = few;
        hears = subst (HearsStripes ran file) (omega (arith, same)) all_heard;
        before = λ i l. (symbols_given E.job.given file.id i, gave i (omega arith));
        loses = lost;
      },
      providers,
      ap (λ (v : State). v.records) is,
      ap (λ (v : State). v.doubt) is,
    )
      where
        made : Made x (reads (setup_in start) file.id 0 k ++ fetches (setup_in start) file.id (0 + k))
            start.providers E.before.providers [] E.job.given
        made = (rw front at made-cut)

        providers : new.providers ≡ E.before.providers
        providers = cc

        few : t < stripes_at_begin ran file
        few = subst (λ size. t < stripes_of (profiled (setup_in start) file.profile) size) size-is
            (omega arith)

        all_heard : HearsStripes ran file (suc k)
        all_heard = hears providers (suc k) (reads (setup_in start) file.id 0 k ++ fetches (setup_in start)
            file.id (0 + k)) (Work file.id (0 + k) ∷ []) (reads-last (setup_in start) file.id 0 k) (tt, tt)
            made (distinct-cut (setup_in start) file.id 0 k)
            (each_append IsReading (reads (setup_in start) file.id 0 k)
            (fetches (setup_in start) file.id (0 + k)) (reading-reads 0 k) (reading-fetches (0 + k)))

        gave : (i : ℕ) → i < k →
            GivesSymbols (object_at_begin ran file) i (blocks_heard ran file.id i)
            (symbols_given E.job.given file.id i)
        gave i l = heard-blocks (λ bs. GivesSymbols o i bs (symbols_given E.job.given file.id i)) i
            (rw o-is at (reads-give x file.id E.job.given (fetches (setup_in start) file.id (0 + k)) k 0
            start.providers E.before.providers []
            (from-fetches x file.id E.job.given (0 + k) (0 + k) (omega arith)) made i (omega arith)
            (omega (arith, l))))

        lost : LosesRow (object_at_begin ran file) t (blocks_heard ran file.id t) row
        lost = heard-blocks (λ bs. LosesRow o t bs row) t
            (subst (λ (z : Object). LosesRow z t (blocks_given E.job.given (setup_in start).n file.id t) row)
            (worked-made start O (GetJob name) E.before E.job E.walked file.id ∙ o-is)
            (subst (λ n. LosesRow (worked_object E.before E.job file.id) t
            (blocks_given E.job.given n file.id t) row) (ap (λ (u : Setup). u.n) E.walked.setup)
            (rw (← same) at loses)))
    at-work a k within front h = absurd h

    at-fetch : (a : Answer) (j t : ℕ) → Acts E.before E.job (Fetch j file.id t) (Ended a) new → Gives a
    at-fetch a j t h = absurd h

    gives : Gives how
    gives = elim cut-is [
      | Cut.at_end is front ↦
          at-end how is front (subst (λ z. Acts E.before E.job z (Ended how) new) is E.acts)
      | Cut.at_work k l is front ↦ at-work how k l front
          (subst (λ z. Acts E.before E.job z (Ended how) new) is E.acts)
      | Cut.at_fetch j t is ↦ at-fetch how j t (subst (λ z. Acts E.before E.job z (Ended how) new) is E.acts)
    ]

    -- providers hold what they held
    reading-cut : Each IsReading (take E.job.place (reads (setup_in start) file.id 0 count ++ End ∷ []))
    reading-cut = elim cut-is [
      | Cut.at_end is front ↦ (rw (← front) at (reading-reads 0 count))
      | Cut.at_work k l is front ↦ (rw (← front) at (each_append IsReading (reads (setup_in start) file.id 0 k)
          (fetches (setup_in start) file.id (0 + k)) (reading-reads 0 k) (reading-fetches (0 + k))))
      | Cut.at_fetch j t is ↦ absurd (at-fetch-none how j t (rw is at E.acts))
    ]
      where
        at-fetch-none : (a : Answer) (j t : ℕ) → Acts E.before E.job (Fetch j file.id t) (Ended a) new → ⊥
        at-fetch-none a j t h = h

    held-kept : (i : ℕ) → (E.before.providers i).held ≡ (start.providers i).held
    held-kept i = made-keeps x i (λ p q. q.held ≡ p.held) IsReading (λ p. refl) (λ p q r a b. b ∙ a) one
        (take E.job.place (reads (setup_in start) file.id 0 count ++ End ∷ [])) start.providers
        E.before.providers [] E.job.given reading-cut made-cut
      where
        one : (a : Action) (given now : List Given) (p q : Provider) → IsReading a →
            Called x a given now i p q → q.held ≡ p.held
        one (Fetch j z t) given now p q u (e, (block, c, is)) = c.held
        one (Work z t) given now p q u c = absurd c
        one a given now p q u c = absurd u

    leaves-file : GetLeaves ran name how
    unfolding setup_in
    leaves-file = record {
      file = file;
      in_effect = in_effect;
      gives = gives.0;
      records = gives.2 ∙ records-before;
      sure = ap (option_map (λ (d : Doubt). d.entry)) (gives.3 ∙ undoubted);
      held = λ j l. ap (λ (g : ℕ → Provider). (g j).held) gives.1 ∙ held-kept j;
    }

  -- without a file a get has only its end, and no answer
  no-file : file_in start name ≡ None → GetLeaves ran name how
  no-file none = absurd
      (by_answer how (subst (λ kd. step.Ends E.before E.job kd how) E.walked.kind_is acts.0))
    where
      empty : E.job.pinned ≡ []
      empty = cc

      at : E.action ≡ End
      at = (single-get End E.action E.job.place
          (ap (λ ps. slice_get (read_actions (setup_in start) ps ++ End ∷ []) E.job.place) (sym empty)
          ∙ next-at)).1

      acts : Acts E.before E.job End (Ended how) new
      acts = subst (λ z. Acts E.before E.job z (Ended how) new) at E.acts

      by_answer : (a : Answer) → step.Ends E.before E.job (GetJob name) a → ⊥
      by_answer (answer.Got bytes) got = subst (λ ps. GotBytes E.before E.job ps bytes) empty got
      by_answer a h = absurd h

  get-leaves : GetLeaves ran name how
  get-leaves = by_file (file_in start name) refl
    where
      by_file : (f : Option File) → file_in start name ≡ f → GetLeaves ran name how
      by_file None e = no-file e
      by_file (Some file) e = leaves-file file e

  -- a get leaves records and providers as they were, and gives what its fetches open to
  pub all-leaves : Leaves ran (GetJob name) None how
  unfolding setup_in
  all-leaves = record {
    by_kind = get-leaves;
    counts = counts-rise start new (GetJob name) None how heard O E;
    others = others-stay start new (GetJob name) None how heard O E;
  }

-- What the fetches, the works and the stores of a repair gave and left, of one provider, by the list of its
-- actions alone.
use Rattle.job_laws.proofs.Words.{◌≡◌, ℕ, ◌+◌, ◌<◌, ◌≤◌, ◌==◌, ◌&&◌, ◌⊎◌, true, cond, List, [], ◌∷◌, Option, None, Some, refl, ap, sym, subst, ◌∙◌, inl, inr, arith, cases_Bool, cases_eq, eq-eqb, ne_eqb, eqb-true, and_parts, and_from, sum_by-cons, Each, In, each_mono, upto, column_of_symbols, GivesSymbols, last_count, Held, Provider, sized, with_block, Stores, Fetches, FailsToGive, RepairJob, Given, Action, Store, Fetch, Ask, Work, Remove, block_given, blocks_given, symbols_given, cond_true, cond_false, symbols_given-newest, With, block_stored, Did, Made, object_made}
use Rattle.std.proofs.Common.{map, sum_by}
use Rattle.job_laws.proofs.Heard.{IsNot, block-later, block-newest, symbols-later}
use Rattle.job_laws.proofs.Truth.{call-hit, call-miss, lacks, lacks-same, lacks-few, made-rises}

-- ---- the order of the actions of a repair

-- neither a fetch of this place nor the work on it
abbrev pub IsNoneOf : ℕ → ℕ → Action → Type 0
IsNoneOf object stripe (Fetch k o s) = (o ≡ object) × (s ≡ stripe) → ⊥
IsNoneOf object stripe (Work o s) = (o ≡ object) × (s ≡ stripe) → ⊥
IsNoneOf object stripe action = Unit {0}

-- what may come behind an action: no fetch twice, and behind the work on a place and its stores neither
abbrev pub IsBefore : Action → List Action → Type 0
IsBefore (Fetch j o s) xs = Each (IsNot (Fetch j o s)) xs
IsBefore (Work o s) xs = Each (IsNoneOf o s) xs
IsBefore (Store j o s) xs = Each (IsNoneOf o s) xs
IsBefore action xs = Unit {0}

abbrev pub AreOrdered : List Action → Type 0
AreOrdered [] = Unit {0}
AreOrdered (x ∷ xs) = IsBefore x xs × AreOrdered xs

-- an action of a repair
abbrev pub IsRepairing : Action → Type 0
IsRepairing (Ask j o r) = ⊥
IsRepairing (Remove j o) = ⊥
IsRepairing action = Unit {0}

-- an action that is none of a place is no fetch of it
pub none-fetch : (j o s : ℕ) (y : Action) → IsNoneOf o s y → IsNot (Fetch j o s) y
none-fetch j o s (Fetch k p t) h e = h ((cc), (cc))
none-fetch j o s y h e = cc

none-work : (o s : ℕ) (y : Action) → IsNoneOf o s y → IsNot (Work o s) y
none-work o s (Work p t) h e = h ((cc), (cc))
none-work o s y h e = cc

-- ---- what one provider holds after stores

module _ (x : With) (last : List Given) where
  -- the column that is stored, as the symbols are looked up in the end
  abbrev pub column_at : ℕ → ℕ → ℕ → List ℕ
  column_at j o s = column_of_symbols (object_made x o) (symbols_given last o s) j s

  -- what provider j holds after these actions
  abbrev pub after : ℕ → List Action → Held → Held
  after j [] held = held
  after j (Store k o s ∷ actions) held =
      after j actions (cond (k == j) (with_block o s (column_at j o s) held) held)
  after j (action ∷ actions) held = after j actions held

  -- one store
  store-either : (j k p t : ℕ) (held : Held) (o s : ℕ) →
      (cond (k == j) (with_block p t (column_at j p t) held) held o s ≡ held o s) ⊎
      (cond (k == j) (with_block p t (column_at j p t) held) held o s ≡ Some (column_at j o s))
  store-either j k p t held o s = elim (cases_Bool (k == j)) [
    | inr f ↦ inl (cc)
    | inl u ↦ elim (cases_Bool ((o == p) && (s == t))) [
      | inr f ↦ inl (cc)
      | inl v ↦ inr (ap (λ (h : Held). h o s)
          (cond_true (k == j) (with_block p t (column_at j p t) held) held u)
          ∙ (cond_true ((o == p) && (s == t)) (Some (column_at j p t)) (held o s) v
          ∙ (let e = and_parts (o == p) (s == t) v in
          (λ i. Some (column_at j (sym (eqb-true o p e.0) i) (sym (eqb-true s t e.1) i))))))
    ]
  ]

  -- after stores a block is as it was, or the column that is stored there
  pub after-either : (j : ℕ) (actions : List Action) (held : Held) (o s : ℕ) →
      (after j actions held o s ≡ held o s) ⊎ (after j actions held o s ≡ Some (column_at j o s))
  after-either j [] held o s = inl refl
  after-either j (Store k p t ∷ actions) held o s =
      elim (after-either j actions (cond (k == j) (with_block p t (column_at j p t) held) held) o s) [
        | inr e ↦ inr e
        | inl e ↦ elim (store-either j k p t held o s) [ inl f ↦ inl (e ∙ f) | inr f ↦ inr (e ∙ f) ]
      ]
  after-either j (_ ∷ actions) held o s = after-either j actions held o s

  -- a block that is not stored stays
  store-other : (j k p t : ℕ) (held : Held) (o s : ℕ) → IsNot (Store j o s) (Store k p t) →
      cond (k == j) (with_block p t (column_at j p t) held) held o s ≡ held o s
  store-other j k p t held o s n = elim (cases_Bool (k == j)) [
    | inr f ↦ cc
    | inl u ↦ elim (cases_Bool ((o == p) && (s == t))) [
      | inr f ↦ cc
      | inl v ↦ absurd (n (same (eqb-true k j u) (and_parts (o == p) (s == t) v)))
    ]
  ]
    where
      same : k ≡ j → ((o == p) ≡ true) × ((s == t) ≡ true) → Store j o s ≡ Store k p t
      same a b = (cc (eqb-true o p b.0, eqb-true s t b.1))

  -- after stores a block that none of them is of is as it was
  pub after-none : (j : ℕ) (actions : List Action) (held : Held) (o s : ℕ) →
      Each (IsNot (Store j o s)) actions → after j actions held o s ≡ held o s
  after-none j [] held o s n = refl
  after-none j (Store k p t ∷ actions) held o s n =
      after-none j actions (cond (k == j) (with_block p t (column_at j p t) held) held) o s n.1
      ∙ store-other j k p t held o s n.0
  after-none j (_ ∷ actions) held o s n = after-none j actions held o s n.1

  -- a block that is stored is the column
  store-own : (j o s : ℕ) (held : Held) → cond (j == j) (with_block o s (column_at j o s) held) held o s
      ≡ Some (column_at j o s)
  store-own j o s held = ap (λ (h : Held). h o s)
      (cond_true (j == j) (with_block o s (column_at j o s) held) held (eq-eqb j j refl))
      ∙ cond_true ((o == o) && (s == s)) (Some (column_at j o s)) (held o s)
      (and_from (o == o) (s == s) (eq-eqb o o refl) (eq-eqb s s refl))

  -- after stores a block that one of them is of is its column
  pub after-some : (j : ℕ) (actions : List Action) (held : Held) (o s : ℕ) → In (Store j o s) actions →
      after j actions held o s ≡ Some (column_at j o s)
  after-some j [] held o s i = absurd i
  after-some j (a ∷ actions) held o s (inl e) =
      subst (λ b. after j (b ∷ actions) held o s ≡ Some (column_at j o s)) e
      (elim (after-either j actions (cond (j == j) (with_block o s (column_at j o s) held) held) o s)
      [ inl f ↦ f ∙ store-own j o s held | inr f ↦ f ])
  after-some j (Store k p t ∷ actions) held o s (inr i) =
      after-some j actions (cond (k == j) (with_block p t (column_at j p t) held) held) o s i
  after-some j (_ ∷ actions) held o s (inr i) = after-some j actions held o s i

-- ---- what was made

module _ (x : With) (repairs : x.kind ≡ RepairJob) (last : List Given) (j : ℕ) where
  -- a fetch of provider j is told what it held at the begin, or nothing
  abbrev pub IsToldBlock : Held → Action → Type 0
  IsToldBlock begin (Fetch k o s) = k ≡ j →
      (block_given last o s k ≡ sized (object_made x o).profile.size (begin o s)) ⊎
      (block_given last o s k ≡ None)
  IsToldBlock begin action = Unit {0}

  -- 1 where it is nothing though something of the size was held
  abbrev pub lack_block : Held → Action → ℕ
  lack_block begin (Fetch k o s) =
      cond (k == j) (lacks (block_given last o s k) (sized (object_made x o).profile.size (begin o s))) 0
  lack_block begin action = 0

  -- the places that are still to be fetched are held as at the begin
  abbrev IsKeptAt : Held → Held → Action → Type 0
  IsKeptAt begin held (Fetch k o s) = k ≡ j → held o s ≡ begin o s
  IsKeptAt begin held action = Unit {0}

  record Step (begin held : Held) (a : Action) (p q : Provider) : Type 0 where
    told : IsToldBlock begin a
    held_is : q.held ≡ Some (after x last j (a ∷ []) held)
    count : q.other_faults < last_count → p.other_faults + lack_block begin a ≤ q.other_faults

  still : (begin held : Held) (a : Action) (p q : Provider) → IsToldBlock begin a → lack_block begin a ≡ 0 →
      after x last j (a ∷ []) held ≡ held → q ≡ p → p.held ≡ Some held → Step begin held a p q
  still begin held a p q told none same e h =
      record {
        told = told;
        held_is = cc;
        count = λ l. (let f = ap (λ (z : Provider). z.other_faults) e in omega (arith, f, none));
      }

  fetch-step : (begin held : Held) (k o s : ℕ) (block : Option (List ℕ)) (p q : Provider) → k ≡ j →
      held o s ≡ begin o s → block_given last o s k ≡ block → p.held ≡ Some held →
      Fetches (object_made x o).profile.size o s p block q → Step begin held (Fetch k o s) p q
  fetch-step begin held k o s block p q hit kept is h c = record {
    told = λ e. elim gives [ inl g ↦ inl (is ∙ g) | inr f ↦ inr (is ∙ f.0) ];
    held_is = c.held ∙ h;
    count = λ l. (let one : lack_block begin (Fetch k o s) ≡ lacks block (sized (object_made x o).profile.size
        (begin o s)) =
        cc (cond_true (k == j) (lacks (block_given last o s k) _) 0 (eq-eqb k j hit)) in elim gives [
          | inl g ↦ (omega (arith, lacks-same block (sized (object_made x o).profile.size (begin o s)) g))
          | inr f ↦ (let low = c.counts.other_faults in omega (
            arith,
            lacks-few block (sized (object_made x o).profile.size (begin o s)),
            f.1 (omega (arith, low, l)),
          ))
        ]);
  }
    where
      gives : (block ≡ sized (object_made x o).profile.size (begin o s)) ⊎ FailsToGive p block q
      gives = elim c.gives [
        | inl g ↦ inl ((rw h at g)
            ∙ ap (sized (object_made x o).profile.size) kept)
        | inr f ↦ inr f
      ]

  one-step : (begin held : Held) (a : Action) (actions : List Action) (old mid new : ℕ → Provider)
      (given so_far : List Given) → IsRepairing a → IsBefore a actions → IsKeptAt begin held a →
      Did x a old mid given so_far → Made x actions mid new so_far last →
      (old j).held ≡ Some held → Step begin held a (old j) (mid j)
  one-step begin held (Fetch k o s) actions old mid new given so_far fit order kept (block, called, is) rest h =
      elim (cases_eq k j) [
        | inl hit ↦ fetch-step begin held k o s block (old j) (mid j) hit (kept hit)
            (cc (block-later x actions mid new so_far last k o s rest order, block-newest k o s block given))
            h (rw hit at (call-hit old k (λ p q. Fetches (object_made x o).profile.size o s p block q) mid
            called))
        | inr miss ↦ still begin held (Fetch k o s) (old j) (mid j) (λ e. absurd (miss e))
            (cond_false (k == j) _ 0 (ne_eqb k j miss)) refl
            (call-miss old k (λ p q. Fetches (object_made x o).profile.size o s p block q) mid j miss called)
            h
      ]
  one-step begin held (Store k o s) actions old mid new given so_far fit order kept (called, is) rest h =
      elim (cases_eq k j) [
        | inl hit ↦ (let c = rw hit at (call-hit old k (Stores o s (block_stored x x.kind given k o s)) mid
            called) in
            let symbols : symbols_given given o s ≡ symbols_given last o s =
            cc (symbols-later x actions mid new so_far last o s rest (each_mono (IsNoneOf o s)
            (IsNot (Work o s)) actions (λ y u. none-work o s y u) order)) in
            record {
              told = tt;
              held_is = cc (cond_true (k == j) (with_block o s (column_at x last j o s) held) held
                  (eq-eqb k j hit));
              count = λ l. (omega arith);
            })
        | inr miss ↦ still begin held (Store k o s) (old j) (mid j) tt refl
            (cond_false (k == j) (with_block o s (column_at x last j o s) held) held (ne_eqb k j miss))
            (call-miss old k (Stores o s (block_stored x x.kind given k o s)) mid j miss called) h
      ]
  one-step begin held (Ask k o r) actions old mid new given so_far fit order kept did rest h = absurd fit
  one-step begin held (Remove k o) actions old mid new given so_far fit order kept did rest h = absurd fit
  one-step begin held (Work o s) actions old mid new given so_far fit order kept (symbols, gives, same, is) rest h =
      still begin held (Work o s) (old j) (mid j) tt refl refl (ap (λ f. f j) same) h
  one-step begin held a actions old mid new given so_far fit order kept did rest h =
      still begin held a (old j) (mid j) tt refl refl (ap (λ f. f j) did.0) h

  -- what is still to be fetched stays
  kept-on : (begin held : Held) (a : Action) (actions : List Action) → IsBefore a actions →
      Each (IsKeptAt begin held) actions → Each (IsKeptAt begin (after x last j (a ∷ []) held)) actions
  kept-on begin held (Store k p t) actions order h = all actions order h
    where
      one : (y : Action) → IsNoneOf p t y → IsKeptAt begin held y →
          IsKeptAt begin (cond (k == j) (with_block p t (column_at x last j p t) held) held) y
      one (Fetch m o s) n e = λ hit. elim (cases_Bool (k == j)) [
        | inr f ↦ cc (cond_false (k == j) (with_block p t (column_at x last j p t) held) held f, e hit)
        | inl u ↦ ap (λ (g : Held). g o s)
            (cond_true (k == j) (with_block p t (column_at x last j p t) held) held u)
            ∙ (cond_false ((o == p) && (s == t)) (Some (column_at x last j p t)) (held o s)
            (elim (cases_Bool ((o == p) && (s == t))) [
              | inl v ↦ absurd (let c = and_parts (o == p) (s == t) v in
                  n (eqb-true o p c.0, eqb-true s t c.1))
              | inr f ↦ f
            ]) ∙ e hit)
      ]
      one y n e = tt

      all : (xs : List Action) → Each (IsNoneOf p t) xs → Each (IsKeptAt begin held) xs →
          Each (IsKeptAt begin (cond (k == j) (with_block p t (column_at x last j p t) held) held)) xs
      all [] n e = tt
      all (y ∷ xs) n e = (one y n.0 e.0, all xs n.1 e.1)
  kept-on begin held _ actions order h = h

  after-cons : (a : Action) (actions : List Action) (held : Held) →
      after x last j (a ∷ actions) held ≡ after x last j actions (after x last j (a ∷ []) held)
  after-cons (Store k o s) actions held = refl
  after-cons a actions held = refl

  -- all actions of a repair, of a provider that tells
  pub record Told (begin held : Held) (actions : List Action) (p q : Provider) : Type 0 where
    pub told : Each (IsToldBlock begin) actions
    pub held_is : q.held ≡ Some (after x last j actions held)
    pub count : q.other_faults < last_count →
        p.other_faults + sum_by (lack_block begin) actions ≤ q.other_faults

  told-on : (begin held : Held) (actions : List Action) (old new : ℕ → Provider) (given : List Given) →
      Each IsRepairing actions → AreOrdered actions → Each (IsKeptAt begin held) actions →
      Made x actions old new given last → (old j).held ≡ Some held → Told begin held actions (old j) (new j)
  told-on begin held [] old new given fit order kept m h = record {
    told = tt;
    held_is = cc;
    count = λ l. (omega (arith, ap (λ (f : ℕ → Provider). (f j).other_faults) m.0));
  }
  told-on begin held (a ∷ actions) old new given fit order kept (mid, so_far, did, rest) h =
      (let s = one-step begin held a actions old mid new given so_far fit.0 order.0 kept.0 did rest h in
      let r = told-on begin (after x last j (a ∷ []) held) actions mid new so_far fit.1 order.1
      (kept-on begin held a actions order.0 kept.1) rest s.held_is in
      let up = (made-rises x actions mid new so_far last j rest).1 in
      record {
        told = (s.told, r.told);
        held_is = cc (after-cons a actions held);
        count = λ l. (omega (arith, sum_by-cons (lack_block begin) a actions));
      })

  -- of a repair's actions a provider that tells gave what it held, or nothing, and holds what was stored
  pub made-told : (held : Held) (actions : List Action) (old new : ℕ → Provider) → Each IsRepairing actions →
      AreOrdered actions → Made x actions old new [] last → (old j).held ≡ Some held →
      Told held held actions (old j) (new j)
  made-told held actions old new fit order m h =
      told-on held held actions old new [] fit order (all actions) m h
    where
      one : (y : Action) → IsKeptAt held held y
      one (Fetch m o s) = λ e. refl
      one y = tt

      all : (xs : List Action) → Each (IsKeptAt held held) xs
      all [] = tt
      all (y ∷ xs) = (one y, all xs)

-- ---- what the works gave

-- the blocks that were given open to the symbols that were given, as both are looked up in the end
abbrev pub HasOpened : With → List Given → Action → Type 0
HasOpened x last (Work o s) =
    GivesSymbols (object_made x o) s (blocks_given last x.setup.n o s) (symbols_given last o s)
HasOpened x last action = Unit {0}

-- for all works that were made the blocks that were given open to the symbols that were given
pub works-opened : (x : With) (actions : List Action) (old new : ℕ → Provider) (given last : List Given) →
    AreOrdered actions → Made x actions old new given last → Each (HasOpened x last) actions
works-opened x [] old new given last order m = tt
works-opened x (a ∷ actions) old new given last order (mid, so_far, did, rest) =
    (one a order.0 did, works-opened x actions mid new so_far last order.1 rest)
  where
    one : (a : Action) → IsBefore a actions → Did x a old mid given so_far → HasOpened x last a
    one (Work o s) order (symbols, gives, same, is) = (let blocks : (k : ℕ) →
        block_given given o s k ≡ block_given last o s k =
        (λ k. cc (block-later x actions mid new so_far last k o s rest (each_mono (IsNoneOf o s)
        (IsNot (Fetch k o s)) actions (λ y u. none-fetch k o s y u) order))) in
        subst (λ ss. GivesSymbols (object_made x o) s (blocks_given last x.setup.n o s) ss) (sym (cc (
          symbols-later x actions mid new so_far last o s rest (each_mono (IsNoneOf o s) (IsNot (Work o s))
              actions (λ y u. none-work o s y u) order),
          symbols_given-newest o s symbols given,
        )))
        (subst (λ bs. GivesSymbols (object_made x o) s bs symbols) (λ i. map (λ k. blocks k i)
        (upto x.setup.n)) gives))
    one a order did = tt

-- What bytes stand for is one list of records, in one area.
use Rattle.journal_core.proofs.Words.{◌≢◌, ◌⊎◌, inl, inr, true, ◌++◌, length, drop, refl, sym, ap, ◌∙◌, subst, arith, append_assoc, length-append, reverse, list_all, append-nil, reverse-append, reverse-reverse, is_in_grammar, spelling, Spells, SpellsNone, StandsFor, Area, base_of, magic_front, area_of, entries, IsSwitched, HoldsIn, StandsActive, EndsIn, BreaksIn, IsBadAt}
use Rattle.std.proofs.Common.{◌≡◌, ℕ, ◌&&◌, List, [], ◌∷◌}
use Rattle.std.proofs.lemmas.List.Folds.{list_all-append}
use Rattle.record_defs.specs.Records.{Record}
use Rattle.record_codec.proofs.Takes.{one_front}

-- records in the order of writing, each behind an open gate
abbrev forward : List Record → List ℕ
forward [] = []
forward (r ∷ rs) = 1 ∷ (spelling r ++ forward rs)

forward-push : (rs : List Record) (r : Record) → forward (rs ++ (r ∷ [])) ≡ forward rs ++ (1 ∷ spelling r)
forward-push [] r = ap (λ (l : List ℕ). 1 ∷ l) (append-nil (spelling r))
forward-push (s ∷ rs) r = ap (λ (l : List ℕ). 1 ∷ l) (ap (λ (l : List ℕ). spelling s ++ l) (forward-push rs r)
    ∙ sym (append_assoc (spelling s) (forward rs) (1 ∷ spelling r)))

in_order : (rs : List Record) → entries rs ≡ forward (reverse rs)
in_order [] = refl
in_order (r ∷ rs) = ap (λ (l : List ℕ). l ++ (1 ∷ spelling r)) (in_order rs)
    ∙ sym (forward-push (reverse rs) r)
    ∙ ap forward (sym (reverse-append (r ∷ []) rs))

good-reverse : (rs : List Record) → list_all is_in_grammar rs ≡ true →
    list_all is_in_grammar (reverse rs) ≡ true
good-reverse [] p = refl
good-reverse (r ∷ rs) p =
    let first : is_in_grammar r ≡ true = grind (arith, p) in
    let others : list_all is_in_grammar rs ≡ true = grind (arith, p) in
    ap (list_all is_in_grammar) (reverse-append (r ∷ []) rs)
    ∙ list_all-append is_in_grammar (reverse rs) (r ∷ [])
    ∙ (λ i. good-reverse rs others i && (first i && true))

abbrev pub Good : List Record → Type 0
Good rs = list_all is_in_grammar rs ≡ true

-- the last of good records is in the grammar
pub good-head : (r : Record) (rs : List Record) → Good (r ∷ rs) → is_in_grammar r ≡ true
good-head r rs p = grind (arith, p)

-- good records without their last are good
pub good-tail : (r : Record) (rs : List Record) → Good (r ∷ rs) → Good rs
good-tail r rs p = grind (arith, p)

spelled : (r : Record) → is_in_grammar r ≡ true → Spells (spelling r) r
spelled r p = record { in_grammar = p; bytes_are = refl }

-- two forward that begin the same bytes
one : (r s : Record) (a b : List Record) (x y : List ℕ) → Good (r ∷ a) → Good (s ∷ b) →
    forward (r ∷ a) ++ x ≡ forward (s ∷ b) ++ y → (r ≡ s) × (forward a ++ x ≡ forward b ++ y)
one r s a b x y all_a all_b e =
    let behind : (spelling r ++ forward a) ++ x ≡ (spelling s ++ forward b) ++ y = cc in
    one_front r s (forward a ++ x) (forward b ++ y) (good-head r a all_a) (good-head s b all_b)
    (sym (append_assoc (spelling r) (forward a) x) ∙ behind ∙ append_assoc (spelling s) (forward b) y)

same_forward : (a b : List Record) (g h : ℕ) (x y : List ℕ) → Good a → Good b → g ≢ 1 → h ≢ 1 →
    forward a ++ (g ∷ x) ≡ forward b ++ (h ∷ y) → a ≡ b
same_forward [] [] g h x y all_a all_b shut_g shut_h e = refl
same_forward [] (r ∷ b) g h x y all_a all_b shut_g shut_h e = absurd (shut_g (let head : g ≡ 1 = cc in head))
same_forward (r ∷ a) [] g h x y all_a all_b shut_g shut_h e = absurd (shut_h (let head : h ≡ 1 = cc in head))
same_forward (r ∷ a) (s ∷ b) g h x y all_a all_b shut_g shut_h e =
    let both = one r s a b (g ∷ x) (h ∷ y) all_a all_b e in
    let rest = same_forward a b g h x y (good-tail r a all_a) (good-tail s b all_b) shut_g shut_h both.1 in
    (λ i. both.0 i ∷ rest i)

-- a text does not end before a gate
no_end : (a b : List Record) (h : ℕ) (y : List ℕ) → Good a → Good b → h ≢ 1 →
    forward a ≡ forward b ++ (h ∷ y) → ⊥
no_end [] [] h y all_a all_b shut e = let k : ⊥ = cc in k
no_end [] (s ∷ b) h y all_a all_b shut e = let k : ⊥ = cc in k
no_end (r ∷ a) [] h y all_a all_b shut e = shut (let head : h ≡ 1 = cc in head)
no_end (r ∷ a) (s ∷ b) h y all_a all_b shut e =
    no_end a b h y (good-tail r a all_a) (good-tail s b all_b) shut
    (sym (append-nil (forward a)) ∙ (one r s a b [] (h ∷ y) all_a all_b (append-nil (forward (r ∷ a)) ∙ e)).1)

-- nor goes on behind an open gate without a record
no_gap : (a b : List Record) (h : ℕ) (x y : List ℕ) → Good a → Good b → SpellsNone x → h ≢ 1 →
    forward a ++ (1 ∷ x) ≡ forward b ++ (h ∷ y) → ⊥
no_gap [] [] h x y all_a all_b none shut e = shut (let head : h ≡ 1 = cc in head)
no_gap [] (s ∷ b) h x y all_a all_b none shut e =
    let behind : x ≡ (spelling s ++ forward b) ++ (h ∷ y) = cc in
    none s (spelling s) (forward b ++ (h ∷ y)) (spelled s (good-head s b all_b))
    (behind ∙ append_assoc (spelling s) (forward b) (h ∷ y))
no_gap (r ∷ a) [] h x y all_a all_b none shut e = shut (let head : h ≡ 1 = cc in head)
no_gap (r ∷ a) (s ∷ b) h x y all_a all_b none shut e = no_gap a b h x y (good-tail r a all_a)
    (good-tail s b all_b) none shut (one r s a b (1 ∷ x) (h ∷ y) all_a all_b e).1

-- bytes do not both end at a gate and go on without a record
no_end_gap : (a b : List Record) (x : List ℕ) → Good a → Good b → SpellsNone x →
    forward a ≡ forward b ++ (1 ∷ x) → ⊥
no_end_gap [] [] x all_a all_b none e = let k : ⊥ = cc in k
no_end_gap [] (s ∷ b) x all_a all_b none e = let k : ⊥ = cc in k
no_end_gap (r ∷ a) [] x all_a all_b none e =
    let behind : x ≡ spelling r ++ forward a = cc in
    none r (spelling r) (forward a) (spelled r (good-head r a all_a)) behind
no_end_gap (r ∷ a) (s ∷ b) x all_a all_b none e =
    no_end_gap a b x (good-tail r a all_a) (good-tail s b all_b) none
    (sym (append-nil (forward a)) ∙ (one r s a b [] (1 ∷ x) all_a all_b (append-nil (forward (r ∷ a)) ∙ e)).1)

same_gap : (a b : List Record) (x y : List ℕ) → Good a → Good b → SpellsNone x → SpellsNone y →
    forward a ++ (1 ∷ x) ≡ forward b ++ (1 ∷ y) → length (forward a) ≡ length (forward b)
same_gap [] [] x y all_a all_b none_x none_y e = refl
same_gap [] (s ∷ b) x y all_a all_b none_x none_y e =
    let behind : x ≡ (spelling s ++ forward b) ++ (1 ∷ y) = cc in
    absurd (none_x s (spelling s) (forward b ++ (1 ∷ y)) (spelled s (good-head s b all_b))
    (behind ∙ append_assoc (spelling s) (forward b) (1 ∷ y)))
same_gap (r ∷ a) [] x y all_a all_b none_x none_y e =
    let behind : y ≡ (spelling r ++ forward a) ++ (1 ∷ x) = cc in
    absurd (none_y r (spelling r) (forward a ++ (1 ∷ x)) (spelled r (good-head r a all_a))
    (behind ∙ append_assoc (spelling r) (forward a) (1 ∷ x)))
same_gap (r ∷ a) (s ∷ b) x y all_a all_b none_x none_y e =
    let both = one r s a b (1 ∷ x) (1 ∷ y) all_a all_b e in
    let rest = same_gap a b x y (good-tail r a all_a) (good-tail s b all_b) none_x none_y both.1 in
    let same : length (spelling r) ≡ length (spelling s) = ap (λ (q : Record). length (spelling q)) both.0 in
    omega (arith, rest, same, length-append (spelling r) (forward a), length-append (spelling s) (forward b))

-- bytes behind the entries of records, with these in the order of writing
behind : (rs : List Record) (x : List ℕ) → entries rs ++ x ≡ forward (reverse rs) ++ x
behind rs x = ap (λ (l : List ℕ). l ++ x) (in_order rs)

cancel : (a b : List Record) (x y bytes : List ℕ) → bytes ≡ entries a ++ x → bytes ≡ entries b ++ y →
    forward (reverse a) ++ x ≡ forward (reverse b) ++ y
cancel a b x y bytes for_a for_b = sym (behind a x) ∙ sym for_a ∙ for_b ∙ behind b y

cancel_end : (a b : List Record) (y bytes : List ℕ) → bytes ≡ entries a → bytes ≡ entries b ++ y →
    forward (reverse a) ≡ forward (reverse b) ++ y
cancel_end a b y bytes for_a for_b = sym (in_order a) ∙ sym for_a ∙ for_b ∙ behind b y

-- ---- an area

module _ (bytes : List ℕ) (area : Area) where
  -- an area holds one list of records at most
  pub one_held : (a b : List Record) → HoldsIn bytes area a → HoldsIn bytes area b → a ≡ b
  one_held a b for_a for_b =
      let same = same_forward (reverse a) (reverse b) for_a.gate for_b.gate for_a.rest for_b.rest
      (good-reverse a for_a.in_grammar) (good-reverse b for_b.in_grammar) for_a.closed for_b.closed
      (cancel a b (for_a.gate ∷ for_a.rest) (for_b.gate ∷ for_b.rest) (drop (base_of area) bytes)
      for_a.bytes_are for_b.bytes_are) in
      sym (reverse-reverse a) ∙ ap reverse same ∙ reverse-reverse b

  -- where the bytes of an area end at a gate, it holds no records
  ends_hold_none : (at : ℕ) (b : List Record) → EndsIn bytes area at → HoldsIn bytes area b → ⊥
  ends_hold_none at b ends for_b = no_end (reverse ends.records) (reverse b) for_b.gate for_b.rest
      (good-reverse ends.records ends.in_grammar) (good-reverse b for_b.in_grammar) for_b.closed
      (cancel_end ends.records b (for_b.gate ∷ for_b.rest) (drop (base_of area) bytes) ends.bytes_are
      for_b.bytes_are)

  -- where no record stands behind an open gate, it holds none either
  breaks_hold_none : (at : ℕ) (b : List Record) → BreaksIn bytes area at → HoldsIn bytes area b → ⊥
  breaks_hold_none at b breaks for_b = no_gap (reverse breaks.records) (reverse b) for_b.gate breaks.rest
      for_b.rest (good-reverse breaks.records breaks.in_grammar) (good-reverse b for_b.in_grammar) breaks.none
      for_b.closed (cancel breaks.records b (1 ∷ breaks.rest) (for_b.gate ∷ for_b.rest)
      (drop (base_of area) bytes) breaks.bytes_are for_b.bytes_are)

  -- the bytes of an area do not both end at a gate and break behind one
  pub not_both : (at other : ℕ) → EndsIn bytes area at → BreaksIn bytes area other → ⊥
  not_both at other ends breaks = no_end_gap (reverse ends.records) (reverse breaks.records) breaks.rest
      (good-reverse ends.records ends.in_grammar) (good-reverse breaks.records breaks.in_grammar) breaks.none
      (cancel_end ends.records breaks.records (1 ∷ breaks.rest) (drop (base_of area) bytes) ends.bytes_are
      breaks.bytes_are)

  ends_once : (at other : ℕ) → EndsIn bytes area at → EndsIn bytes area other → at ≡ other
  ends_once at other a b = omega (arith, a.place, b.place, ap length a.bytes_are, ap length b.bytes_are)

  breaks_once : (at other : ℕ) → BreaksIn bytes area at → BreaksIn bytes area other → at ≡ other
  breaks_once at other a b =
      let same = same_gap (reverse a.records) (reverse b.records) a.rest b.rest
      (good-reverse a.records a.in_grammar) (good-reverse b.records b.in_grammar) a.none b.none
      (cancel a.records b.records (1 ∷ a.rest) (1 ∷ b.rest) (drop (base_of area) bytes) a.bytes_are
      b.bytes_are) in
      omega (arith, a.place, b.place, same, ap length (in_order a.records), ap length (in_order b.records))

  -- an area fails at one place at most
  fails_once : (at other : ℕ) → EndsIn bytes area at ⊎ BreaksIn bytes area at →
      EndsIn bytes area other ⊎ BreaksIn bytes area other → at ≡ other
  fails_once at other (inl x) (inl y) = ends_once at other x y
  fails_once at other (inl x) (inr y) = absurd (not_both at other x y)
  fails_once at other (inr x) (inl y) = absurd (not_both other at y x)
  fails_once at other (inr x) (inr y) = breaks_once at other x y

-- ---- the active area

one_switch : (s t : ℕ) → magic_front ++ s ∷ [] ≡ magic_front ++ t ∷ [] → s ≡ t
one_switch s t e = cc

-- one area is named
pub one_name : (bytes : List ℕ) (a b : Area) → IsSwitched bytes a → IsSwitched bytes b → a ≡ b
one_name bytes a b s t = sym s.names
    ∙ ap area_of (one_switch s.switch t.switch (sym s.front ∙ t.front)) ∙ t.names

-- bytes stand for one list of records, in one area
pub one_meaning : (bytes : List ℕ) (a b : Area) (rs qs : List Record) → StandsActive bytes a rs →
    StandsActive bytes b qs → (a ≡ b) × (rs ≡ qs)
one_meaning bytes a b rs qs s t =
    let same = one_name bytes a b s.active t.active in
    (same, one_held bytes b rs qs (subst (λ (x : Area). HoldsIn bytes x rs) same s.holds) t.holds)

-- whatever the area
pub one_list : (bytes : List ℕ) (rs qs : List Record) → StandsFor bytes rs → StandsFor bytes qs → rs ≡ qs
one_list bytes rs qs s t = (one_meaning bytes s.0 t.0 rs qs s.1 t.1).1

-- bytes that are bad at some place stand for no records
pub bad_is_none : (bytes : List ℕ) (at : ℕ) (area : Area) (rs : List Record) → IsBadAt bytes at →
    StandsActive bytes area rs → ⊥
bad_is_none bytes at area rs (inl start) s = start.0 s.active.switch s.active.front
bad_is_none bytes at area rs (inr fails) s =
    let same = one_name bytes area fails.area s.active fails.active in
    let holds = subst (λ (x : Area). HoldsIn bytes x rs) same s.holds in
    elim fails.fails [
      | inl ends ↦ ends_hold_none bytes fails.area at rs ends holds
      | inr breaks ↦ breaks_hold_none bytes fails.area at rs breaks holds
    ]

-- bytes are bad at one place at most
pub one_place : (bytes : List ℕ) (at other : ℕ) → IsBadAt bytes at → IsBadAt bytes other → at ≡ other
one_place bytes at other (inl a) (inl b) = a.1 ∙ sym b.1
one_place bytes at other (inl a) (inr b) = absurd (a.0 b.active.switch b.active.front)
one_place bytes at other (inr a) (inl b) = absurd (b.0 a.active.switch a.active.front)
one_place bytes at other (inr a) (inr b) =
    let same = one_name bytes b.area a.area b.active a.active in
    fails_once bytes a.area at other a.fails
    (subst (λ (x : Area). EndsIn bytes x other ⊎ BreaksIn bytes x other) same b.fails)

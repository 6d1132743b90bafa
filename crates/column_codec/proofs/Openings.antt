-- Each seen block opens to something, so rows that some blocks carry are accepted whatever the others open
-- to.
use Rattle.column_codec.proofs.Words.{zero, nat_eq, nat_le, ◌⊎◌, arith, ap, refl, get_or, subst, inl, inr, range_with_len, length-append, length-drop, get_or_default, length-range_with_len, Apart, agree_over, is_seen_over, value, agree, is_seen, trim, interpolate, upto, Profile, Opens, OpensToNone, Accepts, Apart-range, Object, stripe_symbols, points, SeenBlock, bare, OpensTo, AllOpen, AcceptsRow, GivesSymbols, symbol_in, opened_at, opened_of, AreOpened, HasRow}
use Rattle.std.specs.Prelude.{◌≡◌, ℕ, suc, ◌+◌, ◌<◌, ◌≤◌, Bool, true, false, cond, List, [], ◌∷◌, ◌++◌, length, map, drop, Option, None, Some, if◌then◌else◌}
use Rattle.std.proofs.Common.{eqb-true}
use Rattle.algebra_laws.proofs.Apart.{Apart-front}
use Rattle.column_codec.proofs.Choices.{AcceptsNoneFrom, Apart-next, Apart-with, full_accepts, full_accepts_none, few_left, absent_accepts_none, present_accepts_none}
use Rattle.column_codec.proofs.OpenLemmas.{seen-map, all-open, gives}

-- some polynomial that goes on from chosen symbols is accepted, or none is
abbrev Decided : List ℕ → List (Option ℕ) → ℕ → ℕ → ℕ → List ℕ → List ℕ → Type 0
Decided points seen l b at xs ys = ((p : List ℕ) × Accepts points seen l b p) ⊎
    AcceptsNoneFrom points seen l b at (record { points = xs; symbols = ys })

-- where enough are chosen
decide_full : (points : List ℕ) (seen : List (Option ℕ)) (l b at : ℕ) (xs ys : List ℕ) → Apart xs →
    length xs ≡ l → length ys ≡ length xs → Decided points seen l b at xs ys
decide_full points seen l b at xs ys apart is pairs =
    go (nat_le (length points) (agree (trim (interpolate xs ys)) points seen + b)) refl
  where
    go : (t : Bool) → nat_le (length points) (agree (trim (interpolate xs ys)) points seen + b) ≡ t →
        Decided points seen l b at xs ys
    go true enough = inl (
      trim (interpolate xs ys),
      full_accepts points seen l b xs ys is pairs (grind (arith, enough)),
    )
    go false short = inr (full_accepts_none points seen l b at xs ys apart is pairs (grind (arith, short)))

-- a place more is looked at
decide_place : (points : List ℕ) (seen : List (Option ℕ)) (l b at : ℕ) (xs ys : List ℕ) → at < length points →
    length points ≡ length seen → length ys ≡ length xs →
    ((y : ℕ) → Decided points seen l b (at + 1) (xs ++ get_or points at 0 ∷ []) (ys ++ y ∷ [])) →
    Decided points seen l b (at + 1) xs ys →
    (s : Option ℕ) → get_or seen at None ≡ s → Decided points seen l b at xs ys
decide_place points seen l b at xs ys inside even pairs chosen (inl found) s is = inl found
decide_place points seen l b at xs ys inside even pairs chosen (inr skipped) None is =
    inr (absent_accepts_none points seen l b at (record { points = xs; symbols = ys }) None inside even is
    skipped)
decide_place points seen l b at xs ys inside even pairs chosen (inr skipped) (Some y) is = go (chosen y)
  where
    go : Decided points seen l b (at + 1) (xs ++ get_or points at 0 ∷ []) (ys ++ y ∷ []) →
        Decided points seen l b at xs ys
    go (inl found) = inl found
    go (inr none) = inr (present_accepts_none points seen l b at (get_or points at 0) y xs ys None inside even
        pairs (get_or_default points at 0 (get_or points at 0) inside) is none skipped)

decide : (points : List ℕ) (seen : List (Option ℕ)) (l b at left : ℕ) (xs ys : List ℕ) →
    left + at ≡ length points → length points ≡ length seen → l + b ≤ length points →
    Apart (xs ++ drop at points) → length ys ≡ length xs → length xs ≤ l → Decided points seen l b at xs ys
decide points seen l b at zero xs ys count even room apart pairs few = go (nat_eq (length xs) l) refl
  where
    go : (t : Bool) → nat_eq (length xs) l ≡ t → Decided points seen l b at xs ys
    go true same = decide_full points seen l b at xs ys (Apart-front xs (drop at points) apart)
        (eqb-true (length xs) l same) pairs
    go false differ =
        let less : length xs < l = grind (arith, differ, few) in
        inr (few_left points seen l b at (record { points = xs; symbols = ys })
        (omega (arith, less, room, count, length-drop at points)))
decide points seen l b at (suc left) xs ys count even room apart pairs few =
    go (λ less y. decide points seen l b (at + 1) left (xs ++ get_or points at 0 ∷ []) (ys ++ y ∷ [])
    (omega (arith, count)) even room (Apart-with xs points at (get_or points at 0) inside
    (get_or_default points at 0 (get_or points at 0) inside) apart)
    (omega (arith, pairs, length-append xs (get_or points at 0 ∷ []), length-append ys (y ∷ [])))
    (omega (arith, less, length-append xs (get_or points at 0 ∷ []))))
    (decide points seen l b (at + 1) left xs ys (omega (arith, count)) even room
    (Apart-next xs points at inside apart) pairs few) (nat_eq (length xs) l) refl
  where
    inside : at < length points
    inside = omega (arith, count)

    go : (length xs < l → (y : ℕ) →
        Decided points seen l b (at + 1) (xs ++ get_or points at 0 ∷ []) (ys ++ y ∷ [])) →
        Decided points seen l b (at + 1) xs ys →
        (t : Bool) → nat_eq (length xs) l ≡ t → Decided points seen l b at xs ys
    go chosen skipped true same = decide_full points seen l b at xs ys (Apart-front xs (drop at points) apart)
        (eqb-true (length xs) l same) pairs
    go chosen skipped false differ = decide_place points seen l b at xs ys inside even pairs
        (chosen (grind (arith, differ, few))) skipped (get_or seen at None) refl

-- as many present symbols as symbols
length-some : (block : List ℕ) → length (map Some block) ≡ length block
length-some [] = refl
length-some (x ∷ block) = ap suc (length-some block)

-- a block of the size is near to a polynomial, or to none
decide_block : (profile : Profile) (block : List ℕ) → profile.keep + profile.fix ≤ profile.size →
    length block ≡ profile.size → ((opened : List ℕ) × Opens profile block opened) ⊎ OpensToNone profile block
decide_block profile block room whole = go (decide points (map Some block) profile.keep profile.fix 0
    (length points) [] [] (omega arith) (omega (arith, many, whole, length-some block))
    (omega (arith, many, room)) (Apart-range 0 profile.size) refl (omega arith))
  where
    points : List ℕ
    points = upto profile.size

    many : length points ≡ profile.size
    many = length-range_with_len 0 profile.size

    go : Decided points (map Some block) profile.keep profile.fix 0 [] [] →
        ((opened : List ℕ) × Opens profile block opened) ⊎ OpensToNone profile block
    go (inl found) = inl (
      map (value found.0) points,
      record {
        polynomial = found.0;
        near = record { whole = whole; decodes = record { short = found.1.degree; near = found.1.agrees } };
        opened_is = refl;
      },
    )
    go (inr none) = inr (λ p near.
        none.none p (record { degree = near.decodes.short; agrees = near.decodes.near }) tt
        (omega (arith, near.decodes.near)))

-- each seen block opens to something
pub opens-something : (o : Object) (j stripe : ℕ) (seen : SeenBlock) →
    o.profile.keep + o.profile.fix ≤ o.profile.size → (opened : SeenBlock) × OpensTo o j stripe seen opened
opens-something o j stripe None room = (None, refl)
opens-something o j stripe (Some block) room =
    go (nat_eq (length (bare o j stripe block)) o.profile.size) refl
  where
    found : ((opened : List ℕ) × Opens o.profile (bare o j stripe block) opened) ⊎
        OpensToNone o.profile (bare o j stripe block) →
        (opened : SeenBlock) × OpensTo o j stripe (Some block) opened
    found (inl near) = (Some near.0, near.1)
    found (inr none) = (None, none)

    go : (t : Bool) → nat_eq (length (bare o j stripe block)) o.profile.size ≡ t →
        (opened : SeenBlock) × OpensTo o j stripe (Some block) opened
    go true same = found (decide_block o.profile (bare o j stripe block) room
        (eqb-true (length (bare o j stripe block)) o.profile.size same))
    go false differ = (None, λ p near. absurd (grind (arith, differ, near.whole)))

-- symbols that are present in place of absent ones agree no less often
agree-more : (p places : List ℕ) (f g : ℕ → Option ℕ) (a n : ℕ) → ((k : ℕ) → (f k ≡ None) ⊎ (f k ≡ g k)) →
    agree p places (map f (range_with_len a n)) ≤ agree p places (map g (range_with_len a n))
unfolding agree_over is_seen_over
agree-more p [] f g a n each = omega arith
agree-more p (x ∷ places) f g a zero each = omega arith
agree-more p (x ∷ places) f g a (suc n) each = go (each a) (agree-more p places f g (a + 1) n each)
  where
    go : (f a ≡ None) ⊎ (f a ≡ g a) →
        agree p places (map f (range_with_len (a + 1) n)) ≤ agree p places
        (map g (range_with_len (a + 1) n)) →
        cond (is_seen (value p x) (f a)) 1 0 + agree p places (map f (range_with_len (a + 1) n)) ≤ cond
        (is_seen (value p x) (g a)) 1 0 + agree p places (map g (range_with_len (a + 1) n))
    go (inl none) rest =
        let zero_here : ◌≡◌ {A = ℕ} (cond (is_seen (value p x) (f a)) 1 0) 0 =
        ap (λ (s : Option ℕ). cond (is_seen (value p x) s) 1 0) none in omega (arith, rest, zero_here)
    go (inr same) rest =
        let same_here : ◌≡◌ {A = ℕ} (cond (is_seen (value p x) (f a)) 1 0)
        (cond (is_seen (value p x) (g a)) 1 0) =
        ap (λ (s : Option ℕ). cond (is_seen (value p x) s) 1 0) same in omega (arith, rest, same_here)

-- what all blocks open to, of which some are marked
module _ (o : Object) (stripe : ℕ) (seen : List SeenBlock) (marks : List Bool) (blocks : List (List ℕ))
    (room : o.profile.keep + o.profile.fix ≤ o.profile.size)
    (long : length seen ≡ o.shape.n) (opened : AreOpened o stripe seen marks blocks) where
  -- a marked block, or what the seen one opens to
  abbrev full : ℕ → SeenBlock
  full k = if get_or marks k false then Some (get_or blocks k [])
      else (opens-something o k stripe (get_or seen k None) room).0

  full-opens : (k : ℕ) → k < length seen → OpensTo o k stripe (get_or seen k None) (full k)
  full-opens k below = go (get_or marks k false) refl
    where
      go : (t : Bool) → get_or marks k false ≡ t →
          OpensTo o k stripe (get_or seen k None)
          (if t then Some (get_or blocks k []) else (opens-something o k stripe (get_or seen k None) room).0)
      go true is = opened k (omega (arith, below, long)) is
      go false is = (opens-something o k stripe (get_or seen k None) room).1

  same_or_none : (place k : ℕ) → (symbol_in place (opened_at marks blocks k) ≡ None) ⊎
      (symbol_in place (opened_at marks blocks k) ≡ symbol_in place (full k))
  same_or_none place k = go (get_or marks k false)
    where
      go : (t : Bool) → (symbol_in place (if t then Some (get_or blocks k []) else None) ≡ None)
          ⊎ (symbol_in place (if t then Some (get_or blocks k []) else None)
          ≡ symbol_in place (if t then Some (get_or blocks k [])
          else (opens-something o k stripe (get_or seen k None) room).0))
      go true = inr refl
      go false = inl refl

  -- an accepted row stays accepted
  still-accepted : (place : ℕ) (p : List ℕ) → AcceptsRow o (opened_of marks blocks o.shape.n) place p →
      AcceptsRow o (map full (upto o.shape.n)) place p
  still-accepted place p is =
      let more = agree-more p (points o) (λ k. symbol_in place (opened_at marks blocks k))
      (λ k. symbol_in place (full k)) 0 o.shape.n (same_or_none place) in
      let before : agree p (points o) (map (λ k. symbol_in place (opened_at marks blocks k)) (upto o.shape.n))
      ≡ agree p (points o) (map (symbol_in place) (opened_of marks blocks o.shape.n)) =
      ap (agree p (points o)) (seen-map place (opened_at marks blocks) (upto o.shape.n)) in
      let after : agree p (points o) (map (λ k. symbol_in place (full k)) (upto o.shape.n))
      ≡ agree p (points o) (map (symbol_in place) (map full (upto o.shape.n))) =
      ap (agree p (points o)) (seen-map place full (upto o.shape.n)) in
      record { degree = is.degree; agrees = omega (arith, is.agrees, more, before, after) }

  -- so the marked blocks give what all do
  pub marked-give : (rows : List ℕ) → length rows ≡ stripe_symbols o →
      ((place : ℕ) → place < o.profile.keep → HasRow o (opened_of marks blocks o.shape.n) place rows) →
      GivesSymbols o stripe seen rows
  marked-give rows size has =
      gives o stripe seen (map full (upto o.shape.n)) rows
      (subst (λ (m : ℕ). AllOpen o stripe 0 seen (map full (upto m))) long (all-open o stripe 0 seen full
      (λ k below. subst (λ (m : ℕ). OpensTo o m stripe (get_or seen k None) (full m))
      (let e : k ≡ 0 + k = omega arith in e) (full-opens k below)))) size
      (λ place within. let h = has place within in
      record { row = h.row; accepted = still-accepted place h.row h.accepted; values = h.values })

-- Choices of symbols, by which it is decided whether some polynomial is accepted: some symbols are chosen,
-- and the places
-- from one on are yet to be looked at.
use Rattle.column_codec.proofs.Words.{get_or, eqb, arith, append_assoc, refl, sym, ◌∙◌, subst, ap, add-one, get_or_read, length-append, drop_more, get_or_default, Each, Apart, nim, nim_laws, agree_over, is_seen-none, is_seen-some, agree_drop, plus_zero, same_values, length-interpolate, interpolate_takes, value, agree, is_seen, trim, interpolate, TakesSymbols, Accepts}
use Rattle.std.proofs.Common.{◌≡◌, ◌≢◌, ◌≤◌, ◌<◌, ◌+◌, ◌++◌, [], ◌∷◌, ℕ, suc, List, length, drop, Option, Some, None, cond, Bool, true, false}
use Rattle.std.proofs.lemmas.Bool.{eqb-true}
use Rattle.algebra_laws.proofs.Trim.{length-trim, value-trim}
use Rattle.algebra_laws.proofs.Agree.{agree_same}

-- chosen symbols, each with its point
pub record Chosen : Type 0 where
  pub points : List ℕ
  pub symbols : List ℕ

-- no accepted polynomial takes the chosen symbols and, with the places from `at` on, agrees with all but b
-- places
pub record AcceptsNoneFrom (points : List ℕ) (seen : List (Option ℕ)) (l b at : ℕ)
    (chosen : Chosen) : Type 0 where
  pub none : (p : List ℕ) → Accepts points seen l b p → TakesSymbols p chosen.points chosen.symbols →
      length points ≤ length chosen.points + agree p (drop at points) (drop at seen) + b → ⊥

-- one place more in the agreements
agree_step : (p xs : List ℕ) (ss : List (Option ℕ)) (k : ℕ) (s : Option ℕ) → k < length xs → k < length ss →
    s ≡ get_or ss k s →
    agree p (drop k xs) (drop k ss) ≡ cond (is_seen (value p (get_or xs k 0)) s) 1 0 + agree p
    (drop (k + 1) xs) (drop (k + 1) ss)
agree_step p xs ss k s h e r = rw add-one (agree_drop nim p xs ss k s h e r)

-- a point may be left out
Apart-skip : (xs ys : List ℕ) (y : ℕ) → Apart (xs ++ y ∷ ys) → Apart (xs ++ ys)
Apart-skip [] ys y h = h.1
Apart-skip (x ∷ xs) ys y h = (each xs h.0, Apart-skip xs ys y h.1)
  where
    each : (us : List ℕ) → Each (λ z. x ≢ z) (us ++ y ∷ ys) → Each (λ z. x ≢ z) (us ++ ys)
    each [] h = h.1
    each (u ∷ us) h = (h.0, each us h.1)

-- the next point may be left out
pub Apart-next : (xs points : List ℕ) (at : ℕ) → at < length points → Apart (xs ++ drop at points) →
    Apart (xs ++ drop (at + 1) points)
Apart-next xs points at lt h = Apart-skip xs (drop (at + 1) points) (get_or points at 0)
    (subst (λ (ys : List ℕ). Apart (xs ++ ys)) (drop_more points at 0 lt) h)

-- the next point may be chosen
pub Apart-with : (xs points : List ℕ) (at x : ℕ) → at < length points → x ≡ get_or points at x →
    Apart (xs ++ drop at points) → Apart (xs ++ x ∷ [] ++ drop (at + 1) points)
Apart-with xs points at x lt read h =
    let is_x : get_or points at 0 ≡ x = sym (get_or_read points at x lt read 0) in
    let rest : drop at points ≡ x ∷ drop (at + 1) points = drop_more points at 0 lt
    ∙ ap (λ (y : ℕ). y ∷ drop (at + 1) points) is_x in
    rw append_assoc (rw rest at h)

-- the polynomial through the chosen symbols is accepted where it agrees often enough
pub full_accepts : (points : List ℕ) (seen : List (Option ℕ)) (l b : ℕ) (xs ys : List ℕ) → length xs ≡ l →
    length ys ≡ length xs → length points ≤ agree (trim (interpolate xs ys)) points seen + b →
    Accepts points seen l b (trim (interpolate xs ys))
full_accepts points seen l b xs ys hx hy enough =
    record {
      degree = omega (
        arith,
        length-trim nim nim_laws (interpolate xs ys),
        length-interpolate nim nim_laws xs ys (omega arith),
      );
      agrees = enough;
    }

-- where it agrees too seldom, no accepted polynomial takes the chosen symbols
pub full_accepts_none : (points : List ℕ) (seen : List (Option ℕ)) (l b at : ℕ) (xs ys : List ℕ) → Apart xs →
    length xs ≡ l → length ys ≡ length xs → agree (trim (interpolate xs ys)) points seen + b < length points →
    AcceptsNoneFrom points seen l b at (record { points = xs; symbols = ys })
full_accepts_none points seen l b at xs ys d hx hy few =
    record {
      none = λ p accepts takes left.
          let same : (x : ℕ) → value p x ≡ value (trim (interpolate xs ys)) x =
          λ x. same_values nim nim_laws p (interpolate xs ys)
          (plus_zero nim nim_laws xs p (interpolate xs ys) d
          (meet p (interpolate xs ys) xs ys takes
          (interpolate_takes nim nim_laws xs ys one_not_zero (omega arith) d))
          (omega (arith, accepts.degree))
          (omega (arith, length-interpolate nim nim_laws xs ys (omega arith)))) x ∙
          sym (value-trim nim nim_laws (interpolate xs ys) x) in
          omega (arith, accepts.agrees, agree_same nim p (trim (interpolate xs ys)) points seen same);
    }
  where
    one_not_zero : ◌≡◌ {A = ℕ} 1 0 → ⊥
    one_not_zero = omega arith

    meet : (p q us ws : List ℕ) → TakesSymbols p us ws → TakesSymbols q us ws →
        Each (λ x. value p x ≡ value q x) us
    meet p q [] ws h k = tt
    meet p q (u ∷ us) [] h k = absurd h
    meet p q (u ∷ us) (w ∷ ws) h k = (h.0 ∙ sym k.0, meet p q us ws h.1 k.1)

-- no more agreements than places
agree_at_most : (p xs : List ℕ) (ss : List (Option ℕ)) → agree p xs ss ≤ length xs
unfolding agree_over
agree_at_most p [] ss = omega arith
agree_at_most p (x ∷ xs) [] = omega arith
agree_at_most p (x ∷ xs) (s ∷ ss) = at_one (is_seen (value p x) s) (agree_at_most p xs ss)
  where
    at_one : (t : Bool) → agree p xs ss ≤ length xs → cond t 1 0 + agree p xs ss ≤ suc (length xs)
    at_one true h = omega arith
    at_one false h = omega arith

-- where too few places are left, none is accepted
pub few_left : (points : List ℕ) (seen : List (Option ℕ)) (l b at : ℕ) (chosen : Chosen) →
    length chosen.points + length (drop at points) + b < length points →
    AcceptsNoneFrom points seen l b at chosen
few_left points seen l b at chosen few =
    record {
      none = λ p accepts takes left. omega
          (arith, left, few, agree_at_most p (drop at points) (drop at seen));
    }

-- an absent symbol is passed over
pub absent_accepts_none : (points : List ℕ) (seen : List (Option ℕ)) (l b at : ℕ) (chosen : Chosen)
    (d : Option ℕ) → at < length points → length points ≡ length seen →
    get_or seen at d ≡ None → AcceptsNoneFrom points seen l b (at + 1) chosen →
    AcceptsNoneFrom points seen l b at chosen
absent_accepts_none points seen l b at chosen d lt even is_none h =
    record {
      none = λ p accepts takes left. h.none p accepts takes (omega (
        arith,
        left,
        rw (is_seen-none nim (value p (get_or points at 0))) at (agree_step p points seen at None lt
            (omega arith) (sym is_none ∙ get_or_default seen at d None (omega arith))),
      ));
    }

-- one value more is taken
Takes-with : (p xs ys : List ℕ) (x y : ℕ) → length ys ≡ length xs → TakesSymbols p xs ys → value p x ≡ y →
    TakesSymbols p (xs ++ x ∷ []) (ys ++ y ∷ [])
Takes-with p [] [] x y n h e = (e, tt)
Takes-with p [] (b ∷ ys) x y n h e = absurd (omega arith)
Takes-with p (a ∷ xs) [] x y n h e = absurd h
Takes-with p (a ∷ xs) (b ∷ ys) x y n h e = (h.0, Takes-with p xs ys x y (omega arith) h.1 e)

-- a present symbol is chosen or passed over
pub present_accepts_none : (points : List ℕ) (seen : List (Option ℕ)) (l b at x y : ℕ) (xs ys : List ℕ)
    (d : Option ℕ) →
    at < length points → length points ≡ length seen → length ys ≡ length xs → x ≡ get_or points at x →
    get_or seen at d ≡ Some y →
    AcceptsNoneFrom points seen l b (at + 1) (record { points = xs ++ x ∷ []; symbols = ys ++ y ∷ [] }) →
    AcceptsNoneFrom points seen l b (at + 1) (record { points = xs; symbols = ys }) →
    AcceptsNoneFrom points seen l b at (record { points = xs; symbols = ys })
present_accepts_none points seen l b at x y xs ys d lt even same read_x is_some chosen skipped =
    record {
      none = λ p accepts takes left. go p accepts takes left (eqb y (value p (get_or points at 0))) refl;
    }
  where
    read_y : Some y ≡ get_or seen at (Some y)
    read_y = sym is_some ∙ get_or_default seen at d (Some y) (omega arith)

    go : (p : List ℕ) → Accepts points seen l b p → TakesSymbols p xs ys →
        length points ≤ length xs + agree p (drop at points) (drop at seen) + b →
        (t : Bool) → eqb y (value p (get_or points at 0)) ≡ t → ⊥
    go p accepts takes left t e = split t e (rw (
      is_seen-some nim (value p (get_or points at 0)) y,
      e,
    ) at (agree_step p points seen at (Some y) lt (omega arith) read_y))
      where
        split : (t : Bool) → eqb y (value p (get_or points at 0)) ≡ t →
            agree p (drop at points) (drop at seen) ≡ cond t 1 0 + agree p (drop (at + 1) points)
            (drop (at + 1) seen) → ⊥
        split true e step = chosen.none p accepts (Takes-with p xs ys x y same takes
            (cc (eqb-true y (value p (get_or points at 0)) e, get_or_read points at x lt read_x 0)))
            (omega (arith, left, step, length-append xs (x ∷ [])))
        split false e step = skipped.none p accepts takes (omega (arith, left, step))

-- The first short row of Euclid's algorithm on a power of x and the polynomial of the syndromes.
use Rattle.hail_syndrome.proofs.Words.{◌≡◌, ◌≢◌, ◌≤◌, ◌<◌, ◌+◌, ◌-◌, ◌*◌, ℕ, zero, suc, sym, ◌∙◌, ap, subst, refl, arith, List, [], ◌∷◌, length, take, replicate, length-take, length-replicate, Each, FieldOf, IsField, IsEndless, Apart, zero_mul, zero_add, sum_zero, v, o, i, ◌⊞◌, ◌⊡◌, solve, times, Takes, Decodes, FirstRow, value-plus, value-times, length-plus, same_values, value-zero, length-times, length-vanish, vanish_roots, interpolate_takes, AreRows, IsKeyRow, key_row}
use Rattle.algebra_laws.proofs.Inverse.{factor_zero}
use Rattle.algebra_laws.specs.Poly.{value, plus, vanish, interpolate}
use Rattle.algebra_laws.specs.Rows.{Solves}
use Rattle.algebra_laws.proofs.Gao.{row_is_product}
use Rattle.hail_syndrome.proofs.Shift.{power_over, value-nothing, power-at_one, vanish-zeros, short_factor}

-- wherever f is not 0, p takes the value
abbrev pub TakesWhere : {A : Type 0} → FieldOf A → List A → List A → List A → List A → Type 0
TakesWhere F f p [] ys = Unit {0}
TakesWhere F f p (x ∷ xs) [] = Unit {0}
TakesWhere F f p (x ∷ xs) (y ∷ ys) = (value F f x ≢ F.zero → value F p x ≡ y) × TakesWhere F f p xs ys

module _ {A : Type 0} (F : FieldOf A) (laws : IsField F) (endless : IsEndless A) where
  open F use {zero as 𝟘, one as 𝟙, add as ◌⊕◌, mul as ◌⊗◌}

  infixl 60 ◌⊕◌
  infixl 70 ◌⊗◌
  -- the rows that the algorithm begins with, at as many points 0
  begins : (m : ℕ) (S : List A) → length S ≤ m →
      AreRows F (replicate m 𝟘) (replicate m (value F S 𝟘)) (vanish F (replicate m 𝟘))
      (vanish F (replicate m 𝟘)) [] S (𝟙 ∷ [])
  unfolding value
  begins m S few =
      record {
        solves0 = start m (vanish F (replicate m 𝟘)) (vanish_roots F laws (replicate m 𝟘));
        solves1 = taken m;
        cross = λ x. solve laws.ring (value F (vanish F (replicate m 𝟘)) x ∷ value F S x ∷ x ∷ [])
            ((v 0 ⊡ (i ⊞ (v 2 ⊡ o))) ⊞ (v 1 ⊡ o)) (v 0) refl;
        size0 = omega (arith, length-replicate m 𝟘);
        size1 = omega (arith, length-vanish F laws (replicate m 𝟘), length-replicate m 𝟘);
        falls = omega (arith, length-vanish F laws (replicate m 𝟘), length-replicate m 𝟘);
        top = omega (arith, length-vanish F laws (replicate m 𝟘), length-replicate m 𝟘);
      }
    where
      start : (k : ℕ) (w : List A) → Each (λ x. value F w x ≡ 𝟘) (replicate k 𝟘) →
          Solves F w [] (replicate k 𝟘) (replicate k (value F S 𝟘))
      start zero w z = tt
      start (suc k) w z = (z.0 ∙ sym (zero_mul laws.ring (value F S 𝟘)), start k w z.1)

      taken : (k : ℕ) → Solves F S (𝟙 ∷ []) (replicate k 𝟘) (replicate k (value F S 𝟘))
      taken zero = tt
      taken (suc k) = (solve laws.ring (value F S 𝟘 ∷ []) (v 0) ((i ⊞ (o ⊡ o)) ⊡ v 0) refl, taken k)

  module _ (m below : ℕ) (S r f : List A) (few : length S ≤ m) (le : below ≤ m)
      (row : FirstRow F below (power_over F m) [] S (𝟙 ∷ []) r f) where
    -- it is a key row
    key : IsKeyRow F laws (replicate m 𝟘) (replicate m (value F S 𝟘)) (vanish F (replicate m 𝟘)) below r f
    key = key_row F laws (replicate m 𝟘) (replicate m (value F S 𝟘)) (vanish F (replicate m 𝟘))
        (subst (λ (w : List A). FirstRow F below w [] S (𝟙 ∷ []) r f) (sym (vanish-zeros F laws m)) row)
        (begins m S few) (omega (arith, length-vanish F laws (replicate m 𝟘), length-replicate m 𝟘))

    -- its remainder is short
    rest_short : length r ≤ below
    rest_short = key.short

    -- its cofactor is short
    pub factor_short : length f + below ≤ m + 1
    factor_short = omega (arith, key.room, length-replicate m 𝟘)

    module _ (g : List A)
        (combination : (x : A) →
        value F r x ≡ (value F f x ⊗ value F S x) ⊕ (value F g x ⊗ value F (power_over F m) x)) where
      -- its cofactor is not 0
      pub factor_some : Each (λ a. a ≡ 𝟘) f → ⊥
      factor_some z = laws.one_not_zero (sym (power-at_one F laws m)
          ∙ ap (λ (p : List A). value F p 𝟙) (sym (vanish-zeros F laws m)) ∙ nothing 𝟙)
        where
          multiple : (x : A) → value F r x ≡ value F (power_over F m) x ⊗ value F g x
          multiple x = combination x ∙
              cc (
                value-zero F laws f x z,
                zero_mul laws.ring (value F S x),
                zero_add laws.ring (value F g x ⊗ value F (power_over F m) x),
                laws.ring.mul_comm (value F g x) (value F (power_over F m) x),
              )

          none : (x : A) → value F g x ≡ 𝟘
          none x = sym (short_factor F laws endless g r m 0 multiple (omega (arith, rest_short)) x)
              ∙ value-nothing F laws x

          rest_none : (x : A) → value F r x ≡ 𝟘
          rest_none x = multiple x ∙ cc (none x, laws.ring.mul_zero (value F (power_over F m) x))

          nothing : (x : A) → value F (vanish F (replicate m 𝟘)) x ≡ 𝟘
          nothing x = sym (key.crossed.2 x) ∙
              cc (
                value-zero F laws f x z,
                rest_none x,
                laws.ring.mul_zero (value F key.crossed.1 x),
                zero_mul laws.ring (value F key.crossed.0 x),
                laws.ring.add_zero 𝟘,
              )

      module _ (xs ys T : List A) (even : length xs ≡ length ys) (apart : Apart xs)
          (held : length T ≤ length xs)
          (equation : (x : A) → value F (power_over F m) x ⊗ value F (interpolate F xs ys) x
          ≡ (value F S x ⊗ value F (vanish F xs) x) ⊕ value F T x)
          (keep fix : ℕ) (some : 0 < keep) (size : keep + m ≡ length xs) (bound : below + fix ≡ m)
          (double : 2 * fix ≤ m) where
        abbrev I : List A
        I = interpolate F xs ys

        abbrev V : List A
        V = vanish F xs

        abbrev n : ℕ
        n = length xs - fix

        -- the same combination of the interpolating polynomial and the product of all x + point
        abbrev Q : List A
        Q = plus F (times F f I) (times F g V)

        -- what it is, times the power of x
        abbrev w : List A
        w = plus F (times F r V) (times F f T)

        value-Q : (x : A) → value F Q x ≡ (value F f x ⊗ value F I x) ⊕ (value F g x ⊗ value F V x)
        value-Q x = cc (
          value-plus F laws (times F f I) (times F g V) x,
          value-times F laws f I x,
          value-times F laws g V x,
        )

        value-w : (x : A) → value F w x ≡ value F (power_over F m) x ⊗ value F Q x
        value-w x = cc (
          value-plus F laws (times F r V) (times F f T) x,
          value-times F laws r V x,
          value-times F laws f T x,
          combination x,
        ) ∙
            solve laws.ring env (((v 0 ⊡ v 1) ⊞ (v 2 ⊡ v 3)) ⊡ v 4 ⊞ (v 0 ⊡ v 5))
            ((v 0 ⊡ ((v 1 ⊡ v 4) ⊞ v 5)) ⊞ (v 2 ⊡ (v 3 ⊡ v 4))) refl ∙
            ap (λ t. (value F f x ⊗ t) ⊕ (value F g x ⊗ (value F (power_over F m) x ⊗ value F V x)))
            (sym (equation x)) ∙
            solve laws.ring env ((v 0 ⊡ (v 3 ⊡ v 6)) ⊞ (v 2 ⊡ (v 3 ⊡ v 4)))
            (v 3 ⊡ ((v 0 ⊡ v 6) ⊞ (v 2 ⊡ v 4))) refl ∙
            ap (λ t. value F (power_over F m) x ⊗ t) (sym (value-Q x))
          where
            env : List A
            env = value F f x ∷ value F S x ∷ value F g x ∷ value F
                (power_over F m) x ∷ value F V x ∷ value F T x ∷ value F I x ∷ []

        length-w : length w ≤ m + n
        length-w = omega (
          arith,
          length-plus F laws (times F r V) (times F f T),
          length-times F laws r V (length xs) (omega (arith, length-vanish F laws xs)),
          length-times F laws f T (length xs - 1) (omega arith),
          rest_short,
          factor_short,
        )

        value-short : (x : A) → value F (take n Q) x ≡ value F Q x
        value-short = short_factor F laws endless Q w m n value-w length-w

        solves : (us vs : List A) → Takes F I us vs → Each (λ x. value F V x ≡ 𝟘) us →
            Solves F (take n Q) f us vs
        solves [] vs t z = tt
        solves (u ∷ us) [] t z = absurd t
        solves (u ∷ us) (y ∷ vs) t z = (
          value-short u ∙ value-Q u ∙
              cc (t.0, z.0, laws.ring.mul_zero (value F g u), laws.ring.add_zero (value F f u ⊗ y)),
          solves us vs t.1 z.1,
        )

        module _ (p : List A) (is : Decodes F xs ys keep fix p) where
          -- the row is its cofactor times what decodes the values
          is_product : (x : A) → value F (take n Q) x ≡ value F f x ⊗ value F p x
          is_product x =
              same_values F laws (take n Q) (times F f p) (row_is_product F laws (take n Q) f p xs ys n
              (keep - 1) fix apart (solves xs ys (interpolate_takes F laws xs ys laws.one_not_zero even apart)
              (vanish_roots F laws xs)) (omega (arith, length-take n Q)) (omega (arith, factor_short))
              (let a = is.short in omega arith) (omega arith) (omega arith) is.near) x ∙
              value-times F laws f p x

          where_some : (us vs : List A) → Solves F (take n Q) f us vs → TakesWhere F f p us vs
          where_some [] vs s = tt
          where_some (u ∷ us) [] s = tt
          where_some (u ∷ us) (y ∷ vs) s = (here, where_some us vs s.1)
            where
              here : value F f u ≢ 𝟘 → value F p u ≡ y
              here nonzero = sum_zero laws.ring (value F p u) y (factor_zero F laws (value F f u)
                  (value F p u ⊕ y) (laws.ring.mul_add (value F f u) (value F p u) y
                  ∙ cc (sym (is_product u), s.0, laws.ring.add_self (value F f u ⊗ y))) nonzero)

          -- so wherever the cofactor is not 0, it takes the value
          pub takes_where : TakesWhere F f p xs ys
          takes_where = where_some xs ys
              (solves xs ys (interpolate_takes F laws xs ys laws.one_not_zero even apart)
              (vanish_roots F laws xs))

-- The syndromes are all 0 exactly where the values are those of a polynomial of low degree.
use Rattle.hail_syndrome.proofs.Words.{◌≡◌, ◌+◌, ◌++◌, ℕ, zero, suc, sym, ◌∙◌, ap, subst, refl, arith, List, [], ◌∷◌, length, take, reverse, replicate, length-take, length-append, length-replicate, Each, Apart, nim, nim_add, nim_mul, nim_laws, nim_ring, nim_endless, value-plus, zero_from_roots, plus_zero, same_values, length-plus, value-zero, interpolate_takes, vanish_roots, length-interpolate, vanish-monic, cancel, TakesSymbols, values_at, power, syndrome, syndromes_of, AreValues}
use Rattle.code_defs.specs.Polynomials.{value, plus, vanish, interpolate}
use Rattle.hail_syndrome.proofs.Shift.{value-shift, short_factor}
use Rattle.hail_syndrome.proofs.KeyEquation.{tail, length-tail, key_equation, syndromes_more, reversed_more}

-- a number is 0
abbrev pub IsZero : ℕ → Type 0
IsZero a = a ≡ 0

-- what holds of each of two lists holds of each of both in turn
Each-append : (xs ys : List ℕ) → Each IsZero xs → Each IsZero ys → Each IsZero (xs ++ ys)
Each-append [] ys h k = k
Each-append (x ∷ xs) ys h k = (h.0, Each-append xs ys h.1 k)

-- and of the first
Each-append_left : (xs ys : List ℕ) → Each IsZero (xs ++ ys) → Each IsZero xs
Each-append_left [] ys h = tt
Each-append_left (x ∷ xs) ys h = (h.0, Each-append_left xs ys h.1)

-- and of the second
Each-append_right : (xs ys : List ℕ) → Each IsZero (xs ++ ys) → Each IsZero ys
Each-append_right [] ys h = h
Each-append_right (x ∷ xs) ys h = Each-append_right xs ys h.1

-- what takes the values has them
values_of_takes : (p xs ys : List ℕ) → length xs ≡ length ys → TakesSymbols p xs ys → ys ≡ values_at xs p
values_of_takes p [] [] e t = refl
values_of_takes p [] (y ∷ ys) e t = absurd (omega arith)
values_of_takes p (x ∷ xs) [] e t = absurd t
values_of_takes p (x ∷ xs) (y ∷ ys) e t = cc (t.0, values_of_takes p xs ys (omega arith) t.1)

-- two polynomials, of which one takes the values that the other has, meet at the points
meet_values : (p q xs ys : List ℕ) → TakesSymbols p xs ys → ys ≡ values_at xs q →
    Each (λ x. value p x ≡ value q x) xs
meet_values p q [] ys t e = tt
meet_values p q (x ∷ xs) [] t e = absurd t
meet_values p q (x ∷ xs) (y ∷ ys) t e = (cc (t.0, e), meet_values p q xs ys t.1 (cc (e)))

-- a list that ends with 1 is not zero
last_not_zero : (p : List ℕ) → Each IsZero (p ++ 1 ∷ []) → ⊥
last_not_zero [] z = nim_laws.one_not_zero z.0
last_not_zero (a ∷ p) z = last_not_zero p z.1

module _ (xs ys : List ℕ) (even : length xs ≡ length ys) (apart : Apart xs) where
  -- zeros in turn are zeros
  reversed_zero : (m : ℕ) → Each IsZero (syndromes_of xs ys m) → Each IsZero (reverse (syndromes_of xs ys m))
  reversed_zero zero h = tt
  reversed_zero (suc m) h =
      let both : Each IsZero (syndromes_of xs ys m ++ syndrome xs ys m ∷ []) =
      subst (λ (s : List ℕ). Each IsZero s) (syndromes_more xs ys even apart m) h in
      subst (λ (s : List ℕ). Each IsZero s) (sym (reversed_more xs ys even apart m)) (
        (Each-append_right (syndromes_of xs ys m) (syndrome xs ys m ∷ []) both).0,
        reversed_zero m (Each-append_left (syndromes_of xs ys m) (syndrome xs ys m ∷ []) both),
      )

  -- and back
  zero_reversed : (m : ℕ) → Each IsZero (reverse (syndromes_of xs ys m)) → Each IsZero (syndromes_of xs ys m)
  zero_reversed zero h = tt
  zero_reversed (suc m) h =
      let both : Each IsZero (syndrome xs ys m ∷ reverse (syndromes_of xs ys m)) =
      subst (λ (s : List ℕ). Each IsZero s) (reversed_more xs ys even apart m) h in
      subst (λ (s : List ℕ). Each IsZero s) (sym (syndromes_more xs ys even apart m))
      (Each-append (syndromes_of xs ys m) (syndrome xs ys m ∷ []) (zero_reversed m both.1) (both.0, tt))

  interpolate_takes_all : TakesSymbols (interpolate xs ys) xs ys
  interpolate_takes_all = interpolate_takes nim nim_laws xs ys nim_laws.one_not_zero even apart

  module _ (keep m : ℕ) (size : keep + m ≡ length xs) where
    -- where all are 0, the interpolating polynomial has low degree
    pub values_from_zero : Each IsZero (syndromes_of xs ys m) → AreValues xs ys keep
    values_from_zero h = record {
      polynomial = take keep (interpolate xs ys);
      degree = omega (arith, length-take keep (interpolate xs ys));
      values_are = values_of_takes (take keep (interpolate xs ys)) xs ys even
          (front xs ys interpolate_takes_all);
    }
      where
        multiple : (x : ℕ) → value (tail xs ys even apart m) x
            ≡ nim_mul (value (power m) x) (value (interpolate xs ys) x)
        multiple x = sym (key_equation xs ys even apart m x ∙
            cc (
              value-zero nim nim_laws (reverse (syndromes_of xs ys m)) x (reversed_zero m h),
              nim_ring.mul_comm 0 (value (vanish xs) x),
              nim_ring.mul_zero (value (vanish xs) x),
              nim_ring.add_comm 0 (value (tail xs ys even apart m) x),
              nim_ring.add_zero (value (tail xs ys even apart m) x),
            ))

        short : (x : ℕ) → value (take keep (interpolate xs ys)) x ≡ value (interpolate xs ys) x
        short = short_factor nim nim_laws nim_endless (interpolate xs ys) (tail xs ys even apart m) m keep
            multiple (omega (arith, length-tail xs ys even apart m))

        front : (us vs : List ℕ) → TakesSymbols (interpolate xs ys) us vs →
            TakesSymbols (take keep (interpolate xs ys)) us vs
        front [] vs t = tt
        front (u ∷ us) [] t = t
        front (u ∷ us) (y ∷ vs) t = (short u ∙ t.0, front us vs t.1)

    -- where the values are those of a polynomial of low degree, all are 0
    pub zero_from_values : AreValues xs ys keep → Each IsZero (syndromes_of xs ys m)
    zero_from_values is =
        zero_reversed m (cancel nim nim_laws nim_endless (vanish xs) (reverse (syndromes_of xs ys m)) some
        (λ x. nim_ring.mul_comm (value (vanish xs) x) (value (reverse (syndromes_of xs ys m)) x)
        ∙ sym (product x) ∙ value-zero nim nim_laws w x w_zero))
      where
        q : List ℕ
        q = is.polynomial

        shifted : List ℕ
        shifted = replicate m 0 ++ is.polynomial

        w : List ℕ
        w = plus (replicate m 0 ++ is.polynomial) (tail xs ys even apart m)

        some : Each IsZero (vanish xs) → ⊥
        some z = let monic = vanish-monic nim nim_laws xs in
            last_not_zero monic.0 (subst (λ (p : List ℕ). Each IsZero p) monic.1 z)

        same : (x : ℕ) → value (interpolate xs ys) x ≡ value is.polynomial x
        same x = same_values nim nim_laws (interpolate xs ys) is.polynomial
            (plus_zero nim nim_laws xs (interpolate xs ys) is.polynomial apart
            (meet_values (interpolate xs ys) is.polynomial xs ys interpolate_takes_all is.values_are)
            (omega (arith, length-interpolate nim nim_laws xs ys even)) (omega (arith, is.degree))) x

        product : (x : ℕ) → value w x ≡ nim_mul (value (reverse (syndromes_of xs ys m)) x)
            (value (vanish xs) x)
        product x = value-plus nim nim_laws (replicate m 0 ++ is.polynomial) (tail xs ys even apart m) x ∙
            ap (λ t. nim_add t (value (tail xs ys even apart m) x))
            (value-shift nim nim_laws m is.polynomial x ∙ ap (nim_mul (value (power m) x)) (sym (same x))
            ∙ key_equation xs ys even apart m x) ∙
            cc (
              nim_ring.add_assoc (nim_mul (value (reverse (syndromes_of xs ys m)) x) (value (vanish xs) x))
                  (value (tail xs ys even apart m) x) (value (tail xs ys even apart m) x),
              nim_ring.add_self (value (tail xs ys even apart m) x),
              nim_ring.add_zero (nim_mul (value (reverse (syndromes_of xs ys m)) x) (value (vanish xs) x)),
            )

        at_roots : (us : List ℕ) → Each (λ x. value (vanish xs) x ≡ 0) us → Each (λ x. value w x ≡ 0) us
        at_roots [] z = tt
        at_roots (u ∷ us) z = (
          product u ∙ cc (z.0, nim_ring.mul_zero (value (reverse (syndromes_of xs ys m)) u)),
          at_roots us z.1,
        )

        w_zero : Each IsZero w
        w_zero = zero_from_roots nim nim_laws xs w apart (at_roots xs (vanish_roots nim nim_laws xs)) (omega (
          arith,
          length-plus nim nim_laws (replicate m 0 ++ is.polynomial) (tail xs ys even apart m),
          length-append (replicate m 0) is.polynomial,
          length-replicate {A = ℕ} m 0,
          length-tail xs ys even apart m,
          is.degree,
        ))

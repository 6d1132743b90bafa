-- The syndromes and the interpolating polynomial: x^m times it is the polynomial of the syndromes times the
-- product of all x + point,
-- plus the polynomial that takes each value times the m-th power of its point.
use Rattle.hail_syndrome.proofs.Words.{◌≡◌, ◌≢◌, ◌++◌, ◌⊎◌, inl, inr, ℕ, zero, suc, sym, ◌∙◌, ap, refl, arith, List, [], ◌∷◌, length, map, reverse, Bool, true, false, nat_eq, eqb-true, add-one, zero-add, reverse-append, map-range_with_len_more, Each, Apart, zero_mul, one_mul, v, o, i, ◌⊞◌, ◌⊡◌, solve, nim, nim_add, nim_mul, nim_inv, nim_pow, nim_laws, nim_ring, nim_mul_inv, value_over, interpolate_takes, vanish_roots, length-interpolate, TakesSymbols, multiplier, dot, part, gap_not_zero, value-interpolate, power, syndrome, syndromes_of}
use Rattle.std.specs.List.{range_with_len}
use Rattle.code_defs.specs.Polynomials.{value, vanish, interpolate}

-- each value times the m-th power of its point
pub weighted : ℕ → List ℕ → List ℕ → List ℕ
weighted m [] ys = []
weighted m (x ∷ xs) [] = []
weighted m (x ∷ xs) (y ∷ ys) = nim_mul (nim_pow x m) y ∷ weighted m xs ys

-- one for each point
length-weighted : (m : ℕ) (xs ys : List ℕ) → length xs ≡ length ys → length (weighted m xs ys) ≡ length xs
unfolding weighted
length-weighted m [] ys e = refl
length-weighted m (x ∷ xs) [] e = absurd (omega arith)
length-weighted m (x ∷ xs) (y ∷ ys) e = let h = length-weighted m xs ys (omega arith) in omega arith

-- by the power 0 nothing changes
weighted-zero : (xs ys : List ℕ) → length xs ≡ length ys → weighted 0 xs ys ≡ ys
unfolding weighted nim_pow
weighted-zero [] [] e = refl
weighted-zero [] (y ∷ ys) e = absurd (omega arith)
weighted-zero (x ∷ xs) [] e = absurd (omega arith)
weighted-zero (x ∷ xs) (y ∷ ys) e = cc (one_mul nim_ring y, weighted-zero xs ys (omega arith))

-- one summand, of which x times the one and the other are the summand of the syndrome
one_part : (x p h u w y : ℕ) → nim_mul (nim_add x p) h ≡ 1 →
    nim_add (nim_mul x (nim_mul (nim_mul h u) (nim_mul w y)))
    (nim_mul (nim_mul h u) (nim_mul (nim_mul p w) y)) ≡ nim_mul (nim_mul u w) y
one_part x p h u w y e = solve nim_ring (x ∷ p ∷ h ∷ u ∷ w ∷ y ∷ [])
    ((v 0 ⊡ ((v 2 ⊡ v 3) ⊡ (v 4 ⊡ v 5))) ⊞ ((v 2 ⊡ v 3) ⊡ ((v 1 ⊡ v 4) ⊡ v 5)))
    (((v 0 ⊞ v 1) ⊡ v 2) ⊡ ((v 3 ⊡ v 4) ⊡ v 5)) refl ∙
    cc (e, one_mul nim_ring (nim_mul (nim_mul u w) y))

module _ (xs ys : List ℕ) (even : length xs ≡ length ys) (apart : Apart xs) where
  -- the polynomial that takes the values times the m-th powers
  abbrev pub tail : ℕ → List ℕ
  tail m = interpolate xs (weighted m xs ys)

  -- it has as many coefficients as there are points
  pub length-tail : (m : ℕ) → length (tail m) ≡ length xs
  length-tail m = length-interpolate nim nim_laws xs (weighted m xs ys) (sym (length-weighted m xs ys even))

  tail_takes : (m : ℕ) → TakesSymbols (tail m) xs (weighted m xs ys)
  tail_takes m = interpolate_takes nim nim_laws xs (weighted m xs ys) nim_laws.one_not_zero
      (sym (length-weighted m xs ys even)) apart

  -- the sums over points other than x
  parts : (m x : ℕ) (ps vs : List ℕ) → Each (λ p. x ≢ p) ps →
      nim_add (nim_mul x (dot (map (part xs x) ps) (weighted m ps vs)))
      (dot (map (part xs x) ps) (weighted (suc m) ps vs)) ≡
      dot (map (λ p. nim_mul (multiplier p xs) (nim_pow p m)) ps) vs
  unfolding dot weighted nim_pow
  parts m x [] vs out = cc (nim_ring.mul_zero x, nim_ring.add_zero 0)
  parts m x (p ∷ ps) [] out = cc (nim_ring.mul_zero x, nim_ring.add_zero 0)
  parts m x (p ∷ ps) (y ∷ vs) out = solve nim_ring (x ∷ a ∷ A ∷ b ∷ B ∷ [])
      ((v 0 ⊡ (v 1 ⊞ v 2)) ⊞ (v 3 ⊞ v 4)) (((v 0 ⊡ v 1) ⊞ v 3) ⊞ ((v 0 ⊡ v 2) ⊞ v 4)) refl ∙
      cc (
        one_part x p (nim_inv (nim_add x p)) (multiplier p xs) (nim_pow p m) y
            (nim_mul_inv (nim_add x p) (gap_not_zero x p out.0)),
        parts m x ps vs out.1,
      )
    where
      a : ℕ
      a = nim_mul (part xs x p) (nim_mul (nim_pow p m) y)

      A : ℕ
      A = dot (map (part xs x) ps) (weighted m ps vs)

      b : ℕ
      b = nim_mul (part xs x p) (nim_mul (nim_mul p (nim_pow p m)) y)

      B : ℕ
      B = dot (map (part xs x) ps) (weighted (suc m) ps vs)

  -- at one of the points
  inside : (m x s : ℕ) (us vs : List ℕ) → TakesSymbols (tail m) us (weighted m us vs) →
      TakesSymbols (tail (suc m)) us (weighted (suc m) us vs) →
      Each (λ u. value (vanish xs) u ≡ 0) us → length us ≡ length vs →
      Each (λ u. x ≢ u) us ⊎
      (nim_add (nim_mul x (value (tail m) x)) (value (tail (suc m)) x) ≡ nim_mul (value (vanish xs) x) s)
  unfolding weighted nim_pow
  inside m x s [] vs t0 t1 z e = inl tt
  inside m x s (u ∷ us) [] t0 t1 z e = absurd (omega arith)
  inside m x s (u ∷ us) (y ∷ vs) t0 t1 z e =
      go (nat_eq u x) refl (inside m x s us vs t0.1 t1.1 z.1 (omega arith))
    where
      here : u ≡ x → nim_add (nim_mul x (value (tail m) x)) (value (tail (suc m)) x)
          ≡ nim_mul (value (vanish xs) x) s
      here same = ap (λ t. nim_add (nim_mul t (value (tail m) t)) (value (tail (suc m)) t)) (sym same) ∙
          cc (
            t0.0,
            t1.0,
            nim_ring.mul_assoc u (nim_pow u m) y,
            nim_ring.add_self (nim_mul u (nim_mul (nim_pow u m) y)),
            z.0,
            zero_mul nim_ring s,
          ) ∙
          ap (λ t. nim_mul (value (vanish xs) t) s) same

      go : (b : Bool) → nat_eq u x ≡ b →
          Each (λ u. x ≢ u) us ⊎
          (nim_add (nim_mul x (value (tail m) x)) (value (tail (suc m)) x)
          ≡ nim_mul (value (vanish xs) x) s) →
          Each (λ u. x ≢ u) (u ∷ us) ⊎
          (nim_add (nim_mul x (value (tail m) x)) (value (tail (suc m)) x) ≡ nim_mul (value (vanish xs) x) s)
      go true is rest = inr (here (eqb-true u x is))
      go false is (inr h) = inr h
      go false is (inl h) =
          inl (λ same. (let t : nat_eq u x ≡ true = ap (λ n. nat_eq u n) same ∙ nim_laws.eq_refl u in cc), h)

  -- x times the one polynomial and the next
  tail_step : (m x : ℕ) → nim_add (nim_mul x (value (tail m) x)) (value (tail (suc m)) x)
      ≡ nim_mul (value (vanish xs) x) (syndrome xs ys m)
  tail_step m x = go (inside m x (syndrome xs ys m) xs ys (tail_takes m) (tail_takes (suc m))
      (vanish_roots nim nim_laws xs) even)
    where
      go : Each (λ u. x ≢ u) xs ⊎
          (nim_add (nim_mul x (value (tail m) x)) (value (tail (suc m)) x)
          ≡ nim_mul (value (vanish xs) x) (syndrome xs ys m)) →
          nim_add (nim_mul x (value (tail m) x)) (value (tail (suc m)) x)
          ≡ nim_mul (value (vanish xs) x) (syndrome xs ys m)
      go (inr h) = h
      go (inl out) = cc (
        value-interpolate xs (weighted m xs ys) x (sym (length-weighted m xs ys even)) apart out,
        value-interpolate xs (weighted (suc m) xs ys) x (sym (length-weighted (suc m) xs ys even)) apart out,
      ) ∙
          solve nim_ring (x ∷ value (vanish xs) x ∷ dot (map (part xs x) xs) (weighted m xs ys) ∷ dot
          (map (part xs x) xs) (weighted (suc m) xs ys) ∷ [])
          ((v 0 ⊡ (v 1 ⊡ v 2)) ⊞ (v 1 ⊡ v 3)) (v 1 ⊡ ((v 0 ⊡ v 2) ⊞ v 3)) refl ∙
          ap (nim_mul (value (vanish xs) x)) (parts m x xs ys out)

  -- one syndrome more
  pub syndromes_more : (m : ℕ) → syndromes_of xs ys (suc m) ≡ syndromes_of xs ys m ++ syndrome xs ys m ∷ []
  syndromes_more m = ap (λ n. map (syndrome xs ys) (range_with_len 0 n)) (sym (add-one m))
      ∙ map-range_with_len_more (syndrome xs ys) 0 m m (zero-add m)

  -- it comes first in their polynomial
  pub reversed_more : (m : ℕ) → reverse (syndromes_of xs ys (suc m))
      ≡ syndrome xs ys m ∷ reverse (syndromes_of xs ys m)
  reversed_more m = ap reverse (syndromes_more m)
      ∙ reverse-append (syndromes_of xs ys m) (syndrome xs ys m ∷ [])

  -- the key equation
  pub key_equation : (m x : ℕ) →
      nim_mul (value (power m) x) (value (interpolate xs ys) x) ≡
      nim_add (nim_mul (value (reverse (syndromes_of xs ys m)) x) (value (vanish xs) x)) (value (tail m) x)
  unfolding value_over
  key_equation zero x = ap (λ t. nim_mul (nim_add 1 (nim_mul x 0)) (value (interpolate xs t) x))
      (sym (weighted-zero xs ys even)) ∙
      solve nim_ring (x ∷ value (tail 0) x ∷ value (vanish xs) x ∷ []) ((i ⊞ (v 0 ⊡ o)) ⊡ v 1)
      ((o ⊡ v 2) ⊞ v 1) refl
  key_equation (suc m) x = solve nim_ring (x ∷ value (power m) x ∷ value (interpolate xs ys) x ∷ [])
      ((o ⊞ (v 0 ⊡ v 1)) ⊡ v 2) (v 0 ⊡ (v 1 ⊡ v 2)) refl ∙
      ap (nim_mul x) (key_equation m x) ∙
      solve nim_ring env (v 0 ⊡ ((v 1 ⊡ v 2) ⊞ v 3)) (((v 0 ⊡ v 1) ⊡ v 2) ⊞ (((v 0 ⊡ v 3) ⊞ v 4) ⊞ v 4)) refl
      ∙
      ap (λ t. nim_add (nim_mul (nim_mul x S) (value (vanish xs) x)) (nim_add t (value (tail (suc m)) x)))
      (tail_step m x) ∙
      solve nim_ring env (((v 0 ⊡ v 1) ⊡ v 2) ⊞ ((v 2 ⊡ v 5) ⊞ v 4)) (((v 5 ⊞ (v 0 ⊡ v 1)) ⊡ v 2) ⊞ v 4) refl
      ∙
      ap (λ p. nim_add (nim_mul (value p x) (value (vanish xs) x)) (value (tail (suc m)) x))
      (sym (reversed_more m))
    where
      S : ℕ
      S = value (reverse (syndromes_of xs ys m)) x

      env : List ℕ
      env = x ∷ S ∷ value (vanish xs) x ∷ value (tail m) x ∷ value (tail (suc m)) x ∷ syndrome xs ys m ∷ []

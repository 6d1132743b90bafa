-- Gao's decoder is exact.
use Rattle.algebra_laws.proofs.Words.{◌≡◌, ◌≢◌, ◌≤◌, ◌<◌, ◌+◌, ◌-◌, ℕ, ◌∙◌, refl, arith, List, [], ◌∷◌, length, Each, FieldOf, IsField, Apart, IsEndless, Decodes, Takes, value, times, trim, vanish, interpolate, FirstRow, Solves}
use Rattle.algebra_laws.proofs.Ring.{zero_mul}
use Rattle.algebra_laws.proofs.Solve.{v, o, i, ◌⊞◌, ◌⊡◌, solve}
use Rattle.algebra_laws.proofs.Roots.{same_values}
use Rattle.algebra_laws.proofs.Values.{value-times}
use Rattle.algebra_laws.proofs.Trim.{value-trim, length-trim}
use Rattle.algebra_laws.proofs.Interpolate.{length-vanish, length-interpolate, vanish_roots, interpolate_takes}
use Rattle.algebra_laws.proofs.Gao.{row_is_product}
use Rattle.algebra_laws.proofs.Euclid.{AreRows, IsKeyRow, key_row, quotient_is}

module _ {A : Type 0} (F : FieldOf A) (laws : IsField F) (endless : IsEndless A) where
  open F use {zero as 𝟘, one as 𝟙, add as ◌⊕◌, mul as ◌⊗◌}

  infixl 60 ◌⊕◌
  infixl 70 ◌⊗◌
  -- the rows that the algorithm begins with
  pub first_rows : (points values : List A) → 𝟙 ≢ 𝟘 → length points ≡ length values → Apart points →
      AreRows F points values (vanish F points) (vanish F points) [] (trim F (interpolate F points values))
      (𝟙 ∷ [])
  unfolding value
  first_rows points values one even d =
      record {
        solves0 = start points values (vanish F points) even (vanish_roots F laws points);
        solves1 = taken points values (interpolate F points values)
            (interpolate_takes F laws points values one even d);
        cross = λ x. solve laws.ring
            (value F (vanish F points) x ∷ value F (trim F (interpolate F points values)) x ∷ x ∷ [])
            ((v 0 ⊡ (i ⊞ (v 2 ⊡ o))) ⊞ (v 1 ⊡ o)) (v 0) refl;
        size0 = omega (
          arith,
          length-trim F laws (interpolate F points values),
          length-interpolate F laws points values even,
        );
        size1 = omega (arith, length-vanish F laws points);
        falls = omega (
          arith,
          length-vanish F laws points,
          length-trim F laws (interpolate F points values),
          length-interpolate F laws points values even,
        );
        top = omega (arith, length-vanish F laws points);
      }
    where
      start : (xs ys w : List A) → length xs ≡ length ys → Each (λ x. value F w x ≡ 𝟘) xs →
          Solves F w [] xs ys
      start [] ys w e z = tt
      start (x ∷ xs) [] w e z = absurd (omega arith)
      start (x ∷ xs) (y ∷ ys) w e z = (cc (z.0, zero_mul laws.ring y), start xs ys w (omega arith) z.1)

      taken : (xs ys p : List A) → Takes F p xs ys → Solves F (trim F p) (𝟙 ∷ []) xs ys
      taken [] ys p t = tt
      taken (x ∷ xs) [] p t = t
      taken (x ∷ xs) (y ∷ ys) p t = (
        value-trim F laws p x ∙ t.0 ∙ solve laws.ring (x ∷ y ∷ []) (v 1) ((i ⊞ (v 0 ⊡ o)) ⊡ v 1) refl,
        taken xs ys p t.1,
      )

  -- if a polynomial decodes, the row is its cofactor times that polynomial, and no other is its quotient
  pub decode_exact : {r f : List A} (points values : List A) (keep fix below : ℕ) → 𝟙 ≢ 𝟘 →
      length points ≡ length values → Apart points →
      FirstRow F below (vanish F points) [] (trim F (interpolate F points values)) (𝟙 ∷ []) r f →
      fix + keep ≤ below → below + fix ≤ length points → 0 < keep → (p : List A) →
      Decodes F points values keep fix p →
      ((x : A) → value F r x ≡ value F f x ⊗ value F p x) ×
      ((q : List A) → ((x : A) → value F r x ≡ value F f x ⊗ value F q x) → (x : A) →
      value F q x ≡ value F p x)
  decode_exact {r} {f} points values keep fix below one even d row wide narrow some p is = (
    (λ x. same_values F laws r (times F f p) (row_is_product F laws r f p points values below (keep - 1) fix d
        key.row key.short (let a = key.room in omega arith) (let a = is.short in omega arith) (omega arith)
        narrow is.near) x ∙
        value-times F laws f p x),
    (λ q hq x. quotient_is F laws endless points values below (keep - 1) fix r f p q one d (omega arith) key
        (let a = is.short in omega arith) (omega arith) narrow is.near hq x),
  )
    where
      key : IsKeyRow F laws points values (vanish F points) below r f
      key = key_row F laws points values (vanish F points) row (first_rows points values one even d)
          (omega (arith, length-vanish F laws points))

-- The rows of Euclid's algorithm on the product of all x + point and the interpolating polynomial.
use Rattle.algebra_laws.proofs.Words.{◌≡◌, ◌≢◌, ◌≤◌, ◌<◌, ◌+◌, ◌++◌, ℕ, suc, sym, ◌∙◌, ap, subst, refl, arith, List, [], ◌∷◌, length, Some, map, Each, FieldOf, IsField, Apart, IsEndless, value, plus, times, trim, agree, vanish, root_times, FirstRow, here, next, Solves}
use Rattle.algebra_laws.proofs.Solve.{v, ◌⊞◌, ◌⊡◌, solve}
use Rattle.algebra_laws.proofs.Roots.{zero_from_roots, same_values, value-zero, length-plus}
use Rattle.algebra_laws.proofs.Values.{value-times, value-plus}
use Rattle.algebra_laws.proofs.Trim.{value-trim, length-trim}
use Rattle.algebra_laws.proofs.Interpolate.{length-times}
use Rattle.algebra_laws.proofs.Loading.{vanish_step}
use Rattle.algebra_laws.proofs.Everywhere.{cancel, Each-all}
use Rattle.algebra_laws.proofs.Gao.{row_is_product}

-- what each two rows in turn keep
pub record AreRows {A : Type 0} (F : FieldOf A) (points values whole r0 f0 r1 f1 : List A) : Type 0 where
  pub solves0 : Solves F r0 f0 points values
  pub solves1 : Solves F r1 f1 points values
  pub cross : (x : A) → F.add (F.mul (value F r0 x) (value F f1 x)) (F.mul (value F r1 x) (value F f0 x))
      ≡ value F whole x
  pub size0 : length f0 + length r1 ≤ length points + 2
  pub size1 : length f1 + length r0 ≤ length points + 2
  pub falls : length r1 < length r0
  pub top : length r0 ≤ length points + 1

module _ {A : Type 0} (F : FieldOf A) (laws : IsField F) where
  open F use {zero as 𝟘, one as 𝟙, add as ◌⊕◌, mul as ◌⊗◌}

  infixl 60 ◌⊕◌
  infixl 70 ◌⊗◌
  -- the next row solves the same equations
  next_solves : (r0 f0 r1 f1 r2 f2 q : List A) →
      ((x : A) → value F r0 x ≡ (value F q x ⊗ value F r1 x) ⊕ value F r2 x) →
      ((x : A) → value F f2 x ≡ value F f0 x ⊕ (value F q x ⊗ value F f1 x)) →
      (xs ys : List A) → Solves F r0 f0 xs ys → Solves F r1 f1 xs ys → Solves F r2 f2 xs ys
  next_solves r0 f0 r1 f1 r2 f2 q hr hf [] ys s0 s1 = tt
  next_solves r0 f0 r1 f1 r2 f2 q hr hf (x ∷ xs) [] s0 s1 = s0
  next_solves r0 f0 r1 f1 r2 f2 q hr hf (x ∷ xs) (y ∷ ys) s0 s1 =
      (at_x, next_solves r0 f0 r1 f1 r2 f2 q hr hf xs ys s0.1 s1.1)
    where
      Q : A
      Q = value F q x

      at_x : value F r2 x ≡ value F f2 x ⊗ y
      at_x = solve laws.ring (Q ∷ value F r1 x ∷ value F r2 x ∷ []) (v 2) ((v 0 ⊡ v 1) ⊞ ((v 0 ⊡ v 1) ⊞ v 2))
          refl ∙
          ap (λ t. (Q ⊗ value F r1 x) ⊕ t) (sym (hr x) ∙ s0.0) ∙ ap (λ t. (Q ⊗ t) ⊕ (value F f0 x ⊗ y)) s1.0 ∙
          solve laws.ring (Q ∷ value F f1 x ∷ value F f0 x ∷ y ∷ []) ((v 0 ⊡ (v 1 ⊡ v 3)) ⊞ (v 2 ⊡ v 3))
          ((v 2 ⊞ (v 0 ⊡ v 1)) ⊡ v 3) refl ∙
          ap (λ t. t ⊗ y) (sym (hf x))

  -- the cross product of two rows in turn stays
  next_cross : (R0 F0 R1 F1 R2 F2 Q W : A) → R0 ≡ (Q ⊗ R1) ⊕ R2 → F2 ≡ F0 ⊕ (Q ⊗ F1) →
      (R0 ⊗ F1) ⊕ (R1 ⊗ F0) ≡ W → (R1 ⊗ F2) ⊕ (R2 ⊗ F1) ≡ W
  next_cross R0 F0 R1 F1 R2 F2 Q W hr hf h = ap (λ t. (R1 ⊗ t) ⊕ (R2 ⊗ F1)) hf ∙
      solve laws.ring (Q ∷ R1 ∷ R2 ∷ F0 ∷ F1 ∷ []) ((v 1 ⊡ (v 3 ⊞ (v 0 ⊡ v 4))) ⊞ (v 2 ⊡ v 4))
      ((((v 0 ⊡ v 1) ⊞ v 2) ⊡ v 4) ⊞ (v 1 ⊡ v 3)) refl ∙
      ap (λ t. (t ⊗ F1) ⊕ (R1 ⊗ F0)) (sym hr) ∙ h

  -- the next two rows
  next_rows : (points values whole r0 f0 r1 f1 q r2 f2 : List A) → AreRows F points values whole r0 f0 r1 f1 →
      ((x : A) → value F r0 x ≡ (value F q x ⊗ value F r1 x) ⊕ value F r2 x) →
      length r2 < length r1 → length q + length r1 ≤ length r0 + 1 → f2 ≡ trim F (plus F f0 (times F q f1)) →
      AreRows F points values whole r1 f1 r2 f2
  next_rows points values whole r0 f0 r1 f1 q r2 f2 rows hr lt size hf =
      record {
        solves0 = rows.solves1;
        solves1 = next_solves r0 f0 r1 f1 r2 f2 q hr of_f2 points values rows.solves0 rows.solves1;
        cross = λ x. next_cross (value F r0 x) (value F f0 x) (value F r1 x) (value F f1 x) (value F r2 x)
            (value F f2 x) (value F q x) (value F whole x) (hr x) (of_f2 x) (rows.cross x);
        size0 = let a = rows.size1 in let b = rows.falls in omega arith;
        size1 = of_size f1 refl;
        falls = lt;
        top = let a = rows.top in let b = rows.falls in omega arith;
      }
    where
      of_f2 : (x : A) → value F f2 x ≡ value F f0 x ⊕ (value F q x ⊗ value F f1 x)
      of_f2 x = cc (
        ap (λ p. value F p x) hf,
        value-trim F laws (plus F f0 (times F q f1)) x,
        value-plus F laws f0 (times F q f1) x,
        value-times F laws q f1 x,
      )

      of_size : (g : List A) → f1 ≡ g → length f2 + length r1 ≤ length points + 2
      of_size [] e =
          let n : length f1 ≡ 0 = ap length e in
          omega (
            arith,
            rows.size0,
            rows.top,
            ap length hf,
            length-trim F laws (plus F f0 (times F q f1)),
            length-plus F laws f0 (times F q f1),
            length-times F laws q f1 0 (omega arith),
          )
      of_size (a ∷ g) e =
          let n : length f1 ≡ suc (length g) = ap length e in
          omega (
            arith,
            rows.size0,
            rows.size1,
            ap length hf,
            length-trim F laws (plus F f0 (times F q f1)),
            length-plus F laws f0 (times F q f1),
            length-times F laws q f1 (length g) (omega arith),
          )

  -- what a row below the bound is
  pub record IsKeyRow (points values whole : List A) (below : ℕ) (r f : List A) : Type 0 where
    pub row : Solves F r f points values
    pub short : length r ≤ below
    pub room : length f + below ≤ length points + 1
    pub crossed : (g s : List A) ×
        ((x : A) → (value F s x ⊗ value F f x) ⊕ (value F r x ⊗ value F g x) ≡ value F whole x)

  -- the first short row is a key row
  pub key_row : {below : ℕ} {r0 f0 r1 f1 r f : List A} (points values whole : List A) →
      FirstRow F below r0 f0 r1 f1 r f →
      AreRows F points values whole r0 f0 r1 f1 → below < length r0 → IsKeyRow points values whole below r f
  key_row {below} {r0} {f0} {r1} {f1} points values whole (here le) rows lt =
      record {
        row = rows.solves1;
        short = le;
        room = let a = rows.size1 in omega arith;
        crossed = (f0, r0, rows.cross);
      }
  key_row {below} {r0} {f0} {r1} {f1} points values whole (next q r2 f2 more hr less size hf row) rows lt =
      key_row points values whole row (next_rows points values whole r0 f0 r1 f1 q r2 f2 rows hr less size hf)
      more

  -- a list that ends with 1 is not zero
  last_not_zero : (p : List A) → 𝟙 ≢ 𝟘 → Each (λ a. a ≡ 𝟘) (p ++ 𝟙 ∷ []) → ⊥
  last_not_zero [] one z = one z.0
  last_not_zero (a ∷ p) one z = last_not_zero p one z.1

  -- x + r times what ends with 1 ends with 1
  root_times-monic : (r c : A) (q : List A) → (t : List A) × (root_times F r c (q ++ 𝟙 ∷ []) ≡ t ++ 𝟙 ∷ [])
  unfolding root_times
  root_times-monic r c [] = (((r ⊗ 𝟙) ⊕ c) ∷ [], refl)
  root_times-monic r c (a ∷ q) =
      let t = root_times-monic r a q in (((r ⊗ a) ⊕ c) ∷ t.0, ap (λ s. ((r ⊗ a) ⊕ c) ∷ s) t.1)

  -- its last coefficient is 1
  pub vanish-monic : (rs : List A) → (t : List A) × (vanish F rs ≡ t ++ 𝟙 ∷ [])
  unfolding vanish
  vanish-monic [] = ([], refl)
  vanish-monic (r ∷ rs) =
      let t = vanish-monic rs in
      let s = root_times-monic r 𝟘 t.0 in
      (s.0, sym (vanish_step F laws r rs) ∙ ap (root_times F r 𝟘) t.1 ∙ s.1)

  module _ (endless : IsEndless A) where
    -- the product of all x + point is not zero everywhere
    vanish_somewhere : (rs : List A) → 𝟙 ≢ 𝟘 → ((x : A) → value F (vanish F rs) x ≡ 𝟘) → ⊥
    vanish_somewhere rs one h =
        let m = vanish-monic rs in
        let n : ℕ = length (vanish F rs) in
        let z : Each (λ a. a ≡ 𝟘) (vanish F rs) =
        zero_from_roots F laws (endless.some n) (vanish F rs) (endless.Apart-some n)
        (Each-all F laws endless (λ x. value F (vanish F rs) x ≡ 𝟘) h (endless.some n))
        (omega (arith, endless.length-some n)) in
        last_not_zero m.0 one (subst (λ (p : List A). Each (λ a. a ≡ 𝟘) p) m.1 z)

    roots_of_row : (r f : List A) → Each (λ a. a ≡ 𝟘) f → (xs ys : List A) → Solves F r f xs ys →
        Each (λ x. value F r x ≡ 𝟘) xs
    roots_of_row r f z [] ys s = tt
    roots_of_row r f z (x ∷ xs) [] s = absurd s
    roots_of_row r f z (x ∷ xs) (y ∷ ys) s = (
      cc (s.0, value-zero F laws f x z, laws.ring.mul_comm 𝟘 y, laws.ring.mul_zero y),
      roots_of_row r f z xs ys s.1,
    )

    -- the cofactor is not zero
    pub factor_not_zero : (points values : List A) (below : ℕ) (r f : List A) → 𝟙 ≢ 𝟘 → Apart points →
        below ≤ length points → IsKeyRow points values (vanish F points) below r f → Each (λ a. a ≡ 𝟘) f → ⊥
    factor_not_zero points values below r f one d le key z =
        vanish_somewhere points one (λ x. sym (key.crossed.2 x) ∙
        cc (
          value-zero F laws f x z,
          value-zero F laws r x r_zero,
          laws.ring.mul_zero (value F key.crossed.1 x),
          laws.ring.mul_comm 𝟘 (value F key.crossed.0 x),
          laws.ring.mul_zero (value F key.crossed.0 x),
          laws.ring.add_zero 𝟘,
        ))
      where
        r_zero : Each (λ a. a ≡ 𝟘) r
        r_zero = zero_from_roots F laws points r d (roots_of_row r f z points values key.row)
            (let a = key.short in omega arith)

    -- the polynomial that agrees at all but few places is the quotient of a row by its cofactor
    pub quotient_is : (points values : List A) (below keep fix : ℕ) (r f p q : List A) → 𝟙 ≢ 𝟘 →
        Apart points → below ≤ length points →
        IsKeyRow points values (vanish F points) below r f → length p ≤ suc keep → fix + suc keep ≤ below →
        below + fix ≤ length points → length points ≤ agree F p points (map Some values) + fix →
        ((x : A) → value F r x ≡ value F f x ⊗ value F q x) → (x : A) → value F q x ≡ value F p x
    quotient_is points values below keep fix r f p q one d le key hp wide narrow enough hq = same_values F
        laws q p (cancel F laws endless f (plus F q p) (factor_not_zero points values below r f one d le key)
        (λ x. cc (
          value-plus F laws q p x,
          laws.ring.mul_add (value F f x) (value F q x) (value F p x),
          hq x,
          same_values F laws r (times F f p) (row_is_product F laws r f p points values below keep fix d
              key.row key.short (let a = key.room in omega arith) hp wide narrow enough) x,
          value-times F laws f p x,
          laws.ring.add_self (value F r x),
        )))

-- The theorems of the laws, from the lemmas.
use Rattle.algebra_laws.proofs.Words.{◌≡◌, ◌≢◌, ◌≤◌, ◌+◌, ◌*◌, ℕ, ◌∙◌, arith, List, [], ◌∷◌, length, Option, Some, None, get_or, Each, FieldOf, IsField, Apart, IsEndless, value, vanish, interpolate, Takes, agree, present, trim, quotient, remainder, FirstRow, IsKeyEquation}
use Rattle.algebra_laws.proofs.Roots.{plus_zero}
use Rattle.algebra_laws.proofs.Trim.{trim_same}
use Rattle.algebra_laws.proofs.Agree.{unique}
use Rattle.algebra_laws.proofs.Interpolate.{interpolate_takes, length-vanish}
use Rattle.algebra_laws.proofs.Division.{value-divided}
use Rattle.algebra_laws.proofs.Euclid.{IsKeyRow, key_row, factor_not_zero}
use Rattle.algebra_laws.proofs.Decode.{first_rows}
use Rattle.algebra_laws.proofs.Multiples.{solves_as_multiple}

-- no more symbols are present than there are places
present_le : {A : Type 0} (seen : List (Option A)) → present seen ≤ length seen
unfolding present
present_le [] = omega arith
present_le (None ∷ ss) = let h = present_le ss in omega arith
present_le (Some s ∷ ss) = let h = present_le ss in omega arith

module _ {A : Type 0} (F : FieldOf A) (laws : IsField F) where
  -- polynomials that take the same values meet at the points
  meet_takes : (xs ys p q : List A) → Takes F p xs ys → Takes F q xs ys →
      Each (λ x. value F p x ≡ value F q x) xs
  meet_takes [] ys p q tp tq = tt
  meet_takes (x ∷ xs) [] p q tp tq = absurd tp
  meet_takes (x ∷ xs) (y ∷ ys) p q tp tq = (cc (tp.0, tq.0), meet_takes xs ys p q tp.1 tq.1)

  -- at most one polynomial takes as many values as it has coefficients
  pub one_takes : (points values p q : List A) → Apart points → length p ≤ length points →
      Takes F p points values → length q ≤ length points → Takes F q points values → trim F p ≡ trim F q
  one_takes points values p q d hp tp hq tq =
      trim_same F laws p q (plus_zero F laws points p q d (meet_takes points values p q tp tq) hp hq)

  -- at most one polynomial agrees at all but few places
  pub one_near : (points p q : List A) (seen : List (Option A)) (keep wrong : ℕ) → Apart points →
      length seen ≡ length points →
      keep + 2 * wrong ≤ length points → length p ≤ keep → length points ≤ agree F p points seen + wrong →
      length q ≤ keep → length points ≤ agree F q points seen + wrong → trim F p ≡ trim F q
  one_near points p q seen keep wrong d even enough hp ap hq aq =
      trim_same F laws p q (unique F laws p q points seen keep d hp hq (omega (arith, present_le seen)))

  -- division with remainder by any polynomial but 0
  pub divided : (p d : List A) (m : ℕ) → length d ≡ m + 1 → get_or d m F.zero ≢ F.zero → (x : A) →
      value F p x ≡ F.add (F.mul (value F (quotient F d m (F.inv (get_or d m F.zero)) p) x) (value F d x))
      (value F (remainder F d m (F.inv (get_or d m F.zero)) p) x)
  divided p d m size lead x = value-divided F laws d m (F.inv (get_or d m F.zero)) (omega arith)
      (laws.ring.mul_comm (F.inv (get_or d m F.zero)) (get_or d m F.zero)
      ∙ laws.mul_inv (get_or d m F.zero) lead) p x

  -- the first row of low degree
  pub key_equation : (endless : IsEndless A) (points values r f : List A) (below : ℕ) → Apart points →
      length points ≡ length values → below ≤ length points →
      FirstRow F below (vanish F points) [] (trim F (interpolate F points values)) (F.one ∷ []) r f →
      IsKeyEquation F points values below r f
  key_equation endless points values r f below d even le row =
      let takes = interpolate_takes F laws points values laws.one_not_zero even d in
      let key : IsKeyRow F laws points values (vanish F points) below r f =
      key_row F laws points values (vanish F points) row
      (first_rows F laws endless points values laws.one_not_zero even d)
      (omega (arith, length-vanish F laws points)) in
      let m = solves_as_multiple F laws r f points values d takes key.row in
      record {
        rest_degree = key.short;
        factor_degree = key.room;
        factor_not_zero = factor_not_zero F laws endless points values below r f laws.one_not_zero d le key;
        at_points = key.row;
        multiple = m.0;
        equation = m.1;
      }

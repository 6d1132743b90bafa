-- Rings and fields of characteristic two, in which each element is its own negative: their operations, and
-- their laws.
--
--   IsRing add mul zero one == these are a commutative ring in which x + x = 0 (so that x + y is also x - y)
--   FieldOf A               == operations on the elements A: zero, one, add, mul, inv, and eq, a test of
--                              equality
--   IsField F               == those of F are a field: a ring, 1 is not 0, x * inv x = 1 for x other than 0;
--                              of inv 0 nothing is said
--   Apart xs                == no two places of xs hold equal elements; true of [] and of one element
--   IsEndless A             == for each n a list of n elements of A that are apart: there are infinitely many
use Rattle.std.specs.Prelude.{◌≡◌, ◌≢◌, ℕ, Bool, true, List, [], ◌∷◌, length}
use Rattle.algebra_laws.specs.Lists.{Each}

-- the laws of a commutative ring in which each element is its own negative
pub record IsRing {A : Type 0} (add mul : A → A → A) (zero one : A) : Type 0 where
  pub add_comm : (x y : A) → add x y ≡ add y x
  pub add_assoc : (x y z : A) → add (add x y) z ≡ add x (add y z)
  pub add_zero : (x : A) → add x zero ≡ x
  pub add_self : (x : A) → add x x ≡ zero
  pub mul_comm : (x y : A) → mul x y ≡ mul y x
  pub mul_assoc : (x y z : A) → mul (mul x y) z ≡ mul x (mul y z)
  pub mul_one : (x : A) → mul x one ≡ x
  pub mul_zero : (x : A) → mul x zero ≡ zero
  pub mul_add : (x y z : A) → mul x (add y z) ≡ add (mul x y) (mul x z)

-- the operations of a field whose elements are an A
pub record FieldOf (A : Type 0) : Type 0 where
  pub zero : A
  pub one : A
  pub add : A → A → A
  pub mul : A → A → A
  pub inv : A → A
  pub eq : A → A → Bool

-- the laws of a field: those of a ring, 1 apart from 0, an inverse of each element but 0, and a test of
-- equality
pub record IsField {A : Type 0} (F : FieldOf A) : Type 0 where
  pub ring : IsRing F.add F.mul F.zero F.one
  pub one_not_zero : F.one ≢ F.zero
  pub mul_inv : (x : A) → x ≢ F.zero → F.mul x (F.inv x) ≡ F.one
  pub eq_refl : (x : A) → F.eq x x ≡ true
  pub eq_true : (x y : A) → F.eq x y ≡ true → x ≡ y

-- no two elements are equal
abbrev pub Apart : {A : Type 0} → List A → Type 0
Apart [] = Unit {0}
Apart (x ∷ xs) = Each (λ y. x ≢ y) xs × Apart xs

-- elements that are apart, as many as one likes
pub record IsEndless (A : Type 0) : Type 0 where
  pub some : ℕ → List A
  pub length-some : (n : ℕ) → length (some n) ≡ n
  pub Apart-some : (n : ℕ) → Apart (some n)

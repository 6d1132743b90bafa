-- Plain facts on options and on tests.
use Rattle.algebra_laws.proofs.Words.{◌≡◌, Bool, true, false, cond, ◌⊎◌, Option, Some, None, refl, sym, ◌∙◌, inl, inr, is_some}
use Rattle.std.specs.Option.{option_map}

-- what is some value is not none
pub some-not-none : {X : Type 0} (o : Option X) (x : X) → o ≡ Some x → o ≡ None → ⊥
some-not-none o x a b = let e : None ≡ Some x = sym b ∙ a in cc

-- what is not some value is none
pub is_some-none : {X : Type 0} (o : Option X) → is_some o ≡ false → o ≡ None
is_some-none None h = refl
is_some-none (Some x) h = absurd (let e : true ≡ false = h in cc)

-- a function of a value makes it neither come nor go
pub is_some-option_map : {A B : Type 0} (f : A → B) (o : Option A) → is_some (option_map f o) ≡ is_some o
is_some-option_map f None = refl
is_some-option_map f (Some x) = refl

-- which way a test went
pub cond-cases : {A : Type 0} (b : Bool) (x y z : A) → cond b x y ≡ z →
    ((b ≡ true) × (x ≡ z)) ⊎ ((b ≡ false) × (y ≡ z))
cond-cases true x y z e = inl (refl, e)
cond-cases false x y z e = inr (refl, e)

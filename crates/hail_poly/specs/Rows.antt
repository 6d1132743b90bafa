use Rattle.std.specs.Prelude.{◌≡◌, ◌≤◌, ◌+◌, ◌-◌, ℕ, List, length}
use Rattle.hail_field.specs.Nim.{nim_add, nim_mul}
use Rattle.code_defs.specs.Polynomials.{value}

-- the row (r2, f2) is the row (r0, f0) less a multiple of the row (r1, f1)
pub record Reduces (r0 f0 r1 f1 r2 f2 : List ℕ) : Type 0 where
  pub by : List ℕ
  pub size : length by ≤ length r0 + 1 - length r1
  pub rest : (x : ℕ) → value r0 x ≡ nim_add (nim_mul (value by x) (value r1 x)) (value r2 x)
  pub factor : (x : ℕ) → value f0 x ≡ nim_add (nim_mul (value by x) (value f1 x)) (value f2 x)

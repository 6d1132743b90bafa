-- The steps of the loops of the generator.
use Rattle.code_points.proofs.Words.{◌≡◌, ◌≤◌, ◌<◌, ◌+◌, ◌-◌, ℕ, sym, ap, ◌∙◌, arith, range_with_len, nim, nim_add, nim_mul, nim_laws, nim_ring, value_over, vanish_over, value-vanish, value, vanish, profile_of, size_is}
use Rattle.code_defs.proofs.Points.{range_with_len-step}

-- the product over no points
pub product_start : (x place n : ℕ) → n ≡ 0 → 1 ≡ value (vanish (range_with_len place n)) x
unfolding vanish_over value_over
product_start x place n none = rw none (sym (ap (nim_add 1) (nim_ring.mul_zero x) ∙ nim_ring.add_zero 1))

-- one point more
pub product_step : (x place end : ℕ) → place < end →
    value (vanish (range_with_len place (end - place))) x
    ≡ nim_mul (nim_add place x) (value (vanish (range_with_len (place + 1) (end - (place + 1)))) x)
product_step x place end h = ap (λ ps. value (vanish ps) x) (range_with_len-step place end h)
    ∙ value-vanish nim nim_laws place (range_with_len (place + 1) (end - (place + 1))) x

-- in a row of the table no more symbols are kept than a block has
pub keep_below : (number size keep : ℕ) → size ≡ (profile_of number).size → keep ≡ (profile_of number).keep →
    keep ≤ size
keep_below number size keep is_size is_keep = omega (arith, size_is number)

-- Rounding up.
use Rattle.std.specs.Prelude.{◌≡◌, ℕ, ◌+◌, ◌-◌, ◌*◌, ◌/◌, ◌≤◌, Bool, true, false, nat_lt}
use Rattle.std.proofs.Common.{arith, refl}
use Rattle.std.proofs.Math.Nat.{mul-div-le, mul-le-mul_left, mul-le-mul_right, mul-le-mul}
use Rattle.code_defs.proofs.Profiles.{some_kept}
use Rattle.code_defs.specs.Profiles.{profile_of}

-- a quotient rounded up is at most the number
pub rounded : (b s : ℕ) → 1 ≤ s → (b + (s - 1)) / s ≤ b
rounded b s some = go (nat_lt b q) refl
  where
    q : ℕ
    q = (b + (s - 1)) / s

    go : (t : Bool) → nat_lt b q ≡ t → q ≤ b
    go false is = grind (arith, is)
    go true is =
        let more : b + 1 ≤ q = grind (arith, is) in
        let above : s * (b + 1) ≤ s * q = mul-le-mul_left s more in
        let below : s * q ≤ b + (s - 1) = mul-div-le (b + (s - 1)) s in
        let grows : 1 * b ≤ s * b = mul-le-mul_right b some in
        let split : s * (b + 1) ≡ s * b + s = grind arith in
        absurd (omega (arith, some))

-- a stripe has some bytes
pub stripe_some : (l number keep : ℕ) → 1 ≤ l → keep ≡ (profile_of number).keep → 1 ≤ 16 * l * keep
stripe_some l number keep some e =
    let kept : 1 ≤ keep = omega (arith, e, some_kept number) in
    let wide : 1 ≤ 16 * l = omega (arith, some) in
    let both : 1 * 1 ≤ 16 * l * keep = mul-le-mul wide kept in
    omega (arith, both)

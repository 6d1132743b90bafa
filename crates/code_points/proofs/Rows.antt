-- What the table of profiles has at a number.
use Rattle.code_points.proofs.Words.{◌≡◌, ℕ, zero, suc, refl, ap, arith, profile_of, plain_profile}
use Rattle.std.specs.Prelude.{min}
use Rattle.code_points.specs.declared.profile.Profile.{Profile}

-- a profile is the row of its number
pub plain-own : (p : Profile) → plain_profile p ≡ profile_of p.number
plain-own p = (λ i. record { size = p.size_is i; keep = p.keep_is i; fix = p.fix_is i })

-- a number above the last profile's is that of the last one
pub profile_capped : (p : ℕ) → profile_of (min p 4) ≡ profile_of p
profile_capped zero = refl
profile_capped (suc zero) = refl
profile_capped (suc (suc zero)) = refl
profile_capped (suc (suc (suc zero))) = refl
profile_capped (suc (suc (suc (suc more)))) =
    ap profile_of (let e : min (suc (suc (suc (suc more)))) 4 ≡ 4 = omega arith in e)

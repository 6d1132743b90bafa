use Rattle.hail_poly.proofs.Words.{◌≡◌, ◌≢◌, ◌≤◌, ◌<◌, ◌+◌, ◌-◌, ◌++◌, [], ◌∷◌, ℕ, zero, suc, List, length, take, get_or, refl, arith, take_more, nim, trim, nim_laws, trim-zero_last, trim-last, trim_over}

-- the last coefficient apart
pub last_of : (p : List ℕ) (n : ℕ) → 0 < n → n ≤ length p →
    take n p ≡ take (n - 1) p ++ get_or p (n - 1) 0 ∷ []
last_of p n h e = let same : n - 1 + 1 ≡ n = omega arith in rw same at (take_more p (n - 1) 0 (omega arith))

-- a zero at the end may go
pub trim_step : (p : List ℕ) (n : ℕ) → 0 < n → n ≤ length p → get_or p (n - 1) 0 ≡ 0 →
    trim (take (n - 1) p) ≡ trim (take n p)
trim_step p n h e z =
    cc (last_of p n h e, trim-zero_last nim nim_laws (take (n - 1) p) (get_or p (n - 1) 0) z)

-- a last coefficient that is not zero stays
pub trim_stop : (p : List ℕ) (n : ℕ) → 0 < n → n ≤ length p → get_or p (n - 1) 0 ≢ 0 →
    take n p ≡ trim (take n p)
trim_stop p n h e z = cc (last_of p n h e, trim-last nim nim_laws (take (n - 1) p) (get_or p (n - 1) 0) z)

-- nothing stays as it is
pub trim_none : (p : List ℕ) (n : ℕ) → n ≤ 0 → take n p ≡ trim (take n p)
unfolding trim_over
trim_none p zero h = refl
trim_none p (suc n) h = absurd (omega arith)

-- The steps of `load_key`.
use Rattle.hail_poly.proofs.Words.{◌≡◌, ◌≤◌, ◌<◌, ◌+◌, ◌++◌, [], ◌∷◌, ℕ, List, length, take, set, replicate, reverse, sym, ◌∙◌, ap, refl, arith, take_more_set, take-replicate, length-replicate, length-append, length-reverse, take-append_seam, nim, nim_laws, trim-last, length-trim, trim, Registers, IsLoaded}
use Rattle.hail_poly.specs.Key.{power, key}

-- a 1 behind zeros is a power of x
pub power_made : (zeros : List ℕ) (n m : ℕ) → zeros ≡ replicate m 0 → n < m →
    take (n + 1) (set zeros n 1) ≡ power n
power_made zeros n m is lt =
    rw is (take_more_set (replicate m 0) n 1 (omega (arith, length-replicate {A = ℕ} m 0))
    ∙ ap (λ (p : List ℕ). p ++ 1 ∷ []) (take-replicate n m 0 (omega arith)))

-- it has no zeros at the end
pub power-trimmed : (m : ℕ) → power m ≡ trim (power m)
power-trimmed m = sym (trim-last nim nim_laws (replicate m 0) 1 (omega arith))

-- it has one coefficient more than its exponent
pub length-power : (m : ℕ) → length (power m) ≡ m + 1
length-power m = omega (arith, length-append {A = ℕ} (replicate m 0) (1 ∷ []), length-replicate {A = ℕ} m 0)

-- after load_key, euclid may be called
pub key_loaded : (syndromes : List ℕ) (m size : ℕ) (work : Registers) → length syndromes ≤ m →
    work ≡ record { size = size; whole = power m; rest = key syndromes; factor = 1 ∷ [] } → IsLoaded work
key_loaded syndromes m size work few e = rw e (record {
  shorter = omega (
    arith,
    length-power m,
    length-trim nim nim_laws (reverse syndromes),
    length-reverse syndromes,
  );
  one = refl;
})

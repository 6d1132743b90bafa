use Rattle.hail_poly.proofs.Words.{◌≡◌, ◌≤◌, ◌<◌, ◌+◌, ◌++◌, [], ◌∷◌, ℕ, List, length, drop, take, set, get_or, add-one, nim, nim_add, nim_mul, value, plus, scale, root_times, value-drop, value-past, step_add_scaled, end_add_scaled, step_root_times, end_root_times}

-- one coefficient more in the value
pub value_step : (p : List ℕ) (k x : ℕ) → k < length p →
    value (drop k p) x ≡ nim_add (get_or p k 0) (nim_mul x (value (drop (k + 1) p) x))
value_step p k x h = rw add-one (value-drop nim p k x h)

-- the value past the end
pub value_past : (p : List ℕ) (k x : ℕ) → length p ≤ k → value (drop k p) x ≡ 0
value_past p k x h = value-past nim p k x h

-- one coefficient more in the sum
pub add_scaled_step : (into from : List ℕ) (c k : ℕ) → k < length into → k < length from →
    take k into ++ plus (drop k into) (scale c (drop k from)) ≡
    take (k + 1) (set into k (nim_add (get_or into k 0) (nim_mul c (get_or from k 0)))) ++
    plus (drop (k + 1) (set into k (nim_add (get_or into k 0) (nim_mul c (get_or from k 0)))))
    (scale c (drop (k + 1) from))
add_scaled_step into from c k h e = rw add-one (step_add_scaled nim into from c k h e)

-- all coefficients are added
pub add_scaled_end : (into from : List ℕ) (c k : ℕ) → length from ≤ k → length from ≤ length into →
    take k into ++ plus (drop k into) (scale c (drop k from)) ≡ into
add_scaled_end into from c k h e = end_add_scaled nim into from c k h e

-- one coefficient more in the product with x + r
pub root_times_step : (p : List ℕ) (r carry k : ℕ) → k < length p →
    take k p ++ root_times r carry (drop k p) ≡
    take (k + 1) (set p k (nim_add (nim_mul r (get_or p k 0)) carry)) ++
    root_times r (get_or p k 0) (drop (k + 1) (set p k (nim_add (nim_mul r (get_or p k 0)) carry)))
root_times_step p r carry k h = rw add-one (step_root_times nim p r carry k h)

-- all coefficients are multiplied
pub root_times_end : (p : List ℕ) (r carry k : ℕ) → length p ≤ k →
    take k p ++ root_times r carry (drop k p) ≡ p ++ carry ∷ []
root_times_end p r carry k h = end_root_times nim p r carry k h

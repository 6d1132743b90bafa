-- The stores that an opening decides on: of each provider below a number whose block is off.
use Rattle.scrub_laws.proofs.Words.{◌≡◌, ℕ, zero, suc, ◌+◌, ◌<◌, ◌≤◌, ◌==◌, Bool, true, false, cond, List, [], ◌∷◌, refl, sym, subst, inl, inr, arith, if◌then◌else◌, flat_map, range_with_len, cases_eq, Each, In, each_append, in_left, in_right, upto, Action, Store, cond_false}

module _ (off : ℕ → ℕ) (o t : ℕ) where
  abbrev store_if : ℕ → List Action
  store_if j = if off j == 0 then [] else Store j o t ∷ []

  -- these stores
  abbrev pub stores_off : ℕ → List Action
  stores_off n = flat_map store_if (upto n)

  -- what holds of each store on such a provider
  pub stores-each : (P : Action → Type 0) (n : ℕ) → ((j : ℕ) → j < n → P (Store j o t)) →
      Each P (stores_off n)
  stores-each P n h = range 0 n (omega arith)
    where
      one : (j : ℕ) → j < n → (b : Bool) → Each P (cond b [] (Store j o t ∷ []))
      one j l true = tt
      one j l false = (h j l, tt)

      range : (a m : ℕ) → a + m ≤ n → Each P (flat_map store_if (range_with_len a m))
      range a zero l = tt
      range a (suc m) l = each_append P (store_if a) (flat_map store_if (range_with_len (a + 1) m))
          (one a (omega (arith, l)) (off a == 0)) (range (a + 1) m (omega (arith, l)))

  -- a provider whose block is off has its store
  pub stores-has : (n j : ℕ) → j < n → (off j == 0) ≡ false → In (Store j o t) (stores_off n)
  stores-has n j l f = range 0 n (omega arith) (omega (arith, l))
    where
      range : (a m : ℕ) → a ≤ j → j < a + m → In (Store j o t) (flat_map store_if (range_with_len a m))
      range a zero lo hi = absurd (omega (arith, lo, hi))
      range a (suc m) lo hi = elim (cases_eq a j) [
        | inl same ↦ in_left (store_if a) (flat_map store_if (range_with_len (a + 1) m)) (Store j o t)
            (subst (λ k. In (Store j o t) (store_if k)) (sym same)
            (subst (In (Store j o t)) (sym (cond_false (off j == 0) [] (Store j o t ∷ []) f)) (inl refl)))
        | inr apart ↦ in_right (store_if a) (flat_map store_if (range_with_len (a + 1) m)) (Store j o t)
            (range (a + 1) m (omega (arith, lo, apart)) (omega (arith, hi)))
      ]

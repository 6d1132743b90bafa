-- A block to each of whose symbols one is added.
use Rattle.std.proofs.Common.{◌≡◌, ℕ, zero, suc, ◌+◌, ◌<◌, ◌≤◌, List, [], ◌∷◌, ◌++◌, length, map, take, drop, set, get_or, refl, ap, sym, subst, ◌∙◌, arith}
use Rattle.hail_field.specs.Nim.{nim_add}

-- the symbol is added to those before a place
abbrev pub front_added : ℕ → ℕ → List ℕ → List ℕ
front_added s i xs = map (λ held. nim_add held s) (take i xs) ++ drop i xs

step : (s d : ℕ) (xs : List ℕ) (i : ℕ) → i < length xs →
    set (front_added s i xs) i (nim_add (get_or (front_added s i xs) i d) s) ≡ front_added s (suc i) xs
step s d [] i l = absurd (omega arith)
step s d (x ∷ xs) zero l = refl
step s d (x ∷ xs) (suc i) l = ap (λ (ys : List ℕ). nim_add x s ∷ ys) (step s d xs i (omega arith))

-- one symbol more
pub added_more : (s d v : ℕ) (xs ys : List ℕ) (i : ℕ) → i < length xs → ys ≡ front_added s i xs →
    v ≡ nim_add (get_or ys i d) s → set ys i v ≡ front_added s (i + 1) xs
added_more s d v xs ys i l e sum = subst
    (λ (zs : List ℕ). v ≡ nim_add (get_or zs i d) s → set zs i v ≡ front_added s (i + 1) xs) (sym e) more sum
  where
    more : v ≡ nim_add (get_or (front_added s i xs) i d) s →
        set (front_added s i xs) i v ≡ front_added s (i + 1) xs
    more is = ap (λ (w : ℕ). set (front_added s i xs) i w) is ∙ step s d xs i l
        ∙ ap (λ (k : ℕ). front_added s k xs) (let k : suc i ≡ i + 1 = omega arith in k)

-- all symbols
pub added_all : (s : ℕ) (xs : List ℕ) (i : ℕ) → length xs ≤ i →
    front_added s i xs ≡ map (λ held. nim_add held s) xs
added_all s [] zero l = refl
added_all s [] (suc i) l = refl
added_all s (x ∷ xs) zero l = absurd (omega arith)
added_all s (x ∷ xs) (suc i) l = ap (λ (ys : List ℕ). nim_add x s ∷ ys) (added_all s xs i (omega arith))

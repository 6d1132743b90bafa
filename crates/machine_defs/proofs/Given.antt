-- What the calls of a job gave it, and the parts of a run.
use Rattle.machine_defs.proofs.Words.{◌≡◌, ◌&&◌, refl, ap, sym, ◌∙◌, inl, inr, arith, zero, suc, replicate, cases_Bool, and_from, eq-eqb, eqb-true, option_and_then, get-map_range, block_at, Given, Worked, block_given, blocks_given, symbols_given, Entry, given_to, AreBytes}
use Rattle.std.proofs.Common.{ℕ, ◌<◌, ◌==◌, List, [], ◌∷◌, ◌++◌, length}
use Rattle.code_defs.specs.ServerCode.{differences}
use Rattle.machine_defs.proofs.JobLists.{cond_true, cond_false}

-- one more entry of the job
pub given_to-more : (n : ℕ) (es : List Entry) (g : Given) →
    given_to n (es ++ record { job = n; given = g } ∷ []) ≡ g ∷ given_to n es
given_to-more n [] g = cond_true (n == n) ([] ++ g ∷ []) [] (eq-eqb n n refl)
given_to-more n (e ∷ es) g = elim (cases_Bool (e.job == n)) [
  | inl t ↦ cond_true (e.job == n) (given_to n (es ++ record { job = n; given = g } ∷ []) ++ e.given ∷ [])
      (given_to n (es ++ record { job = n; given = g } ∷ [])) t
      ∙ (ap (λ l. l ++ e.given ∷ []) (given_to-more n es g)
      ∙ ap (λ l. g ∷ l) (sym (cond_true (e.job == n) (given_to n es ++ e.given ∷ []) (given_to n es) t)))
  | inr f ↦ cond_false (e.job == n) (given_to n (es ++ record { job = n; given = g } ∷ []) ++ e.given ∷ [])
      (given_to n (es ++ record { job = n; given = g } ∷ [])) f
      ∙ (given_to-more n es g
      ∙ ap (λ l. g ∷ l) (sym (cond_false (e.job == n) (given_to n es ++ e.given ∷ []) (given_to n es) f)))
]

-- the symbols that were worked out last
pub symbols_given-newest : (o s : ℕ) (symbols : List ℕ) (given : List Given) →
    symbols_given (Worked o s symbols ∷ given) o s ≡ symbols
symbols_given-newest o s symbols given = cond_true ((o == o) && (s == s)) symbols (symbols_given given o s)
    (and_from (o == o) (s == s) (eq-eqb o o refl) (eq-eqb s s refl))

-- the block that a provider gave, among those of all
pub block_at-given : (given : List Given) (n object stripe j : ℕ) → j < n →
    block_at (blocks_given given n object stripe) j ≡ block_given given object stripe j
block_at-given given n object stripe j l =
    ap (λ x. option_and_then (λ block. block) x) (get-map_range (block_given given object stripe) n 0 j l)
    ∙ ap (block_given given object stripe) (omega arith)

-- zeros are bytes
pub zeros-bytes : (n : ℕ) → AreBytes (replicate n 0)
zeros-bytes zero = refl
zeros-bytes (suc n) = zeros-bytes n

-- blocks of one length that differ in no place are one
pub differs-none : (xs ys : List ℕ) → length xs ≡ length ys → differences xs ys ≡ 0 → xs ≡ ys
differs-none [] [] e h = refl
differs-none (x ∷ xs) (y ∷ ys) e h = elim (cases_Bool (x == y)) [
  | inl t ↦ ap (λ a. a ∷ xs) (eqb-true x y t)
      ∙ ap (λ l. y ∷ l) (differs-none xs ys (omega (arith, e))
      (sym (cond_true (x == y) (differences xs ys) (suc (differences xs ys)) t) ∙ h))
  | inr f ↦ absurd (let z : suc (differences xs ys) ≡ 0 =
      sym (cond_false (x == y) (differences xs ys) (suc (differences xs ys)) f) ∙ h in omega (arith, z))
]
differs-none xs ys e h = absurd (omega (arith, e))

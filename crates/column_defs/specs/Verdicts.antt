-- Verdicts on the rounds of an audit. Providers whose count of damage passes a threshold are rebuilt from
-- the others (Bowers, Juels and Oprea, HAIL, 2009); the rule of a verdict is this project's own.
--
--   s.counts, .undecided                 == the sums of an audit so far: how often each provider was counted,
--                                           and how many rounds were undecided
--   Decides o c heard p                  == p decides a round: of degree below l, it agrees with all but b of
--                                           the answers without their mask sums
--   counts_after p points answers counts == the counts after a round that p decides: one more where an answer
--                                           is absent or does not agree
--   Judges o c heard old new             == a round turns these sums into those
--   is_flagged tolerance counts j        == the count of provider j exceeds the tolerance
use Rattle.std.specs.Prelude.{◌≡◌, ◌⊎◌, ℕ, ◌+◌, Bool, List, ◌∷◌, Option, nat_lt, slice_index, if◌then◌else◌}
use Rattle.code_defs.specs.Polynomials.{value, is_seen}
use Rattle.code_defs.specs.DispersalCode.{Accepts, AcceptsNone}
use Rattle.column_defs.specs.Objects.{Object, points}
use Rattle.column_defs.specs.Challenges.{Challenge, bare_answers}

-- the sums of an audit so far: how often each provider was counted, and how many rounds were undecided
pub record Sums : Type 0 where
  pub counts : List ℕ
  pub undecided : ℕ

-- a polynomial of degree below l that agrees with all but b answers of a round
abbrev pub Decides : Object → Challenge → List (Option ℕ) → List ℕ → Type 0
Decides o c heard p = Accepts (points o) (bare_answers o c 0 heard) o.shape.l o.shape.b p

-- no polynomial decides a round
abbrev pub DecidesNone : Object → Challenge → List (Option ℕ) → Type 0
DecidesNone o c heard = AcceptsNone (points o) (bare_answers o c 0 heard) o.shape.l o.shape.b

-- each provider whose answer is absent or does not agree counts one more
abbrev pub counts_after : List ℕ → List ℕ → List (Option ℕ) → List ℕ → List ℕ
counts_after p (x ∷ xs) (answer ∷ more) (n ∷ ns) =
    (if is_seen (value p x) answer then n else n + 1) ∷ counts_after p xs more ns
counts_after p xs heard counts = counts

-- a round is decided by a polynomial, or by none and then nobody counts
abbrev pub Judges : Object → Challenge → List (Option ℕ) → Sums → Sums → Type 0
Judges o c heard old new =
    ((p : List ℕ) × Decides o c heard p
    × (new ≡ record {
      counts = counts_after p (points o) (bare_answers o c 0 heard) old.counts;
      undecided = old.undecided;
    }))
    ⊎ (DecidesNone o c heard × (new ≡ record old { undecided = old.undecided + 1 }))

-- a provider is flagged by its count
abbrev pub is_flagged : ℕ → List ℕ → ℕ → Bool
is_flagged tolerance counts j = nat_lt tolerance (slice_index counts j)

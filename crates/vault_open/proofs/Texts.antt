-- What at most nine bytes stand for.
use Rattle.vault_open.proofs.Words.{◌≡◌, ◌≢◌, ℕ, ◌≤◌, List, [], ◌∷◌, length, refl, arith, Record, Area, A, B, StandsActive, active-long, stands-long}

some : (r : Record) (rs : List Record) → r ∷ rs ≢ []
some r rs e = cc

-- they stand for no record
pub short-none : (bytes : List ℕ) (area : Area) (rs : List Record) → StandsActive bytes area rs →
    length bytes ≤ 9 → rs ≡ []
short-none bytes area [] is short = refl
short-none bytes area (r ∷ rs) is short =
    absurd (let long = stands-long bytes (r ∷ rs) (some r rs) (area, is) in omega (arith, long, short))

-- and do so in the first area
pub short-first : (bytes : List ℕ) (area : Area) (rs : List Record) → StandsActive bytes area rs →
    length bytes ≤ 9 → area ≡ A
short-first bytes A rs is short = refl
short-first bytes B rs is short = absurd (let long = active-long bytes B rs is in omega (arith, long, short))

-- An honest answer is none where a picked row has no symbol.
use Rattle.std.specs.Prelude.{◌≡◌, ℕ, zero, suc, ◌+◌, ◌-◌, ◌<◌, ◌&&◌, Bool, true, false, List, Option, None, Some, is_some, unwrap_or, if◌then◌else◌}
use Rattle.std.proofs.Common.{arith, ap, refl, ◌∙◌, subst}
use Rattle.column_defs.specs.Challenges.{Challenge, picked_row, held_symbol, all_held, honest_answer, combined}

and-false : (b : Bool) → b && false ≡ false
and-false true = refl
and-false false = refl

-- a row without a symbol leaves not all held
all_held-absent : (c : Challenge) (held : ℕ → Option (List ℕ)) (k : ℕ) →
    held_symbol c.size held (picked_row c.seed c.rows k) ≡ None → all_held c held (suc k) ≡ false
unfolding all_held
all_held-absent c held k e =
    ap (λ (s : Option ℕ). all_held c held k && is_some s) e ∙ and-false (all_held c held k)

-- also with more picks
all_held-later : (c : Challenge) (held : ℕ → Option (List ℕ)) (k more : ℕ) → all_held c held k ≡ false →
    all_held c held (more + k) ≡ false
unfolding all_held
all_held-later c held k zero e =
    let same : k ≡ zero + k = omega arith in
    subst (λ (n : ℕ). all_held c held n ≡ false) same e
all_held-later c held k (suc more) e =
    let same : suc (more + k) ≡ suc more + k = omega arith in
    subst (λ (n : ℕ). all_held c held n ≡ false) same
    (ap (λ (b : Bool). b && is_some (held_symbol c.size held (picked_row c.seed c.rows (more + k))))
    (all_held-later c held k more e))

-- who lacks the symbol in a picked row has no honest answer
pub honest_answer-absent : (c : Challenge) (held : ℕ → Option (List ℕ)) (k : ℕ) → k < c.picks →
    held_symbol c.size held (picked_row c.seed c.rows k) ≡ None → honest_answer c held ≡ None
honest_answer-absent c held k below e =
    let same : c.picks - suc k + suc k ≡ c.picks = omega (arith, below) in
    let later : all_held c held c.picks ≡ false =
    subst (λ (n : ℕ). all_held c held n ≡ false) same
    (all_held-later c held (suc k) (c.picks - suc k) (all_held-absent c held k e)) in
    ap (λ (b : Bool). if b then Some (combined c (λ row. unwrap_or (held_symbol c.size held row) 0))
    else None) later

-- A text spells no more commands than it has bytes, and one more.
use Rattle.schedule_text.proofs.Words.{◌≡◌, inl, inr, ℕ, ◌+◌, ◌≤◌, List, [], ◌∷◌, length, refl, ap, sym, subst, arith, slice_index, cases_Bool, Instruction, begun_piece, pieces, without_returns, lines, AreLines, IsSchedule}
use Rattle.std.proofs.Common.{◌==◌, ◌&&◌}
use Rattle.machine_defs.proofs.JobLists.{cond_true, cond_false}

begun-length : (b : ℕ) (ps : List (List ℕ)) → length (begun_piece b ps) ≡ length ps
begun-length b [] = refl
begun-length b (p ∷ ps) = refl

few-pieces : (c : ℕ) (text : List ℕ) → length (pieces c text) ≤ length text + 1
few-pieces c [] = omega arith
few-pieces c (b ∷ text) = (let few = few-pieces c text in
    let begins = begun-length b (pieces c text) in
    elim (cases_Bool (b == c)) [
      | inl t ↦ subst (λ (ps : List (List ℕ)). length ps ≤ length (b ∷ text) + 1)
          (sym (cond_true (b == c) ([] ∷ pieces c text) (begun_piece b (pieces c text)) t))
          (omega (arith, few))
      | inr f ↦ subst (λ (ps : List (List ℕ)). length ps ≤ length (b ∷ text) + 1)
          (sym (cond_false (b == c) ([] ∷ pieces c text) (begun_piece b (pieces c text)) f))
          (omega (arith, few, begins))
    ])

fewer-bytes : (text : List ℕ) → length (without_returns text) ≤ length text
fewer-bytes [] = omega arith
fewer-bytes (b ∷ text) = (let few = fewer-bytes text in
    elim (cases_Bool ((b == 13) && (slice_index text 0 == 10))) [
      | inl t ↦ subst (λ (l : List ℕ). length l ≤ length (b ∷ text))
          (sym (cond_true _ (without_returns text) (b ∷ without_returns text) t)) (omega (arith, few))
      | inr f ↦ subst (λ (l : List ℕ). length l ≤ length (b ∷ text))
          (sym (cond_false _ (without_returns text) (b ∷ without_returns text) f)) (omega (arith, few))
    ])

few-commands : (ls : List (List ℕ)) (commands : List Instruction) → AreLines ls commands →
    length commands ≤ length ls
few-commands [] commands is = (let e = ap length is in omega (arith, e))
few-commands (line ∷ ls) commands (inl (skipped, are)) =
    (let few = few-commands ls commands are in omega (arith, few))
few-commands (line ∷ ls) commands (inr (first, more, is, spells, are)) =
    (let few = few-commands ls more are in let e = ap length is in omega (arith, few, e))

-- a schedule has at most as many commands as bytes, and one
pub few : (text : List ℕ) (commands : List Instruction) → IsSchedule text commands →
    length commands ≤ length text + 1
few text commands is = (let a = few-commands (lines text) commands is in
    let b = few-pieces 10 (without_returns text) in
    let c = fewer-bytes text in
    omega (arith, a, b, c))

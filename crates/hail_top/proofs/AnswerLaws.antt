-- What an answer to a row leaves open.
use Rattle.hail_top.proofs.Words.{◌≡◌, ℕ, ◌<◌, List, inl, inr, ◌⊎◌, arith, IsShape, last_count, upto, Accepts, Sinking, WritesLine, AnswersRow}
use Rattle.std.proofs.Common.{Option}

-- without a fault nothing but memory cuts a line off
Writes-complete : (line : List ℕ) (status : ℕ) (sink : Sinking) → WritesLine line status sink →
    sink.before < last_count → sink.now ≡ sink.before → (status ≡ 0) ⊎ (status ≡ 70)
Writes-complete line status sink (inl done) below still = inl done.0
Writes-complete line status sink (inr (inl fault)) below still = absurd (omega (arith, fault.2 below, still))
Writes-complete line status sink (inr (inr memory)) below still = inr memory.0

-- a row that was accepted and written whole was answered with its symbols
pub answer-complete : (n l b : ℕ) (seen : List (Option ℕ)) (p : List ℕ) (status : ℕ) (sink : Sinking)
    → IsShape n l b → Accepts (upto n) seen l b p → AnswersRow n l b seen status sink
    → sink.before < last_count → sink.now ≡ sink.before → (status ≡ 0) ⊎ (status ≡ 70)
answer-complete n l b seen p status sink shape accepted answers =
    Writes-complete _ status sink (answers.held shape p accepted)

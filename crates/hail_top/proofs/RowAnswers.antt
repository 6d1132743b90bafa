-- The answer to a row follows from what was found in it.
use Rattle.hail_top.proofs.Words.{◌≡◌, ℕ, List, ap, ◌∙◌, subst, IsShape, upto, Accepts, values_at-same, values_line, Sinking, WritesLine, OpensRow, AnswersRow}
use Rattle.std.proofs.Common.{Option}
use Rattle.code_defs.specs.Polynomials.{value}

-- the line of the values that were found answers the row
pub answers_held : (n l b : ℕ) (seen : List (Option ℕ)) (values shown : List ℕ) (status : ℕ)
    (sink : Sinking) → IsShape n l b → OpensRow n l b seen values
    → ((p q : List ℕ) → Accepts (upto n) seen l b p → Accepts (upto n) seen l b q → (x : ℕ) →
    value p x ≡ value q x)
    → shown ≡ values → WritesLine (values_line shown) status sink → AnswersRow n l b seen status sink
answers_held n l b seen values shown status sink shape opens only is writes = record {
  no_shape = λ none. absurd (none shape);
  lost = λ _ none. absurd (none opens.polynomial opens.accepted);
  held = λ _ p accepted. subst (λ (line : List ℕ). WritesLine line status sink)
      (ap (λ (xs : List ℕ). values_line xs) (is ∙ opens.values_are
      ∙ values_at-same (upto l) opens.polynomial p (only opens.polynomial p opens.accepted accepted)))
      writes;
}

-- what answers a shape's row answers that of the same numbers
pub AnswersRow-same : (n l b n' l' b' : ℕ) (seen : List (Option ℕ)) (status : ℕ) (sink : Sinking) →
    (n' ≡ n) × (l' ≡ l) × (b' ≡ b) → AnswersRow n' l' b' seen status sink → AnswersRow n l b seen status sink
AnswersRow-same n l b n' l' b' seen status sink same answers =
    subst (λ (x : ℕ). AnswersRow n l x seen status sink) same.2
    (subst (λ (x : ℕ). AnswersRow n x b' seen status sink) same.1
    (subst (λ (x : ℕ). AnswersRow x l' b' seen status sink) same.0 answers))

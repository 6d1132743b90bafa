-- A status of a fault comes of a row only where the sink's count rose.
use Rattle.command_laws.proofs.Words.{◌≡◌, ℕ, List, Option, sym, ◌∙◌, inl, inr, arith, cases_lt, Rose, WritesLine, TellsLine, Seen, Ending, sinking, AnswersRow, FaultsHaveCauses, Bool, true, false, not, ap, refl, cases_Bool, false≢true, ◌==◌}
use Rattle.std.proofs.Common.{◌||◌}

module _ (n l b : ℕ) (seen : List (Option ℕ)) (old new : Seen) (end : Ending)
    (A : AnswersRow n l b seen end.status (sinking old new)) where
  -- what is so of the statuses of a row, and of that of its sink where that failed, is so of this one
  none-else : (p : ℕ → Bool) → p 0 ≡ true → p 4 ≡ true → p 20 ≡ true → p 70 ≡ true →
      (end.status ≡ 15 → Rose old.sink_faults new.sink_faults → p end.status ≡ true) → p end.status ≡ true
  none-else p zero four twenty memory sink = elim (cases_Bool (p end.status)) [
    | inl t ↦ t
    | inr f ↦ absurd (none f)
  ]
    where
      other : (m : ℕ) → p end.status ≡ false → end.status ≡ m → p m ≡ true → ⊥
      other m f is t = false≢true (sym f ∙ (ap p is ∙ t))

      written : p end.status ≡ false → (line : List ℕ) → WritesLine line end.status (sinking old new) → ⊥
      written f line (inl w) = other 0 f w.0 zero
      written f line (inr (inl w)) = false≢true (sym f ∙ sink w.1 w.2)
      written f line (inr (inr w)) = other 70 f w.0 memory

      told : p end.status ≡ false → (line : List ℕ) → TellsLine 4 line end.status (sinking old new) → ⊥
      told f line (inl w) = other 4 f w.0 four
      told f line (inr (inl w)) = other 4 f w.0 four
      told f line (inr (inr w)) = other 70 f w.0 memory

      none : p end.status ≡ false → ⊥
      none f = elim (A.no_shape (λ shape. told f _ (A.lost shape
          (λ p accepted. written f _ (A.held shape p accepted))))).0 [
            | inl e ↦ other 20 f e twenty
            | inr e ↦ other 70 f e memory
          ]

  -- what is so of 0, 4, 15, 20 and 70 is so of the status of a row
  pub row-so : (p : ℕ → Bool) → p 0 ≡ true → p 4 ≡ true → p 15 ≡ true → p 20 ≡ true → p 70 ≡ true →
      p end.status ≡ true
  row-so p zero four sink twenty memory = none-else p zero four twenty memory (λ e rose. ap p e ∙ sink)

  -- a row ends with no status but 0, 4, 15, 20 and 70
  pub none-at : (m : ℕ) → end.status ≡ m → ((m == 0) || (m == 4) || (m == 15) || (m == 20) || (m == 70)) ≡ false → ⊥
  none-at m is off = false≢true (sym off ∙ (ap told (sym is) ∙ row-so told refl refl refl refl refl))
    where
      told : ℕ → Bool
      told k = (k == 0) || (k == 4) || (k == 15) || (k == 20) || (k == 70)

  sink-rose : end.status ≡ 15 → Rose old.sink_faults new.sink_faults
  sink-rose is below = elim (cases_lt old.sink_faults new.sink_faults) [
    | inl l ↦ l
    | inr l ↦ absurd (false≢true (sym (ap (λ k. not (k == 15)) is)
        ∙ none-else (λ k. not (k == 15)) refl refl refl refl (λ e rose. absurd
        (omega (arith, rose below, l)))))
  ]

  -- a row ends with a status of a fault only where the sink's count rose
  pub row-causes : FaultsHaveCauses old new end
  row-causes = record {
    disk = λ is. absurd (none-at 12 is refl);
    provider = λ is. absurd (none-at 13 is refl);
    source = λ is. absurd (none-at 14 is refl);
    sink = sink-rose;
  }

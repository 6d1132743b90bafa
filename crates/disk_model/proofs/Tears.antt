-- A write that fails half way, on bytes and marks.
use Rattle.disk_model.proofs.Words.{◌≡◌, ◌⊎◌, inl, inr, ℕ, ◌+◌, ◌-◌, ◌/◌, min, Bool, true, List, take, drop, replicate, Result, Ok, Err, sym, ap, ◌∙◌, arith, length-take, length-drop, OnOk, OnErr, zip, length-replicate, length-zip, firsts-zip, Cells, loose, reads, spliced, written, halved, marked, spliced_itself}
use Rattle.std.proofs.Common.{length}
use Rattle.disk_model.proofs.Zips.{zip_marked, zip_spliced, zip-take, zip-drop}

module _ (at n : ℕ) (held : List ℕ) (marks : List Bool) (same : length marks ≡ length held) where
  abbrev from : ℕ
  from = min at (length held)

  abbrev over : ℕ
  over = min (at + n) (length held) - from

  abbrev kept : List ℕ
  kept = take over (drop from held)

  size : length kept ≡ over
  size = omega (arith, length-take over (drop from held), length-drop from held)

  -- the bytes of the range that were there
  kept_is : reads (take over (drop from (zip held marks))) ≡ kept
  kept_is = ap (λ (l : Cells). reads (take over l)) (zip-drop from held marks)
      ∙ ap (λ (l : Cells). reads l) (zip-take over (drop from held) (drop from marks))
      ∙ firsts-zip kept (take over (drop from marks))
      (omega (arith, size, length-take over (drop from marks), length-drop from marks))

  -- the part of the range that was there is loose
  pub loosened : (now : List Bool) → now ≡ spliced from (replicate over true) marks →
      zip held now ≡ marked at n (zip held marks)
  loosened now is =
      let long : length (zip held marks) ≡ length held = omega (arith, length-zip held marks) in
      (λ i. zip (sym (spliced_itself from over held (omega arith)) i) (is i))
      ∙ zip_spliced from kept held (replicate over true) marks same (length-replicate over true ∙ sym size)
      (omega arith)
      ∙ ap (λ (l : Cells). spliced from l (zip held marks)) (zip_marked true over kept (sym size))
      ∙ ap (λ (l : List ℕ). spliced from (loose l) (zip held marks)) (sym kept_is)
      ∙ ap (λ (m : ℕ). spliced (min at m)
      (loose (reads (take (min (at + n) m - min at m) (drop (min at m) (zip held marks)))))
      (zip held marks)) (sym long)

-- a write that failed leaves half of its bytes, and its range loose
pub tear_is : {E : Type 0} (at : ℕ) (bytes held : List ℕ) (marks : List Bool)
    (same : length marks ≡ length held) (now : List Bool) (new_held : List ℕ) (new_marks : List Bool)
    (r : Result (Unit {0}) E)
    → now ≡ spliced (min at (length held))
    (replicate (min (at + length bytes) (length held) - min at (length held)) true) marks
    → OnOk r (zip new_held new_marks ≡ written at (take (length bytes / 2) bytes) (zip held now)) →
    OnErr r (new_held ≡ held) → OnErr r (new_marks ≡ now)
    → (zip new_held new_marks ≡ halved at bytes (zip held marks)) ⊎
    (zip new_held new_marks ≡ marked at (length bytes) (zip held marks))
tear_is at bytes held marks same now new_held new_marks (Err e) is ok held_is marks_are =
    inr ((λ i. zip (held_is i) (marks_are i)) ∙ loosened at (length bytes) held marks same now is)
tear_is at bytes held marks same now new_held new_marks (Ok u) is ok held_is marks_are =
    inl (ok ∙ ap (λ (l : Cells). written at (take (length bytes / 2) bytes) l)
    (loosened at (length bytes) held marks same now is))

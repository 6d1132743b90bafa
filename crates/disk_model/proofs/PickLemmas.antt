-- The loop that picks, and what it leaves.
use Rattle.disk_model.proofs.Words.{◌≡◌, ◌⊎◌, inl, inr, ⊎_elim, ℕ, ◌+◌, ◌<◌, ◌≤◌, Bool, true, false, List, [], ◌∷◌, ◌++◌, get_or, set, take, drop, replicate, refl, ap, ◌∙◌, sym, arith, append_assoc, drop_more, take_more, drop_all, take_more_set, drop-set-lt, zip, Cells, firm, picked, length-picked, length-zip}
use Rattle.std.proofs.Common.{length}
use Rattle.disk_model.proofs.Zips.{zip_marked}

-- One place more of the loop that picks. The rest is what stands behind the place.
abbrev rest : List ℕ → List Bool → List ℕ → ℕ → ℕ → List ℕ
rest held marks picks i next = picked (zip (drop i held) (drop i marks)) (drop next picks)

kept_at : (h : ℕ) (m : Bool) (held : List ℕ) (marks : List Bool) (picks : List ℕ) → m ≡ false ⊎ (picks ≡ []) →
    picked ((h, m) ∷ zip held marks) picks ≡ h ∷ picked (zip held marks) picks
kept_at h false held marks picks why_not = refl
kept_at h true held marks picks (inl marked) = absurd cc
kept_at h true held marks [] (inr none) = refl
kept_at h true held marks (p ∷ picks) (inr none) = absurd cc

module _ (held : List ℕ) (marks : List Bool) (picks : List ℕ) (i next : ℕ) (inside : i < length held)
    (same : length marks ≡ length held) where
  opened : zip (drop i held) (drop i marks) ≡ (get_or held i 0, get_or marks i false) ∷ zip
      (drop (i + 1) held) (drop (i + 1) marks)
  opened = λ k. zip (drop_more held i 0 inside k) (drop_more marks i false (omega arith) k)

  -- a byte that is not loose, or behind the picks, stays
  pub kept_place : (get_or marks i false ≡ false) ⊎ (length picks ≤ next) →
      take (i + 1) held ++ rest held marks picks (i + 1) next ≡ take i held ++ rest held marks picks i next
  kept_place why_not =
      let why : (get_or marks i false ≡ false) ⊎ (drop next picks ≡ []) =
      ⊎_elim (λ unmarked. inl unmarked) (λ ended. inr (drop_all next picks ended)) why_not in
      ap (λ (l : List ℕ). l ++ rest held marks picks (i + 1) next) (take_more held i 0 inside)
      ∙ append_assoc (take i held) (get_or held i 0 ∷ []) (rest held marks picks (i + 1) next)
      ∙ ap (λ (l : List ℕ). take i held ++ l)
      (sym (ap (λ (cs : Cells). picked cs (drop next picks)) opened
      ∙ kept_at (get_or held i 0) (get_or marks i false) (drop (i + 1) held) (drop (i + 1) marks)
      (drop next picks) why))

  -- a loose byte with a pick becomes it
  pub picked_place : get_or marks i false ≡ true → next < length picks →
      take (i + 1) (set held i (get_or picks next 0)) ++ rest (set held i (get_or picks next 0)) marks picks
      (i + 1) (next + 1) ≡ take i held ++ rest held marks picks i next
  picked_place marked more =
      let p = get_or picks next 0 in
      let one : rest held marks picks i next ≡ p ∷ rest held marks picks (i + 1) (next + 1) =
      ap (λ (cs : Cells). picked cs (drop next picks))
      (opened ∙ ap (λ (m : Bool). (get_or held i 0, m) ∷ zip (drop (i + 1) held) (drop (i + 1) marks)) marked)
      ∙ ap (λ (ps : List ℕ). picked ((get_or held i 0, true) ∷ zip (drop (i + 1) held) (drop (i + 1) marks))
      ps) (drop_more picks next 0 more) in
      ap (λ (l : List ℕ). l ++ rest (set held i p) marks picks (i + 1) (next + 1))
      (take_more_set held i p inside)
      ∙ ap (λ (l : List ℕ). (take i held ++ p ∷ []) ++ picked (zip l (drop (i + 1) marks))
      (drop (next + 1) picks)) (drop-set-lt (i + 1) held i p (omega arith))
      ∙ append_assoc (take i held) (p ∷ []) (rest held marks picks (i + 1) (next + 1))
      ∙ ap (λ (l : List ℕ). take i held ++ l) (sym one)

-- what is held after a stop
pub zip_stopped : (held : List ℕ) (marks : List Bool) (picks was_held : List ℕ) (was_marks : List Bool)
    (new_held : List ℕ) (new_marks : List Bool)
    → length marks ≡ length held → was_held ≡ held → was_marks ≡ marks →
    new_held ≡ picked (zip was_held was_marks) picks → new_marks ≡ replicate (length was_marks) false
    → zip new_held new_marks ≡ firm (picked (zip held marks) picks)
zip_stopped held marks picks was_held was_marks new_held new_marks same held_was marks_were held_is marks_are =
    let image = picked (zip held marks) picks in
    let one : new_held ≡ image = held_is ∙ (λ i. picked (zip (held_was i) (marks_were i)) picks) in
    let two : new_marks ≡ replicate (length marks) false = marks_are
    ∙ ap (λ (m : List Bool). replicate (length m) false) marks_were in
    (λ i. zip (one i) (two i))
    ∙ zip_marked false (length marks) image
    (omega (arith, length-picked (zip held marks) picks, length-zip held marks))

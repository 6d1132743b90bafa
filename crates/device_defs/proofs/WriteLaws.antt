-- What a write leaves, by offsets.
use Rattle.std.proofs.Common.{◌≡◌, ◌⊎◌, inl, inr, ℕ, zero, suc, ◌+◌, ◌-◌, ◌≤◌, ◌<◌, min, Bool, true, List, [], ◌∷◌, ◌++◌, length, take, drop, replicate, refl, sym, ap, ◌∙◌, arith, length-append, length-take}
use Rattle.std.proofs.lemmas.List.{length-replicate, map-append, length-map}
use Rattle.device_defs.specs.Cells.{Cells, loose, reads, is_loose_at}
use Rattle.device_defs.specs.Disks.{spliced, written}

reads-take : (n : ℕ) (cells : Cells) → reads (take n cells) ≡ take n (reads cells)
reads-take zero cells = refl
reads-take (suc n) [] = refl
reads-take (suc n) (c ∷ cells) = ap (λ (l : List ℕ). c.0 ∷ l) (reads-take n cells)

reads-drop : (n : ℕ) (cells : Cells) → reads (drop n cells) ≡ drop n (reads cells)
reads-drop zero cells = refl
reads-drop (suc n) [] = refl
reads-drop (suc n) (c ∷ cells) = reads-drop n cells

-- loose bytes read as what was written
pub reads-loose : (bytes : List ℕ) → reads (loose bytes) ≡ bytes
reads-loose [] = refl
reads-loose (b ∷ bytes) = ap (λ (l : List ℕ). b ∷ l) (reads-loose bytes)

long : (bytes : List ℕ) → length (loose bytes) ≡ length bytes
long bytes = length-map {B = ℕ × Bool} bytes (λ b. (b, true))

reads-spliced : (at : ℕ) (bytes : List ℕ) (cells : Cells) →
    reads (spliced at (loose bytes) cells) ≡ spliced at bytes (reads cells)
reads-spliced at bytes cells =
    map-append (λ c. c.0) (take at cells) (loose bytes ++ drop (at + length (loose bytes)) cells)
    ∙ ap (λ (l : List ℕ). l ++ reads (loose bytes ++ drop (at + length (loose bytes)) cells))
    (reads-take at cells)
    ∙ ap (λ (l : List ℕ). take at (reads cells) ++ l)
    (map-append (λ c. c.0) (loose bytes) (drop (at + length (loose bytes)) cells)
    ∙ (λ i. reads-loose bytes i ++ reads-drop (at + length (loose bytes)) cells i)
    ∙ ap (λ (k : ℕ). bytes ++ drop (at + k) (reads cells)) (long bytes))

-- after a write these bytes are read in their place, zeros in a gap, and the rest as before
pub reads-written : (at : ℕ) (bytes : List ℕ) (cells : Cells)
    → reads (written at bytes cells) ≡ spliced (min at (length (reads cells)))
    (replicate (at - length (reads cells)) 0 ++ bytes) (reads cells)
reads-written at bytes cells =
    reads-spliced (min at (length cells)) (replicate (at - length cells) 0 ++ bytes) cells
    ∙ ap (λ (k : ℕ). spliced (min at k) (replicate (at - k) 0 ++ bytes) (reads cells))
    (sym (length-map {B = ℕ} cells (λ c. c.0)))

loose_before : (xs ys : Cells) (k : ℕ) → k < length xs → is_loose_at (xs ++ ys) k ≡ is_loose_at xs k
loose_before [] ys k lt = absurd (omega (arith, lt))
loose_before (x ∷ xs) ys zero lt = refl
loose_before (x ∷ xs) ys (suc k) lt = loose_before xs ys k (omega (arith, lt))

loose_behind : (xs ys : Cells) (n k : ℕ) → n ≡ length xs + k → is_loose_at (xs ++ ys) n ≡ is_loose_at ys k
loose_behind [] ys n k is = let e : n ≡ k = omega (arith, is) in ap (λ (m : ℕ). is_loose_at ys m) e
loose_behind (x ∷ xs) ys zero k is = absurd (omega (arith, is))
loose_behind (x ∷ xs) ys (suc n) k is = loose_behind xs ys n k (omega (arith, is))

loose_in_front : (n : ℕ) (cells : Cells) (k : ℕ) → k < n → is_loose_at (take n cells) k ≡ is_loose_at cells k
loose_in_front zero cells k lt = absurd (omega (arith, lt))
loose_in_front (suc n) [] k lt = refl
loose_in_front (suc n) (c ∷ cells) zero lt = refl
loose_in_front (suc n) (c ∷ cells) (suc k) lt = loose_in_front n cells k (omega (arith, lt))

loose_past : (n : ℕ) (cells : Cells) (k m : ℕ) → m ≡ n + k →
    is_loose_at (drop n cells) k ≡ is_loose_at cells m
loose_past zero cells k m is = let e : k ≡ m = omega (arith, is) in ap (λ (j : ℕ). is_loose_at cells j) e
loose_past (suc n) [] k m is = refl
loose_past (suc n) (c ∷ cells) k zero is = absurd (omega (arith, is))
loose_past (suc n) (c ∷ cells) k (suc m) is = loose_past n cells k m (omega (arith, is))

all_loose : (bytes : List ℕ) (k : ℕ) → k < length bytes → is_loose_at (loose bytes) k ≡ true
all_loose [] k lt = absurd (omega (arith, lt))
all_loose (b ∷ bytes) zero lt = refl
all_loose (b ∷ bytes) (suc k) lt = all_loose bytes k (omega (arith, lt))

module _ (at : ℕ) (bytes : List ℕ) (cells : Cells) (within : at ≤ length cells) where
  front : length (take at cells) ≡ at
  front = omega (arith, length-take at cells)

  loose_inside : (k : ℕ) → at ≤ k → k < at + length bytes →
      is_loose_at (spliced at (loose bytes) cells) k ≡ true
  loose_inside k ge lt = loose_behind (take at cells) (loose bytes ++ drop (at + length (loose bytes)) cells)
      k (k - at) (omega (arith, front))
      ∙ loose_before (loose bytes) (drop (at + length (loose bytes)) cells) (k - at)
      (omega (arith, long bytes))
      ∙ all_loose bytes (k - at) (omega arith)

  pub loose_outside : (k : ℕ) → (k < at) ⊎ (at + length bytes ≤ k) →
      is_loose_at (spliced at (loose bytes) cells) k ≡ is_loose_at cells k
  loose_outside k (inl lt) =
      loose_before (take at cells) (loose bytes ++ drop (at + length (loose bytes)) cells) k
      (omega (arith, front)) ∙ loose_in_front at cells k lt
  loose_outside k (inr ge) = loose_behind (take at cells)
      (loose bytes ++ drop (at + length (loose bytes)) cells) k (k - at) (omega (arith, front))
      ∙ loose_behind (loose bytes) (drop (at + length (loose bytes)) cells) (k - at) (k - (at + length bytes))
      (omega (arith, long bytes))
      ∙ loose_past (at + length (loose bytes)) cells (k - (at + length bytes)) k (omega (arith, long bytes))

module _ (at : ℕ) (bytes : List ℕ) (cells : Cells) where
  abbrev payload : List ℕ
  payload = replicate (at - length cells) 0 ++ bytes

  size : length payload ≡ at - length cells + length bytes
  size = omega (
    arith,
    length-append (replicate {A = ℕ} (at - length cells) 0) bytes,
    length-replicate {A = ℕ} (at - length cells) 0,
  )

  -- all that a write has touched is loose after it
  pub loose_written : (k : ℕ) → min at (length cells) ≤ k → k < at + length bytes →
      is_loose_at (written at bytes cells) k ≡ true
  loose_written k ge lt =
      loose_inside (min at (length cells)) payload cells (omega arith) k ge (omega (arith, size))

  -- at all other offsets a write leaves bytes as loose or firm as they were
  pub loose_as_before : (k : ℕ) → (k < min at (length cells)) ⊎ (at + length bytes ≤ k) →
      is_loose_at (written at bytes cells) k ≡ is_loose_at cells k
  loose_as_before k (inl lt) = loose_outside (min at (length cells)) payload cells (omega arith) k (inl lt)
  loose_as_before k (inr ge) =
      loose_outside (min at (length cells)) payload cells (omega arith) k (inr (omega (arith, size)))

-- What the disk in memory does at a failing write is one of the ways that such a write may go.
use Rattle.std.proofs.Common.{◌≡◌, ◌⊎◌, inl, inr, ℕ, ◌+◌, ◌-◌, ◌≤◌, ◌/◌, min, Bool, true, List, ◌++◌, length, take, drop, replicate, refl, sym, ap, ◌∙◌, subst, arith, length-append, length-take, length-drop}
use Rattle.std.proofs.lemmas.List.{length-replicate, map-append, drop-map, length-map}
use Rattle.device_defs.specs.Cells.{Cells, loose, reads}
use Rattle.device_defs.specs.Disks.{spliced, written, marked, halved, Torn}
use Rattle.device_defs.proofs.Splices.{spliced-spliced, length-spliced}

module _ (at n : ℕ) (old : Cells) where
  abbrev from : ℕ
  from = min at (length old)

  abbrev over : ℕ
  over = min (at + n) (length old) - from

  abbrev kept : List ℕ
  kept = reads (take over (drop from old))

  size : length kept ≡ over
  size = length-map {B = ℕ} (take over (drop from old)) (λ c. c.0)
      ∙ omega (arith, length-take over (drop from old), length-drop from old)

  -- a failing write may leave all bytes as they were, those in its range made loose
  pub Torn-marked : Torn at n old (marked at n old)
  Torn-marked = record {
    bytes = kept;
    held = refl;
    no_longer = omega (arith, size);
    no_shorter = omega (arith, size);
  }

  -- making cells loose does not change their number
  pub length-marked : length (marked at n old) ≡ length old
  length-marked = length-spliced from (loose kept) old (omega arith)
      ∙ omega (arith, length-map {B = ℕ × Bool} kept (λ b. (b, true)), size)

  Torn-written : (half : List ℕ) → length half ≤ n → Torn at n old (written at half (marked at n old))
  Torn-written half le =
      let payload = replicate (at - length old) 0 ++ half in
      let long : length payload ≡ at - length old + length half =
      omega (
        arith,
        length-append (replicate {A = ℕ} (at - length old) 0) half,
        length-replicate {A = ℕ} (at - length old) 0,
      ) in
      let both : loose payload ++ drop (length (loose payload)) (loose kept)
      ≡ loose (payload ++ drop (length payload) kept) =
      ap (λ (k : ℕ). loose payload ++ drop k (loose kept)) (length-map payload (λ b. (b, true)))
      ∙ ap (λ (l : Cells). loose payload ++ l) (drop-map (λ b. (b, true)) (length payload) kept)
      ∙ sym (map-append (λ b. (b, true)) payload (drop (length payload) kept)) in
      record {
        bytes = payload ++ drop (length payload) kept;
        held = ap (λ (k : ℕ). spliced (min at k) (loose (replicate (at - k) 0 ++ half)) (marked at n old))
            length-marked
            ∙ spliced-spliced from (loose payload) (loose kept) old (omega arith)
            ∙ ap (λ (l : Cells). spliced from l old) both;
        no_longer = omega (
          arith,
          length-append payload (drop (length payload) kept),
          length-drop (length payload) kept,
          size,
          long,
        );
        no_shorter = omega (
          arith,
          length-append payload (drop (length payload) kept),
          length-drop (length payload) kept,
          size,
          long,
        );
      }

-- a failing write may have written the first half of its bytes
pub Torn-halved : (at : ℕ) (bytes : List ℕ) (old : Cells) → Torn at (length bytes) old (halved at bytes old)
Torn-halved at bytes old = Torn-written at (length bytes) old (take (length bytes / 2) bytes)
    (omega (arith, length-take (length bytes / 2) bytes))

-- a failing write may write the first half of its bytes, or only make those in its range loose
pub Torn-either : (at : ℕ) (bytes : List ℕ) (old new : Cells) →
    (new ≡ halved at bytes old) ⊎ (new ≡ marked at (length bytes) old) → Torn at (length bytes) old new
Torn-either at bytes old new (inl is) = subst (Torn at (length bytes) old) (sym is) (Torn-halved at bytes old)
Torn-either at bytes old new (inr is) =
    subst (Torn at (length bytes) old) (sym is) (Torn-marked at (length bytes) old)

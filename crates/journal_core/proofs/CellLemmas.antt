-- Writes and syncs of a disk whose front is known.
use Rattle.journal_core.proofs.Words.{◌+◌, ◌-◌, min, Bool, true, ◌++◌, length, drop, replicate, refl, sym, ap, ◌∙◌, arith, length-append, take_at, map-append, length-map, drop-append-add, Cells, reads, firm, loose, IsImage, spliced, written, Torn, reads-firm}
use Rattle.std.proofs.Common.{◌≡◌, ℕ, false, List, [], ◌∷◌}
use Rattle.device_defs.proofs.WriteLaws.{reads-loose}

spliced-behind : {X : Type 0} (front new rest : List X) (at : ℕ) → at ≡ length front →
    spliced at new (front ++ rest) ≡ front ++ (new ++ drop (length new) rest)
spliced-behind front new rest at is =
    ap (λ (l : List _). l ++ (new ++ drop (at + length new) (front ++ rest))) (take_at front rest at (sym is))
    ∙ ap (λ (k : ℕ). front ++ (new ++ drop (k + length new) (front ++ rest))) is
    ∙ ap (λ (l : List _). front ++ (new ++ l)) (drop-append-add front rest (length new))

module _ (front rest : Cells) (at : ℕ) (is : at ≡ length front) where
  start : min at (length (front ++ rest)) ≡ length front
  start = omega (arith, length-append front rest, is)

  -- a write behind a front leaves the front, then the new bytes, loose, then what lies behind them
  pub written-behind : (bytes : List ℕ) → written at bytes (front ++ rest)
      ≡ front ++ (loose bytes ++ drop (length bytes) rest)
  written-behind bytes =
      let none : at - length (front ++ rest) ≡ 0 = omega (arith, length-append front rest, is) in
      ap (λ (k : ℕ). spliced (min at (length (front ++ rest))) (loose (replicate k 0 ++ bytes))
      (front ++ rest)) none
      ∙ spliced-behind front (loose bytes) rest (min at (length (front ++ rest))) start
      ∙ ap (λ (k : ℕ). front ++ (loose bytes ++ drop k rest)) (length-map bytes (λ b. (b, true)))

  -- a torn write behind a front leaves the front as it was
  pub torn-behind : (n : ℕ) (new : Cells) → Torn at n (front ++ rest) new →
      (after : Cells) × (new ≡ front ++ after)
  torn-behind n new torn = (
    loose torn.bytes ++ drop (length (loose torn.bytes)) rest,
    torn.held
        ∙ spliced-behind front (loose torn.bytes) rest _ start,
  )

one_byte : (bytes : List ℕ) (rest : Cells) (c : ℕ × Bool) → length bytes ≡ 1 →
    (x : ℕ) × (loose bytes ++ drop (length (loose bytes)) (c ∷ rest) ≡ (x, true) ∷ rest)
one_byte [] rest c is = absurd (omega arith)
one_byte (x ∷ []) rest c is = (x, refl)
one_byte (x ∷ y ∷ bytes) rest c is = absurd (omega arith)

-- a torn write of one byte leaves a loose byte there, and all around it as it was
pub torn_gate : (front rest : Cells) (c : ℕ × Bool) (at : ℕ) (new : Cells) → at ≡ length front →
    Torn at 1 (front ++ (c ∷ rest)) new → (x : ℕ) × (new ≡ front ++ ((x, true) ∷ rest))
torn_gate front rest c at new is torn =
    let from = start front (c ∷ rest) at is in
    let size : length torn.bytes ≡ 1 =
    omega (arith, torn.no_longer, torn.no_shorter, length-append front (c ∷ rest), from, is) in
    let one = one_byte torn.bytes rest c size in (
      one.0,
      torn.held ∙ spliced-behind front (loose torn.bytes) (c ∷ rest) _ from
          ∙ ap (λ (l : Cells). front ++ l) one.1,
    )

-- a sync
abbrev pub settled : Cells → Cells
settled cells = firm (reads cells)

-- a sync settles two lists of cells in a row one by one
pub settled-append : (a b : Cells) → settled (a ++ b) ≡ settled a ++ settled b
settled-append a b = ap firm (map-append (λ c. c.0) a b) ∙ map-append (λ b. (b, false)) (reads a) (reads b)

-- a sync changes nothing that is firm
pub settled-firm : (bytes : List ℕ) → settled (firm bytes) ≡ firm bytes
settled-firm bytes = ap firm (reads-firm bytes)

-- a sync makes loose bytes firm
pub settled-loose : (bytes : List ℕ) → settled (loose bytes) ≡ firm bytes
settled-loose bytes = ap firm (reads-loose bytes)

-- ---- images

-- where nothing is loose, an image is what is read
pub IsImage-firm : (bytes : List ℕ) (rest : Cells) (image : List ℕ) → IsImage (firm bytes ++ rest) image →
    (tail : List ℕ) × (image ≡ bytes ++ tail) × IsImage rest tail
IsImage-firm [] rest image is = (image, refl, is)
IsImage-firm (b ∷ bytes) rest [] is = absurd is
IsImage-firm (b ∷ bytes) rest (i ∷ image) is =
    let behind = IsImage-firm bytes rest image is.1 in
    (behind.0, (λ k. is.0 refl k ∷ behind.1 k), behind.2)

-- A write, and a write that failed, as cells put in place of others.
use Rattle.journal_core.proofs.Words.{◌+◌, ◌-◌, ◌≤◌, min, true, ◌++◌, length, take, drop, replicate, refl, sym, ap, ◌∙◌, arith, append_assoc, length-append, length-take, length-drop, map-append, length-map, length-replicate, drop-append-le, drop-take, drop_at, drop-map, take-append-add, Cells, reads, firm, loose, spliced, written, Torn, IsImage}
use Rattle.std.proofs.Common.{◌≡◌, ℕ, zero, suc, false, List, [], ◌∷◌}
use Rattle.journal_core.proofs.BeyondLemmas.{drop-spliced, size_of}
use Rattle.journal_core.proofs.CellLemmas.{settled}

-- cells in place of others, in the range of a write of so many bytes
pub record IsSplice (at n : ℕ) (old new : Cells) : Type 0 where
  pub part : Cells
  pub held : new ≡ spliced (min at (length old)) part old
  pub no_longer : min at (length old) + length part ≤ at + n

pub splice-written : (at : ℕ) (bytes : List ℕ) (old : Cells) →
    IsSplice at (length bytes) old (written at bytes old)
splice-written at bytes old = record {
  part = loose (replicate (at - length old) 0 ++ bytes);
  held = refl;
  no_longer = omega (arith, size_of (at - length old) bytes);
}

pub splice-torn : (at n : ℕ) (old new : Cells) → Torn at n old new → IsSplice at n old new
splice-torn at n old new torn =
    let size : length (loose torn.bytes) ≡ length torn.bytes = length-map torn.bytes (λ b. (b, true)) in
    record { part = loose torn.bytes; held = torn.held; no_longer = omega (arith, size, torn.no_longer) }

-- what stands in front of a write, from a base on, stays
pub kept-below : (base at n : ℕ) (front rest old new : Cells) → IsSplice at n old new →
    drop base old ≡ front ++ rest → 1 ≤ length front → base + length front ≤ at →
    (after : Cells) × (drop base new ≡ front ++ after)
kept-below base at n front rest old new s is some below =
    let size : length old - base ≡ length front + length rest =
    omega (arith, ap length is, length-drop base old, length-append front rest) in
    let j : ℕ = min at (length old) - (base + length front) in
    let start : min at (length old) ≡ base + (length front + j) = omega (arith, size, some, below) in
    let behind : Cells = s.part ++ drop (min at (length old) + length s.part) old in
    let within : base ≤ length (take (min at (length old)) old) =
    omega (arith, length-take (min at (length old)) old, start) in (
      take j rest ++ behind,
      ap (λ (c : Cells). drop base c) s.held
          ∙ drop-append-le base (take (min at (length old)) old) behind within
          ∙ ap (λ (k : ℕ). drop base (take k old) ++ behind) start
          ∙ ap (λ (c : Cells). c ++ behind)
          (drop-take base (length front + j) old
          ∙ ap (λ (c : Cells). take (length front + j) c) is
          ∙ take-append-add front rest j)
          ∙ append_assoc front (take j rest) behind,
    )

-- what lies behind a write stays
pub kept-above : (base at n : ℕ) (old new : Cells) → IsSplice at n old new → at + n ≤ base →
    drop base new ≡ drop base old
kept-above base at n old new s past =
    let ends = s.no_longer in
    ap (λ (c : Cells). drop base c) s.held
    ∙ drop-spliced base (min at (length old)) s.part old (omega arith) (omega (arith, ends, past))

-- from where bytes are written on they stand, loose, and then what lay behind them
pub drop-written : (at : ℕ) (bytes : List ℕ) (old : Cells) →
    drop at (written at bytes old) ≡ loose bytes ++ drop (at + length bytes) old
drop-written at bytes old =
    let gap : ℕ = at - length old in
    let start : ℕ = min at (length old) in
    let zeros : Cells = loose (replicate gap 0) in
    let front : Cells = take start old in
    let size : length (loose (replicate gap 0 ++ bytes)) ≡ gap + length bytes = size_of gap bytes in
    let long : length zeros ≡ gap =
    length-map (replicate gap 0) (λ b. (b, true)) ∙ length-replicate {A = ℕ} gap 0 in
    let parts : length (front ++ zeros) ≡ at =
    omega (arith, length-append front zeros, long, length-take start old) in
    let rest : start + length (loose (replicate gap 0 ++ bytes)) ≡ at + length bytes = omega (arith, size) in
    ap (λ (k : ℕ). drop at (front ++ (loose (replicate gap 0 ++ bytes) ++ drop k old))) rest
    ∙ ap (λ (c : Cells). drop at (front ++ (c ++ drop (at + length bytes) old)))
    (map-append (λ b. (b, true)) (replicate gap 0) bytes)
    ∙ ap (λ (c : Cells). drop at (front ++ c))
    (append_assoc zeros (loose bytes) (drop (at + length bytes) old))
    ∙ ap (λ (c : Cells). drop at c)
    (sym (append_assoc front zeros (loose bytes ++ drop (at + length bytes) old)))
    ∙ drop_at (front ++ zeros) (loose bytes ++ drop (at + length bytes) old) at parts

-- a sync from a place on
pub drop-settled : (k : ℕ) (cells : Cells) → drop k (settled cells) ≡ settled (drop k cells)
drop-settled k cells = drop-map (λ b. (b, false)) k (reads cells)
    ∙ ap firm (drop-map (λ c. c.0) k cells)

-- an image from a place on
pub IsImage-drop : (k : ℕ) (cells : Cells) (image : List ℕ) → IsImage cells image →
    IsImage (drop k cells) (drop k image)
IsImage-drop zero cells image is = is
IsImage-drop (suc k) [] [] is = tt
IsImage-drop (suc k) [] (b ∷ image) is = absurd is
IsImage-drop (suc k) (c ∷ cells) [] is = absurd is
IsImage-drop (suc k) (c ∷ cells) (b ∷ image) is = IsImage-drop k cells image is.1

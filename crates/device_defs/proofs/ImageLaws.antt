-- Images by their offsets.
use Rattle.std.proofs.Common.{◌≡◌, ℕ, zero, suc, ◌+◌, ◌<◌, ◌≤◌, Bool, true, false, ◌||◌, eqb, List, [], ◌∷◌, length, Option, Some, slice_get, unwrap_or, refl, sym, ap, ◌∙◌, arith}
use Rattle.std.proofs.lemmas.Bool.Decides.{nat_tests}
use Rattle.std.proofs.lemmas.List.{length-map}
use Rattle.device_defs.specs.Cells.{Cells, reads, is_loose_at, loose_from, loose_offsets, Ascends}
use Rattle.device_defs.specs.Images.{IsImage, IsImageOf, is_among}

apart : (a b : ℕ) → b < a → eqb a b ≡ false
apart a b lt = grind (arith, nat_tests)

apart_up : (a b : ℕ) → a < b → eqb a b ≡ false
apart_up a b lt = grind (arith, nat_tests)

same : (a b : ℕ) → a ≡ b → eqb a b ≡ true
same a b is = grind (arith, nat_tests)

none_below : (cells : Cells) (at j : ℕ) → j < at → is_among (loose_from at cells) j ≡ false
none_below [] at j lt = refl
none_below ((b, false) ∷ cells) at j lt = none_below cells (suc at) j (omega arith)
none_below ((b, true) ∷ cells) at j lt = ap (λ (x : Bool). x || is_among (loose_from (suc at) cells) j)
    (apart at j lt) ∙ none_below cells (suc at) j (omega arith)

listed_from : (cells : Cells) (at k j : ℕ) → j ≡ at + k →
    is_among (loose_from at cells) j ≡ is_loose_at cells k
listed_from [] at k j is = refl
listed_from ((b, false) ∷ cells) at zero j is = none_below cells (suc at) j (omega arith)
listed_from ((b, false) ∷ cells) at (suc k) j is = listed_from cells (suc at) k j (omega arith)
listed_from ((b, true) ∷ cells) at zero j is =
    ap (λ (x : Bool). x || is_among (loose_from (suc at) cells) j) (same at j (omega arith))
listed_from ((b, true) ∷ cells) at (suc k) j is =
    let lt : at < j = omega arith in
    ap (λ (x : Bool). x || is_among (loose_from (suc at) cells) j) (apart_up at j lt)
    ∙ listed_from cells (suc at) k j (omega arith)

-- an offset is among the loose ones exactly if the byte there is loose
pub listed : (cells : Cells) (k : ℕ) → is_among (loose_offsets cells) k ≡ is_loose_at cells k
listed cells k = listed_from cells 0 k k (omega arith)

-- the loose offsets ascend, from any number on that is not above the first offset
pub ascends_from : (cells : Cells) (at low : ℕ) → low ≤ at → Ascends low (loose_from at cells)
ascends_from [] at low le = tt
ascends_from ((b, false) ∷ cells) at low le = ascends_from cells (suc at) low (omega arith)
ascends_from ((b, true) ∷ cells) at low le = (le, ascends_from cells (suc at) (suc at) (omega arith))

first_place : (c : ℕ × Bool) (cells : Cells) (b : ℕ) (image : List ℕ) → (c.1 ≡ false → b ≡ c.0)
    → ((k : ℕ) → k < length cells → is_loose_at cells k ≡ false →
    slice_get image k ≡ slice_get (reads cells) k)
    → (k : ℕ) → k < length (c ∷ cells) → is_loose_at (c ∷ cells) k ≡ false →
    slice_get (b ∷ image) k ≡ slice_get (reads (c ∷ cells)) k
first_place c cells b image here rest zero lt firm = ap (λ (x : ℕ). Some x) (here firm)
first_place c cells b image here rest (suc k) lt firm = rest k (omega (arith, lt)) firm

at_each : (cells : Cells) (image : List ℕ) → IsImage cells image
    → (length image ≡ length cells) ×
    ((k : ℕ) → k < length cells → is_loose_at cells k ≡ false → slice_get image k ≡ slice_get (reads cells) k)
at_each [] [] is = (refl, λ k lt firm. refl)
at_each [] (b ∷ image) is = absurd is
at_each (c ∷ cells) [] is = absurd is
at_each (c ∷ cells) (b ∷ image) is =
    let rest = at_each cells image is.1 in
    (ap suc rest.0, first_place c cells b image is.0 rest.1)

inside : (a b : ℕ) → Some a ≡ Some b → a ≡ b
inside a b is = ap (λ (o : Option ℕ). unwrap_or o 0) is

from_each : (cells : Cells) (image : List ℕ) → length image ≡ length cells
    → ((k : ℕ) → k < length cells → is_loose_at cells k ≡ false →
    slice_get image k ≡ slice_get (reads cells) k) → IsImage cells image
from_each [] [] size each = tt
from_each [] (b ∷ image) size each = absurd (omega (arith, size))
from_each (c ∷ cells) [] size each = absurd (omega (arith, size))
from_each (c ∷ cells) (b ∷ image) size each = (
  λ firm. inside b c.0 (each 0 (omega arith) firm),
  from_each cells image (omega (arith, size)) (λ k lt firm. each (suc k) (omega (arith, lt)) firm),
)

-- an image told cell by cell is one told by offsets
pub by_offset : (cells : Cells) (image : List ℕ) → IsImage cells image →
    IsImageOf (reads cells) (loose_offsets cells) image
by_offset cells image is =
    let each = at_each cells image is in
    let long : length (reads cells) ≡ length cells = length-map cells (λ c. c.0) in
    record {
      size = each.0 ∙ sym long;
      same = λ k lt firm. each.1 k (omega (arith, lt, long)) (sym (listed cells k) ∙ firm);
    }

-- an image told by offsets is one told cell by cell
pub from_offset : (cells : Cells) (image : List ℕ) → IsImageOf (reads cells) (loose_offsets cells) image →
    IsImage cells image
from_offset cells image of =
    let long : length (reads cells) ≡ length cells = length-map cells (λ c. c.0) in
    from_each cells image (of.size ∙ long)
    (λ k lt firm. of.same k (omega (arith, lt, long)) (listed cells k ∙ firm))

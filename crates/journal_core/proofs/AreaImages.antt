-- While no byte of the front and of the active text is loose, every image of a disk stands for the records of
-- that text.
use Rattle.journal_core.proofs.Words.{length, take, drop, refl, sym, arith, Cells, reads, IsImage, AreFirm, Area, base_of, entries, StandsActive, active_again}
use Rattle.std.proofs.Common.{◌≡◌, ℕ, zero, suc, List, [], ◌∷◌}
use Rattle.record_defs.specs.Records.{Record}

-- an image agrees with what is read on the first bytes that are firm
front_same : (n : ℕ) (cells : Cells) (image : List ℕ) → AreFirm 0 n cells → IsImage cells image →
    take n (reads cells) ≡ take n image
front_same zero cells image firm is = refl
front_same (suc n) [] [] firm is = refl
front_same (suc n) [] (b ∷ image) firm is = absurd is
front_same (suc n) (c ∷ cells) [] firm is = absurd is
front_same (suc n) (c ∷ cells) (b ∷ image) firm is = (let same : b ≡ c.0 = is.0 (firm 0 (omega arith)) in
    let more = front_same n cells image (λ k l. firm (suc k) (omega (arith, l))) is.1 in
    (λ i. sym same i ∷ more i))

-- and on those from an offset on
part_same : (at n : ℕ) (cells : Cells) (image : List ℕ) → AreFirm at n cells → IsImage cells image →
    take n (drop at (reads cells)) ≡ take n (drop at image)
part_same zero n cells image firm is = front_same n cells image firm is
part_same (suc at) n [] [] firm is = refl
part_same (suc at) n [] (b ∷ image) firm is = absurd is
part_same (suc at) n (c ∷ cells) [] firm is = absurd is
part_same (suc at) n (c ∷ cells) (b ∷ image) firm is = part_same at n cells image firm is.1

-- while the front and the text of the active area are firm, every image stands for its records
pub images_stand : (area : Area) (rs : List Record) (cells : Cells) → StandsActive (reads cells) area rs →
    AreFirm 0 8 cells → AreFirm (base_of area) (suc (length (entries rs))) cells →
    (image : List ℕ) → IsImage cells image → StandsActive image area rs
images_stand area rs cells stands front text image is = active_again area rs (reads cells) image (record {
  front = part_same 0 8 cells image front is;
  text = part_same (base_of area) (suc (length (entries rs))) cells image text is;
}) stands

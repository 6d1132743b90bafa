-- Images and picks.
use Rattle.std.proofs.Common.{◌≡◌, ℕ, suc, true, false, List, [], ◌∷◌, length, refl, ap, sym, All}
use Rattle.std.proofs.lemmas.List.Elements.{All-nil, All-cons, All-head, All-tail}
use Rattle.device_defs.specs.Cells.{Cells, reads}
use Rattle.device_defs.specs.Images.{IsImage}
use Rattle.device_defs.specs.Picks.{picked, picks_for}

-- each image is made by the picks that are read off it
pub picked-picks_for : (cells : Cells) (image : List ℕ) → IsImage cells image →
    picked cells (picks_for cells image) ≡ image
picked-picks_for [] [] is = refl
picked-picks_for [] (i ∷ image) is = absurd is
picked-picks_for (c ∷ cells) [] is = absurd is
picked-picks_for ((b, false) ∷ cells) (i ∷ image) is =
    (λ k. sym (is.0 refl) k ∷ picked-picks_for cells image is.1 k)
picked-picks_for ((b, true) ∷ cells) (i ∷ image) is =
    ap (λ (l : List ℕ). i ∷ l) (picked-picks_for cells image is.1)

-- whatever is picked, what comes of it is an image
pub IsImage-picked : (cells : Cells) (picks : List ℕ) → IsImage cells (picked cells picks)
IsImage-picked [] picks = tt
IsImage-picked ((b, false) ∷ cells) picks = (λ firm. refl, IsImage-picked cells picks)
IsImage-picked ((b, true) ∷ cells) [] = (λ firm. refl, IsImage-picked cells [])
IsImage-picked ((b, true) ∷ cells) (p ∷ picks) = (λ firm. absurd cc, IsImage-picked cells picks)

-- what is read is itself an image
pub IsImage-reads : (cells : Cells) → IsImage cells (reads cells)
IsImage-reads [] = tt
IsImage-reads (c ∷ cells) = (λ firm. refl, IsImage-reads cells)

-- picks do not change the length
pub length-picked : (cells : Cells) (picks : List ℕ) → length (picked cells picks) ≡ length cells
length-picked [] picks = refl
length-picked ((b, false) ∷ cells) picks = ap suc (length-picked cells picks)
length-picked ((b, true) ∷ cells) [] = ap suc (length-picked cells [])
length-picked ((b, true) ∷ cells) (p ∷ picks) = ap suc (length-picked cells picks)

-- what holds of all bytes of an image holds of the picks read off it
pub All-picks_for : (P : ℕ → Type 0) (cells : Cells) (image : List ℕ) → All P image →
    All P (picks_for cells image)
All-picks_for P [] image all = All-nil P
All-picks_for P (c ∷ cells) [] all = All-nil P
All-picks_for P ((b, false) ∷ cells) (i ∷ image) all = All-picks_for P cells image (All-tail P i image all)
All-picks_for P ((b, true) ∷ cells) (i ∷ image) all = All-cons P i (picks_for cells image)
    (All-head P i image all) (All-picks_for P cells image (All-tail P i image all))

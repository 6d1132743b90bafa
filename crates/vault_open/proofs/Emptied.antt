-- A disk that counts as empty, and what is written to its front.
use Rattle.vault_open.proofs.Words.{◌≡◌, ℕ, suc, ◌+◌, ◌≤◌, min, true, List, [], ◌∷◌, ◌++◌, length, take, drop, Option, Some, None, refl, sym, ap, ◌∙◌, subst, arith, length-append, length-take, length-drop, IfSome, length-map, drop_all, WriteFault, Cells, reads, firm, loose, written, synced, Torn, IsImage, EachImage, Goes, text, A, IsBlank, AreShort, emptied}
use Rattle.stream_model.specs.declared.fault.WriteFault.TheVariants as write_fault
use Rattle.record_defs.proofs.AreaLaws.{text-active}
use Rattle.journal_core.proofs.CellLemmas.{written-behind, settled-loose}

-- ---- images

length-image : (cells : Cells) (image : List ℕ) → IsImage cells image → length image ≡ length cells
length-image [] [] is = refl
length-image [] (b ∷ image) is = absurd is
length-image (c ∷ cells) [] is = absurd is
length-image (c ∷ cells) (b ∷ image) is = ap suc (length-image cells image is.1)

-- ---- writes to the front

length-reads : (cells : Cells) → length (reads cells) ≡ length cells
length-reads cells = length-map {B = ℕ} cells (λ c. c.0)

written-front : (cells : Cells) → length (reads cells) ≤ 9 → written 0 (text []) cells ≡ loose (text [])
written-front cells short = written-behind [] cells 0 refl (text [])
    ∙ ap (λ (l : Cells). loose (text []) ++ l) (drop_all 9 cells (omega (arith, short, length-reads cells)))

-- a disk of at most nine bytes, once emptied, is the text of no records
pub emptied-is : (cells : Cells) → length (reads cells) ≤ 9 → emptied cells ≡ firm (text [])
emptied-is cells short = ap synced (written-front cells short) ∙ settled-loose (text [])

short-cells : (cells : Cells) → length cells ≤ 9 → AreShort cells
short-cells cells few image is = omega (arith, few, length-image cells image is)

torn-short : (old new : Cells) → Torn 0 9 old new → length (reads old) ≤ 9 → AreShort new
torn-short old new torn short =
    let from = min 0 (length old) in
    let new_cells = loose torn.bytes in
    let size : length new_cells ≡ length torn.bytes = length-map torn.bytes (λ b. (b, true)) in
    let all : length new ≡ length
    (take from old) + (length new_cells + length (drop (from + length new_cells) old)) =
    ap length torn.held ∙ length-append (take from old) (new_cells ++ drop (from + length new_cells) old)
    ∙ ap (λ (k : ℕ). length (take from old) + k)
    (length-append new_cells (drop (from + length new_cells) old)) in
    let no_longer = torn.no_longer in
    short-cells new (omega (
      arith,
      all,
      size,
      no_longer,
      short,
      length-reads old,
      length-take from old,
      length-drop (from + length new_cells) old,
    ))

-- a write to the front that failed leaves a short disk's images short
pub failed-short : (fault : WriteFault) (old new : Option Cells) →
    (fault ≡ write_fault.Failed → Goes (Torn 0 9) old new) → (fault ≡ write_fault.Memory → new ≡ old)
    → IfSome old (λ cells. length (reads cells) ≤ 9) → EachImage new (λ image. length image ≤ 9)
failed-short write_fault.Memory None new failed memory short =
    subst (λ (o : Option Cells). EachImage o (λ image. length image ≤ 9)) (sym (memory refl)) tt
failed-short write_fault.Memory (Some old) new failed memory short =
    subst (λ (o : Option Cells). EachImage o (λ image. length image ≤ 9)) (sym (memory refl))
    (short-cells old (omega (arith, short, length-reads old)))
failed-short write_fault.Failed None None failed memory short = tt
failed-short write_fault.Failed None (Some new) failed memory short = absurd (failed refl)
failed-short write_fault.Failed (Some old) None failed memory short = absurd (failed refl)
failed-short write_fault.Failed (Some old) (Some new) failed memory short =
    torn-short old new (failed refl) short

-- the text of no record stands for none in the first area
pub text-blank : IsBlank A (firm (text []))
text-blank = record { bytes = text []; firm_is = refl; stands = text-active [] refl }

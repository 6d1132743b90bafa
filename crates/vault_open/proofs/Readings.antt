-- What is read of a disk that may tell what it holds.
use Rattle.vault_open.proofs.Words.{◌≡◌, ℕ, ◌<◌, false, min, List, length, take, drop, Option, Some, None, ap, ◌∙◌, subst, arith, IfSome, option_map, take_min, length-map, Cells, reads, synced, reads-firm, largest_journal, journal_read}

-- a sync leaves what is read
pub reads-synced : (cells : Cells) → reads (synced cells) ≡ reads cells
reads-synced cells = reads-firm (reads cells)

-- a read of so many bytes after a sync
pub front_read : (held now later : Option Cells) (len n k : ℕ) (out items : List ℕ) →
    now ≡ option_map synced held → later ≡ now → IfSome now (λ cells. len ≡ length cells) → 9 < len →
    n ≡ min len largest_journal → IfSome later (λ cells. take k out ≡ take n (drop 0 (reads cells))) →
    items ≡ take k out → IfSome held (λ cells. (9 < length (reads cells)) × (items ≡ journal_read cells))
front_read None now later len n k out items is same len_is long n_is read items_are = tt
front_read (Some cells) now later len n k out items is same len_is long n_is read items_are =
    let size : len ≡ length (synced cells) =
    subst (λ (o : Option Cells). IfSome o (λ cells. len ≡ length cells)) is len_is in
    let told : take k out ≡ take n (reads (synced cells)) =
    subst (λ (o : Option Cells). IfSome o (λ cells. take k out ≡ take n (drop 0 (reads cells))))
    (same ∙ is) read in
    let as_long : length (synced cells) ≡ length (reads cells) = length-map (reads cells) (λ b. (b, false)) in
    let least : n ≡ min largest_journal (length (reads cells)) = omega (arith, n_is, size, as_long) in (
      omega (arith, size, as_long, long),
      items_are ∙ told ∙ ap (take n) (reads-synced cells) ∙ ap (λ (m : ℕ). take m (reads cells)) least
          ∙ take_min largest_journal (reads cells),
    )

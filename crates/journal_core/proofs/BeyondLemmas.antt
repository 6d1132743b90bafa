-- What is read past a write, and past a write that failed.
use Rattle.journal_core.proofs.Words.{◌+◌, ◌-◌, ◌≤◌, min, true, ◌++◌, length, take, drop, replicate, Option, Some, None, refl, sym, ap, ◌∙◌, subst, arith, length-append, length-take, option_map, drop-drop, length-map, length-replicate, drop-map, drop-append-add, Cells, reads, loose, spliced, written, Torn, Goes, reads-firm, SameFrom}
use Rattle.std.proofs.Common.{◌≡◌, ℕ, List}
use Rattle.journal_core.proofs.CellLemmas.{settled}

-- past all that was put in place
pub drop-spliced : {X : Type 0} (end at : ℕ) (new old : List X) → at ≤ length old → at + length new ≤ end →
    drop end (spliced at new old) ≡ drop end old
drop-spliced end at new old le past =
    let front : length (take at old) ≡ at = omega (arith, length-take at old) in
    let is : end ≡ length (take at old) + (length new + (end - (at + length new))) = omega (arith, front) in
    let rest = end - (at + length new) in
    ap (λ (k : ℕ). drop k (spliced at new old)) is
    ∙ drop-append-add (take at old) (new ++ drop (at + length new) old) (length new + rest)
    ∙ drop-append-add new (drop (at + length new) old) rest
    ∙ drop-drop rest (at + length new) old
    ∙ (let same : at + length new + rest ≡ end = omega arith in ap (λ (k : ℕ). drop k old) same)

-- cells that are the same from an offset on read the same there
same_cells : (end : ℕ) (old new : Cells) → drop end new ≡ drop end old → SameFrom end old new
same_cells end old new is = drop-map (λ c. c.0) end new ∙ ap reads is ∙ sym (drop-map (λ c. c.0) end old)

-- how many cells a gap of zeros and bytes behind it are
pub size_of : (k : ℕ) (bytes : List ℕ) → length (loose (replicate k 0 ++ bytes)) ≡ k + length bytes
size_of k bytes = length-map (replicate k 0 ++ bytes) (λ b. (b, true)) ∙ length-append (replicate k 0) bytes
    ∙ ap (λ (m : ℕ). m + length bytes) (length-replicate k 0)

-- a write that ends at or before a place changes nothing from that place on
pub written_same : (end at : ℕ) (bytes : List ℕ) (old : Cells) → at + length bytes ≤ end →
    SameFrom end old (written at bytes old)
written_same end at bytes old past =
    let size : length (loose (replicate (at - length old) 0 ++ bytes)) ≡ at - length old + length bytes =
    size_of (at - length old) bytes in
    let ends : min at (length old) + length (loose (replicate (at - length old) 0 ++ bytes)) ≤ end =
    omega (arith, size) in
    same_cells end old _ (drop-spliced end (min at (length old))
    (loose (replicate (at - length old) 0 ++ bytes)) old (omega arith) ends)

-- nor does one that failed
pub torn_same : (end at n : ℕ) (old new : Cells) → at + n ≤ end → Torn at n old new → SameFrom end old new
torn_same end at n old new past torn =
    let size : length (loose torn.bytes) ≡ length torn.bytes = length-map torn.bytes (λ b. (b, true)) in
    same_cells end old new (ap (λ (c : Cells). drop end c) torn.held
    ∙ drop-spliced end (min at (length old)) (loose torn.bytes) old (omega arith)
    (omega (arith, size, torn.no_longer)))

-- nor does a sync
pub settled_same : (end : ℕ) (old : Cells) → SameFrom end old (settled old)
settled_same end old = ap (λ (l : List ℕ). drop end l) (reads-firm (reads old))

-- ---- where the disk tells its cells

-- a disk goes as its cells do
pub goes_mapped : (R : Cells → Cells → Type 0) (f : Cells → Cells) → ((cells : Cells) → R cells (f cells)) →
    (old new : Option Cells) → new ≡ option_map f old → Goes R old new
goes_mapped R f step None new is = subst (λ (o : Option Cells). Goes R None o) (sym is) tt
goes_mapped R f step (Some cells) new is =
    subst (λ (o : Option Cells). Goes R (Some cells) o) (sym is) (step cells)

-- what follows from how the cells go
pub goes_on : (R S : Cells → Cells → Type 0) → ((old new : Cells) → R old new → S old new) →
    (old new : Option Cells) → Goes R old new → Goes S old new
goes_on R S step None None goes = tt
goes_on R S step None (Some new) goes = goes
goes_on R S step (Some old) None goes = goes
goes_on R S step (Some old) (Some new) goes = step old new goes

-- a disk that did not change reads the same from any place on
pub goes_still : (end : ℕ) (old new : Option Cells) → new ≡ old → Goes (SameFrom end) old new
goes_still end None new is = subst (λ (o : Option Cells). Goes (SameFrom end) None o) (sym is) tt
goes_still end (Some cells) new is =
    subst (λ (o : Option Cells). Goes (SameFrom end) (Some cells) o) (sym is) refl

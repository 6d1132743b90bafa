-- A read of the front of a disk that may tell what it holds.
use Rattle.disk_model.proofs.Words.{◌≡◌, ℕ, min, List, take, drop, Option, Some, None, ap, ◌∙◌, subst, arith, IfSome, take_min, length-map, Cells, reads}
use Rattle.std.proofs.Common.{length}

-- a read of a front gives what the disk reads there
pub front_read : (held mid : Option Cells) (len n k limit : ℕ) (out items : List ℕ) → mid ≡ held →
    IfSome held (λ cells. len ≡ length cells) → n ≡ min len limit
    → IfSome mid (λ cells. take k out ≡ take n (drop 0 (reads cells))) → items ≡ take k out →
    IfSome held (λ cells. items ≡ take limit (reads cells))
front_read None mid len n k limit out items same len_is n_is read items_are = tt
front_read (Some cells) mid len n k limit out items same len_is n_is read items_are =
    let told : take k out ≡ take n (reads cells) = subst
    (λ (o : Option Cells). IfSome o (λ cells. take k out ≡ take n (drop 0 (reads cells)))) same read in
    let least : n ≡ min limit (length (reads cells)) =
    omega (arith, n_is, len_is, length-map {B = ℕ} cells (λ c. c.0)) in
    items_are ∙ told ∙ ap (λ (m : ℕ). take m (reads cells)) least ∙ take_min limit (reads cells)

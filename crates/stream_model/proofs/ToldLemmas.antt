-- Bytes that a device may tell, one call after another.
use Rattle.std.proofs.Common.{◌≡◌, ℕ, ◌+◌, List, ◌++◌, take, drop, Option, Some, None, refl, sym, ap, ◌∙◌, append_assoc}
use Rattle.std.proofs.Math.Seq.{take-add}
use Rattle.device_defs.specs.Told.{told_then}

-- two pieces that were written are one
pub told_then-append : (told : Option (List ℕ)) (xs ys : List ℕ) →
    told_then (told_then told xs) ys ≡ told_then told (xs ++ ys)
told_then-append None xs ys = refl
told_then-append (Some bs) xs ys = ap (λ (l : List ℕ). Some l) (append_assoc bs xs ys)

-- a write took n bytes more of the piece
pub told_then_more : (first mid now : Option (List ℕ)) (bytes : List ℕ) (k n : ℕ) →
    mid ≡ told_then first (take k bytes) → now ≡ told_then mid (take n (drop k bytes)) →
    now ≡ told_then first (take (k + n) bytes)
told_then_more first mid now bytes k n so_far more =
    more ∙ ap (λ (t : Option (List ℕ)). told_then t (take n (drop k bytes))) so_far
    ∙ told_then-append first (take k bytes) (take n (drop k bytes))
    ∙ ap (λ (l : List ℕ). told_then first l) (sym (take-add k n bytes))

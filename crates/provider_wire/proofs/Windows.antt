-- Bytes that a read put behind others.
use Rattle.provider_wire.proofs.Words.{◌≡◌, ℕ, ◌+◌, ◌-◌, ◌<◌, ◌≤◌, List, ◌++◌, length, take, drop, sym, ap, ◌∙◌, arith, take-append-drop, length-append, length-take, length-drop, Fits, take-put_mid_behind, then_told, w64}
use Rattle.std.proofs.Common.{min, Option, Result, Ok, Err, IfOk}
use Rattle.std.proofs.lemmas.Slice.{take-put_mid, drop-put_mid}
use borrow.Rule.Slice.PartMut.{put_mid}

-- what was written in the middle leaves the length
pub part_length : (xs ys : List ℕ) (a k : ℕ) → length ys ≡ k → a + k ≤ length xs →
    length (put_mid a k xs ys) ≡ length xs
part_length xs ys a k size within =
    let rest = drop (a + k) xs in
    ap length (sym (take-append-drop (a + k) (put_mid a k xs ys))
    ∙ (λ i. take-put_mid a k xs ys (a + k) (omega (arith, size)) (omega arith) i ++ drop-put_mid a k xs ys
    (a + k) (omega arith) (omega arith) size i)) ∙ omega (
      arith,
      length-append (take a xs ++ ys) rest,
      length-append (take a xs) ys,
      length-take a xs,
      length-drop (a + k) xs,
    )

-- bytes that a source gave behind others
pub read_behind-given : {E : Type 0} (bytes out : List ℕ) (len end : ℕ) (result : Result ℕ E)
    (left now : Option (List ℕ))
    → end ≤ length bytes → len ≤ end → length out ≡ length (take (end - len) (drop len bytes))
    → IfOk result (λ n. n ≤ length (take (end - len) (drop len bytes)))
    → IfOk result (λ n. left ≡ then_told (take n out) now)
    → IfOk result (λ n. (part : List ℕ) ×
    (take (len + n) (put_mid len (end - len) bytes out) ≡ take len bytes ++ part)
    × (length part ≡ n) × (left ≡ then_told part now))
read_behind-given bytes out len end (Err fault) left now within room size few given = tt
read_behind-given bytes out len end (Ok n) left now within room size few given = (
  take n out,
  take-put_mid_behind bytes out len (end - len) n (omega (arith, within, room)) (omega (arith, few, size)),
  omega (arith, length-take n out, few, size),
  given,
)

-- where a window is filled up to: as many bytes more as are asked for and have room
pub end_within : {len more size : ℕ} (most : ℕ) → size ≡ 65536 → len ≤ 65536 → more ≡ min most (65536 - len) →
    len + more ≤ size
end_within most size_is within more_is = omega arith

-- that end fits a number of 64 bits
pub end_fits : {len more : ℕ} (most : ℕ) → len ≤ 65536 → more ≡ min most (65536 - len) → Fits w64 (len + more)
end_fits most within more_is = record { fits = omega arith }

-- what came has room in the window
pub filled_within : {len more n : ℕ} (most : ℕ) → len ≤ 65536 → more ≡ min most (65536 - len) →
    n ≤ len + more - len → len + n ≤ 65536
filled_within most within more_is few = omega arith

-- how many bytes there are then fits a number of 64 bits
pub filled_fits : {len more n : ℕ} (most : ℕ) → len ≤ 65536 → more ≡ min most (65536 - len) →
    n ≤ len + more - len → Fits w64 (len + n)
filled_fits most within more_is few = record { fits = omega (arith, filled_within most within more_is few) }

-- what a window has once bytes came behind others
pub filled-given : {more n : ℕ} {view seen : List ℕ} {left : Option (List ℕ)} (len most : ℕ)
    (bytes new : List ℕ)
    (now : Option (List ℕ)) → take len bytes ≡ view → seen ≡ take (len + n) new
    → more ≡ min most (65536 - len) → n ≤ len + more - len
    → (part : List ℕ) × (take (len + n) new ≡ take len bytes ++ part) × (length part ≡ n) ×
    (left ≡ then_told part now)
    → (part : List ℕ) × (seen ≡ view ++ part) × (length part ≡ n) × (n ≤ most) × (left ≡ then_told part now)
filled-given len most bytes new now view_is seen_is more_is few given =
    (given.0, seen_is ∙ given.1 ∙ ap (λ (l : List ℕ). l ++ given.0) view_is, given.2, omega arith, given.3)

-- where there was room and none came, the source is at its end
pub filled-end : {most more n : ℕ} {view : List ℕ} {E : Type 0} (len : ℕ) (bytes : List ℕ) →
    length bytes ≡ 65536 → len ≤ 65536 → take len bytes ≡ view → more ≡ min most (65536 - len) →
    (n ≡ 0 → len < len + more → E) → n ≡ 0 → 0 < most → length view < 65536 → E
filled-end len bytes size_is within view_is more_is end none some room =
    end none (omega (arith, length-take len bytes, ap length view_is))

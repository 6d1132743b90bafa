-- What a reader has left, by what it gave into room for one byte more than is looked for.
use Rattle.std.specs.Prelude.{◌≡◌, ◌↔◌, ◌<◌, ◌≤◌, ℕ, ◌+◌, List, [], ◌++◌, length, take, Option, Some, None, IfSome, Bool, IsTrue}
use Rattle.std.specs.Io.KnownBytes.{Consumes, IsAtEnd}
use Rattle.std.proofs.Common.{◌⊎◌, inl, inr, arith, ap, ◌∙◌, sym, length-append, length-take-le}
use Rattle.std.proofs.lemmas.List.{append-nil}
use Rattle.std.proofs.Math.Nat.{eq-or-lt_of_le}

-- where it gave less than there was room for, that was all
gave_all : (left rest room bytes : List ℕ) (n : ℕ) (same : Bool) → left ≡ take n room ++ rest → rest ≡ [] →
    (IsTrue same ↔ take n room ≡ bytes) → IsTrue same ↔ left ≡ bytes
gave_all left rest room bytes n same given nothing is =
    let all : left ≡ take n room =
    given ∙ ap (λ (l : List ℕ). take n room ++ l) nothing ∙ append-nil (take n room) in
    ((λ yes. all ∙ is.0 yes), (λ e. is.1 (sym all ∙ e)))

-- where it filled the room, it had more than is looked for
had_more : (left rest room bytes : List ℕ) (n : ℕ) (same : Bool) → left ≡ take n room ++ rest →
    n ≡ length room → length room ≡ length bytes + 1 →
    (IsTrue same ↔ take n room ≡ bytes) → IsTrue same ↔ left ≡ bytes
had_more left rest room bytes n same given full long is =
    let wide : length (take n room) ≡ n = length-take-le n room (omega (arith, full)) in
    let all : length left ≡ length (take n room) + length rest =
    ap length given ∙ length-append (take n room) rest in (
      (λ yes. let short : length (take n room) ≡ length bytes = ap length (is.0 yes) in
          grind (arith, short, wide, full, long)),
      (λ e. let short : length left ≡ length bytes = ap length e in
          grind (arith, short, all, wide, full, long)),
    )

-- known bytes that are left are those looked for exactly where they were given, and no more
pub is_what_is_left : (a b : Option (List ℕ)) (room bytes : List ℕ) (n : ℕ) (same : Bool) → n ≤ length room →
    length room ≡ length bytes + 1 → Consumes a b (take n room) → (n < length room → IsAtEnd b) →
    (IsTrue same ↔ take n room ≡ bytes) → IfSome a (λ left. IsTrue same ↔ left ≡ bytes)
is_what_is_left None b room bytes n same fits long given ended is = _
is_what_is_left (Some left) None room bytes n same fits long given ended is = elim given [ ]
is_what_is_left (Some left) (Some rest) room bytes n same fits long given ended is = go (eq-or-lt_of_le fits)
  where
    go : (n ≡ length room) ⊎ (n < length room) → IsTrue same ↔ left ≡ bytes
    go (inl full) = had_more left rest room bytes n same given full long is
    go (inr less) = gave_all left rest room bytes n same given (ended less) is

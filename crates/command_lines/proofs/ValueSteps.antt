-- A line of values grows by one value.
use Rattle.command_lines.proofs.Words.{◌≡◌, ℕ, zero, suc, ◌+◌, ◌<◌, List, [], ◌∷◌, ◌++◌, length, take, map, get_or, refl, sym, ap, ◌∙◌, append_assoc, arith, length-take, take_more, map-append, length-map, join_with_byte, decimal}

-- one piece more, behind others
join-push : (c : ℕ) (pieces : List (List ℕ)) (piece : List ℕ) → 0 < length pieces →
    join_with_byte c (pieces ++ piece ∷ []) ≡ join_with_byte c pieces ++ c ∷ piece
join-push c [] piece some = absurd (omega (arith, some))
join-push c (x ∷ []) piece some = refl
join-push c (x ∷ y ∷ pieces) piece some =
    ap (λ (rest : List ℕ). x ++ (c ∷ rest)) (join-push c (y ∷ pieces) piece (omega arith))
    ∙ sym (append_assoc x (c ∷ join_with_byte c (y ∷ pieces)) (c ∷ piece))

-- the pieces of one value more
decimals-more : (values : List ℕ) (k value : ℕ) → k < length values → value ≡ get_or values k value →
    map decimal (take (k + 1) values) ≡ map decimal (take k values) ++ decimal value ∷ []
decimals-more values k value within is = ap (λ (xs : List ℕ). map decimal xs) (take_more values k value within
    ∙ ap (λ (x : ℕ). take k values ++ x ∷ []) (sym is)) ∙ map-append decimal (take k values) (value ∷ [])

-- the first value
pub line_first : (values line : List ℕ) (k value : ℕ) → k ≡ 0 → k < length values →
    value ≡ get_or values k value → line ≡ join_with_byte 32 (map decimal (take k values)) →
    line ++ decimal value ≡ join_with_byte 32 (map decimal (take (k + 1) values))
line_first values line zero value first within is before = ap (λ (xs : List ℕ). xs ++ decimal value) before
    ∙ ap (λ (pieces : List (List ℕ)). join_with_byte 32 pieces) (sym (decimals-more values 0 value within is))
line_first values line (suc k) value first within is before = absurd (omega arith)

-- a further value
pub line_more : (values line : List ℕ) (k value : ℕ) → 0 < k → k < length values →
    value ≡ get_or values k value → line ≡ join_with_byte 32 (map decimal (take k values)) →
    (line ++ 32 ∷ []) ++ decimal value ≡ join_with_byte 32 (map decimal (take (k + 1) values))
line_more values line k value later within is before =
    let some : 0 < length (map decimal (take k values)) = simp (length-map, length-take) (omega arith) in
    append_assoc line (32 ∷ []) (decimal value)
    ∙ ap (λ (xs : List ℕ). xs ++ 32 ∷ decimal value) before
    ∙ sym (ap (λ (pieces : List (List ℕ)). join_with_byte 32 pieces) (decimals-more values k value within is)
    ∙ join-push 32 (map decimal (take k values)) (decimal value) some)

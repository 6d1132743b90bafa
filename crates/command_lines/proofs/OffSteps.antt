-- The lines of a scrub: the line of a provider, and one provider more.
use Rattle.command_lines.proofs.Words.{◌≡◌, ℕ, ◌+◌, ◌<◌, codes, List, [], ◌∷◌, ◌++◌, length, take, get_or, sym, ap, ◌∙◌, append_assoc, arith, take_more, append-nil, length-take-le, then_number, off_line, off_lines}
use Rattle.command_lines.proofs.Pushed.{behind_two}

-- the line of a provider from its pieces
pub off_line_is : (place told symbols blocks : ℕ) → told ≡ place
    → (codes "provider" ++ then_number told)
    ++ ((codes " symbols" ++ then_number symbols) ++ ((codes " blocks" ++ then_number blocks) ++ 10 ∷ []))
    ≡ off_line place symbols blocks
off_line_is place told symbols blocks told_is =
    let front = codes "provider" ++ then_number place in
    let end = (codes " blocks" ++ then_number blocks) ++ 10 ∷ [] in
    (λ i. (codes "provider" ++ then_number (told_is i))
    ++ ((codes " symbols" ++ then_number symbols) ++ end))
    ∙ behind_two front (codes " symbols") (then_number symbols) end
    ∙ behind_two ((front ++ codes " symbols") ++ then_number symbols) (codes " blocks") (then_number blocks)
    (10 ∷ [])

-- one provider more, behind others
off_lines-snoc : (j : ℕ) (symbols blocks : List ℕ) (x y : ℕ) → length symbols ≡ length blocks →
    off_lines j (symbols ++ x ∷ []) (blocks ++ y ∷ [])
    ≡ off_lines j symbols blocks ++ off_line (j + length symbols) x y
off_lines-snoc j [] [] x y same =
    let here : j ≡ j + 0 = omega arith in
    append-nil (off_line j x y) ∙ ap (λ (k : ℕ). off_line k x y) here
off_lines-snoc j (s ∷ symbols) (b ∷ blocks) x y same =
    let place : (j + 1) + length symbols ≡ j + length (s ∷ symbols) = omega arith in
    ap (λ (rest : List ℕ). off_line j s b ++ rest)
    (off_lines-snoc (j + 1) symbols blocks x y (omega (arith, same)))
    ∙ sym (append_assoc (off_line j s b) (off_lines (j + 1) symbols blocks)
    (off_line ((j + 1) + length symbols) x y))
    ∙ ap (λ (k : ℕ). (off_line j s b ++ off_lines (j + 1) symbols blocks) ++ off_line k x y) place
off_lines-snoc j [] (b ∷ blocks) x y same = absurd (omega (arith, same))
off_lines-snoc j (s ∷ symbols) [] x y same = absurd (omega (arith, same))

-- one provider more
pub off_more : (symbols blocks start text : List ℕ) (place default : ℕ) → length symbols ≡ length blocks
    → place < length symbols
    → text ≡ start ++ off_lines 0 (take place symbols) (take place blocks)
    → text ++ off_line place (get_or symbols place default) (get_or blocks place default)
    ≡ start ++ off_lines 0 (take (place + 1) symbols) (take (place + 1) blocks)
off_more symbols blocks start text place default same within before =
    let front = take place symbols in
    let behind = take place blocks in
    let x = get_or symbols place default in
    let y = get_or blocks place default in
    let long : length front ≡ place = length-take-le place symbols (omega (arith, within)) in
    let size : 0 + length front ≡ place = omega (arith, long) in
    let other : length behind ≡ place = length-take-le place blocks (omega (arith, within, same)) in
    let grown : off_lines 0 (take (place + 1) symbols) (take (place + 1) blocks)
    ≡ off_lines 0 front behind ++ off_line place x y =
    ap (λ (cs : List ℕ). off_lines 0 cs (take (place + 1) blocks)) (take_more symbols place default within)
    ∙ ap (λ (cs : List ℕ). off_lines 0 (front ++ x ∷ []) cs)
    (take_more blocks place default (omega (arith, within, same)))
    ∙ off_lines-snoc 0 front behind x y (long ∙ sym other)
    ∙ ap (λ (k : ℕ). off_lines 0 front behind ++ off_line k x y) size in
    ap (λ (xs : List ℕ). xs ++ off_line place x y) before
    ∙ append_assoc start (off_lines 0 front behind) (off_line place x y)
    ∙ ap (λ (xs : List ℕ). start ++ xs) (sym grown)

-- The lines of an audit: the line of a provider, and one provider more.
use Rattle.command_lines.proofs.Words.{◌≡◌, ℕ, ◌+◌, ◌<◌, ◌≤◌, Bool, true, false, codes, List, [], ◌∷◌, ◌++◌, length, take, get_or, sym, ap, ◌∙◌, append_assoc, arith, take_more, append-nil, length-take-le, nat_lt, line, then_number, count_line, count_lines}
use Rattle.std.proofs.lemmas.Bool.Decides.{nat_tests}
use Rattle.std.specs.Prelude.{if◌then◌else◌}
use Rattle.command_lines.proofs.Pushed.{behind_two}

-- the line of a provider from its pieces
pub count_line_is : (tolerance place count told : ℕ) (end : List ℕ) → told ≡ count
    → end ≡ line (if nat_lt tolerance count then codes " flagged" else codes " ok")
    → (codes "provider" ++ then_number place) ++ ((codes " count" ++ then_number told) ++ end)
    ≡ count_line tolerance place count
count_line_is tolerance place count told end told_is end_is =
    let front = codes "provider" ++ then_number place in
    let word = if nat_lt tolerance count then codes " flagged" else codes " ok" in
    (λ i. front ++ ((codes " count" ++ then_number (told_is i)) ++ end_is i))
    ∙ behind_two front (codes " count") (then_number count) (line word)
    ∙ sym (append_assoc ((front ++ codes " count") ++ then_number count) word (10 ∷ []))

-- a count above the tolerance is flagged
pub flagged_above : (tolerance count told : ℕ) → told ≡ tolerance → told < count →
    line (codes " flagged") ≡ line (if nat_lt tolerance count then codes " flagged" else codes " ok")
flagged_above tolerance count told is above =
    let so : nat_lt tolerance count ≡ true = grind (arith, nat_tests) in
    ap (λ (b : Bool). line (if b then codes " flagged" else codes " ok")) (sym so)

-- and no other
pub not_flagged : (tolerance count told : ℕ) → told ≡ tolerance → count ≤ told →
    line (codes " ok") ≡ line (if nat_lt tolerance count then codes " flagged" else codes " ok")
not_flagged tolerance count told is within =
    let so : nat_lt tolerance count ≡ false = grind (arith, nat_tests) in
    ap (λ (b : Bool). line (if b then codes " flagged" else codes " ok")) (sym so)

-- one count more, behind others
count_lines-snoc : (tolerance j : ℕ) (counts : List ℕ) (count : ℕ) →
    count_lines tolerance j (counts ++ count ∷ []) ≡ count_lines tolerance j counts ++ count_line tolerance
    (j + length counts) count
count_lines-snoc tolerance j [] count =
    let here : j ≡ j + 0 = omega arith in
    append-nil (count_line tolerance j count) ∙ ap (λ (k : ℕ). count_line tolerance k count) here
count_lines-snoc tolerance j (x ∷ counts) count =
    let same : (j + 1) + length counts ≡ j + length (x ∷ counts) = omega arith in
    ap (λ (rest : List ℕ). count_line tolerance j x ++ rest) (count_lines-snoc tolerance (j + 1) counts count)
    ∙ sym (append_assoc (count_line tolerance j x) (count_lines tolerance (j + 1) counts)
    (count_line tolerance ((j + 1) + length counts) count))
    ∙ ap (λ (k : ℕ). (count_line tolerance j x ++ count_lines tolerance (j + 1) counts) ++ count_line
    tolerance k count) same

-- one provider more
pub counted_more : (tolerance : ℕ) (counts start text : List ℕ) (place default : ℕ) → place < length counts
    → text ≡ start ++ count_lines tolerance 0 (take place counts)
    → text ++ count_line tolerance place (get_or counts place default)
    ≡ start ++ count_lines tolerance 0 (take (place + 1) counts)
counted_more tolerance counts start text place default within before =
    let front = take place counts in
    let count = get_or counts place default in
    let size : 0 + length front ≡ place =
    omega (arith, length-take-le place counts (omega (arith, within))) in
    let grown : count_lines tolerance 0 (take (place + 1) counts)
    ≡ count_lines tolerance 0 front ++ count_line tolerance place count =
    ap (λ (cs : List ℕ). count_lines tolerance 0 cs) (take_more counts place default within)
    ∙ count_lines-snoc tolerance 0 front count
    ∙ ap (λ (k : ℕ). count_lines tolerance 0 front ++ count_line tolerance k count) size in
    ap (λ (xs : List ℕ). xs ++ count_line tolerance place count) before
    ∙ append_assoc start (count_lines tolerance 0 front) (count_line tolerance place count)
    ∙ ap (λ (xs : List ℕ). start ++ xs) (sym grown)

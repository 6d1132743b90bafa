-- The last line of a text.
use Rattle.line_laws.proofs.Words.{◌≡◌, ℕ, List, [], ◌∷◌, ◌++◌, drop, get_or, refl, sym, ap, arith, inl, inr, ◌∙◌, subst, length-append, append_cancel_right, Outcome, Listed, Continued, line, lines_of, IsToldByLine, WritesOneLine, HasNoNewline, IsOfLines}
use Rattle.std.proofs.Common.{length}
use Rattle.line_laws.proofs.OneLine.{one-line}
use Rattle.line_laws.proofs.Outcomes.{lines-tell}

-- what remains ends in a newline
abbrev Ends : List ℕ → Type 0
Ends [] = Unit {0}
Ends (c ∷ []) = c ≡ 10
Ends (c ∷ d ∷ rest) = Ends (d ∷ rest)

ends-line : (front : List ℕ) → Ends (line front)
ends-line (c ∷ d ∷ rest) = ends-line (d ∷ rest)
ends-line front = refl

ends : (text : List ℕ) → IsOfLines text → Ends text
ends text (inl none) = subst Ends (sym none) tt
ends text (inr some) = subst Ends (sym some.1) (ends-line some.0)

behind : (c : ℕ) (rest : List ℕ) → Ends (c ∷ rest) → Ends rest
behind c [] end = tt
behind c (d ∷ rest) end = end

-- one line is not two
one : (x rest y : List ℕ) (c : ℕ) → HasNoNewline x → Ends (c ∷ rest) → line x ≡ (c ∷ rest) ++ line y → ⊥
one [] rest y c free end same =
    omega (arith, ap length same, length-append rest (line y), length-append y (10 ∷ []))
one (b ∷ x) [] y c free end same = free.0 (ap (λ l. get_or l 0 0) same ∙ end)
one (b ∷ x) (d ∷ rest) y c free end same = one x rest y d free.1 end (ap (drop 1) same)

last : (front other x y : List ℕ) → Ends front → Ends other → HasNoNewline x → HasNoNewline y →
    front ++ line x ≡ other ++ line y → (front ≡ other) × (x ≡ y)
last [] [] x y end close free clear same = (refl, append_cancel_right x y (10 ∷ []) same)
last [] (o ∷ other) x y end close free clear same = absurd (one x other y o free close same)
last (c ∷ front) [] x y end close free clear same = absurd (one y front x c clear end (sym same))
last (c ∷ front) (o ∷ other) x y end close free clear same =
    let rest =
    last front other x y (behind c front end) (behind o other close) free clear (ap (drop 1) same) in
    let head : c ≡ o = ap (λ l. get_or l 0 0) same in
    ((λ i. head i ∷ rest.0 i), rest.1)

-- the last line of a text is one line, behind one front
pub last-line : (front other x y : List ℕ) → IsOfLines front → IsOfLines other → HasNoNewline x →
    HasNoNewline y → front ++ line x ≡ other ++ line y → (front ≡ other) × (x ≡ y)
last-line front other x y before ahead free clear same =
    last front other x y (ends front before) (ends other ahead) free clear same

-- the last line of a text is that of its last outcome
pub last-outcome : (r : Outcome) (front other x : List ℕ) → WritesOneLine r → IsOfLines front →
    IsOfLines other → HasNoNewline x → front ++ lines_of r ≡ other ++ line x →
    (front ≡ other) × (lines_of r ≡ line x)
last-outcome r front other x one before ahead free same =
    let text = one-line r one in
    let parts = last-line front other text.0 x before ahead text.1 free
    (sym (ap (λ l. front ++ l) text.2) ∙ same) in
    (parts.0, text.2 ∙ ap line parts.1)

-- an outcome that its line tells writes one line
pub one-told : (s : Outcome) → IsToldByLine s → WritesOneLine s
one-told (Listed files) told = absurd told
one-told Continued told = absurd told
one-told s told = tt

-- and tells it
pub last-told : (r s : Outcome) (front other : List ℕ) → WritesOneLine r → IsToldByLine s → IsOfLines front →
    IsOfLines other → front ++ lines_of r ≡ other ++ lines_of s → (front ≡ other) × (r ≡ s)
last-told r s front other one told before ahead same =
    let text = one-line s (one-told s told) in
    let parts = last-outcome r front other text.0 one before ahead text.1
    (same ∙ ap (λ l. other ++ l) text.2) in
    (parts.0, lines-tell r s told (parts.1 ∙ sym text.2))

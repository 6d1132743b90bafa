-- Texts that differ at a place are not equal.
use Rattle.std.proofs.Common.{◌≡◌, ℕ, ◌+◌, ◌*◌, ◌==◌, false, List, get_or, ap, sym, ◌∙◌}
use Rattle.std.proofs.lemmas.Bool.{false≢true, eq-eqb}

-- three places of a text as one number
abbrev pub mark : ℕ → ℕ → ℕ → List ℕ → ℕ
mark i j k text = get_or text i 0 + 256 * get_or text j 0 + 65536 * get_or text k 0

-- texts that differ at one of these places are not equal
pub differ : (i j k : ℕ) (x y : List ℕ) → (mark i j k x == mark i j k y) ≡ false → x ≡ y → ⊥
differ i j k x y other same =
    false≢true (sym other ∙ eq-eqb (mark i j k x) (mark i j k y) (ap (mark i j k) same))

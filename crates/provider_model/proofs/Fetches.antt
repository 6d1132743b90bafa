-- What a fetch gives.
use Rattle.std.proofs.Common.{◌≡◌, ◌↔◌, ℕ, Bool, true, false, List, length, Option, Some, None, refl, sym, ap, ◌∙◌, arith}
use Rattle.std.specs.Prelude.{IsTrue, ◌==◌, if◌then◌else◌}
use Rattle.std.proofs.lemmas.Bool.Decides.{nat_tests}
use Rattle.std.proofs.lemmas.Bool.{eq-eqb}
use Rattle.device_defs.specs.Providers.{HasSize, sized}

unequal : (a b : ℕ) → (a ≡ b → ⊥) → (a == b) ≡ false
unequal a b is = grind (arith, nat_tests)

-- what a fetch found is the block of the wanted size
pub given : (size : ℕ) (held : Option (List ℕ)) (found : Bool) (out : List ℕ) →
    (IsTrue found ↔ HasSize size held) → (IsTrue found → held ≡ Some out)
    → (if found then Some out else None) ≡ sized size held
given size None false out iff block = refl
given size None true out iff block = absurd (iff.0 refl)
given size (Some b) true out iff block = sym (block refl)
    ∙ ap (λ (t : Bool). if t then Some b else None) (sym (eq-eqb (length b) size (iff.0 refl)))
given size (Some b) false out iff block = ap (λ (t : Bool). if t then Some b else None)
    (sym (unequal (length b) size (λ is. absurd (no (iff.1 is)))))
  where
    no : IsTrue false → ⊥
    no is = absurd cc

-- What the form of a key says of its text.
use Rattle.std.proofs.Common.{◌≡◌, ℕ, List, ◌++◌, length, drop, refl, sym, ◌∙◌, ap, subst, take-append-drop}
use Rattle.std.proofs.Math.Seq.{drop-append_seam}
use Rattle.std.specs.Prelude.{◌↔◌, true, false, Ok, Option, Some, None, MatchOption, IfSome, IsSome}
use Rattle.std.specs.List.{AllPass, IsSplitAt}
use Rattle.hex.specs.Hex.{decode_of, is_hex_digit}
use Rattle.command_defs.specs.Keys.{IsKeyForm, IsLineEnd}
use Rattle.command_defs.proofs.Keys.{digits-IsKeyForm}

-- and what is behind them the rest
pub behind-IsKeyForm : (text key : List ℕ) (form : IsKeyForm text key) → form.behind ≡ drop 64 text
behind-IsKeyForm text key form = subst (λ (t : List ℕ). form.behind ≡ drop 64 t) (sym form.text_is)
    (subst (λ (n : ℕ). form.behind ≡ drop n (form.digits ++ form.behind)) form.size
    (sym (drop-append_seam form.digits form.behind)))

-- what is behind the digits ends the line
pub line_end-IsKeyForm : (text key : List ℕ) → IsKeyForm text key → IsLineEnd (drop 64 text)
line_end-IsKeyForm text key form =
    subst (λ (t : List ℕ). IsLineEnd t) (behind-IsKeyForm text key form) form.line_end

-- a key that was read from the digits is the key of the text, and no key was read only where there is none
pub key_read : {M : Type 0} (bytes : M → List ℕ) (text digits behind : List ℕ) (read : Option M) →
    IsSplitAt text 64 digits behind → IsLineEnd behind
    → (IsSome read ↔ ((length digits ≡ 64) × AllPass is_hex_digit digits)) →
    IfSome read (λ m. decode_of digits ≡ Ok (bytes m))
    → MatchOption read ((key : List ℕ) → IsKeyForm text key → ⊥) (λ m. IsKeyForm text (bytes m))
key_read bytes text digits behind (Some m) split end found value = record {
  digits = digits;
  behind = behind;
  text_is = sym (take-append-drop 64 text) ∙ ap (λ (t : List ℕ). t ++ drop 64 text) (sym split.1)
      ∙ ap (λ (t : List ℕ). digits ++ t) (sym split.2);
  size = split.3;
  hexadecimal = (found.0 refl).1;
  spelled = value;
  line_end = end;
}
key_read bytes text digits behind None split end found value = (λ key form.
    let same : form.digits ≡ digits = digits-IsKeyForm text key form ∙ sym split.1 in
    let none : false ≡ true =
    found.1 (split.3, subst (λ (t : List ℕ). AllPass is_hex_digit t) same form.hexadecimal) in
    absurd cc)

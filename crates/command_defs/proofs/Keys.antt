-- A text spells one key at most.
use Rattle.std.proofs.Common.{◌≡◌, ℕ, List, ◌++◌, take, sym, ◌∙◌, ap, subst}
use Rattle.std.proofs.Math.Seq.{take-append_seam}
use Rattle.hex.specs.Hex.{decode_of}
use Rattle.command_defs.specs.Keys.{IsKeyForm}

-- the digits are the front of the text
pub digits-IsKeyForm : (text key : List ℕ) (form : IsKeyForm text key) → form.digits ≡ take 64 text
digits-IsKeyForm text key form = subst (λ (t : List ℕ). form.digits ≡ take 64 t) (sym form.text_is)
    (subst (λ (n : ℕ). form.digits ≡ take n (form.digits ++ form.behind)) form.size
    (sym (take-append_seam form.digits form.behind)))

-- a text spells one key at most
pub IsKeyForm-once : (text key other : List ℕ) → IsKeyForm text key → IsKeyForm text other → key ≡ other
IsKeyForm-once text key other first second =
    let same : first.digits ≡ second.digits = digits-IsKeyForm text key first
    ∙ sym (digits-IsKeyForm text other second) in
    cc (sym first.spelled ∙ ap (λ (ds : List ℕ). decode_of ds) same ∙ second.spelled)

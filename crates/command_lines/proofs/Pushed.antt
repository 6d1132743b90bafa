-- Pieces that were put behind a text, one behind the other.
use Rattle.std.proofs.Common.{◌≡◌, ℕ, List, ◌++◌, Result, Ok, Err, is_ok, if◌then◌else◌, OnOk, sym, ap, ◌∙◌, append_assoc}

-- two pieces, one behind the other
pub both : {mid new : List ℕ} (old first last : List ℕ) → mid ≡ old ++ first → new ≡ mid ++ last →
    new ≡ old ++ (first ++ last)
both old first last before behind =
    behind ∙ ap (λ (text : List ℕ). text ++ last) before ∙ append_assoc old first last

-- a last piece behind another
pub then_last : {T E : Type 0} (result : Result T E) (old mid new first last : List ℕ) → mid ≡ old ++ first
    → OnOk result (new ≡ mid ++ last) → OnOk result (new ≡ old ++ (first ++ last))
then_last (Ok done) old mid new first last before behind = both old first last before behind
then_last (Err fault) old mid new first last before behind = tt

-- the same, where the last piece was put there by the vector itself
pub then_slice : {T E : Type 0} (result : Result T E) (old mid new first last : List ℕ) → mid ≡ old ++ first
    → new ≡ (if is_ok result then mid ++ last else mid) → OnOk result (new ≡ old ++ (first ++ last))
then_slice (Ok done) old mid new first last before behind =
    then_last {E = ℕ} (Ok done) old mid new first last before behind
then_slice (Err fault) old mid new first last before behind = tt

-- what was put behind a text, told otherwise
pub told_as : {T E : Type 0} (result : Result T E) (old new piece other : List ℕ) → piece ≡ other
    → OnOk result (new ≡ old ++ piece) → OnOk result (new ≡ old ++ other)
told_as (Ok done) old new piece other same is = is ∙ ap (λ (text : List ℕ). old ++ text) same
told_as (Err fault) old new piece other same is = tt

-- two pieces in one, behind others
pub behind_two : (front word number end : List ℕ) →
    front ++ ((word ++ number) ++ end) ≡ ((front ++ word) ++ number) ++ end
behind_two front word number end = sym (append_assoc front (word ++ number) end)
    ∙ ap (λ (text : List ℕ). text ++ end) (sym (append_assoc front word number))

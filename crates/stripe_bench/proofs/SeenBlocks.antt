-- The block at a place among those that were fetched.
use Rattle.std.proofs.Common.{◌≡◌, ℕ, zero, suc, ◌+◌, ◌*◌, Bool, List, [], ◌∷◌, take, drop, Some, None, refl, ap, ◌∙◌, arith}
use Rattle.std.specs.Prelude.{slice_get, if◌then◌else◌}
use Rattle.std.specs.Option.{option_map}
use Rattle.std.proofs.lemmas.List.{drop-drop}
use Rattle.column_codec.specs.PresentBlocks.{present_blocks}

-- the block of a place is what the symbols have there, if it is flagged as present
pub slice_get-present_blocks : (size : ℕ) (flags : List Bool) (symbols : List ℕ) (k : ℕ) →
    slice_get (present_blocks size flags symbols) k
    ≡ option_map (λ (flag : Bool). if flag then Some (take size (drop (k * size) symbols)) else None)
    (slice_get flags k)
slice_get-present_blocks size [] symbols k = refl
slice_get-present_blocks size (flag ∷ flags) symbols zero = (let e : 0 ≡ 0 * size = omega arith in
    ap (λ (n : ℕ). Some (if flag then Some (take size (drop n symbols)) else None)) e)
slice_get-present_blocks size (flag ∷ flags) symbols (suc k) =
    let e : size + k * size ≡ suc k * size = grind arith in
    slice_get-present_blocks size flags (drop size symbols) k
    ∙ ap (λ (rest : List ℕ). option_map (λ (flag : Bool). if flag then Some (take size rest) else None)
    (slice_get flags k)) (drop-drop (k * size) size symbols ∙ ap (λ (n : ℕ). drop n symbols) e)

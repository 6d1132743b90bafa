use Rattle.std.proofs.Common.{◌≡◌, ◌∷◌, [], ℕ, List, length, arith}
use Rattle.hail_poly.specs.Key.{power, key}
use Rattle.hail_poly.specs.Registers.{Registers, IsLoaded}
use Rattle.hail_poly.proofs.KeySteps.{key_loaded}
use Rattle.code_rows.proofs.poly.find_the_wrong_places.Goals as goal

-- the registers right after load_key
right_after : (syndromes : List ℕ) (size : ℕ) (work : Registers) →
    work ≡ record { size = size; whole = power (length syndromes); rest = key syndromes; factor = 1 ∷ [] } →
    IsLoaded work
right_after syndromes size work e = key_loaded syndromes (length syndromes) size work (omega arith) e

pub euclid-requires : goal.euclid-requires
euclid-requires c = right_after _ _ c.load_key.new.self c.load_key.ensures

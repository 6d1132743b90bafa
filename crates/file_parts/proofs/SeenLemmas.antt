-- Blocks that a function makes, place by place.
use Rattle.std.specs.Prelude.{◌≡◌, ℕ, ◌<◌, map, Some, None}
use Rattle.std.proofs.Common.{arith}
use Rattle.std.proofs.lemmas.Option.{slice_get-get_or}
use Rattle.std.proofs.lemmas.List.FromFn.{get_or-map-range_with_len, length-map-range_with_len}
use Rattle.code_defs.specs.Points.{upto}
use Rattle.column_defs.specs.Challenges.{symbol_at}

-- what stands at a place of such a block
pub symbol_at-map : (f : ℕ → ℕ) (size place : ℕ) → place < size →
    symbol_at size place (Some (map f (upto size))) ≡ Some (f place)
symbol_at-map f size place within = rw (length-map-range_with_len f 0 size) (grind (
  arith,
  slice_get-get_or (map f (upto size)) place 0 (omega (arith, length-map-range_with_len f 0 size)),
  get_or-map-range_with_len f 0 size place place 0 within (omega arith),
))

-- a block of another size has nothing there
pub symbol_at-other : (f : ℕ → ℕ) (size other place : ℕ) → (other ≡ size → ⊥) →
    symbol_at other place (Some (map f (upto size))) ≡ None
symbol_at-other f size other place differs = rw (length-map-range_with_len f 0 size) (grind arith)

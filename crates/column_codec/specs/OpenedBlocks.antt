-- What was opened so far: a mark for each provider, and the blocks.
use Rattle.std.specs.Prelude.{◌≡◌, ℕ, ◌+◌, ◌*◌, ◌<◌, Bool, true, false, List, [], map, slice_index, slice_index_or, Some, None, if◌then◌else◌}
use Rattle.code_defs.specs.Polynomials.{value}
use Rattle.code_defs.specs.Points.{upto}
use Rattle.column_defs.specs.Objects.{Object, row_number}
use Rattle.column_defs.specs.Opened.{SeenBlock, OpensTo, AcceptsRow, AcceptsNoRow}

-- what the block of a provider opened to
abbrev pub opened_at : List Bool → List (List ℕ) → ℕ → SeenBlock
opened_at marks blocks j = if slice_index_or marks j false then Some (slice_index_or blocks j []) else None

-- what the blocks of all n providers opened to
abbrev pub opened_of : List Bool → List (List ℕ) → ℕ → List SeenBlock
opened_of marks blocks n = map (opened_at marks blocks) (upto n)

-- a row is accepted with a polynomial whose values at the primary points stand at its place of each block
pub record HasRow (o : Object) (opened : List SeenBlock) (place : ℕ) (symbols : List ℕ) : Type 0 where
  pub row : List ℕ
  pub accepted : AcceptsRow o opened place row
  pub values : (j : ℕ) → j < o.shape.l → slice_index symbols (j * o.profile.keep + place) ≡ value row j

-- the lowest row at a kept place that is not accepted
pub record LosesPlace (o : Object) (opened : List SeenBlock) (stripe row : ℕ) : Type 0 where
  pub place : ℕ
  pub kept : place < o.profile.keep
  pub number : row ≡ row_number o stripe place
  pub lost : AcceptsNoRow o opened place
  pub lowest : (before : ℕ) → before < place → (p : List ℕ) × AcceptsRow o opened before p

-- each block that is marked is what that of its provider opened to
abbrev pub AreOpened : Object → ℕ → List SeenBlock → List Bool → List (List ℕ) → Type 0
AreOpened o stripe seen marks blocks =
    (j : ℕ) → j < o.shape.n → slice_index_or marks j false ≡ true
    → OpensTo o j stripe (slice_index_or seen j None) (Some (slice_index_or blocks j []))

-- The additive transform (S.-J. Lin, W.-H. Chung and Y. S. Han, Novel polynomial basis and its application to
-- Reed-Solomon erasure codes, 2014) at the nodes of the tree of points. Node h has children 2 h and 2 h + 1.
--
--   places i                         == 2^i, the points under a node of level i
--   twiddle h                        == the factor at node h
--   joined n c v                     == the coefficients of a node with this factor, from those of its
--                                       children, n each
--   parted n c v                     == the coefficients of its children, from those of the node
--   inverse i h v                    == the coefficients of 2^i values under node h
--   forward i h c                    == the values of 2^i coefficients
--   coefficient_sum i h q block      == the sum of the coefficients of the first q parts of 2^i symbols of a
--                                       block, the first of them under node h, the others under the nodes
--                                       behind it
--   level_of number, first_of number == of what level the quarters of a profile's blocks are, and the node
--                                       over the first
use Rattle.std.specs.Prelude.{ℕ, zero, suc, ◌+◌, ◌*◌, List, ◌++◌, take, drop, replicate, slice_index}
use Rattle.code_defs.specs.Polynomials.{plus, scale}
use Rattle.server_code.specs.declared.transform.TheConstants.{TWIDDLE}

-- 2^i
abbrev pub places : ℕ → ℕ
places zero = 1
places (suc i) = places i + places i

-- the factor at a node
abbrev pub twiddle : ℕ → ℕ
twiddle h = slice_index TWIDDLE h

-- the coefficients of a node, from those of its children
unfoldable pub joined : ℕ → ℕ → List ℕ → List ℕ
joined n c v = plus (take n v) (scale c (plus (take n v) (drop n v))) ++ plus (take n v) (drop n v)

-- the coefficients of its children, from those of a node
unfoldable pub parted : ℕ → ℕ → List ℕ → List ℕ
parted n c v = plus (take n v) (scale c (drop n v)) ++ plus
    (plus (take n v) (scale c (drop n v))) (drop n v)

-- the coefficients of values
unfoldable pub inverse : ℕ → ℕ → List ℕ → List ℕ
inverse zero h v = v
inverse (suc i) h v = joined (places i) (twiddle h)
    (inverse i (2 * h) (take (places i) v) ++ inverse i (2 * h + 1) (drop (places i) v))

-- the values of coefficients
unfoldable pub forward : ℕ → ℕ → List ℕ → List ℕ
forward zero h v = v
forward (suc i) h v =
    forward i (2 * h) (take (places i) (parted (places i) (twiddle h) v))
    ++ forward i (2 * h + 1) (drop (places i) (parted (places i) (twiddle h) v))

-- the sum of the coefficients of the first parts of a block
unfoldable pub coefficient_sum : ℕ → ℕ → ℕ → List ℕ → List ℕ
coefficient_sum i h zero block = replicate (places i) 0
coefficient_sum i h (suc q) block =
    plus (coefficient_sum i h q block) (inverse i (h + q) (take (places i) (drop (q * places i) block)))

-- the level of the quarters of a block, by the number of its profile from 2 on
abbrev pub level_of : ℕ → ℕ
level_of zero = 3
level_of (suc zero) = 3
level_of (suc (suc zero)) = 3
level_of (suc (suc (suc zero))) = 4
level_of (suc (suc (suc (suc more)))) = 5

-- the node over the first quarter
abbrev pub first_of : ℕ → ℕ
first_of zero = 16
first_of (suc zero) = 16
first_of (suc (suc zero)) = 16
first_of (suc (suc (suc zero))) = 8
first_of (suc (suc (suc (suc more)))) = 4

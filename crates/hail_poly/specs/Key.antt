-- The key equation of a decoder by syndromes: what `load_key` puts into the registers.
use Rattle.std.specs.Prelude.{ℕ, List, [], ◌∷◌, ◌++◌, replicate, reverse}
use Rattle.code_defs.specs.Polynomials.{trim}

-- x to the power m
abbrev pub power : ℕ → List ℕ
power m = replicate m 0 ++ 1 ∷ []

-- the sum of each symbol times the power of x that is as high as there are symbols behind it
abbrev pub key : List ℕ → List ℕ
key syndromes = trim (reverse syndromes)

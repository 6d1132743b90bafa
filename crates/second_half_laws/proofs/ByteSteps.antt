-- What providers hold of one byte, and what a get of it makes of that.
use Rattle.std.specs.Prelude.{◌≡◌, ℕ, List, [], ◌∷◌, length, take, Some, None}
use Rattle.second_half_laws.proofs.Words.{flat_map, refl, arith, sym, upto, bytes_back, eq-eqb, symbols_in, bytes_of_symbols, columns, GivesSymbols, length-column_of_symbols, sized, object_of, four, cond_true, own_blocks}
use Rattle.second_half_laws.proofs.GivesRight.{own_give}

-- the block that a provider holds of the byte
abbrev pub block : ℕ → List ℕ
block j = columns (object_of four 1) (111 ∷ []) j 0

-- it has the size
pub block_sized : (j : ℕ) → Some (block j) ≡ sized 6 (Some (block j))
block_sized j = sym (cond_true _ _ None (eq-eqb (length (block j)) 6 (length-column_of_symbols
    (object_of four 1) (symbols_in (object_of four 1) (111 ∷ []) 0) j 0)))

-- the symbols of the byte's only stripe
abbrev pub symbols : List ℕ
symbols = symbols_in (object_of four 1) (111 ∷ []) 0

-- the own blocks give them
pub own_work : GivesSymbols (object_of four 1) 0 (own_blocks (object_of four 1) (111 ∷ []) 0) symbols
own_work = own_give _ _ 0 0 refl (omega arith, omega arith, omega arith, omega arith, omega arith)

-- the bytes of the symbols, cut to the length, are the byte
pub byte_back : 111 ∷ []
    ≡ take 1 (flat_map (λ stripe. bytes_of_symbols (symbols_in (object_of four 1) (111 ∷ []) stripe))
    (upto 1))
byte_back = sym (bytes_back (object_of four 1) (111 ∷ []) (omega arith) (omega arith) refl)

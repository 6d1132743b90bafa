-- The sizes of blocks that providers gave.
use Rattle.hail_scrub.proofs.Words.{◌≡◌, ℕ, zero, suc, ◌+◌, ◌*◌, Bool, true, false, List, [], ◌∷◌, length, take, drop, length-drop, length-take-le, Option, Some, None, Bor, sym, ap, ◌∙◌, arith, IfSome, option_copied, block_at, present_blocks}

-- a block that is present has its size
pub present_size : (size : ℕ) (flags : List Bool) (symbols : List ℕ) (k : ℕ) (block : List ℕ) →
    length symbols ≡ length flags * size → block_at (present_blocks size flags symbols) k ≡ Some block →
    length block ≡ size
present_size size [] symbols k block fits is = absurd (let e : None ≡ Some block = is in cc)
present_size size (true ∷ flags) symbols zero block fits is =
    (let e : Some (take size symbols) ≡ Some block = is in
    let g : take size symbols ≡ block = cc in
    ap length (sym g) ∙ length-take-le size symbols
    (let n : length symbols ≡ size + length flags * size = fits ∙ (grind arith) in omega (arith, n)))
present_size size (false ∷ flags) symbols zero block fits is = absurd (let e : None ≡ Some block = is in cc)
present_size size (flag ∷ flags) symbols (suc k) block fits is = present_size size flags (drop size symbols) k
    block (let n : length symbols ≡ size + length flags * size = fits ∙ (grind arith) in
    let d = length-drop size symbols in omega (arith, n, d))
    is

-- so it is even with one of that size
pub even : {X : Type 0} (seen : Option (Bor (List X))) (o : Option (List X)) (n : ℕ) → option_copied seen ≡
    o →
    ((block : List X) → o ≡ Some block → length block ≡ n) → IfSome seen (λ block. length block.now ≡ n)
even None o n is each = tt
even (Some b) o n is each = each b.now (sym is)

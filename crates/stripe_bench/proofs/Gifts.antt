-- The blocks that fetches gave, and what the machine keeps of them.
use Rattle.std.proofs.Common.{◌≡◌, ℕ, ◌+◌, ◌*◌, ◌<◌, ◌==◌, ◌&&◌, Bool, true, false, List, [], ◌∷◌, ◌++◌, length, take, drop, map, Option, refl, sym, ap, ◌∙◌, arith, length-drop}
use Rattle.std.specs.List.{range_with_len}
use Rattle.std.proofs.lemmas.Bool.{eq-eqb, ne_eqb}
use Rattle.std.proofs.lemmas.List.{take-append-le, drop-append-le, take_all}
use Rattle.column_defs.specs.Opened.{SeenBlock}
use Rattle.column_codec.specs.PresentBlocks.{present_blocks}
use Rattle.machine_defs.specs.Given.{block_given, symbols_given}
use Rattle.machine_defs.specs.Jobs.{Given, Fetched, Worked}
use Rattle.machine_defs.proofs.JobLists.{cond_true, cond_false}
use Rattle.stripe_bench.specs.Blocks.{given_of}
use Rattle.stripe_bench.specs.Gifts.{fetched_gifts}

-- ---- the blocks that were given

-- what is given of a provider before those of the list
below : (o s c j : ℕ) (blocks : List SeenBlock) (older : List Given) → j < c →
    block_given (fetched_gifts o s c blocks older) o s j ≡ block_given older o s j
below o s c j [] older less = refl
below o s c j (b ∷ blocks) older less =
    below o s (c + 1) j blocks (Fetched c o s b ∷ older) (omega (arith, less))
    ∙ cond_false ((c == j) && (o == o) && (s == s)) b (block_given older o s j)
    (ap (λ (t : Bool). t && (o == o) && (s == s)) (ne_eqb c j (λ e. absurd (omega (arith, less, e)))))

-- the blocks of the list are given
pub gifts_give : (o s c : ℕ) (blocks : List SeenBlock) (older : List Given) →
    map (block_given (fetched_gifts o s c blocks older) o s) (range_with_len c (length blocks)) ≡ blocks
gifts_give o s c [] older = refl
gifts_give o s c (b ∷ blocks) older =
    (λ i. (below o s (c + 1) c blocks (Fetched c o s b ∷ older) (omega arith) ∙ itself) i ∷ gifts_give o s
    (c + 1) blocks (Fetched c o s b ∷ older) i)
  where
    itself : block_given (Fetched c o s b ∷ older) o s c ≡ b
    itself = cond_true ((c == c) && (o == o) && (s == s)) b (block_given older o s c)
        (λ i. eq-eqb c c refl i && eq-eqb o o refl i && eq-eqb s s refl i)

-- ---- lists of blocks

-- one block more at the end
pub present_more : (size : ℕ) (flags : List Bool) (symbols block : List ℕ) (flag : Bool) →
    length symbols ≡ length flags * size → length block ≡ size
    → present_blocks size (flags ++ flag ∷ []) (symbols ++ block)
    ≡ present_blocks size flags symbols ++ given_of flag block ∷ []
present_more size [] [] block flag all one =
    ap (λ (b : List ℕ). given_of flag b ∷ []) (take_all size block (omega (arith, one)))
present_more size [] (x ∷ symbols) block flag all one = absurd (omega (arith, all))
present_more size (f ∷ flags) symbols block flag all one =
    let more : length symbols ≡ size + length flags * size = all ∙ (omega arith) in
    let front : take size (symbols ++ block) ≡ take size symbols =
    take-append-le size symbols block (omega (arith, more)) in
    let behind : drop size (symbols ++ block) ≡ drop size symbols ++ block =
    drop-append-le size symbols block (omega (arith, more)) in
    let others : length (drop size symbols) ≡ length flags * size =
    omega (arith, length-drop size symbols, more) in
    (λ i. given_of f (front i) ∷ present_blocks size (flags ++ flag ∷ []) (behind i))
    ∙ ap (λ (l : List (Option (List ℕ))). given_of f (take size symbols) ∷ l)
    (present_more size flags (drop size symbols) block flag others one)

-- one gift more
pub gifts_more : (o s c : ℕ) (blocks : List (Option (List ℕ))) (block : Option (List ℕ)) (older : List Given)
    → fetched_gifts o s c (blocks ++ block ∷ []) older
    ≡ Fetched (c + length blocks) o s block ∷ fetched_gifts o s c blocks older
gifts_more o s c [] block older =
    (let e : c ≡ c + 0 = omega arith in ap (λ (k : ℕ). Fetched k o s block ∷ older) e)
gifts_more o s c (b ∷ blocks) block older = gifts_more o s (c + 1) blocks block (Fetched c o s b ∷ older)
    ∙ (let e : c + 1 + length blocks ≡ c + length (b ∷ blocks) = omega arith in
    ap (λ (k : ℕ). Fetched k o s block ∷ fetched_gifts o s (c + 1) blocks (Fetched c o s b ∷ older)) e)

-- ---- the symbols that were given

-- the symbols of a stripe that was worked on are those that the work gave
pub worked_is : (o s : ℕ) (rows : List ℕ) (given : List Given) →
    rows ≡ symbols_given (Worked o s rows ∷ given) o s
worked_is o s rows given = sym (cond_true ((o == o) && (s == s)) rows (symbols_given given o s)
    (λ i. eq-eqb o o refl i && eq-eqb s s refl i))

-- work on another stripe changes no symbols of this one
pub worked_other : (o s p t : ℕ) (rows : List ℕ) (given : List Given) → (s ≡ t → ⊥) →
    symbols_given (Worked o s rows ∷ given) p t ≡ symbols_given given p t
worked_other o s p t rows given other = cond_false ((o == p) && (s == t)) rows (symbols_given given p t)
    (and_false (o == p) (s == t) (ne_eqb s t other))
  where
    and_false : (x y : Bool) → y ≡ false → (x && y) ≡ false
    and_false true y is = is
    and_false false y is = refl

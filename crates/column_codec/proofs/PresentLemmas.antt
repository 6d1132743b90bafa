-- Blocks that lie one after the other in one list of symbols.
use Rattle.column_codec.proofs.Words.{zero, arith, ap, sym, refl, ◌∙◌, get_or, subst, drop-drop, OnTrue, OnFalse, Object, SeenBlock, OpensTo, present_blocks}
use Rattle.std.specs.Prelude.{◌≡◌, ℕ, suc, ◌+◌, ◌-◌, ◌*◌, ◌<◌, Bool, true, false, List, [], ◌∷◌, length, take, drop, Some, None, if◌then◌else◌}

-- there are as many blocks as flags, present or not
pub length-present_blocks : (size : ℕ) (flags : List Bool) (symbols : List ℕ) →
    length (present_blocks size flags symbols) ≡ length flags
length-present_blocks size [] symbols = refl
length-present_blocks size (flag ∷ flags) symbols =
    ap suc (length-present_blocks size flags (drop size symbols))

-- the block of a provider: its part of the symbols, where its flag says that it is present
pub get_or-present_blocks : (size : ℕ) (flags : List Bool) (symbols : List ℕ) (k : ℕ) → k < length flags →
    get_or (present_blocks size flags symbols) k None
    ≡ (if get_or flags k false then Some (take size (drop (k * size) symbols)) else None)
get_or-present_blocks size [] symbols k below = absurd (omega (arith, below))
get_or-present_blocks size (flag ∷ flags) symbols zero below =
    let e : 0 ≡ 0 * size = omega arith in
    ap (λ n. if flag then Some (take size (drop n symbols)) else None) e
get_or-present_blocks size (flag ∷ flags) symbols (suc k) below =
    let e : size + k * size ≡ suc k * size = grind arith in
    get_or-present_blocks size flags (drop size symbols) k (omega (arith, below))
    ∙ ap (λ (rest : List ℕ). if get_or flags k false then Some (take size rest) else None)
    (drop-drop (k * size) size symbols ∙ ap (λ n. drop n symbols) e)

-- an absent block opens to nothing
pub opens-absent : (o : Object) (stripe size : ℕ) (flags : List Bool) (symbols : List ℕ) (k : ℕ) →
    k < length flags → get_or flags k false ≡ false →
    OpensTo o k stripe (get_or (present_blocks size flags symbols) k None) None
opens-absent o stripe size flags symbols k below is = subst (λ (s : SeenBlock). OpensTo o k stripe s None)
    (sym (get_or-present_blocks size flags symbols k below
    ∙ ap (λ b. if b then Some (take size (drop (k * size) symbols)) else None) is)) refl

-- a present one opens as its symbols do
pub opens-present : (o : Object) (stripe size : ℕ) (flags : List Bool) (symbols part : List ℕ) (k : ℕ)
    (opened : SeenBlock) → k < length flags → get_or flags k false ≡ true →
    part ≡ take size (drop (k * size) symbols) → OpensTo o k stripe (Some part) opened →
    OpensTo o k stripe (get_or (present_blocks size flags symbols) k None) opened
opens-present o stripe size flags symbols part k opened below is whole h =
    subst (λ (s : SeenBlock). OpensTo o k stripe s opened)
    (ap Some whole ∙ sym (get_or-present_blocks size flags symbols k below
    ∙ ap (λ b. if b then Some (take size (drop (k * size) symbols)) else None) is)) h

-- what holds under a true flag holds weaker too
pub on_true : (P Q : Type 0) (b : Bool) → (P → Q) → OnTrue b P → OnTrue b Q
on_true P Q true f h = f h
on_true P Q false f h = h

-- and under a false one
pub on_false : (P Q : Type 0) (b : Bool) → (P → Q) → OnFalse b P → OnFalse b Q
on_false P Q true f h = h
on_false P Q false f h = f h

-- the part of the symbols from a block's start to its end
pub part-is : (symbols : List ℕ) (k m size : ℕ) → m ≡ size →
    take (k * m + m - k * m) (drop (k * m) symbols) ≡ take size (drop (k * size) symbols)
part-is symbols k m size e =
    let f : k * m + m - k * m ≡ m = omega arith in
    ap (λ n. take n (drop (k * m) symbols)) f ∙ ap (λ n. take n (drop (k * n) symbols)) e

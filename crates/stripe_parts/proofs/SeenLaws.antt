-- Blocks that were seen, laid one after the other, open as they were seen.
use Rattle.std.specs.Prelude.{◌≡◌, ℕ, ◌+◌, ◌*◌, ◌<◌, ◌≤◌, ◌==◌, Bool, true, false, List, [], ◌∷◌, ◌++◌, length, map, take, drop, Some, None, if◌then◌else◌}
use Rattle.std.proofs.Common.{refl, sym, ap, ◌∙◌, arith, eqb-true, get_or, length-append, set}
use Rattle.std.proofs.Math.Seq.{take-length}
use Rattle.std.proofs.lemmas.List.{take-append-le, drop-append-le, length-drop, length-take-le, map_more, take_more_set}
use Rattle.column_defs.specs.Objects.{Object}
use Rattle.column_defs.specs.Opened.{SeenBlock, OpensTo, AllOpen, GivesSymbols, LosesRow}
use Rattle.column_defs.proofs.MaskLengths.{length-bare}
use Rattle.column_codec.specs.PresentBlocks.{present_blocks}
use Rattle.stripe_parts.specs.Seen.{of_size, symbols_or, is_there}

-- what is laid in the place of a block has the size
size_laid : (zeros : List ℕ) (seen : SeenBlock) →
    length (symbols_or zeros (of_size (length zeros) seen)) ≡ length zeros
size_laid zeros None = refl
size_laid zeros (Some block) = go (length block == length zeros) refl
  where
    go : (b : Bool) → (length block == length zeros) ≡ b →
        length (symbols_or zeros (if b then Some block else None)) ≡ length zeros
    go true e = eqb-true (length block) (length zeros) e
    go false e = refl

-- one block, laid alone
laid_last : (zeros : List ℕ) (seen : SeenBlock) →
    present_blocks (length zeros) (is_there (of_size (length zeros) seen) ∷ [])
    (symbols_or zeros (of_size (length zeros) seen)) ≡ of_size (length zeros) seen ∷ []
laid_last zeros None = refl
laid_last zeros (Some block) = go (length block == length zeros) refl
  where
    go : (b : Bool) → (length block == length zeros) ≡ b →
        present_blocks (length zeros) (is_there (if b then Some block else None) ∷ [])
        (symbols_or zeros (if b then Some block else None)) ≡ (if b then Some block else None) ∷ []
    go true e =
        let same : length block ≡ length zeros = eqb-true (length block) (length zeros) e in
        ap (λ l. Some l ∷ []) (ap (λ n. take n block) (sym same) ∙ take-length block)
    go false e = refl

-- one block more, laid behind others
laid_more : (size : ℕ) (flags : List Bool) (symbols more : List ℕ) (flag : Bool) →
    length symbols ≡ length flags * size →
    present_blocks size (flags ++ flag ∷ []) (symbols ++ more)
    ≡ present_blocks size flags symbols ++ present_blocks size (flag ∷ []) more
laid_more size [] [] more flag long = refl
laid_more size [] (x ∷ symbols) more flag long = absurd (omega (arith, long))
laid_more size (f ∷ flags) symbols more flag long =
    let fits : size ≤ length symbols = omega (arith, long) in
    let rest : length (drop size symbols) ≡ length flags * size = omega (arith, length-drop size symbols, long) in
    ap (λ l. (if f then Some l else None) ∷ present_blocks size (flags ++ flag ∷ []) (drop size (symbols ++ more)))
    (take-append-le size symbols more fits)
    ∙ ap (λ l. (if f then Some (take size symbols) else None) ∷ present_blocks size (flags ++ flag ∷ []) l)
    (drop-append-le size symbols more fits)
    ∙ ap (λ l. (if f then Some (take size symbols) else None) ∷ l)
    (laid_more size flags (drop size symbols) more flag rest)

-- the blocks laid so far, and the next
laid_next : (zeros : List ℕ) (seen : List SeenBlock) (j : ℕ) (flags : List Bool) (symbols : List ℕ) →
    j < length seen → length symbols ≡ length flags * length zeros →
    present_blocks (length zeros) flags symbols ≡ map (of_size (length zeros)) (take j seen) →
    present_blocks (length zeros) (flags ++ is_there (of_size (length zeros) (get_or seen j None)) ∷ [])
    (symbols ++ symbols_or zeros (of_size (length zeros) (get_or seen j None)))
    ≡ map (of_size (length zeros)) (take (j + 1) seen)
laid_next zeros seen j flags symbols within long is =
    let size = length zeros in
    let one = of_size size (get_or seen j None) in
    laid_more size flags symbols (symbols_or zeros one) (is_there one) long
    ∙ ap (λ l. l ++ present_blocks size (is_there one ∷ []) (symbols_or zeros one)) is
    ∙ ap (λ l. map (of_size size) (take j seen) ++ l) (laid_last zeros (get_or seen j None))
    ∙ sym (map_more (of_size size) seen j None within)

-- so one more block is laid, and its flag set
pub flag_next : (size : ℕ) (zeros : List ℕ) (seen : List SeenBlock) (j : ℕ) (present : List Bool)
    (symbols new : List ℕ) (s : SeenBlock) (there : Bool) → length zeros ≡ size → j < length seen →
    length present ≡ length seen → s ≡ get_or seen j None → length symbols ≡ j * size →
    present_blocks size (take j present) symbols ≡ map (of_size size) (take j seen) →
    new ≡ symbols ++ symbols_or zeros (of_size (length zeros) s) →
    there ≡ is_there (of_size (length zeros) s) →
    present_blocks size (take (j + 1) (set present j there)) new ≡ map (of_size size) (take (j + 1) seen)
flag_next size zeros seen j present symbols new s there z w p is long before n t =
    ap (λ l. present_blocks size l new) (take_more_set present j there (omega (arith, w, p)))
    ∙ ap (λ l. present_blocks size (flags ++ there ∷ []) l) n
    ∙ ap (λ b. present_blocks size (flags ++ b ∷ []) (symbols ++ symbols_or zeros (of_size (length zeros) s))) t
    ∙ ap (λ k. present_blocks k (flags ++ is_there (of_size (length zeros) s) ∷ [])
    (symbols ++ symbols_or zeros (of_size (length zeros) s))) (sym z)
    ∙ ap (λ (x : SeenBlock). present_blocks (length zeros) (flags ++ is_there (of_size (length zeros) x) ∷ [])
    (symbols ++ symbols_or zeros (of_size (length zeros) x))) is
    ∙ laid_next zeros seen j flags symbols w fits so_far
    ∙ ap (λ k. map (of_size k) (take (j + 1) seen)) z
  where
    flags : List Bool
    flags = take j present

    fits : length symbols ≡ length flags * length zeros
    fits = long ∙ ap (λ k. k * size) (sym (length-take-le j present (omega (arith, w, p))))
        ∙ ap (λ k. length flags * k) (sym z)

    so_far : present_blocks (length zeros) flags symbols ≡ map (of_size (length zeros)) (take j seen)
    so_far = ap (λ k. present_blocks k flags symbols) z ∙ before ∙ ap (λ k. map (of_size k) (take j seen)) (sym z)

-- and so many symbols more
pub long_next : (size : ℕ) (zeros : List ℕ) (s : SeenBlock) (symbols new : List ℕ) (j : ℕ) →
    length zeros ≡ size → length symbols ≡ j * size →
    new ≡ symbols ++ symbols_or zeros (of_size (length zeros) s) → length new ≡ (j + 1) * size
long_next size zeros s symbols new j z long n = ap length n ∙ omega (
  arith,
  z,
  long,
  size_laid zeros s,
  length-append symbols (symbols_or zeros (of_size (length zeros) s)),
)

-- a block opens as the one that was seen, where those of another size are left out
opens_seen : (o : Object) (j stripe : ℕ) (seen opened : SeenBlock) →
    OpensTo o j stripe (of_size o.profile.size seen) opened → OpensTo o j stripe seen opened
opens_seen o j stripe None opened is = is
opens_seen o j stripe (Some block) opened is = go (length block == o.profile.size) refl opened is
  where
    go : (b : Bool) → (length block == o.profile.size) ≡ b → (opened : SeenBlock) →
        OpensTo o j stripe (if b then Some block else None) opened → OpensTo o j stripe (Some block) opened
    go true e opened is = is
    go false e None is = λ p near.
        (let same : length block ≡ o.profile.size = sym (length-bare o j stripe block) ∙ near.whole in
        absurd (grind (arith, e, same)))
    go false e (Some other) is = absurd cc

-- so do those of all providers
all_seen : (o : Object) (stripe j : ℕ) (seen opened : List SeenBlock) →
    AllOpen o stripe j (map (of_size o.profile.size) seen) opened → AllOpen o stripe j seen opened
all_seen o stripe j [] [] is = is
all_seen o stripe j [] (x ∷ opened) is = is
all_seen o stripe j (s ∷ seen) [] is = is
all_seen o stripe j (s ∷ seen) (x ∷ opened) is =
    (opens_seen o j stripe s x is.0, all_seen o stripe (j + 1) seen opened is.1)

pub gives_seen : (o : Object) (stripe : ℕ) (seen : List SeenBlock) (rows : List ℕ) →
    GivesSymbols o stripe (map (of_size o.profile.size) seen) rows → GivesSymbols o stripe seen rows
gives_seen o stripe seen rows g = record {
  opened = g.opened;
  opens = all_seen o stripe 0 seen g.opened g.opens;
  size = g.size;
  accepted = g.accepted;
}

pub loses_seen : (o : Object) (stripe : ℕ) (seen : List SeenBlock) (row : ℕ) →
    LosesRow o stripe (map (of_size o.profile.size) seen) row → LosesRow o stripe seen row
loses_seen o stripe seen row l = record {
  opened = l.opened;
  opens = all_seen o stripe 0 seen l.opened l.opens;
  place = l.place;
  kept = l.kept;
  number = l.number;
  lost = l.lost;
  lowest = l.lowest;
}

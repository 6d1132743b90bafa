-- Where few blocks of a stripe are wrong, rows are accepted with the file's own polynomials.
use Rattle.column_laws.proofs.Words.{◌≡◌, ℕ, suc, ◌+◌, ◌-◌, ◌*◌, ◌<◌, ◌≤◌, true, false, List, map, drop, get_or, slice_get, slice_index, Option, Some, arith, ap, sym, ◌∙◌, get_or-take, get_or-drop, subst, length-map-range_with_len, get_or-map-range_with_len, fill_by_all, IsShape, nim_laws, is_seen_over, value, interpolate, is_seen, upto, profile_of, codeword, Object, stripe_symbols, symbol_of, symbols_in, kept_by, point, row_polynomial, is_wrong_block, SeenBlock, AllOpen, OpensTo, symbol_in, block_at, AcceptsRow, GivesSymbols, count_of, is_agreeing, length-row_polynomial, value-row_polynomial, value-interpolate_upto, slice_get-upto, length-kept_by}
use Rattle.std.proofs.Math.Nat.{mul-le-mul_right}
use Rattle.std.proofs.lemmas.Option.{get_or_from_slice_get}
use Rattle.algebra_laws.proofs.ListPlaces.{IsPlace, place-of}
use Rattle.column_laws.proofs.UniqueLaws.{accepted-unique, profile-room}
use Rattle.column_laws.proofs.RightBlocks.{length-symbols_in, symbol-right}
use Rattle.column_laws.proofs.Counts.{count_of-cover, agree-row, opens-at}

-- the value is seen where it stands
seen-itself : (y : ℕ) (s : Option ℕ) → s ≡ Some y → is_seen y s ≡ true
unfolding is_seen_over
seen-itself y s e = ap (is_seen y) e ∙ nim_laws.eq_refl y

-- a provider whose block is not wrong has the right symbol
pub symbol-at : (o : Object) (bytes : List ℕ) (number stripe place j : ℕ) (seen opened : List SeenBlock) →
    o.profile ≡ profile_of number →
    AllOpen o stripe 0 seen opened → place < o.profile.size → j < 256 →
    is_wrong_block o bytes j stripe (block_at seen j) ≡ false →
    symbol_in place (block_at opened j)
    ≡ Some (value (row_polynomial o (symbols_in o bytes stripe) place) (point o j))
symbol-at o bytes number stripe place j seen opened is all within below right =
    symbol-right o bytes number j stripe place (block_at seen j) (block_at opened j) is below right
    (subst (λ i. OpensTo o i stripe (block_at seen j) (block_at opened j))
    (let e : 0 + j ≡ j = omega arith in e) (opens-at o stripe 0 j seen opened all)) within

-- where at most b blocks of a stripe are wrong, each row is accepted with the file's own polynomial
pub row-right : (o : Object) (bytes : List ℕ) (number stripe place : ℕ) (seen opened : List SeenBlock) →
    o.profile ≡ profile_of number → IsShape o.shape.n o.shape.l o.shape.b →
    count_of (λ j. is_wrong_block o bytes j stripe (block_at seen j)) (upto o.shape.n) ≤ o.shape.b →
    AllOpen o stripe 0 seen opened → place < o.profile.size →
    AcceptsRow o opened place (row_polynomial o (symbols_in o bytes stripe) place)
row-right o bytes number stripe place seen opened is shape few all within =
    let row = row_polynomial o (symbols_in o bytes stripe) place in
    let cover : o.shape.n ≤ count_of (λ j. is_wrong_block o bytes j stripe (block_at seen j))
    (upto o.shape.n) + count_of (is_agreeing o opened place row) (upto o.shape.n) =
    count_of-cover (λ j. is_wrong_block o bytes j stripe (block_at seen j))
    (is_agreeing o opened place row) 0 o.shape.n
    (λ j below right. seen-itself (value row (point o j)) (symbol_in place (block_at opened j))
    (symbol-at o bytes number stripe place j seen opened is all within
    (omega (arith, below, shape.1)) right)) in
    record {
      degree = length-row_polynomial o (symbols_in o bytes stripe) place;
      agrees = omega (
        arith,
        few,
        cover,
        agree-row o opened place row,
        length-map-range_with_len (point o) 0 o.shape.n,
      );
    }

-- what a primary provider's codeword has at a kept place is the file's symbol
pub kept-symbol : (o : Object) (bytes : List ℕ) (stripe place j : ℕ) → place < o.profile.keep →
    place < o.profile.size → j < o.shape.l →
    slice_index (codeword o.profile (kept_by o (symbols_in o bytes stripe) j)) place
    ≡ symbol_of bytes (stripe * stripe_symbols o + (j * o.profile.keep + place))
kept-symbol o bytes stripe place j kept within below =
    let symbols = symbols_in o bytes stripe in
    let of = λ (i : ℕ). symbol_of bytes (stripe * stripe_symbols o + i) in
    let own = λ (k : ℕ). of (j * o.profile.keep + k) in
    let mine = kept_by o symbols j in
    let more : suc j * o.profile.keep ≤ o.shape.l * o.profile.keep = mul-le-mul_right o.profile.keep below in
    let split : suc j * o.profile.keep ≡ j * o.profile.keep + o.profile.keep = grind arith in
    let same : mine ≡ map own (upto o.profile.keep) =
    fill_by_all own mine o.profile.keep 0
    (length-kept_by o symbols j (length-symbols_in o bytes stripe) below)
    (λ k less. get_or-take o.profile.keep (drop (j * o.profile.keep) symbols) k 0 less
    ∙ get_or-drop (j * o.profile.keep) symbols k 0
    ∙ get_or-map-range_with_len of 0 (stripe_symbols o) (j * o.profile.keep + k) (j * o.profile.keep + k) 0
    (omega (arith, less, more, split)) (omega arith)) in
    get_or-map-range_with_len (value (interpolate (upto o.profile.keep) mine)) 0 o.profile.size place place 0
    within (omega arith)
    ∙ ap (λ ks. value (interpolate (upto o.profile.keep) ks) place) same
    ∙ value-interpolate_upto own o.profile.keep place kept

-- the polynomial of a row takes the file's symbols at the primary points
pub row-symbol : (o : Object) (bytes : List ℕ) (stripe place j : ℕ) → place < o.profile.keep →
    place < o.profile.size → j < o.shape.l →
    value (row_polynomial o (symbols_in o bytes stripe) place) j
    ≡ symbol_of bytes (stripe * stripe_symbols o + (j * o.profile.keep + place))
row-symbol o bytes stripe place j kept within below =
    value-row_polynomial o (symbols_in o bytes stripe) place j below
    ∙ kept-symbol o bytes stripe place j kept within below

-- where at most b blocks of a stripe are wrong, the symbols that it opens to are the file's own
pub symbols-right : (o : Object) (bytes : List ℕ) (number stripe : ℕ) (seen : List SeenBlock)
    (symbols : List ℕ) → o.profile ≡ profile_of number →
    IsShape o.shape.n o.shape.l o.shape.b →
    count_of (λ j. is_wrong_block o bytes j stripe (block_at seen j)) (upto o.shape.n) ≤ o.shape.b →
    GivesSymbols o stripe seen symbols → symbols ≡ symbols_in o bytes stripe
symbols-right o bytes number stripe seen symbols is shape few given = fill_by_all of symbols
    (stripe_symbols o) 0 given.size (λ i below. at i (place-of o.shape.l o.profile.keep i below))
  where
    of : ℕ → ℕ
    of i = symbol_of bytes (stripe * stripe_symbols o + i)

    at : (i : ℕ) → IsPlace o.shape.l o.profile.keep i →
        get_or symbols i 0 ≡ symbol_of bytes (stripe * stripe_symbols o + i)
    at i h =
        let within : h.place < o.profile.size = omega (arith, h.place_in, profile-room o number is) in
        let row = row_polynomial o (symbols_in o bytes stripe) h.place in
        let one = given.accepted h.place h.place_in in
        ap (λ k. get_or symbols k 0) h.sum
        ∙ get_or_from_slice_get symbols (h.block * o.profile.keep + h.place) (value one.row h.block) 0
        (one.values h.block h.block_in)
        ∙ accepted-unique o given.opened h.place one.row row shape one.accepted
        (row-right o bytes number stripe h.place seen given.opened is shape few given.opens within) h.block
        ∙ row-symbol o bytes stripe h.place h.block h.place_in within h.block_in
        ∙ ap (λ k. symbol_of bytes (stripe * stripe_symbols o + k)) (sym h.sum)

-- where few blocks are wrong, what opens gives the file's symbols
pub given-right : (o : Object) (bytes : List ℕ) (number stripe : ℕ) (seen opened : List SeenBlock) →
    o.profile ≡ profile_of number → IsShape o.shape.n o.shape.l o.shape.b →
    count_of (λ j. is_wrong_block o bytes j stripe (block_at seen j)) (upto o.shape.n) ≤ o.shape.b →
    AllOpen o stripe 0 seen opened → GivesSymbols o stripe seen (symbols_in o bytes stripe)
given-right o bytes number stripe seen opened is shape few all = record {
  opened = opened;
  opens = all;
  size = length-symbols_in o bytes stripe;
  accepted = λ place kept. record {
    row = row_polynomial o (symbols_in o bytes stripe) place;
    accepted = row-right o bytes number stripe place seen opened is shape few all (within place kept);
    values = λ j below. at place j kept below;
  };
}
  where
    within : (place : ℕ) → place < o.profile.keep → place < o.profile.size
    within place kept = omega (arith, kept, profile-room o number is)

    at : (place j : ℕ) → place < o.profile.keep → j < o.shape.l →
        slice_get (symbols_in o bytes stripe) (j * o.profile.keep + place)
        ≡ Some (value (row_polynomial o (symbols_in o bytes stripe) place) j)
    at place j kept below =
        let more : suc j * o.profile.keep ≤ o.shape.l * o.profile.keep =
        mul-le-mul_right o.profile.keep below in
        let split : suc j * o.profile.keep ≡ j * o.profile.keep + o.profile.keep = grind arith in
        slice_get-upto (λ i. symbol_of bytes (stripe * stripe_symbols o + i)) (stripe_symbols o)
        (j * o.profile.keep + place)
        (omega (arith, kept, more, split))
        ∙ ap Some (sym (row-symbol o bytes stripe place j kept (within place kept) below))

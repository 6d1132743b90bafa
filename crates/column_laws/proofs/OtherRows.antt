-- A row that is accepted with another polynomial than the file's own is a forgery.
use Rattle.column_laws.proofs.Words.{◌≡◌, ◌≢◌, ℕ, zero, suc, ◌+◌, ◌<◌, ◌≤◌, ◌&&◌, Bool, true, false, cond, not, nat_lt, List, ◌∷◌, length, map, slice_index, Some, arith, ap, sym, refl, ◌∙◌, range_with_len, length-map-range_with_len, IsShape, agree_over, value, agree, is_seen, upto, values_at, profile_of, codeword, agree-values, Object, symbols_in, kept_by, is_primary, point, points, primary_row, row_polynomial, is_wrong_block, SeenBlock, AllOpen, AcceptsRow, block_at, count_of, is_agreeing, IsRow, IsStripeForgery, length-row_polynomial, value-row_polynomial, Apart-points}
use Rattle.std.proofs.lemmas.Bool.{not-true}
use Rattle.column_laws.proofs.UniqueLaws.{often_same, values_same, profile-room}
use Rattle.column_laws.proofs.Counts.{count_of-within, count_of-parts, count_of-below, agree-row}
use Rattle.column_laws.proofs.RightRows.{symbol-at}

-- the row's polynomial takes the primary row
pub values-row : (o : Object) (symbols : List ℕ) (place : ℕ) →
    values_at (upto o.shape.l) (row_polynomial o symbols place) ≡ primary_row o symbols place
values-row o symbols place =
    go 0 o.shape.l (λ j below. value-row_polynomial o symbols place j (omega (arith, below)))
  where
    go : (a n : ℕ) → ((j : ℕ) → j < a + n → value (row_polynomial o symbols place) j
        ≡ slice_index (codeword o.profile (kept_by o symbols j)) place) →
        map (value (row_polynomial o symbols place)) (range_with_len a n)
        ≡ map (λ j. slice_index (codeword o.profile (kept_by o symbols j)) place) (range_with_len a n)
    go a zero h = refl
    go a (suc n) h = (λ i. h a (omega arith) i ∷ go (a + 1) n (λ j below. h j (omega (arith, below))) i)

-- at how many of the providers' points two polynomials have one value
abbrev meets : Object → List ℕ → List ℕ → ℕ
meets o p q = agree p (points o) (map Some (values_at (points o) q))

-- another polynomial of as few coefficients meets the row's at fewer points than there are primary providers
few-meets : (o : Object) (symbols : List ℕ) (place : ℕ) (p : List ℕ) → o.shape.n ≤ 256 →
    length p ≤ o.shape.l → values_at (upto o.shape.l) p ≢ primary_row o symbols place →
    meets o p (row_polynomial o symbols place) < o.shape.l
few-meets o symbols place p size short other =
    go (nat_lt (meets o p (row_polynomial o symbols place)) o.shape.l) refl
  where
    go : (b : Bool) → nat_lt (meets o p (row_polynomial o symbols place)) o.shape.l ≡ b →
        meets o p (row_polynomial o symbols place) < o.shape.l
    go true is = grind (arith, is)
    go false is =
        let row = row_polynomial o symbols place in
        let often : o.shape.l ≤ meets o p row = grind (arith, is) in
        absurd (other (values_same p row (upto o.shape.l)
        (often_same p row (points o) (map Some (values_at (points o) row)) o.shape.l
        (Apart-points o size) short
        (length-row_polynomial o symbols place) (omega (arith, often, agree-values row (points o))))
        ∙ values-row o symbols place))

-- that number, as a count of providers
meets-count : (p q : List ℕ) (at : ℕ → ℕ) (a n : ℕ) →
    agree p (map at (range_with_len a n)) (map Some (values_at (map at (range_with_len a n)) q))
    ≡ count_of (λ j. is_seen (value p (at j)) (Some (value q (at j)))) (range_with_len a n)
unfolding agree_over
meets-count p q at a zero = refl
meets-count p q at a (suc n) =
    ap (λ m. cond (is_seen (value p (at a)) (Some (value q (at a)))) 1 0 + m) (meets-count p q at (a + 1) n)

and-left : (a b : Bool) → a && b ≡ true → a ≡ true
and-left true b e = refl
and-left false b e = e

and-right : (a b : Bool) → a && b ≡ true → b ≡ true
and-right true b e = e
and-right false b e = absurd (cc e)

-- a row accepted with other primary symbols than the file's own is a forgery
pub forgery-of_other : (o : Object) (bytes : List ℕ) (number : ℕ) (seen : ℕ → List SeenBlock)
    (stripe place : ℕ) (opened : List SeenBlock) (p : List ℕ) →
    o.profile ≡ profile_of number → IsShape o.shape.n o.shape.l o.shape.b → IsRow o bytes stripe place →
    AllOpen o stripe 0 (seen stripe) opened → AcceptsRow o opened place p →
    values_at (upto o.shape.l) p ≢ primary_row o (symbols_in o bytes stripe) place →
    IsStripeForgery o bytes seen stripe place
forgery-of_other o bytes number seen stripe place opened p is shape row_in all accepted other =
    let row = row_polynomial o (symbols_in o bytes stripe) place in
    let js = upto o.shape.n in
    let agrees = is_agreeing o opened place p in
    let wrong = λ (j : ℕ). is_wrong_block o bytes j stripe (block_at (seen stripe) j) in
    let within : place < o.profile.size = omega (arith, row_in.place_in, profile-room o number is) in
    let enough : o.shape.n ≤ count_of agrees js + o.shape.b =
    omega (
      arith,
      accepted.agrees,
      agree-row o opened place p,
      length-map-range_with_len (point o) 0 o.shape.n,
    ) in
    let first : count_of (λ j. agrees j && is_primary o j) js ≤ count_of (is_primary o) js =
    count_of-within (λ j. agrees j && is_primary o j) (is_primary o) 0 o.shape.n
    (λ j below. and-right (agrees j) (is_primary o j)) in
    let right : count_of (λ j. agrees j && not (wrong j)) js ≤ count_of
    (λ j. is_seen (value p (point o j)) (Some (value row (point o j)))) js =
    count_of-within (λ j. agrees j && not (wrong j))
    (λ j. is_seen (value p (point o j)) (Some (value row (point o j)))) 0 o.shape.n
    (λ j below both. ap (is_seen (value p (point o j)))
    (sym (symbol-at o bytes number stripe place j (seen stripe) opened is all within
    (omega (arith, below, shape.1)) (not-true (wrong j) (and-right (agrees j) (not (wrong j)) both))))
    ∙ and-left (agrees j) (not (wrong j)) both) in
    record {
      row_in = row_in;
      opened = opened;
      opens = all;
      row = p;
      forged = record {
        accepted = accepted;
        other = other;
        tagged = omega (
          arith,
          shape.4,
          enough,
          first,
          count_of-parts agrees (is_primary o) js,
          count_of-below o.shape.l 0 o.shape.n,
        );
        wrong_ones = omega (
          arith,
          shape.4,
          enough,
          right,
          count_of-parts agrees wrong js,
          meets-count p row (point o) 0 o.shape.n,
          few-meets o (symbols_in o bytes stripe) place p (omega (arith, shape.1)) accepted.degree other,
        );
      };
    }

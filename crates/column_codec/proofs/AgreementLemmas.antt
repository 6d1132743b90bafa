-- How many providers agree with the row of given primary symbols.
use Rattle.column_codec.proofs.Words.{zero, IfNone, arith, ap, sym, refl, ◌∙◌, get_or, subst, slice_get-get_or, get_or-take, get_or-drop, length-map-range_with_len, length-range_with_len, map-range_with_len_more, fill_by_all, get_or-map-range_with_len, nim, nim_laws, agree_over, is_seen-some, is_seen-none, length-interpolate, value, agree, is_seen, interpolate, upto, codeword, Object, stripe_symbols, is_primary, kept_by, point, points, secret_point, row_polynomial, primary_row, SeenBlock, symbol_in, AcceptsRow, value-interpolate_upto, agreeing_at, agreed, opened_at, opened_of, HasRow, row_value}
use Rattle.std.specs.Prelude.{◌≡◌, ℕ, suc, ◌+◌, ◌*◌, ◌<◌, ◌≤◌, ◌==◌, Bool, true, List, [], ◌∷◌, ◌++◌, length, map, take, drop, replicate, Option, None, Some, if◌then◌else◌}
use Rattle.column_codec.proofs.RowLemmas.{symbols_at-row}
use Rattle.column_codec.proofs.OpenLemmas.{seen-map}

-- the row takes its primary symbols
pub row-primary : (o : Object) (symbols : List ℕ) (place j : ℕ) → length symbols ≡ stripe_symbols o →
    place < o.profile.keep → o.profile.keep ≤ o.profile.size → j < o.shape.l →
    value (row_polynomial o symbols place) j ≡ get_or symbols (j * o.profile.keep + place) 0
row-primary o symbols place j long within fits below =
    ap (λ (ys : List ℕ). value (interpolate (upto o.shape.l) ys) j)
    (sym (symbols_at-row o symbols place long within fits))
    ∙ value-interpolate_upto (λ k. get_or symbols (k * o.profile.keep + place) 0) o.shape.l j below

-- the point of a primary provider
point-primary : (o : Object) (j : ℕ) → j < o.shape.l → point o j ≡ j
point-primary o j below = let is : is_primary o j ≡ true =
    grind (arith, below) in ap (λ b. if b then j else secret_point o.master o.id j) is

-- the values of the rows at a primary provider's point are its symbols
pub primary-values : (o : Object) (symbols new : List ℕ) (j : ℕ) → length symbols ≡ stripe_symbols o →
    o.profile.keep ≤ o.profile.size → j < o.shape.l → length new ≡ o.profile.keep →
    new ≡ take o.profile.keep (drop (j * o.profile.keep) symbols) →
    new ≡ map (row_value o symbols j) (upto o.profile.keep)
primary-values o symbols new j long fits below size is = fill_by_all (row_value o symbols j) new
    o.profile.keep 0 size (λ place within. ap (λ (xs : List ℕ). get_or xs place 0) is
    ∙ get_or-take o.profile.keep (drop (j * o.profile.keep) symbols) place 0 within
    ∙ get_or-drop (j * o.profile.keep) symbols place 0
    ∙ sym (row-primary o symbols place j long within fits below)
    ∙ ap (value (row_polynomial o symbols place)) (sym (point-primary o j below)))

-- one place more of a row
agree-last : (p xs : List ℕ) (ss : List (Option ℕ)) (x : ℕ) (s : Option ℕ) → length xs ≡ length ss →
    agree p (xs ++ x ∷ []) (ss ++ s ∷ []) ≡ agree p xs ss + (if is_seen (value p x) s then 1 else 0)
unfolding agree_over
agree-last p [] [] x s even = omega arith
agree-last p [] (t ∷ ss) x s even = absurd (omega (arith, even))
agree-last p (y ∷ xs) [] x s even = absurd (omega (arith, even))
agree-last p (y ∷ xs) (t ∷ ss) x s even =
    let h = agree-last p xs ss x s (omega (arith, even)) in omega (arith, h)

-- one provider more
pub agreed_more : (o : Object) (rows : List ℕ) (marks : List Bool) (blocks : List (List ℕ))
    (place j old new : ℕ) (block : SeenBlock) → block ≡ opened_at marks blocks j →
    old ≡ agreed o rows marks blocks place j → new ≡ old + agreeing_at o rows place j block →
    new ≡ agreed o rows marks blocks place (j + 1)
agreed_more o rows marks blocks place j old new block is before made =
    let f = λ (k : ℕ). symbol_in place (opened_at marks blocks k) in
    let p = row_polynomial o rows place in
    made ∙ (λ i. before i + agreeing_at o rows place j (is i))
    ∙ sym (agree-last p (map (point o) (upto j)) (map f (upto j)) (point o j) (f j)
    (length-map-range_with_len (point o) 0 j ∙ sym (length-map-range_with_len f 0 j)))
    ∙ (λ i. agree p (sym (map-range_with_len_more (point o) 0 j j (omega arith)) i)
    (sym (map-range_with_len_more f 0 j j (omega arith)) i))

-- where enough agree, the row is accepted
pub agreed_accepts : (o : Object) (rows : List ℕ) (marks : List Bool) (blocks : List (List ℕ))
    (place n need : ℕ) → n ≡ o.shape.n → o.shape.n ≤ need + o.shape.b →
    need ≤ agreed o rows marks blocks place n →
    AcceptsRow o (opened_of marks blocks o.shape.n) place (row_polynomial o rows place)
agreed_accepts o rows marks blocks place n need is enough agree_many =
    let f = λ (k : ℕ). symbol_in place (opened_at marks blocks k) in
    let g = λ (k : ℕ). get_or (codeword o.profile (kept_by o rows k)) place 0 in
    let many : need ≤ agree (row_polynomial o rows place) (points o)
    (map (symbol_in place) (opened_of marks blocks o.shape.n)) =
    subst (λ (ss : List (Option ℕ)). need ≤ agree (row_polynomial o rows place) (points o) ss)
    (seen-map place (opened_at marks blocks) (upto o.shape.n))
    (subst (λ (m : ℕ). need ≤ agreed o rows marks blocks place m) is agree_many) in
    record {
      degree = omega (
        arith,
        length-interpolate nim nim_laws (upto o.shape.l) (primary_row o rows place)
            (length-range_with_len 0 o.shape.l ∙ sym (length-map-range_with_len g 0 o.shape.l)),
        length-range_with_len 0 o.shape.l,
      );
      agrees = omega (arith, many, enough, length-map-range_with_len (point o) 0 o.shape.n);
    }

-- an accepted row of the symbols stands in its places
pub has-row : (o : Object) (opened : List SeenBlock) (rows : List ℕ) (place : ℕ) →
    length rows ≡ stripe_symbols o → place < o.profile.keep → o.profile.keep ≤ o.profile.size →
    AcceptsRow o opened place (row_polynomial o rows place) → HasRow o opened place rows
has-row o opened rows place long within fits accepted = record {
  row = row_polynomial o rows place;
  accepted = accepted;
  values = λ j below. sym (row-primary o rows place j long within fits below);
}

-- a symbol that is seen agrees where it is the value
pub agreeing-seen : (o : Object) (rows block values : List ℕ) (j place : ℕ) → place < length block →
    place < o.profile.keep → values ≡ map (row_value o rows j) (upto o.profile.keep) →
    (if get_or block place 0 == get_or values place 0 then 1 else 0) ≡ agreeing_at o rows place j (Some block)
agreeing-seen o rows block values j place inside within are =
    let v = value (row_polynomial o rows place) (point o j) in
    let is : get_or values place 0 ≡ v =
    ap (λ (xs : List ℕ). get_or xs place 0) are
    ∙ get_or-map-range_with_len (row_value o rows j) 0 o.profile.keep place place 0 within (omega arith) in
    ap (λ y. if get_or block place 0 == y then 1 else 0) is
    ∙ ap (λ b. if b then 1 else 0) (sym (is_seen-some nim v (get_or block place 0)))
    ∙ ap (λ (s : Option ℕ). if is_seen v s then 1 else 0) (sym (slice_get-get_or block place 0 inside))

-- no provider, no agreement
pub agreed_none : (o : Object) (rows : List ℕ) (marks : List Bool) (blocks : List (List ℕ)) (place : ℕ) →
    0 ≡ agreed o rows marks blocks place 0
unfolding agree_over
agreed_none o rows marks blocks place = refl

-- an absent block does not agree
pub agreeing-none : (o : Object) (rows : List ℕ) (place j : ℕ) → agreeing_at o rows place j None ≡ 0
agreeing-none o rows place j =
    ap (λ b. if b then 1 else 0) (is_seen-none nim (value (row_polynomial o rows place) (point o j)))

-- zeros at the front of zeros
pub zeros-front : (k n i : ℕ) → ◌≡◌ {A = ℕ} (get_or (take k (replicate n 0)) i 0) 0
zeros-front zero n i = refl
zeros-front (suc k) zero i = refl
zeros-front (suc k) (suc n) zero = refl
zeros-front (suc k) (suc n) (suc i) = zeros-front k n i

-- a fact that holds where there is none gives another there
pub none-gives : {T : Type 0} (P Q : Type 0) (r : Option T) → (P → Q) → IfNone r P → IfNone r Q
none-gives P Q None f h = f h
none-gives P Q (Some x) f h = h

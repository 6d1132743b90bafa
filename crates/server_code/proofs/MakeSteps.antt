-- The steps of making the rows of coefficients.
use Rattle.server_code.proofs.Words.{◌≡◌, ◌≤◌, ◌<◌, ◌+◌, ◌-◌, ◌*◌, ◌++◌, ◌⊎◌, inl, inr, ℕ, suc, List, length, take, drop, sym, ap, ◌∙◌, arith, mul-le-mul_right, suc-mul, length-append, drop-append_seam, drop-append-le, take-append-le, take_all, Profile, IsGeneratorRow, row_at}
use Rattle.std.proofs.Common.{length-drop}

-- the rows of the places from keep on to before a place
pub record HasRows (profile : Profile) (place : ℕ) (rows : List ℕ) : Type 0 where
  pub behind : profile.keep ≤ place
  pub full : length rows ≡ (place - profile.keep) * profile.keep
  pub each : (r : ℕ) → profile.keep + r < place →
      IsGeneratorRow profile (profile.keep + r) (row_at profile.keep rows r)

-- a row before the last
row_before : (keep r : ℕ) (rows row : List ℕ) → r * keep + keep ≤ length rows →
    row_at keep (rows ++ row) r ≡ row_at keep rows r
row_before keep r rows row fits = ap (take keep) (drop-append-le (r * keep) rows row (omega arith)) ∙
    take-append-le keep (drop (r * keep) rows) row (omega (arith, length-drop (r * keep) rows))

-- the last row
row_last : (keep r : ℕ) (rows row : List ℕ) → length rows ≡ r * keep → length row ≡ keep →
    row_at keep (rows ++ row) r ≡ row
row_last keep r rows row full long =
    ap (λ n. take keep (drop n (rows ++ row))) (sym full) ∙ ap (take keep) (drop-append_seam rows row)
    ∙ take_all keep row (omega arith)

-- the last or one before it
pub last_or_before : (r n : ℕ) → r < n + 1 → (r ≡ n) ⊎ (r < n)
last_or_before r n h = grind arith

-- one row more
pub row_more : (profile : Profile) (place : ℕ) (rows row : List ℕ) → HasRows profile place rows →
    IsGeneratorRow profile place row → HasRows profile (place + 1) (rows ++ row)
row_more profile place rows row has is = record {
  behind = omega (arith, has.behind);
  full = length-append rows row ∙ count;
  each = λ r h. at r (last_or_before r n (omega (arith, has.behind)));
}
  where
    n : ℕ
    n = place - profile.keep

    count : length rows + length row ≡ (place + 1 - profile.keep) * profile.keep
    count = let e : place + 1 - profile.keep ≡ suc n =
        omega (arith, has.behind) in rw e (omega (arith, has.full, is.full, suc-mul n profile.keep))

    place_is : profile.keep + n ≡ place
    place_is = omega (arith, has.behind)

    at : (r : ℕ) → (r ≡ n) ⊎ (r < n) →
        IsGeneratorRow profile (profile.keep + r) (row_at profile.keep (rows ++ row) r)
    at r (inl e) =
        let where_ : profile.keep + r ≡ place = omega (arith, place_is) in
        let what : row_at profile.keep (rows ++ row) r ≡ row =
        row_last profile.keep r rows row (has.full ∙ ap (λ m. m * profile.keep) (sym e)) is.full in
        rw (where_, what) is
    at r (inr h) =
        let fits : r * profile.keep + profile.keep ≤ length rows =
        omega (arith, has.full, mul-le-mul_right profile.keep h, suc-mul r profile.keep) in
        let what : row_at profile.keep (rows ++ row) r ≡ row_at profile.keep rows r =
        row_before profile.keep r rows row fits in
        rw what (has.each r (omega (arith, place_is)))

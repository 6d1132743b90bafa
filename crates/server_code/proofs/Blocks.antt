-- What a code makes of the kept symbols and of blocks.
use Rattle.server_code.proofs.Words.{◌≡◌, ◌≤◌, ◌<◌, ◌+◌, ◌-◌, ◌++◌, ◌⊎◌, inl, inr, ℕ, List, length, get_or, sym, ap, ◌∙◌, arith, length-append, get_or_append_left, get_or-append_right, fill_by_all, length-map-range_with_len, length-range_with_len, cases_lt, value, interpolate, upto, values_at, Profile, dot, codeword, differences, Opens, agree-differences, value-kept, get_or-codeword, row_at, sums, IsGenerator}
use Rattle.server_code.proofs.RowSteps.{get_or-sums}

-- the kept symbols and their sums are the codeword
pub extended_is_codeword : (profile : Profile) (rows kept : List ℕ) (n : ℕ) → IsGenerator profile rows →
    length kept ≡ profile.keep →
    profile.keep + n ≡ profile.size → kept ++ sums rows kept n ≡ codeword profile kept
extended_is_codeword profile rows kept n generator long sizes =
    fill_by_all (value (interpolate (upto profile.keep) kept)) (kept ++ sums rows kept n) profile.size 0
    (length-append kept (sums rows kept n)
    ∙ omega (arith, length-map-range_with_len (λ r. dot (row_at (length kept) rows r) kept) 0 n))
    (λ k h. at k h (cases_lt k profile.keep))
  where
    at : (k : ℕ) → k < profile.size → (k < profile.keep) ⊎ (profile.keep ≤ k) →
        get_or (kept ++ sums rows kept n) k 0 ≡ value (interpolate (upto profile.keep) kept) k
    at k h (inl before) = get_or_append_left kept (sums rows kept n) 0 k (omega arith)
        ∙ sym (value-kept profile.keep kept k long before)
    at k h (inr behind) =
        let same : profile.keep + (k - profile.keep) ≡ k = omega arith in
        get_or-append_right kept (sums rows kept n) profile.keep k 0 long behind ∙
        get_or-sums rows kept n (k - profile.keep) (omega arith) ∙
        ap (λ m. dot (row_at m rows (k - profile.keep)) kept) long ∙
        sym ((generator.each (k - profile.keep) (omega arith)).gives kept long) ∙
        ap (λ m. get_or (codeword profile kept) m 0) same ∙
        get_or-codeword profile kept k h

-- a block opens to what opens to itself and differs from it at few places
pub near_opens : (profile : Profile) (block opened : List ℕ) → length block ≡ profile.size →
    Opens profile opened opened → differences block opened ≤ profile.fix → Opens profile block opened
near_opens profile block opened long is few =
    let even : length (upto profile.size) ≡ length block = length-range_with_len 0 profile.size ∙ sym long in
    let same : differences block opened ≡ differences block (values_at (upto profile.size) is.polynomial) =
    ap (differences block) is.opened_is in
    record {
      polynomial = is.polynomial;
      near = record {
        whole = long;
        decodes = record {
          short = is.near.decodes.short;
          near = omega (arith, agree-differences is.polynomial (upto profile.size) block even, same, few);
        };
      };
      opened_is = is.opened_is;
    }

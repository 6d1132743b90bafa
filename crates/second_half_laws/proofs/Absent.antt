-- Blocks that are absent take nothing from accepted rows: only wrong ones that are there could forge one.
use Rattle.second_half_laws.proofs.Words.{◌*◌, ◌&&◌, true, refl, ap, sym, ◌∙◌, inl, inr, arith, is_some, and_parts, and_from, false≢true, get_or_from_slice_get, map-range_at, same_or_other, IsShape, upto, values_at, profile_of, Object, stripes, symbols_in, point, primary_row, is_wrong_block, SeenBlock, OpensTo, AllOpen, symbol_in, block_at, AcceptsRow, AcceptsSymbols, GivesSymbols, count_of, is_agreeing, IsRow, IsStripeForgery, profile-room, kept-symbol, count_of-within, opens-at, is_wrong_seen}
use Rattle.std.proofs.Common.{◌≡◌, ℕ, ◌+◌, ◌<◌, ◌≤◌, List, length, Some, None}
use Rattle.algebra_laws.specs.Poly.{is_seen as is_seen_over}
use Rattle.code_defs.specs.Polynomials.{value, is_seen}
use Rattle.column_laws.proofs.OtherRows.{forgery-of_other}
use Rattle.run_laws.proofs.Files.{IsRightRow, right-symbols}

-- a provider that agrees with a polynomial gave a block
agrees_seen : (o : Object) (j stripe place v : ℕ) (seen opened : SeenBlock) → OpensTo o j stripe seen opened →
    is_seen v (symbol_in place opened) ≡ true → is_some seen ≡ true
unfolding is_seen_over
agrees_seen o j stripe place v None opened e h =
    absurd (false≢true (ap (λ x. is_seen v (symbol_in place x)) (sym e) ∙ h))
agrees_seen o j stripe place v (Some block) opened e h = refl

-- an accepted row is the file's own where at most b of the blocks that are there are wrong
pub own_row : (o : Object) (bytes : List ℕ) (number stripe place : ℕ) (seen opened : List SeenBlock)
    (p : List ℕ) → o.profile ≡ profile_of number → IsShape o.shape.n o.shape.l o.shape.b →
    IsRow o bytes stripe place →
    count_of (λ j. is_wrong_seen o bytes j stripe (block_at seen j)) (upto o.shape.n) ≤ o.shape.b →
    AllOpen o stripe 0 seen opened → AcceptsRow o opened place p →
    values_at (upto o.shape.l) p ≡ primary_row o (symbols_in o bytes stripe) place
own_row o bytes number stripe place seen opened p is shape row few opens accepted =
    elim (same_or_other (values_at (upto o.shape.l) p) (primary_row o (symbols_in o bytes stripe) place)) [
      | inl same ↦ same
      | inr other ↦ absurd (too_few (forgery-of_other o bytes number (λ s. seen) stripe place opened p is
          shape row opens accepted other))
    ]
  where
    too_few : IsStripeForgery o bytes (λ s. seen) stripe place → ⊥
    too_few f = (omega (
      arith,
      count_of-within (λ j. is_agreeing o f.opened place f.row j && is_wrong_block o bytes j
          stripe (block_at seen j)) (λ j. is_wrong_seen o bytes j stripe (block_at seen j)) 0 o.shape.n
          (λ j l h. (let q = and_parts (is_agreeing o f.opened place f.row j)
          (is_wrong_block o bytes j stripe (block_at seen j)) h in
          and_from (is_some (block_at seen j)) (is_wrong_block o bytes j stripe (block_at seen j))
          (agrees_seen o (0 + j) stripe place (value f.row (point o j)) (block_at seen j) (block_at f.opened j)
          (opens-at o stripe 0 j seen f.opened f.opens) q.0) q.1)),
      f.forged.wrong_ones,
      few,
    ))

-- symbols that blocks open to are the file's own where at most b of those that are there are wrong
pub own_symbols : (o : Object) (bytes : List ℕ) (number stripe : ℕ) (seen : List SeenBlock)
    (symbols : List ℕ) → o.profile ≡ profile_of number → IsShape o.shape.n o.shape.l o.shape.b →
    stripe < stripes o (length bytes) →
    count_of (λ j. is_wrong_seen o bytes j stripe (block_at seen j)) (upto o.shape.n) ≤ o.shape.b →
    GivesSymbols o stripe seen symbols → symbols ≡ symbols_in o bytes stripe
own_symbols o bytes number stripe seen symbols is shape below few gives = right-symbols o bytes stripe symbols
    gives.size (λ place kept. by_row place kept (gives.accepted place kept))
  where
    by_row : (place : ℕ) → place < o.profile.keep → AcceptsSymbols o gives.opened place symbols →
        IsRightRow o bytes stripe symbols place
    by_row place kept one = λ j l. get_or_from_slice_get symbols (j * o.profile.keep + place)
        (value one.row j) 0 (one.values j l) ∙ map-range_at _ _ 0 _ (own_row o bytes number stripe place seen
        gives.opened one.row is shape (record { stripe_in = below; place_in = kept }) few gives.opens
        one.accepted) j (omega arith) (omega (arith, l)) ∙ kept-symbol o bytes stripe place j kept
        (omega (arith, kept, profile-room o number is)) l

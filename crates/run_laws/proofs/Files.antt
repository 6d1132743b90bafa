-- What seen blocks open to is the file, or they hold a forgery against it.
use Rattle.run_laws.proofs.Words.{◌≡◌, ℕ, zero, suc, ◌+◌, ◌*◌, ◌<◌, ◌≤◌, ◌⊎◌, List, length, take, get_or, ap, sym, subst, ◌∙◌, inl, inr, arith, slice_index, cases_eq, fill_by_all, IsShape, value, upto, values_at, Object, stripes, stripe_symbols, symbol_of, symbols_in, bytes_of_symbols, kept_by, IsForgery, profile-room, AreBytes}
use Rattle.std.proofs.lemmas.Option.{get_or_from_slice_get}
use Rattle.algebra_laws.proofs.Lists.{flat_map-range_same, map-range_at, same_or_other}
use Rattle.algebra_laws.proofs.ListPlaces.{IsPlace, place-of}
use Rattle.code_defs.specs.Profiles.{profile_of}
use Rattle.code_defs.specs.ServerCode.{codeword}
use Rattle.code_defs.proofs.Profiles.{some_kept}
use Rattle.column_defs.specs.Columns.{primary_row}
use Rattle.column_defs.specs.Opened.{SeenBlock, AcceptsSymbols, GivesSymbols, OpensFile}
use Rattle.column_defs.proofs.ForgeryLaws.{forgery-of_stripe}
use Rattle.column_laws.proofs.RightRows.{kept-symbol}
use Rattle.column_laws.proofs.OtherRows.{forgery-of_other}
use Rattle.run_laws.proofs.SymbolBytes.{bytes_back}

-- of so many numbers all are of one kind, or there is one of the other
all_or_one : (P Q : ℕ → Type 0) (n : ℕ) → ((k : ℕ) → k < n → P k ⊎ Q k) →
    ((k : ℕ) → k < n → P k) ⊎ ((k : ℕ) × (k < n) × Q k)
all_or_one P Q zero h = inl (λ k l. absurd (omega (arith, l)))
all_or_one P Q (suc n) h = elim (all_or_one P Q n (λ k l. h k (omega (arith, l)))) [
  | inr (k, l, q) ↦ inr (k, omega (arith, l), q)
  | inl all ↦ elim (h n (omega arith)) [
    | inr q ↦ inr (n, omega arith, q)
    | inl p ↦ inl (λ k l. elim (cases_eq k n)
        [ inl e ↦ subst P (sym e) p | inr other ↦ all k (omega (arith, l, other)) ])
  ]
]

module _ (o : Object) (bytes : List ℕ) where
  -- a symbol of a stripe, in layout order
  abbrev own : ℕ → ℕ → ℕ
  own stripe i = symbol_of bytes (stripe * stripe_symbols o + i)

  -- the symbols of a row are the file's
  abbrev pub IsRightRow : ℕ → List ℕ → ℕ → Type 0
  IsRightRow stripe symbols place = (j : ℕ) → j < o.shape.l →
      get_or symbols (j * o.profile.keep + place) 0 ≡ own stripe (j * o.profile.keep + place)

  -- where all rows are, the symbols of the stripe are
  pub right-symbols : (stripe : ℕ) (symbols : List ℕ) → length symbols ≡ stripe_symbols o →
      ((place : ℕ) → place < o.profile.keep → IsRightRow stripe symbols place) →
      symbols ≡ symbols_in o bytes stripe
  right-symbols stripe symbols size rows = fill_by_all (own stripe) symbols (stripe_symbols o) 0 size
      (λ i below. at i (place-of o.shape.l o.profile.keep i below))
    where
      at : (i : ℕ) → IsPlace o.shape.l o.profile.keep i → get_or symbols i 0 ≡ own stripe i
      at i h = ap (λ k. get_or symbols k 0) h.sum ∙ rows h.place h.place_in h.block h.block_in
          ∙ ap (own stripe) (sym h.sum)

  module _ (number : ℕ) (is : o.profile ≡ profile_of number) (shape : IsShape o.shape.n o.shape.l o.shape.b)
      (seen : ℕ → List SeenBlock) where
    row_right_or_forged : (stripe : ℕ) (symbols : List ℕ) → stripe < stripes o (length bytes) →
        GivesSymbols o stripe (seen stripe) symbols → (place : ℕ) → place < o.profile.keep →
        IsRightRow stripe symbols place ⊎ IsForgery o bytes seen stripe place
    row_right_or_forged stripe symbols below gives place kept = by_row (gives.accepted place kept)
      where
        by_row : AcceptsSymbols o gives.opened place symbols →
            IsRightRow stripe symbols place ⊎ IsForgery o bytes seen stripe place
        by_row one = elim (same_or_other (values_at (upto o.shape.l) one.row)
            (primary_row o (symbols_in o bytes stripe) place)) [
              | inl same ↦ inl (λ j l. get_or_from_slice_get symbols (j * o.profile.keep + place)
                  (value one.row j) 0 (one.values j l)
                  ∙ map-range_at (value one.row)
                  (λ k. slice_index (codeword o.profile (kept_by o (symbols_in o bytes stripe) k)) place) 0
                  o.shape.l same j (omega arith) (omega (arith, l))
                  ∙ kept-symbol o bytes stripe place j kept (omega (arith, kept, profile-room o number is)) l)
              | inr other ↦ inr (forgery-of_stripe o bytes seen stripe place
                  (forgery-of_other o bytes number seen stripe place gives.opened one.row is shape
                  (record { stripe_in = below; place_in = kept }) gives.opens one.accepted other))
            ]

    stripe_right_or_forged : (stripe : ℕ) (symbols : List ℕ) → stripe < stripes o (length bytes) →
        GivesSymbols o stripe (seen stripe) symbols →
        (symbols ≡ symbols_in o bytes stripe) ⊎ ((place : ℕ) × IsForgery o bytes seen stripe place)
    stripe_right_or_forged stripe symbols below gives =
        elim (all_or_one (IsRightRow stripe symbols) (λ place. IsForgery o bytes seen stripe place)
        o.profile.keep (row_right_or_forged stripe symbols below gives)) [
          | inl all ↦ inl (right-symbols stripe symbols gives.size all)
          | inr (place, kept, forged) ↦ inr (place, forged)
        ]

    -- what seen blocks open to is the file, or a stripe of them holds a forgery against it
    pub file_or_forged : (got : List ℕ) → AreBytes bytes → OpensFile o (length bytes) seen got →
        (got ≡ bytes) ⊎ ((stripe : ℕ) × (place : ℕ) × IsForgery o bytes seen stripe place)
    file_or_forged got fits opens =
        elim (all_or_one (λ stripe. opens.symbols stripe ≡ symbols_in o bytes stripe)
        (λ stripe. (place : ℕ) × IsForgery o bytes seen stripe place) (stripes o (length bytes))
        (λ stripe below. stripe_right_or_forged stripe (opens.symbols stripe) below
        (opens.given stripe below))) [
          | inl all ↦ inl (opens.cut
              ∙ ap (take (length bytes))
              (flat_map-range_same (λ stripe. bytes_of_symbols (opens.symbols stripe))
              (λ stripe. bytes_of_symbols (symbols_in o bytes stripe)) 0 (stripes o (length bytes))
              (λ k l. ap bytes_of_symbols (all k (omega (arith, l)))))
              ∙ bytes_back o bytes shape.2 (subst (λ p. 1 ≤ p.keep) (sym is) (some_kept number)) fits)
          | inr (stripe, below, (place, forged)) ↦ inr (stripe, place, forged)
        ]

-- What is near a block is a codeword and what is near the sums of both.
use Rattle.server_code.proofs.Words.{◌≡◌, ◌≤◌, ◌<◌, ℕ, subst, sym, ◌∙◌, ap, refl, arith, List, [], ◌∷◌, Option, Some, None, length, take, map, get_or, fill_by_all, length-range_with_len, length-map-range_with_len, take-map-range_with_len, v, ◌⊞◌, solve, nim, nim_add, nim_laws, nim_ring, Decodes, plus_over, agree_over, is_seen_over, value-plus, length-plus, value, agree, plus, interpolate, upto, values_at, Profile, codeword, differences, IsNear, Opens, OpensToNone, value-kept, codeword-short, opens_itself, equal-added, TakesNear, agree-differences}
use Rattle.std.specs.Prelude.{IfNone, IfSome, OnSome}
use Rattle.server_code.proofs.Blocks.{near_opens}
use Rattle.server_code.proofs.Halves.{length-even}
use Rattle.server_code.proofs.Linear.{codeword_of_front}

-- what agrees with the symbols, after the same polynomial was added to both
agree-added : (p q xs ys : List ℕ) → length ys ≡ length xs →
    agree (plus p q) xs (map Some (plus ys (values_at xs q))) ≡ agree p xs (map Some ys)
unfolding agree_over is_seen_over plus_over
agree-added p q [] ys even = refl
agree-added p q (x ∷ xs) [] even = absurd (omega arith)
agree-added p q (x ∷ xs) (y ∷ ys) even = cc (
  value-plus nim nim_laws p q x,
  equal-added y (value p x) (value q x),
  agree-added p q xs ys (omega arith),
)

module _ (profile : Profile) (block kept p : List ℕ) (long : length kept ≡ profile.keep)
    (near : IsNear profile block p) where
  -- the polynomial of the kept symbols
  abbrev first : List ℕ
  first = interpolate (upto profile.keep) kept

  -- what is near the sums of the block and the codeword
  pub near_sums : Decodes nim (upto profile.size) (plus block (codeword profile kept)) profile.keep
      profile.fix (plus p first)
  near_sums = record {
    short = omega (
      arith,
      near.decodes.short,
      codeword-short profile kept long,
      length-plus nim nim_laws p first,
    );
    near = omega (
      arith,
      near.decodes.near,
      agree-added p first (upto profile.size) block (near.whole ∙ sym (length-range_with_len 0 profile.size)),
    );
  }

  -- added to the kept symbols, its values give the codeword
  pub sums_give : (q mended : List ℕ) → profile.keep ≤ profile.size →
      ((x : ℕ) → value q x ≡ value (plus p first) x) → length mended ≡ profile.keep →
      ((k : ℕ) → k < profile.keep → get_or mended k 0 ≡ nim_add (get_or kept k 0) (value q k)) →
      codeword profile mended ≡ values_at (upto profile.size) p
  sums_give q mended le is even each =
      ap (codeword profile) (front ∙ sym (take-map-range_with_len (value p) 0 profile.size profile.keep le)) ∙
      sym (codeword_of_front profile (values_at (upto profile.size) p) le
      (record { polynomial = p; degree = near.decodes.short; values = refl }))
    where
      front : mended ≡ values_at (upto profile.keep) p
      front = fill_by_all (value p) mended profile.keep 0 even (λ k h.
          each k h ∙ ap (nim_add (get_or kept k 0)) (is k ∙ value-plus nim nim_laws p first k
          ∙ ap (nim_add (value p k)) (value-kept profile.keep kept k long h)) ∙
          solve nim_ring (get_or kept k 0 ∷ value p k ∷ []) (v 0 ⊞ (v 1 ⊞ v 0)) (v 1) refl)

  -- the block differs from the codeword at few places
  pub near_differences : differences block (values_at (upto profile.size) p) ≤ profile.fix
  near_differences =
      let even : length (upto profile.size) ≡ length block = length-range_with_len 0 profile.size
      ∙ sym near.whole in
      omega (arith, near.decodes.near, agree-differences p (upto profile.size) block even)

-- the first symbols of a codeword are the kept ones
pub front-codeword : (profile : Profile) (kept : List ℕ) → profile.keep ≤ profile.size →
    length kept ≡ profile.keep → take profile.keep (codeword profile kept) ≡ kept
front-codeword profile kept le long =
    take-map-range_with_len (value (interpolate (upto profile.keep) kept)) 0 profile.size profile.keep le ∙
    sym (fill_by_all (value (interpolate (upto profile.keep) kept)) kept profile.keep 0 long
    (λ k h. sym (value-kept profile.keep kept k long h)))

module _ (profile : Profile) (block kept word : List ℕ) (long : length kept ≡ profile.keep)
    (is : word ≡ codeword profile kept) where
  -- what is near a block, added to the polynomial of the kept symbols, is near the sums of both
  near_both : (p : List ℕ) → IsNear profile block p →
      IsNear profile (plus block word) (plus p (interpolate (upto profile.keep) kept))
  near_both p near = record {
    whole = length-even block word profile.size near.whole (ap length is
        ∙ length-map-range_with_len (value (interpolate (upto profile.keep) kept)) 0 profile.size);
    decodes = subst (λ (w : List ℕ). Decodes nim (upto profile.size) (plus block w) profile.keep profile.fix
        (plus p (interpolate (upto profile.keep) kept))) (sym is) (near_sums profile block kept p long near);
  }

  -- where nothing is near the sums, nothing is near the block
  pub none_near : OpensToNone profile (plus block word) → OpensToNone profile block
  none_near none p near = none (plus p (interpolate (upto profile.keep) kept)) (near_both p near)

  -- where the only one that may be near them gives a codeword that is far, nothing is near the block
  pub far_none : (q mended : List ℕ) → profile.keep ≤ profile.size → TakesNear profile (plus block word) q →
      length mended ≡ profile.keep →
      ((k : ℕ) → k < profile.keep → get_or mended k 0 ≡ nim_add (get_or kept k 0) (value q k)) →
      profile.fix < differences block (codeword profile mended) → OpensToNone profile block
  far_none q mended le found even each far p near =
      let same : differences block (codeword profile mended)
      ≡ differences block (values_at (upto profile.size) p) =
      ap (differences block)
      (sums_give profile block kept p long near q mended le
      (found (plus p (interpolate (upto profile.keep) kept)) (near_both p near)) even each) in
      omega (arith, far, same, near_differences profile block kept p long near)

-- a block opens to a codeword that is near it
pub codeword_opens : (profile : Profile) (block opened kept : List ℕ) → length block ≡ profile.size →
    length kept ≡ profile.keep →
    opened ≡ codeword profile kept → differences block opened ≤ profile.fix → Opens profile block opened
codeword_opens profile block opened kept long even is few =
    near_opens profile block opened long (opens_itself profile kept opened even is) few

-- what follows where there is no value
pub if_none : {T P Q : Type 0} (o : Option T) → (P → Q) → IfNone o P → IfNone o Q
if_none None f h = f h
if_none (Some t) f h = tt

-- what follows where there is one
pub on_some : {T P Q : Type 0} (o : Option T) (A B : T → Type 0) → (P → (t : T) → A t → B t → Q) →
    OnSome o P → IfSome o A → IfSome o B → OnSome o Q
on_some None A B f h a b = tt
on_some (Some t) A B f h a b = f h t a b

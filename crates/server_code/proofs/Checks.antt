-- A block whose other symbols are the sums of its first is a codeword, and only such a block.
use Rattle.server_code.proofs.Words.{◌≡◌, ◌≤◌, ◌-◌, ◌++◌, ℕ, List, length, take, drop, sym, ap, subst, ◌∙◌, arith, drop-append_seam, length-take, Profile, codeword, IsCodeword, IsNear, Opens, near_itself, sums, IsGenerator}
use Rattle.std.proofs.lemmas.List.{take-append-drop}
use Rattle.server_code.proofs.Blocks.{extended_is_codeword}
use Rattle.server_code.proofs.Linear.{codeword_is, codeword_of_front}

-- a codeword opens to itself
pub codeword_opens : (profile : Profile) (block : List ℕ) → IsCodeword profile block →
    Opens profile block block
codeword_opens profile block is = record {
  polynomial = is.polynomial;
  near = subst (λ (b : List ℕ). IsNear profile b is.polynomial) (sym is.values)
      (near_itself profile is.polynomial is.degree);
  opened_is = is.values;
}

module _ (profile : Profile) (rows block : List ℕ) (keep n : ℕ) (generator : IsGenerator profile rows)
    (whole : length block ≡ profile.size) (is_keep : keep ≡ profile.keep)
    (is_n : n ≡ length block - keep) (le : profile.keep ≤ profile.size) where
  -- the first symbols
  kept : length (take keep block) ≡ profile.keep
  kept = omega (arith, length-take keep block, whole, is_keep, le)

  -- what they are extended to
  made : take keep block ++ sums rows (take keep block) n ≡ codeword profile (take keep block)
  made = extended_is_codeword profile rows (take keep block) n generator kept
      (omega (arith, whole, is_keep, is_n, le))

  -- the sums make a codeword
  pub extended_is : drop keep block ≡ sums rows (take keep block) n → IsCodeword profile block
  extended_is are =
      subst (λ (b : List ℕ). IsCodeword profile b) (sym made ∙ ap (λ t. take keep block ++ t) (sym are)
      ∙ take-append-drop keep block) (codeword_is profile (take keep block) kept)

  -- a codeword has the sums
  pub codeword_extends : IsCodeword profile block → drop keep block ≡ sums rows (take keep block) n
  codeword_extends is =
      ap (drop keep)
      (codeword_of_front profile block le is ∙ ap (λ k. codeword profile (take k block)) (sym is_keep) ∙ sym made)
      ∙ ap (λ k. drop k (take keep block ++ sums rows (take keep block) n)) (is_keep ∙ sym kept)
      ∙ drop-append_seam (take keep block) (sums rows (take keep block) n)

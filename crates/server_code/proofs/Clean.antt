-- Codewords are the blocks whose syndromes are all 0.
use Rattle.server_code.proofs.Words.{◌≡◌, ◌≤◌, ◌+◌, ◌-◌, ℕ, List, length, sym, ◌∙◌, arith, length-range_with_len, Each, upto, Profile, IsCodeword, Apart-range}
use Rattle.hail_syndrome.specs.Syndromes.{syndromes_of}
use Rattle.hail_syndrome.proofs.ZeroLaw.{values_from_zero, zero_from_values}

module _ (profile : Profile) (block : List ℕ) (long : length block ≡ profile.size)
    (le : profile.keep ≤ profile.size) where
  even : length (upto profile.size) ≡ length block
  even = length-range_with_len 0 profile.size ∙ sym long

  size : profile.keep + (profile.size - profile.keep) ≡ length (upto profile.size)
  size = omega (arith, le, length-range_with_len 0 profile.size)

  -- the syndromes of a codeword are 0
  pub codeword_zero : IsCodeword profile block →
      Each (λ (s : ℕ). s ≡ 0) (syndromes_of (upto profile.size) block (profile.size - profile.keep))
  codeword_zero is = zero_from_values (upto profile.size) block even (Apart-range 0 profile.size) profile.keep
      (profile.size - profile.keep) size
      (record { polynomial = is.polynomial; degree = is.degree; values_are = is.values })

  -- and a block whose syndromes are 0 is a codeword
  pub zero_codeword : Each (λ (s : ℕ). s ≡ 0)
      (syndromes_of (upto profile.size) block (profile.size - profile.keep)) → IsCodeword profile block
  zero_codeword zero =
      let found = values_from_zero (upto profile.size) block even (Apart-range 0 profile.size) profile.keep
      (profile.size - profile.keep) size zero in
      record { polynomial = found.polynomial; degree = found.degree; values = found.values_are }

-- What the decoder concludes of the quotient.
use Rattle.std.proofs.Common.{◌≡◌, ◌≤◌, ◌<◌, ◌+◌, ◌*◌, ℕ, List, length, map, Some, sym, ◌∙◌, ap, arith}
use Rattle.algebra_laws.specs.Field.{Apart}
use Rattle.hail_field.specs.Nim.{nim}
use Rattle.hail_field.proofs.AllNumbers.{nim_laws}
use Rattle.algebra_laws.specs.Poly.{Decodes}
use Rattle.algebra_laws.proofs.Agree.{agree_same}
use Rattle.algebra_laws.proofs.Trim.{value-trim, length-trim}
use Rattle.code_defs.specs.Polynomials.{value, trim}
use Rattle.hail_poly.specs.Quotient.{IsQuotient, HasNoQuotient}
use Rattle.hail_poly.proofs.Decoding.{IsFound, decoded, none_decodes}
use Rattle.hail_poly.specs.Decoding.{matches, IsDecoded, NoneDecodes}

module _ (points values : List ℕ) (even : length points ≡ length values) (apart : Apart points)
    (below keep fix : ℕ) (r f : List ℕ)
    (row : IsFound points values even apart below r f) (wide : length points + keep ≤ 2 * below)
    (narrow : below + fix ≤ length points) (some : 0 < keep) where
  -- without a quotient
  pub no_quotient : HasNoQuotient r f → NoneDecodes points values keep fix
  no_quotient h = record {
    none = λ p. none_decodes points values even apart below keep fix r f row wide narrow some p h;
  }

  module _ (q : List ℕ) (quotient : IsQuotient r f q) where
    -- what decodes the values is the quotient
    is_quotient : (p : List ℕ) → Decodes nim points values keep fix p → q ≡ trim p
    is_quotient p is = decoded points values even apart below keep fix r f row wide narrow some p q is
        quotient

    -- a quotient of too many coefficients
    pub too_long : keep < length q → NoneDecodes points values keep fix
    too_long h = record {
      none = λ p is. omega (arith, is.short, ap length (is_quotient p is), length-trim nim nim_laws p);
    }

    -- a quotient that agrees too seldom
    pub too_few : matches q points values + fix < length points → NoneDecodes points values keep fix
    too_few h = record {
      none = λ p is. omega (
        arith,
        is.near,
        agree_same nim p q points (map Some values)
            (λ x. sym (value-trim nim nim_laws p x) ∙ ap (λ u. value u x) (sym (is_quotient p is))),
      );
    }

    -- a quotient of few coefficients that agrees often enough
    pub enough : length q ≤ keep → length points ≤ matches q points values + fix →
        IsDecoded points values keep fix q
    enough h k = record { decodes = record { short = h; near = k }; only = is_quotient }

use Rattle.code_points.proofs.Words.{◌≡◌, ℕ, sym, subst, map, List, arith, fill_by_all, upto, IsGeneratorRow, coefficient, parity_row, plain_profile}
use Rattle.code_defs.proofs.Lagrange.{gap_not_zero}
use Rattle.code_points.proofs.Coefficients.{parity-lt}
use Rattle.code_points.proofs.generator.parity_row.Goals as goal

pub byte_inverse-requires : goal.byte_inverse-requires
byte_inverse-requires c =
    let differ : c.args.place ≡ c.loop-k.k → ⊥ = λ e. omega (arith, e) in
    λ e. gap_not_zero c.args.place c.loop-k.k differ (cc (e))

pub returns : goal.returns
returns c =
    let p = c.args.profile in
    let filled : c.loop-k.out ≡ map (coefficient p.keep c.args.place) (upto p.keep) =
    fill_by_all (coefficient p.keep c.args.place) c.loop-k.out p.keep 0 (omega arith)
    (λ k h. c.loop-k.invariant k (omega arith)) in
    record {
      row = subst (λ (row : List ℕ). IsGeneratorRow (plain_profile p) c.args.place row) (sym filled)
          (parity_row (plain_profile p) c.args.place c.requires.behind c.requires.place);
      bytes = λ k h. parity-lt p.number p.size p.keep c.args.place c.loop-k.out k p.size_is p.keep_is
          c.requires.place filled (omega arith);
    }

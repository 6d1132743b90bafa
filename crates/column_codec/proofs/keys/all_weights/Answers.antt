use Rattle.column_codec.proofs.Words.{◌∙◌, ap, sym, arith, subst, get_or, length-set, get_or_default, AreWeights}
use Rattle.std.proofs.Common.{◌≤◌, ℕ, [], List}
use Rattle.column_codec.proofs.Places.{held_more}
use Rattle.column_codec.proofs.keys.all_weights.Goals as goal

pub weights-requires-clause-outside : goal.weights-requires-clause-outside
weights-requires-clause-outside c = λ p less e. c.requires c.loop-j.j p (omega arith) (omega arith) less
    (ap (λ (k : ℕ). get_or c.args.points.now k 0) (sym c.from.ensures)
    ∙ get_or_default c.args.points.now c.from.result 0 c.index-points-from.result
    (omega (arith, c.args.shape.fits.1)) ∙ e)

pub loop-j-preserved : goal.loop-j-preserved
loop-j-preserved c =
    let l = c.args.shape.l in
    let points = c.args.points.now in
    record {
      has = λ j above below. held_more (λ (k : ℕ) (ws : List ℕ). l ≤ k → AreWeights l (get_or points k 0) ws)
          c.loop-j.all c.loop-j.j c.from-in-loop-j.result c.weights.result []
          (λ k less least. c.loop-j.invariant.has k least less) c.from-in-loop-j.ensures
          (omega (arith, c.loop-j.invariant.many, c.args.shape.fits.1)) (λ least. subst
          (λ (x : ℕ). AreWeights l x c.weights.result) (get_or_default points c.from.result
          c.index-points-from.result 0 (omega (arith, c.args.shape.fits.1)) ∙
          ap (λ (k : ℕ). get_or points k 0) c.from.ensures) c.weights.ensures) j below above;
      many = length-set c.loop-j.all _ _ ∙ c.loop-j.invariant.many;
    }

use Rattle.hail_syndrome.proofs.Words.{◌≡◌, ◌≢◌, take, arith, ◌∙◌, sym, refl, get_or_read, nim, sound_points, sound_values}
use Rattle.code_defs.specs.Polynomials.{value}
use Rattle.hail_syndrome.proofs.GatherSteps.{point_kept, value_kept, point_passed, value_passed, points_end, values_end}
use Rattle.hail_syndrome.proofs.gather.gather.Goals as goal
use Rattle.hail_syndrome.proofs.gather.gather.Goals.{then-not-is_zero, else-not-is_zero}

pub loop-k-preserved : goal.loop-k-preserved
loop-k-preserved c =
    let f = c.args.work.now.factor in
    let i = c.loop-k.invariant in
    let read = get_or_read c.args.points.now c.loop-k.k c.index-points-k.result
    (omega arith) c.index-points-k.is 0 in
    elim c.if-not-is_zero.branch [
      | then-not-is_zero w ↦
          let some : value f c.index-points-k.result ≢ 0 =
          λ e. (let t = w.if-not-is_zero.ensures.1 (c.factor_at.ensures ∙ e) in cc) in
          rw (w.sound-is, w.seen-is, w.count-is) (record {
            bound = omega (arith, i.bound);
            points_are = point_kept f c.args.points.now c.loop-k.sound
                (sound_points nim f c.args.points.now) c.loop-k.k c.loop-k.count c.index-points-k.result
                (omega arith) (omega (arith, i.bound)) read some i.points_are;
            values_are = value_kept f c.args.points.now c.args.values.now c.loop-k.seen
                (sound_values nim f c.args.points.now c.args.values.now) c.loop-k.k c.loop-k.count
                c.index-points-k.result w.index-values-k.result (omega arith) c.requires.even
                (omega (arith, i.bound)) read (get_or_read c.args.values.now c.loop-k.k
                w.index-values-k.result (omega arith) w.index-values-k.is 0) some i.values_are;
          })
      | else-not-is_zero w ↦
          let none : value f c.index-points-k.result ≡ 0 = sym c.factor_at.ensures
          ∙ w.if-not-is_zero.ensures.0 refl in
          rw (w.sound-is, w.seen-is, w.count-is) (record {
            bound = omega (arith, i.bound);
            points_are = point_passed f c.args.points.now (take c.loop-k.count c.loop-k.sound)
                (sound_points nim f c.args.points.now) c.loop-k.k c.index-points-k.result
                (omega arith) read none i.points_are;
            values_are = value_passed f c.args.points.now c.args.values.now
                (take c.loop-k.count c.loop-k.seen) (sound_values nim f c.args.points.now c.args.values.now)
                c.loop-k.k c.index-points-k.result (omega arith) c.requires.even read none i.values_are;
          })
    ]

pub returns-clause-points : goal.returns-clause-points
returns-clause-points c = points_end c.args.work.now.factor c.args.points.now
    (take c.loop-k.count c.loop-k.sound) (sound_points nim c.args.work.now.factor c.args.points.now)
    c.loop-k.k (omega arith) c.loop-k.invariant.points_are

pub returns-clause-values : goal.returns-clause-values
returns-clause-values c =
    values_end c.args.work.now.factor c.args.points.now c.args.values.now (take c.loop-k.count c.loop-k.seen)
    (sound_values nim c.args.work.now.factor c.args.points.now c.args.values.now) c.loop-k.k (omega arith)
    c.loop-k.invariant.values_are

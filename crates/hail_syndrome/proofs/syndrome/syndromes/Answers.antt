use Rattle.hail_syndrome.proofs.Words.{◌≡◌, ◌-◌, ℕ, arith, length, get_or, drop, map, ap, sym, ◌∙◌, get_or-replicate, get_or_read, dot, nim_mul, nim_pow, multiplier}
use Rattle.hail_syndrome.proofs.SyndromeSteps.{sum_past, sum_more, syndromes_by_all, zero_law}
use Rattle.hail_syndrome.proofs.syndrome.syndromes.Goals as goal

pub loop-place-init : goal.loop-place-init
loop-place-init c = λ k h. ap (λ o. get_or o k 0) (c.fill.ensures.after (λ y e. e))
    ∙ get_or-replicate (length c.args.out.now) k 0 0 (omega (arith, c.fill.ensures.len)) ∙
    sym (sum_past (λ x. nim_mul (multiplier x c.args.points.now) (nim_pow x k)) c.args.points.now
    c.args.values.now (length c.args.points.now) (omega arith))

pub loop-place-preserved : goal.loop-place-preserved
loop-place-preserved c = λ k h.
    let place : ℕ = c.loop-place.place - 1 in
    sum_more (λ x. multiplier x c.args.points.now) c.args.points.now c.args.values.now place
    c.loop-place.place k c.index-points-place.result c.index-values-place.result
    c.multiplier_at.result c.mul-c.result (get_or c.loop-place.out k 0) (get_or c.add_powers.new.out k 0)
    (omega arith) (omega (arith, c.requires.even)) (omega arith)
    (get_or_read c.args.points.now place c.index-points-place.result (omega arith) c.index-points-place.is 0)
    (get_or_read c.args.values.now place c.index-values-place.result
    (omega (arith, c.requires.even)) c.index-values-place.is 0)
    c.multiplier_at.ensures c.mul-c.ensures (c.loop-place.invariant k (omega arith))
    (c.add_powers.ensures k (omega arith))

pub returns-clause-are : goal.returns-clause-are
returns-clause-are c =
    let none : c.loop-place.place ≡ 0 = omega arith in
    syndromes_by_all c.args.points.now c.args.values.now c.loop-place.out (length c.args.out.now)
    (omega arith)
    (λ k h. c.loop-place.invariant k (omega arith) ∙
    ap (λ n. dot (map (λ x. nim_mul (multiplier x c.args.points.now) (nim_pow x k))
    (drop n c.args.points.now)) (drop n c.args.values.now)) none)

pub returns-clause-zero : goal.returns-clause-zero
returns-clause-zero c = zero_law c.args.points.now c.args.values.now c.loop-place.out c.args.keep
    (length c.args.out.now) c.requires.apart c.requires.even c.requires.room (returns-clause-are c)

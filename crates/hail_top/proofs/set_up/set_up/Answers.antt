use Rattle.std.proofs.Common.{◌≡◌, [], refl, ap, arith}
use Rattle.record_defs.specs.Records.{Setup}
use Rattle.hail_top.specs.InitRuns as runs
use Rattle.hail_top.proofs.SetUpReads.{too_few-told}
use Rattle.hail_top.proofs.set_up.set_up.Goals as goal

pub returns-then-handed-from-clause-answers : goal.returns-then-handed-from-clause-answers
returns-then-handed-from-clause-answers g c providers handed =
    let same : c.in-Some.setup.n ≡ c.args.numbers.now.n =
    ap (λ (s : Setup). s.n) (c.in-Some.ensures.value []) in
    too_few-told _ _ _ _ c.in-Some.ensures.found
    (omega (arith, same, handed, c.if-handed-from.true, c.from.ensures)) c.of-then-handed-from.ensures
    (refl, refl) refl refl refl

pub returns-clause-answers : goal.returns-clause-answers
returns-clause-answers g c providers handed =
    let same : c.in-Some.setup.n ≡ c.args.numbers.now.n =
    ap (λ (s : Setup). s.n) (c.in-Some.ensures.value []) in
    c.set_up_read.ensures.answers _ providers (record {
      fits = c.in-Some.ensures.found;
      enough = omega (arith, same, handed, c.if-handed-from.false, c.from.ensures);
      same = c.in-Some.ensures.value;
    })

pub returns-clause-goes_on : goal.returns-clause-goes_on
returns-clause-goes_on g c providers handed =
    let same : c.in-Some.setup.n ≡ c.args.numbers.now.n =
    ap (λ (s : Setup). s.n) (c.in-Some.ensures.value []) in
    c.set_up_read.ensures.goes_on _ providers (record {
      fits = c.in-Some.ensures.found;
      enough = omega (arith, same, handed, c.if-handed-from.false, c.from.ensures);
      same = c.in-Some.ensures.value;
    })

pub returns-then-handed-from-clause-goes_on : goal.returns-then-handed-from-clause-goes_on
returns-then-handed-from-clause-goes_on g c providers handed = runs.untouched refl refl refl

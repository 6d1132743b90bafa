use Rattle.std.proofs.Common.{length, refl}
use Rattle.hail_top.specs.InitRuns as runs
use Rattle.hail_top.proofs.InitRuns.{keyed-on}
use Rattle.hail_top.proofs.SetUpReads.{keyed-told, bad_key-told}
use Rattle.hail_top.proofs.set_up.set_up_with.Goals as goal

pub returns-in-Some-clause-answers : goal.returns-in-Some-clause-answers
returns-in-Some-clause-answers g c numbers providers left left' count count' for reads =
    keyed-told c.args.setup.now numbers _ _ _ _ _ for reads c.in-Some.ensures
    (c.set_up_disk.ensures.answers providers left left' count count')

pub returns-in-None-clause-answers : goal.returns-in-None-clause-answers
returns-in-None-clause-answers g c numbers providers left left' count count' for reads =
    bad_key-told c.args.setup.now numbers _ _ _ _ for reads c.in-None.ensures c.of.ensures refl refl refl

pub returns-in-Some-clause-goes_on : goal.returns-in-Some-clause-goes_on
returns-in-Some-clause-goes_on g c numbers providers left left' count count' for reads =
    keyed-on c.args.setup.now numbers _ _ _ _ _ (length providers) for reads c.in-Some.ensures
    (c.set_up_disk.ensures.goes_on providers)

pub returns-in-None-clause-goes_on : goal.returns-in-None-clause-goes_on
returns-in-None-clause-goes_on g c numbers providers left left' count count' for reads =
    runs.untouched refl refl refl

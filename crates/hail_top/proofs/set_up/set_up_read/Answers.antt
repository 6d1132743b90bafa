use Rattle.hail_top.proofs.Words.{Err, List, ℕ, refl, ap, sym, subst, longest_key, ReadsUpTo, ReadFault}
use Rattle.hail_top.specs.InitRuns as runs
use Rattle.hail_top.proofs.SetUpReads.{unread-told}
use Rattle.hail_top.proofs.set_up.set_up_read.Goals as goal

pub returns-in-Ok-clause-answers : goal.returns-in-Ok-clause-answers
returns-in-Ok-clause-answers g c numbers providers for = c.set_up_with.ensures.answers numbers providers _ _ _
    _ for (subst (λ (text : List ℕ). ReadsUpTo longest_key (g.S.Source.left c.args.source.now)
    (g.S.Source.left c.read_up_to.new.source) text) (sym c.as_slice.ensures) c.in-Ok.ensures.bytes)

pub returns-in-Err-clause-answers : goal.returns-in-Err-clause-answers
returns-in-Err-clause-answers g c numbers providers for =
    unread-told c.args.setup.now numbers _ _ _ c.in-Err.fault for c.read_up_to.ensures.at_most
    c.unread.ensures (λ same. c.in-Err.ensures.cause.rose (ap (λ (f : ReadFault). Err f) same)) refl refl refl refl

pub returns-in-Ok-clause-goes_on : goal.returns-in-Ok-clause-goes_on
returns-in-Ok-clause-goes_on g c numbers providers for = c.set_up_with.ensures.goes_on numbers providers _ _ _
    _ for (subst (λ (text : List ℕ). ReadsUpTo longest_key (g.S.Source.left c.args.source.now)
    (g.S.Source.left c.read_up_to.new.source) text) (sym c.as_slice.ensures) c.in-Ok.ensures.bytes)

pub returns-in-Err-clause-goes_on : goal.returns-in-Err-clause-goes_on
returns-in-Err-clause-goes_on g c numbers providers for = runs.untouched refl refl refl

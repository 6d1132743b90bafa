use Rattle.stories.proofs.Words.{refl, inl, arith, first, stays, three-tell, robbed-untouched, repair-steady, get-steady, flagged-second, GetOf, AuditAll, RepairAll, named}
use Rattle.command_runs.proofs.Meets.{second}
use Rattle.stories.proofs.Asked.{answered}
use Rattle.stories.proofs.instances.another_goes_after_the_repair.Goals as goal

pub returns : goal.returns
returns c = let once = c.words_spell_one_command.ensures in let e = c.commands_end.ensures in record {
  audit = answered once AuditAll e.audit tt assumption;
  repair = answered once RepairAll e.repair tt assumption;
  get = answered once (GetOf named) e.get tt assumption;
  between = (
    stays refl refl,
    stays refl refl,
    stays refl refl,
    robbed-untouched,
    (λ j l s. refl),
    repair-steady second,
  );
  told = record { written = inl (refl, refl); place = refl };
  flagged = λ j l f. three-tell j l;
  later = ((λ j s. flagged-second j), (λ j l s. refl), get-steady first, omega arith);
}

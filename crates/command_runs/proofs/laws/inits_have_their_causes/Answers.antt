use Rattle.std.proofs.Common.{[], refl}
use Rattle.command_runs.proofs.laws.inits_have_their_causes.Goals as goal

pub returns : goal.returns
returns c = let e = c.inits_are_refused.ensures in let exact = c.init_refusals_are_exact.ensures in record {
  bad_setup = exact.bad_setup_only _ _ _ _ e.bad_setup refl;
  bad_key = λ key form. exact.bad_key_only _ [] key _ _ _ e.bad_key refl refl form;
  bad_journal = exact.bad_journal_only _ _ _ _ _ e.bad_journal refl refl;
}

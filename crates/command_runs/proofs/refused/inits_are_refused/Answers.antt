use Rattle.command_runs.proofs.Words.{[], refl, inl, arith, four, AnswersInit, InitsDisk, key_text, byte_records, quiet}
use Rattle.command_runs.specs.Words.{A}
use Rattle.command_laws.proofs.InitSample.{key-form, reads-key}
use Rattle.command_runs.proofs.Refusals.{long, no_magic, long_journal, no_key}
use Rattle.command_runs.proofs.Stores.{stored-sure}
use Rattle.command_runs.proofs.refused.inits_are_refused.Goals as goal

pub returns : goal.returns
returns c = record {
  bad_setup = AnswersInit.bad_setup refl (refl, refl) (quiet refl refl refl (λ e. refl));
  too_few = AnswersInit.too_few_providers refl (omega arith) (refl, refl) (quiet refl refl refl (λ e. refl));
  source_fault = AnswersInit.source_fault refl (omega arith) (λ low. omega arith)
      (record { bytes = []; front = refl; few = omega arith }) (quiet refl refl refl (λ e. refl));
  bad_key = AnswersInit.bad_key [] refl (omega arith)
      (record { are_bytes = refl; front = refl; few = omega arith; end = λ l. refl }) no_key
      (quiet refl refl refl (λ e. refl));
  already = AnswersInit.keyed key_text four.master refl (omega arith) reads-key key-form
      (InitsDisk.already (long_journal, (byte_records, (A, stored-sure.known.opened.read.reads_are.1), tt))
      (quiet refl refl refl (λ e. refl)));
  bad_journal = AnswersInit.keyed key_text four.master refl (omega arith) reads-key key-form
      (InitsDisk.bad_journal 0 (long, inl (inl (no_magic, refl))) (quiet refl refl refl (λ e. refl)));
}

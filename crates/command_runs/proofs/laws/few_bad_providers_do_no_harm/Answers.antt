use Rattle.command_runs.proofs.Words.{refl, inl, false, arith, byte, named, byte_records, due, repaired, two_damaged, scrubbed}
use Rattle.command_laws.proofs.FilesStay.{bad-few}
use Rattle.command_runs.proofs.Meets.{calm, due-file, get-steady, never, repair-steady, right, right-file, second, two-file, due-sure, mended-sure, two_damaged-sure, four}
use Rattle.command_runs.proofs.laws.few_bad_providers_do_no_harm.Goals as goal

pub returns : goal.returns
returns c = let e = c.commands_end.ensures in let sweeps = c.scrubs_sweep.ensures.right named byte in let few
    = bad-few named byte byte_records second two_damaged scrubbed two-file (four _ calm calm calm calm) in
    record {
      rewritten = c.repairs_write_anew.ensures.right named byte _ _ _ 2 due repaired _ e.repair due-sure.known
          (inl refl) refl refl refl (bad-few named byte _ second due repaired due-file (repair-steady second))
          (omega arith) refl;
      altered = sweeps _ _ 0 two_damaged scrubbed _ e.scrub two_damaged-sure.known (inl refl) refl refl few
          (omega arith);
      scrubbed = sweeps _ _ 2 two_damaged scrubbed _ e.scrub two_damaged-sure.known (inl refl) refl refl few
          (omega arith);
      complete = c.gets_tell_what_stands.ensures.complete named byte _ (λ j. false) _ _ _ e.get
          mended-sure.known (right-file refl (four _ (right 0) (right 1) (right 2) (right 3)))
          (get-steady (λ j. false)) (omega arith) never never;
    }

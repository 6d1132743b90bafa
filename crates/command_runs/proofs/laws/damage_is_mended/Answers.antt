use Rattle.command_runs.proofs.Words.{None, refl, inl, arith, not, is_flagged, counts, byte, named}
use Rattle.command_runs.proofs.Meets.{stays, calm, clash, first, second, due-file, robbed-untouched, repair-steady, get-steady, flagged-second, spared, two-file, later-steady, swept-steady, swept-untouched, never, yes, put-old, stored-sure, due-sure, two_damaged-sure, four}
use Rattle.command_runs.proofs.laws.damage_is_mended.Goals as goal

pub returns : goal.returns
returns c = let e = c.commands_end.ensures in let got = c.put_files_are_got.ensures in record {
  repaired = got.repaired named byte _ second first (record { number = 1; counts = counts }) _ _ _ _ _ _
      e.repair e.get (stays refl refl) due-sure.known refl due-file (inl refl) (repair-steady second)
      (omega arith) (four _ yes yes yes yes) (λ j f. flagged-second j) (λ j l s. refl) (get-steady first)
      (omega arith) never never;
  mended = (let law = got.mended named byte None _ second _ _ _ _ _ _ _ _ _ _ _ _ e.put e.audit e.repair
      e.get (stays refl refl) (stays refl refl) (stays refl refl) put-old.known refl (inl refl) (inl refl)
      (inl refl) (four _ yes yes yes yes) robbed-untouched (λ j l s. refl) (repair-steady second)
      (omega arith) in law.3 (four _ yes yes yes yes) second
      (λ j s. spared (second j) (not (is_flagged 0 law.1 j)) s) (λ j l s. refl) (get-steady second)
      (omega arith) never never);
  scrubbed = got.scrubbed named byte _ second first _ _ _ _ _ _ e.scrub e.later_get (stays refl refl)
      two_damaged-sure.known two-file (inl refl) (four _ calm calm calm calm) (omega arith)
      (four _ yes yes yes yes) (four _ clash (λ s. refl) (λ s. refl) (λ s. refl)) later-steady (omega arith)
      never never;
  swept = got.swept named byte None _ second first _ _ _ _ _ _ _ _ _ e.put e.swept e.later_get
      (stays refl refl) (stays refl refl) put-old.known refl (inl refl) (inl refl) (four _ yes yes yes yes)
      robbed-untouched swept-steady (omega arith) (four _ yes yes yes yes) swept-untouched later-steady
      (omega arith) never never;
  dropped = got.dropped named _ _ _ _ _ _ _ e.drop c.commands_end_early.ensures.gone (stays refl refl)
      stored-sure.known (inl refl) never;
}

use Rattle.command_runs.proofs.Words.{[], None, refl, inl, inr, false, arith, counts, byte, PutJob, AuditJob, audit_records, PutUnder, AuditAll, put_records, other_name, named, byte_records, both_records, byte_audited_records, byte_audited}
use Rattle.command_runs.proofs.Meets.{grown, stays, calm, second, due-file, damaged-file, repair-steady, right-file, other-name, two-file, whole, yes, put-old, damaged-sure, due-sure, to_put_other-sure, two_damaged-sure, audited-fit, four, sure}
use Rattle.command_runs.proofs.laws.files_stay_right.Goals as goal

pub returns : goal.returns
returns c = let e = c.commands_end.ensures in let stay = c.files_stay.ensures in record {
  put = stay.put named byte None _ (λ j. false) _ _ _ e.put (inl refl) put-old.known refl
      (four _ yes yes yes yes);
  audit = stay.reads AuditAll named byte byte_records byte_audited_records second _ _ _ e.audit refl
      damaged-file (inr (inl (grown AuditJob (audit_records byte_records 0 counts) 2 refl (0, counts, refl)
      (λ l. tt) refl)));
  other = stay.others (PutUnder other_name) named byte byte_records both_records (λ j. false) _ _ _
      e.other_put other-name to_put_other-sure.known (right-file refl whole)
      (inr (inl (grown (PutJob other_name byte) (put_records byte_records other_name 1 None) 2
      (byte, [], record { are_bytes = refl; front = refl }, omega arith, refl) refl
      (λ l. (record { are_bytes = refl; front = refl }, refl)) refl)));
  repair = stay.repair named byte _ (record { number = 1; counts = counts }) second _ _ _ e.repair (inl refl)
      due-sure.known refl due-file (repair-steady second) (omega arith) (four _ yes yes yes yes);
  scrub = stay.scrub named byte _ second (λ j. false) _ _ _ e.scrub (inl refl) two_damaged-sure.known two-file
      (four _ calm calm calm calm) (omega arith) (four _ yes yes yes yes);
  failed_scrub = stay.scrub_harms_none named byte _ second _ _ _ e.failed_scrub two_damaged-sure.known
      two-file (four _ calm calm calm calm) (omega arith);
  heard = c.audits_in_effect_count_what_they_heard.ensures byte_records 0 counts _ _ byte_audited _ e.audit
      damaged-sure (stays refl refl)
      (sure byte_audited byte_audited_records audited-fit refl (omega arith)).known;
}

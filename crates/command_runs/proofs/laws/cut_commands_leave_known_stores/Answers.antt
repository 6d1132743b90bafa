use Rattle.command_runs.proofs.Words.{None, refl, inr, false, arith, counts, byte, PutUnder, DropOf, UpgradeJournal, named, byte_records, byte_audited_records, byte_repaired_records, put_gone, put_cut, drop_cut, audit_cut, repair_cut, upgrade_cut}
use Rattle.command_runs.proofs.Meets.{stays, calm, second, due-file, yes, put-old, stored-sure, damaged-sure, due-sure, two_damaged-sure, audited-fit, byte-fit, repaired-fit, four, sure}
use Rattle.command_runs.proofs.Puts.{stopped-closed, stopped-open}
use Rattle.command_runs.proofs.laws.cut_commands_leave_known_stores.Goals as goal

pub returns : goal.returns
returns c = let e = c.commands_end.ensures in let always = c.stores_stay_known.ensures.always in record {
  gone = always (PutUnder named) _ _ _ put_gone _ e.torn_put refl put-old
      (record { disk = inr stopped-closed; handed = refl });
  come = always (PutUnder named) _ _ _ put_cut _ e.torn_put refl put-old
      (record { disk = inr stopped-open; handed = refl });
  dropped = always (DropOf named) _ _ _ drop_cut _ e.cut_drop refl stored-sure (stays refl refl);
  upgraded = always UpgradeJournal _ _ _ upgrade_cut _ e.cut_upgrade refl stored-sure (stays refl refl);
  put = c.files_stay.ensures.put_in_effect named byte None _ (λ j. false) _ _ put_cut _ e.torn_put put-old
      refl (record { disk = inr stopped-open; handed = refl })
      (sure put_cut byte_records byte-fit refl (omega arith)).known (four _ yes yes yes yes);
  repair = c.files_stay.ensures.repair_in_effect named byte _ (record { number = 1; counts = counts }) second
      _ _ repair_cut _ e.cut_repair due-sure refl (stays refl refl)
      (sure repair_cut byte_repaired_records repaired-fit refl (omega arith)).known due-file
      (four _ calm calm calm calm) (omega arith) (four _ yes yes yes yes);
  audit = c.audits_in_effect_count_what_they_heard.ensures byte_records 0 counts _ _ audit_cut _ e.cut_audit
      damaged-sure (stays refl refl)
      (sure audit_cut byte_audited_records audited-fit refl (omega arith)).known;
  images = c.images_stand.ensures.store (PutUnder named) _ _ _ e.torn_put refl;
  failed = c.done_commands_leave_known_stores.ensures.failed_put named None _ _ _ _ e.failed_put refl
      put-old.known;
  scrub = c.done_commands_leave_known_stores.ensures.scrub _ _ _ _ e.failed_scrub (inr (inr refl))
      two_damaged-sure.known;
}

use Rattle.command_runs.proofs.Words.{[], ◌∷◌, Some, refl, inl, inr, false, arith, Version, PutJob, UpgradeJob, PutAt, UpgradeJournal, put_records, byte, other_name, named, byte_records, byte_upgraded_records, byte_own_records}
use Rattle.command_runs.specs.Words.{A}
use Rattle.command_runs.proofs.Meets.{grown, other-name, never, right-file, whole, yes, stored-sure, to_put_own-sure, four}
use Rattle.command_runs.proofs.laws.upgrades_bring_profiles.Goals as goal

pub returns : goal.returns
returns c = let e = c.commands_end.ensures in record {
  begins = c.upgrades_end_well.ensures.begins A byte_records refl (omega arith);
  upgraded = c.upgrades_end_well.ensures.ends_well _ _ _ _ e.upgrade stored-sure.known refl never never;
  in_order = c.upgrades_end_well.ensures.ends _ _ _ e.upgrade never never;
  known = c.done_commands_leave_known_stores.ensures.upgrade _ _ _ _ e.upgrade (inl refl) stored-sure.known;
  kept = c.files_stay.ensures.reads UpgradeJournal named byte byte_records byte_upgraded_records (λ j. false)
      _ _ _ e.upgrade refl (right-file refl whole)
      (inr (inl (grown UpgradeJob (Version ∷ []) 1 refl refl (λ l. tt) refl)));
  own_begins = c.own_profiles_are_taken.ensures other_name byte 1 A byte_upgraded_records refl (omega arith)
      refl (omega arith) refl (omega arith) (omega arith);
  own_put = c.puts_store_the_source.ensures.ends_well other_name byte (Some 1) _ _ _ _ e.own_put
      to_put_own-sure.known refl refl never (four _ never never never never) never never;
  own_known = c.done_commands_leave_known_stores.ensures.put other_name byte (Some 1) _ _ _ _ e.own_put
      (inl refl) to_put_own-sure.known refl;
  first = c.files_stay.ensures.others (PutAt other_name 1) named byte byte_upgraded_records byte_own_records
      (λ j. false) _ _ _ e.own_put other-name to_put_own-sure.known (right-file refl whole)
      (inr (inl (grown (PutJob other_name byte) (put_records byte_upgraded_records other_name 1 (Some 1)) 2
      (byte, [], record { are_bytes = refl; front = refl }, omega arith, refl) refl
      (λ l. (record { are_bytes = refl; front = refl }, refl)) refl)));
  second = c.files_stay.ensures.put other_name byte (Some 1) _ (λ j. false) _ _ _ e.own_put (inl refl)
      to_put_own-sure.known refl (four _ yes yes yes yes);
}

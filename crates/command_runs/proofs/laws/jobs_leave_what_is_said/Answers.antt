use Rattle.std.proofs.Common.{refl, inl}
use Rattle.command_runs.proofs.laws.jobs_leave_what_is_said.Goals as goal

pub returns : goal.returns
returns c = let e = c.commands_end.ensures in record {
  put = c.puts_store_the_source.ensures.done _ _ _ _ _ e.put (inl refl);
  drop = c.drops_take_the_file_away.ensures.done _ _ _ _ e.drop (inl refl);
  audit = c.audits_count_what_they_hear.ensures.done _ _ _ e.audit (inl refl);
  repair = c.repairs_write_anew.ensures.done _ _ _ e.repair (inl refl);
  failed_put = c.failed_stores_leave.ensures.put _ _ _ _ _ e.failed_put refl;
  failed_repair = c.failed_stores_leave.ensures.repair _ _ _ e.failed_repair refl;
  lost_file = c.lost_rows_are_told.ensures.get _ _ _ _ e.lost_get refl;
  lost_repair = c.lost_rows_are_told.ensures.repair _ _ _ e.lost_repair refl;
  upgrade = c.upgrades_end_well.ensures.done _ _ _ e.upgrade (inl refl);
  own_put = c.puts_store_the_source.ensures.done _ _ _ _ _ e.own_put (inl refl);
  scrub = c.scrubs_sweep.ensures.done _ _ _ e.scrub (inl refl);
  failed_scrub = c.failed_stores_leave.ensures.scrub _ _ _ e.failed_scrub refl;
  lost_scrub = c.lost_rows_are_told.ensures.scrub _ _ _ e.lost_scrub refl;
}

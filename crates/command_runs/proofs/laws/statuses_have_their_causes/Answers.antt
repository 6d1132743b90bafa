use Rattle.command_runs.proofs.Words.{None, Some, refl, arith, AuditJob, RepairJob, UpgradeJob, PutUnder, ListAll, named}
use Rattle.machine_defs.specs.Refusals as refusal
use Rattle.command_runs.proofs.Meets.{never, put-old, stored-sure, due-sure, upgraded_kept-sure, always}
use Rattle.command_runs.proofs.laws.statuses_have_their_causes.Goals as goal

pub returns : goal.returns
returns c = let e = c.commands_end.ensures in let early = c.commands_end_early.ensures in
    let faults = c.faults_have_causes.ensures.store in let exact = c.refusals_are_exact.ensures in record {
      disk = faults ListAll _ _ _ early.disk_fault refl;
      provider = faults (PutUnder named) _ _ _ e.failed_put refl;
      source = faults (PutUnder named) _ _ _ early.source_fault refl;
      sink = faults ListAll _ _ _ early.sink_fault refl;
      bad_journal = c.unopened_stores_are_told.ensures.bad_journal_only ListAll _ _ _ _ early.bad_journal refl
          refl refl;
      repair_due = exact.known_only AuditJob _ _ _ _ refusal.RepairDue early.repair_due.0 due-sure.known
          (λ e. omega (arith, e)) refl;
      nothing_due = exact.known_only RepairJob _ _ _ _ refusal.NothingDue early.nothing_due.0
          stored-sure.known (λ e. omega (arith, e)) refl;
      bad_profile = exact.put_only named (Some 5) _ _ _ _ refusal.BadProfile early.bad_profile put-old.known
          (λ e. omega (arith, e)) (λ e. omega (arith, e)) refl;
      old_version = exact.put_only named (Some 1) _ _ _ _ refusal.OldVersion early.old_version put-old.known
          (λ e. omega (arith, e)) (λ e. omega (arith, e)) refl;
      new_version = exact.known_only UpgradeJob _ _ _ _ refusal.NewVersion early.new_version.0
          upgraded_kept-sure.known (λ e. omega (arith, e)) refl;
      row = c.rows_have_causes.ensures.lost_only 4 1 1 _ _ _ _ early.lost_row refl;
      hidden_get = c.gets_give_the_file.ensures.ends _ _ _ _ early.hidden_get never never;
      hidden_put = c.puts_store_the_source.ensures.ends named None _ _ _ e.hidden_put never
          (always _ never never never never (λ j. never)) never never;
      hidden_lost = c.gets_give_the_file.ensures.ends _ _ _ _ e.hidden_get never never;
      hidden_repair = c.repairs_write_anew.ensures.ends _ _ _ early.hidden_repair never
          (always _ never never never never (λ j. never)) never;
      hidden_list = c.lists_give_the_files.ensures.ends _ _ _ early.hidden_list never;
      lost_scrub = c.scrubs_sweep.ensures.ends _ _ _ e.lost_scrub
          (always _ never never never never (λ j. never)) never;
    }

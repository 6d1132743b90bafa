use Rattle.command_runs.proofs.Words.{[], ◌∷◌, Some, refl, ap, inl, arith, example-shape, same-disk, quiet, refused, values_line, Unstarted, AnswersPut, AnswersList, four_records, byte_records, byte_audited_records, byte_upgraded_records, dropped_records, seen_after_drop}
use Rattle.machine_defs.specs.Refusals as refusal
use Rattle.command_runs.specs.Words.{A}
use Rattle.command_runs.proofs.Refusals.{put-refused, sink-fault, long, no_magic, none_accepted, sevens, only-sevens, touches, unlisted}
use Rattle.command_runs.proofs.Stores.{put-old, stored-sure, due-sure, upgraded_kept-sure, byte-fit, dropped-fit, hidden, sure}
use Rattle.command_runs.proofs.refused.commands_end_early.Goals as goal

pub returns : goal.returns
returns c = record {
  disk_fault = unlisted (Unstarted.disk_fault (λ low. omega arith) (quiet refl refl refl (λ e. omega (arith, e)))) (refl, refl);
  sink_fault = sink-fault;
  source_fault = AnswersPut.source_fault four_records put-old.known.opened refl (λ low. omega arith)
      (same-disk four_records) (record { bytes = []; read = record { are_bytes = refl; front = refl }; short = omega arith; limit = omega arith })
      (quiet refl refl refl (λ e. refl));
  no_memory = unlisted (Unstarted.no_memory (quiet refl refl refl (λ e. refl))) (refl, refl);
  bad_journal = unlisted (Unstarted.bad_journal 0 (long, inl (no_magic, refl)) (quiet refl refl refl (λ e. refl)))
      (refl, refl);
  too_few = unlisted (Unstarted.too_few_providers A byte_records stored-sure.known.opened.read (omega arith)
      (same-disk byte_records) (quiet refl refl refl (λ e. refl))) (refl, refl);
  repair_due = refused refusal.RepairDue due-sure.known.opened refl (same-disk byte_audited_records);
  nothing_due = refused refusal.NothingDue stored-sure.known.opened refl (same-disk byte_records);
  bad_name = put-refused _ _ refusal.BadName refl (omega arith) refl;
  bad_profile = AnswersPut.bad_profile four_records put-old.known.opened refl (same-disk four_records)
      (refl, refl) (quiet refl refl refl (λ e. refl));
  old_version = put-refused _ _ refusal.OldVersion refl (omega arith) refl;
  new_version = refused refusal.NewVersion upgraded_kept-sure.known.opened refl
      (same-disk byte_upgraded_records);
  gone = refused refusal.NoSuchName
      (sure seen_after_drop dropped_records dropped-fit refl (omega arith)).known.opened refl
      (same-disk dropped_records);
  done_row = (
    record {
      no_shape = λ no. absurd (no example-shape);
      lost = λ shape none. absurd (none (7 ∷ []) sevens);
      held = λ shape p a. inl (refl, ap (λ values. Some (values_line values)) (only-sevens p a));
    },
    touches,
  );
  lost_row = (
    record {
      no_shape = λ no. absurd (no example-shape);
      lost = λ shape none. inl (refl, refl);
      held = λ shape p accepted. absurd (none_accepted p accepted);
    },
    touches,
  );
  hidden_list = (
    AnswersList.listed byte_records (hidden byte-fit (omega arith))
        (record { written = inl (refl, refl); place = refl; heard = refl; disk = refl; providers = refl }),
    (refl, refl),
  );
  hidden_repair = refused refusal.NothingDue (hidden byte-fit (omega arith)) refl refl;
  hidden_get = refused refusal.NoSuchName (hidden byte-fit (omega arith)) refl refl;
}

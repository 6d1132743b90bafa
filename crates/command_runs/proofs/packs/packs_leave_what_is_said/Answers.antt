use Rattle.command_runs.proofs.Words.{refl, inl, inr, arith, byte_upgraded_records, packed_records}
use Rattle.record_defs.specs.Areas.{A}
use Rattle.machine_defs.specs.Refusals as refusal
use Rattle.command_runs.proofs.Meets.{upgraded-file, never, stored-sure, upgraded_kept-sure}
use Rattle.command_runs.proofs.packs.packs_leave_what_is_said.Goals as goal

pub returns : goal.returns
returns c = let e = c.packs_end.ensures in record {
  begins = c.packs_end_well.ensures.begins A byte_upgraded_records refl refl;
  packed = λ filling fills. c.packs_end_well.ensures.done _ _ _ (e.pack filling fills) (inl refl);
  told = λ filling fills. c.packs_end_well.ensures.ends_well _ _ _ _ (e.pack filling fills)
      upgraded_kept-sure.known refl never never;
  in_order = λ filling fills. c.packs_end_well.ensures.ends _ _ _ (e.pack filling fills) never never;
  old_version = c.refusals_are_exact.ensures.pack_only _ _ _ _ refusal.OldVersion e.old_version
      stored-sure.known (λ same. omega (arith, same)) refl;
  refused = c.refusals_are_exact.ensures.pack_always _ _ _ _ refusal.OldVersion e.old_version
      stored-sure.known never refl;
  held = λ filling fills. c.reads_leave_what_is_held.ensures.pack _ _ _ (e.pack filling fills);
  fetches = λ filling fills. c.others_fetch_nothing.ensures.pack _ _ _ (e.pack filling fills);
  images = λ filling fills. c.images_stand.ensures.store _ _ _ _ (e.pack filling fills) refl;
  known = λ filling fills. c.done_commands_leave_known_stores.ensures.pack _ _ _ _ (e.pack filling fills)
      (inl refl) upgraded_kept-sure.known;
  next = λ filling fills. c.stores_stay_known.ensures.always _ _ _ _ _ _ (e.pack filling fills) refl
      upgraded_kept-sure (record { disk = inl refl; handed = refl });
  cut = c.stores_stay_known.ensures.always _ _ _ _ _ _ e.cut_pack refl upgraded_kept-sure
      (record { disk = inl refl; handed = refl });
  file = λ filling fills. c.files_stay.ensures.reads _ _ _ _ packed_records _ _ _ _ (e.pack filling fills)
      refl upgraded-file (inr (inr (record {
        of_command = refl;
        after_is = refl;
        alike = record { setup = refl; version = refl; id = refl; audit = refl; files = refl; due = refl };
      })));
}

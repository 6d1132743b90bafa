-- The words in which this crate is proved, passed on from one place. Declares nothing.
pub use Rattle.std.proofs.Common.{ap, append_assoc, arith, Bool, drop, Err, false, get_or, inl, inr, length-append, length-drop, length-take, List, map, min, None, Ok, Option, refl, replicate, Result, rules, set, Some, subst, suc, sym, take, true, zero, ℕ, [], ⊎_elim, ◌++◌, ◌+◌, ◌-◌, ◌/◌, ◌<◌, ◌^◌, ◌∙◌, ◌∷◌, ◌≡◌, ◌≢◌, ◌≤◌, ◌⊎◌}
pub use Rattle.std.proofs.lemmas.List.{drop-set-lt, drop_all, drop_more, length-map, length-replicate, replicate-append-replicate, take_at, take_min, take_more, take_more_set}
pub use Rattle.std.proofs.lemmas.Slice.Zip.{firsts-zip, length-zip}
pub use Rattle.std.specs.List.{slice_get, zip}
pub use Rattle.std.specs.Prelude.{IfOk, IfSome, OnErr, OnOk}
pub use Rattle.device_defs.proofs.PickLaws.{IsImage-picked, length-picked}
pub use Rattle.device_defs.proofs.Splices.{read_part, spliced_grown, spliced_itself, take-nil}
pub use Rattle.device_defs.proofs.TearLaws.{Torn-either}
pub use Rattle.device_defs.specs.Cells.{Cells, firm, is_loose_at, loose, reads}
pub use Rattle.device_defs.specs.Disks.{halved, marked, spliced, synced, Torn, written}
pub use Rattle.device_defs.specs.Picks.{picked}
pub use Rattle.disk_model.specs.InMemory.{DiskInMemory, SureInMemory}
pub use Rattle.disk_model.specs.Ranges.{IsFirmOutside, IsUnmarkedOutside}

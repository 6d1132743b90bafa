-- Each store before and after the commands is known. What proofs cite of turn_laws and command_laws is passed on.
use Rattle.command_runs.proofs.Words.{◌≡◌, None, ◌≤◌, List, refl, arith, setup, first-begins, PutJob, refusal_over, byte, Record, IsOpened, setup_in_effect, IsSure, named, four_records, started_records, byte_records, dropped_records, byte_audited_records, byte_repaired_records, both_records, to_put_other, all_hidden, to_put, byte_stored, byte_kept, all_lost, due_lost, damaged, due, mended, byte_upgraded_records, byte_own_records, upgraded_kept, to_put_own, two_damaged}
use Rattle.command_runs.specs.Words.{A}
pub use Rattle.turn_laws.specs.Turned.{formed}
pub use Rattle.turn_laws.proofs.Shape.{four, from_some, over-is}
pub use Rattle.command_laws.proofs.SureStores.{AreFitIn, fits, stands_for, sure}

-- ---- a journal may hold the records

-- of a store that was set up
pub four-fit : AreFitIn A four_records
four-fit = fits refl (refl, tt) (omega arith)

-- after a put's first append
pub started-fit : AreFitIn A started_records
started-fit = fits refl (refl, four-fit.accepted) (omega arith)

-- with the file
pub byte-fit : AreFitIn A byte_records
byte-fit = fits refl (refl, started-fit.accepted) (omega arith)

-- after its drop
pub dropped-fit : AreFitIn A dropped_records
dropped-fit = fits refl (refl, byte-fit.accepted) (omega arith)

-- after an audit
pub audited-fit : AreFitIn A byte_audited_records
audited-fit = fits refl (refl, (refl, byte-fit.accepted)) (omega arith)

-- after its repair
pub repaired-fit : AreFitIn A byte_repaired_records
repaired-fit = fits refl (refl, audited-fit.accepted) (omega arith)

-- with both files
pub both-fit : AreFitIn A both_records
both-fit = fits refl (refl, (refl, byte-fit.accepted)) (omega arith)

-- of the second version
pub upgraded-fit : AreFitIn A byte_upgraded_records
upgraded-fit = fits refl (refl, byte-fit.accepted) (omega arith)

-- with a file that has a profile of its own
pub own-fit : AreFitIn A byte_own_records
own-fit = fits refl (refl, (refl, upgraded-fit.accepted)) (omega arith)

-- no cause refuses the first put
pub put_begins : refusal_over A four_records (PutJob named byte) None ≡ None
put_begins = first-begins A setup named byte refl (omega arith)

-- ---- the stores are sure

-- before a put, and after it
abbrev pub put-old : IsSure to_put four_records
put-old = sure to_put four_records four-fit refl (omega arith)

abbrev pub put-new : IsSure byte_stored byte_records
put-new = sure byte_stored byte_records byte-fit refl (omega arith)

-- before the put of another file, and before one with a profile of its own
abbrev pub to_put_other-sure : IsSure to_put_other byte_records
to_put_other-sure = sure to_put_other byte_records byte-fit refl (omega arith)

abbrev pub to_put_own-sure : IsSure to_put_own byte_upgraded_records
to_put_own-sure = sure to_put_own byte_upgraded_records upgraded-fit refl (omega arith)

-- with the file, also upgraded
abbrev pub stored-sure : IsSure byte_kept byte_records
stored-sure = sure byte_kept byte_records byte-fit refl (omega arith)

abbrev pub upgraded_kept-sure : IsSure upgraded_kept byte_upgraded_records
upgraded_kept-sure = sure upgraded_kept byte_upgraded_records upgraded-fit refl (omega arith)

-- with the blocks all lost, also with a repair due
abbrev pub robbed-old : IsSure all_lost byte_records
robbed-old = sure all_lost byte_records byte-fit refl (omega arith)

abbrev pub robbed_due-old : IsSure due_lost byte_audited_records
robbed_due-old = sure due_lost byte_audited_records audited-fit refl (omega arith)

-- with one block lost, also with a repair due, and mended
abbrev pub damaged-sure : IsSure damaged byte_records
damaged-sure = sure damaged byte_records byte-fit refl (omega arith)

abbrev pub due-sure : IsSure due byte_audited_records
due-sure = sure due byte_audited_records audited-fit refl (omega arith)

abbrev pub mended-sure : IsSure mended byte_repaired_records
mended-sure = sure mended byte_repaired_records repaired-fit refl (omega arith)

-- with two blocks damaged
abbrev pub two_damaged-sure : IsSure two_damaged byte_records
two_damaged-sure = sure two_damaged byte_records byte-fit refl (omega arith)

-- ---- devices that tell nothing

-- they may be those of any store over four providers
abbrev pub hidden : {rs : List Record} → AreFitIn A rs → (setup_in_effect rs).n ≤ 4 → IsOpened all_hidden rs
hidden fit few = record {
  area = A;
  read =
      record {
        some = fit.some;
        in_grammar = fit.all;
        accepted = fit.accepted;
        room = fit.room;
        reads_are = tt;
      };
  enough = few;
}

-- of one that was just set up
abbrev pub hidden-fresh : IsOpened all_hidden four_records
hidden-fresh = hidden four-fit (omega arith)

use Rattle.command_laws.proofs.AnyDisk.{get-order}
use Rattle.std.proofs.Common.{inl, inr}
use Rattle.command_laws.proofs.GetEnds.{seen-complete, seen-right, seen-forged}
use Rattle.command_laws.proofs.Unforged.{seen-unforged}
use Rattle.command_laws.proofs.ends.gets_give_the_file.Goals as goal

pub returns-clause-complete : goal.returns-clause-complete
returns-clause-complete c name bytes records file old new end A K in_effect fits size few disk sink =
    seen-complete name bytes records file old new end K in_effect fits size A.0 few disk sink

pub returns-clause-right : goal.returns-clause-right
returns-clause-right c name bytes records file old new end A K in_effect fits size few zero =
    (seen-right name bytes records file old new end K in_effect fits size A.0 few).1 zero

pub returns-clause-right_front : goal.returns-clause-right_front
returns-clause-right_front c name bytes records file old new end A K in_effect fits size few =
    (seen-right name bytes records file old new end K in_effect fits size A.0 few).0

pub returns-clause-forged : goal.returns-clause-forged
returns-clause-forged c name bytes records file old new end A K in_effect fits size zero =
    elim (seen-forged name bytes records file old new end K in_effect fits size A.0)
    [ inl right ↦ inl (right.1 zero) | inr forged ↦ inr forged ]

pub returns-clause-forged_front : goal.returns-clause-forged_front
returns-clause-forged_front c name bytes records file old new end A K in_effect fits size =
    elim (seen-forged name bytes records file old new end K in_effect fits size A.0)
    [ inl right ↦ inl right.0 | inr forged ↦ inr forged ]

pub returns-clause-unforged : goal.returns-clause-unforged
returns-clause-unforged c name bytes records file old new end A K in_effect few F =
    seen-unforged name bytes records file old new end K in_effect few A.0 F

pub returns-clause-ends : goal.returns-clause-ends
returns-clause-ends c name old new end A disk sink = get-order name old new end A.0 disk sink

-- What a fault of a call within an init or a start makes of it.
use Rattle.std.specs.Prelude.{ℕ}
use Rattle.stream_model.specs.declared.fault.WriteFault.{WriteFault}
use Rattle.stream_model.specs.declared.fault.WriteFault.TheVariants as write_fault
use Rattle.vault_table.specs.declared.entry.Refused.{Refused}
use Rattle.vault_table.specs.declared.entry.Refused.TheVariants as refused
use Rattle.vault_open.specs.declared.fault.InitFault.{InitFault}
use Rattle.vault_open.specs.declared.fault.InitFault.TheVariants as init_fault
use Rattle.vault_open.specs.declared.fault.StartFault.{StartFault}
use Rattle.vault_open.specs.declared.fault.StartFault.TheVariants as start_fault

-- the answer of an init whose disk call answered so
abbrev pub init_answer : WriteFault → InitFault
init_answer write_fault.Failed = init_fault.DiskFault
init_answer write_fault.Memory = init_fault.Memory

-- the answer of a start whose disk call answered so
abbrev pub start_answer : WriteFault → StartFault
start_answer write_fault.Failed = start_fault.DiskFault
start_answer write_fault.Memory = start_fault.Memory

-- the answer of a start whose table did not take the record at an offset
abbrev pub refusal_answer : Refused → ℕ → StartFault
refusal_answer refused.Memory at = start_fault.Memory
refusal_answer why at = start_fault.BadJournal at

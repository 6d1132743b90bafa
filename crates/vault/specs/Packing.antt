-- A pack of the journal that runs alone, as one of the machine.
--
--   pack_number job            == the job number that it drew
--   pack_answer, pack_outcome  == the machine's answer and outcome
--   plain w                    == the state without what runs alone, in which the switch byte is not in doubt
--   IsQuiet v                  == a desk with no job and no append, of which no disk call failed
--   IsPackText v pack          == the pack writes the packed records of the desk's table into the other area;
--                                 the journal has its second version
--   IsPackOf v job             == the pack is one of this vault, which is held under its number and has no
--                                 job: until its fourth move it writes that text
--   StandsPacking v job d w    == vault, pack and devices stand for a state in which this pack runs alone
--   pack_begun w               == the state in which a pack has begun
--   PacksOver w d result v     == what a begin comes to
--   StandsBehind turn v d w    == vault, pack and devices stand for the state, where the pack goes on; where
--                                 it ended, vault and devices do
--   MakesPackStep w number turn v d
--                              == a step is one of the machine's pack
--   IfMore turn P              == P holds of the pack, where it goes on
--   IfPackDone turn P          == P holds, where it ended
--   IsPackDone turn            == the pack ended
use Rattle.std.specs.Prelude.{◌≡◌, ◌⊎◌, ℕ, ◌+◌, ◌<◌, true, false, [], None, Some, Result, Ok, Err, IfSome}
use Rattle.record_defs.specs.Areas.{Area, other_area, base_of}
use Rattle.record_defs.specs.Packed.{packed}
use Rattle.journal_core.specs.Texts.{StandsFirm}
use Rattle.journal_pack.specs.declared.pack.Pack as moves
use Rattle.journal_pack.specs.Packs.{moves_of, WritesText, Packs}
use Rattle.journal_pack.specs.Tables.{packed_table}
use Rattle.machine_defs.specs.Alone.{pack_refusal, new_pack}
use Rattle.machine_defs.specs.Answers as answers
use Rattle.machine_defs.specs.Events as events
use Rattle.machine_defs.specs.Events.{Outcome, Step}
use Rattle.machine_defs.specs.Machine.{Happens}
use Rattle.machine_defs.specs.States.{State, Pack, Packing}
use Rattle.state_laws.specs.Sound.{IsSound}
use Rattle.vault_core.specs.Carried.{refusal_of}
use Rattle.vault_core.specs.declared.wish.BeginFault.{BeginFault}
use Rattle.vault_core.specs.declared.wish.BeginFault.TheVariants as fault
use Rattle.vault_open.specs.Devices.{Devices, devices, AreDevices}
use Rattle.vault.specs.declared.desk.Desk.{Desk}
use Rattle.vault.specs.declared.packing.PackJob.{PackJob}
use Rattle.vault.specs.declared.packing.PackAnswer.{PackAnswer}
use Rattle.vault.specs.declared.packing.PackAnswer.TheVariants as answer
use Rattle.vault.specs.declared.packing.PackTurn.{PackTurn}
use Rattle.vault.specs.declared.packing.PackTurn.TheVariants as turn
use Rattle.vault.specs.declared.vault.Vault.{Vault}
use Rattle.vault.specs.Stands.{Stands, StandsBeside}

-- the job number that a pack drew
abbrev pub pack_number : PackJob → ℕ
pack_number job = job.number

-- the machine's answer
abbrev pub pack_answer : PackAnswer → answers.Answer
pack_answer (answer.Packed before after) = answers.Packed before after
pack_answer answer.DiskFault = answers.DiskFault
pack_answer answer.Memory = answers.Memory

-- the machine's outcome
abbrev pub pack_outcome : PackTurn → Outcome
pack_outcome (turn.More job) = events.More
pack_outcome (turn.Done a) = events.Ended (pack_answer a)

-- a state without what runs alone, in which the switch byte is not in doubt
abbrev pub plain : State → State
plain w = record w { alone = None; is_switching = false }

-- a desk with no job and no append, of which no disk call failed
pub record IsQuiet (v : Desk) : Type 0 where
  pub idle : v.core.jobs ≡ []
  pub unbarred : v.core.barred ≡ false
  pub flight : v.flight ≡ None

-- a pack writes the packed records of the desk's table, of the second version, into the other area
pub record IsPackText (v : Desk) (p : moves.Pack) : Type 0 where
  pub writes : (area : Area) → v.base ≡ base_of area
      → WritesText (other_area area) (packed_table v.core.table) p
  pub version : v.core.table.version ≡ 2

-- a pack is one of this vault; until its fourth move it writes that text
pub record IsPackOf (v : Vault) (job : PackJob) : Type 0 where
  pub held : v.held ≡ Some job.number
  pub quiet : IsQuiet v.desk
  pub text : moves_of job.pack < 4 → IsPackText v.desk job.pack

-- vault, pack and devices stand for a state in which this pack runs alone
pub record StandsPacking (v : Vault) (job : PackJob) (d : Devices) (w : State) : Type 0 where
  pub pack : Pack
  pub alone : w.alone ≡ Some (Packing pack)
  pub number_is : job.number ≡ pack.number
  pub before_is : job.before ≡ pack.before
  pub moves_are : moves_of job.pack ≡ pack.moves
  pub is_of : IsPackOf v job
  pub sound : IsSound 8 w
  pub beside : StandsBeside v (devices None d.faults d.providers) (plain w) job.number
  pub devices : AreDevices d w
  pub on_way : moves_of job.pack < 4 → Packs w.area w.journal (packed w.journal) job.pack d.holds
  pub switching : moves_of job.pack ≡ 3 → w.is_switching ≡ true
  pub made : moves_of job.pack ≡ 4 → IfSome d.holds (StandsFirm w.area w.journal)
      × WritesText w.area w.journal job.pack

-- the state in which a pack has begun
abbrev pub pack_begun : State → State
pack_begun w = record w { alone = Some (Packing (new_pack w)); next_job = w.next_job + 1 }

-- what a begin of a pack comes to
abbrev pub PacksOver : State → Devices → Result PackJob BeginFault → Vault → Type 0
PacksOver w d (Ok job) v =
    (pack_refusal w ≡ None) × (job.number ≡ w.next_job) × StandsPacking v job d (pack_begun w)
PacksOver w d (Err why) v =
    ((pack_refusal w ≡ Some (refusal_of why)) ⊎ (why ≡ fault.Memory)) × Stands v d w

-- where a pack goes on, vault, pack and devices stand for the state; where it ended, vault and devices do
abbrev pub StandsBehind : PackTurn → Vault → Devices → State → Type 0
StandsBehind (turn.More job) v d w = StandsPacking v job d w
StandsBehind (turn.Done a) v d w = Stands v d w

-- a step is one of the machine's pack
pub record MakesPackStep (w : State) (number : ℕ) (t : PackTurn) (v : Vault) (d : Devices) : Type 0 where
  pub state : State
  pub happens : (limit moment : ℕ) → Happens limit moment w (Step number) (pack_outcome t) state
  pub stands : StandsBehind t v d state

-- a fact of the pack, where it goes on
abbrev pub IfMore : PackTurn → (PackJob → Type 0) → Type 0
IfMore (turn.More job) P = P job
IfMore (turn.Done a) P = Unit {0}

-- a fact, where it ended
abbrev pub IfPackDone : PackTurn → Type 0 → Type 0
IfPackDone (turn.More job) P = Unit {0}
IfPackDone (turn.Done a) P = P

-- the pack ended
abbrev pub IsPackDone : PackTurn → Type 0
IsPackDone (turn.More job) = ⊥
IsPackDone (turn.Done a) = Unit {0}

-- What a pack leaves of a disk around its text, by what was told of it.
use Rattle.hail_top.proofs.Words.{◌≡◌, ◌≢◌, ℕ, List, Some, None, sym, subst, Global, Goes, Record, Area, resynced-same, IsForm, RowOf, InitWith, PutUnder, PutAt, GetOf, DropOf, ListAll, AuditAll, RepairAll, UpgradeJournal, ScrubAll, PackJournal, Seen, Ending, Sinking, Read, command_of, pack_answer, PackAnswer, FillsGap, KeepsAround, ZerosUnlessFault, PacksOn, unopened, TellsPack}
use Rattle.std.proofs.Common.{Option}
use Rattle.std.specs.Prelude.{String}
use Rattle.std.specs.List.{All}
use Rattle.device_defs.specs.Cells.{Cells}
use Rattle.command_defs.specs.Forms.{Command}
use Rattle.vault.specs.declared.packing.PackAnswer.TheVariants as answer

-- the status tells whether the disk failed
pub told-zeros : (how : PackAnswer) (status at : ℕ) (sink : Sinking) → TellsPack (pack_answer how) status at sink →
    (gap : List ℕ) → FillsGap how gap → ZerosUnlessFault status gap
told-zeros answer.DiskFault status at sink told gap fills = λ other. absurd (other told.0.0)
told-zeros answer.Memory status at sink told gap fills = λ other. fills
told-zeros (answer.Packed before after) status at sink told gap fills = λ other. fills

-- so what a pack leaves is told by the status
pub told-around : (area : Area) (records : List Record) (P Q : List ℕ → Type 0) → ((gap : List ℕ) → P gap → Q gap) →
    (old new : Option Cells) → Goes (KeepsAround area records P) old new →
    Goes (KeepsAround area records Q) old new
told-around area records P Q step None None keeps = tt
told-around area records P Q step (Some old) (Some new) keeps =
    λ image is. (let s = keeps image is in record {
      front = s.front;
      gap = s.gap;
      fills = step s.gap s.fills;
      middle = s.middle;
      behind = s.behind;
    })
told-around area records P Q step None (Some new) keeps = absurd keeps
told-around area records P Q step (Some old) None keeps = absurd keeps

-- a command that was read
pub packs-as : (command other : Read) (old new : Seen) (end : Ending) → command ≡ other →
    PacksOn (command_of other) old new end → PacksOn (command_of command) old new end
packs-as command other old new end is packs =
    subst (λ (c : Read). PacksOn (command_of c) old new end) (sym is) packs

-- a command that touched no device
pub packs-same : (command : Command) (same : Seen) (end : Ending) → PacksOn command same same end
packs-same PackJournal same end = unopened (resynced-same same.disk)
packs-same (InitWith numbers) same end = tt
packs-same (RowOf n l b symbols) same end = tt
packs-same (PutUnder name) same end = tt
packs-same (PutAt name profile) same end = tt
packs-same (GetOf name) same end = tt
packs-same (DropOf name) same end = tt
packs-same ListAll same end = tt
packs-same AuditAll same end = tt
packs-same RepairAll same end = tt
packs-same UpgradeJournal same end = tt
packs-same ScrubAll same end = tt

-- a put is no pack, whatever profile it names
pub put-packs : (name : List ℕ) (own : Option ℕ) (command : Option ℕ → Command) → command None ≡ PutUnder name →
    ((p : ℕ) → command (Some p) ≡ PutAt name p) → (old new : Seen) (end : Ending) →
    PacksOn (command own) old new end
put-packs name None command none some old new end =
    subst (λ (c : Command). PacksOn c old new end) (sym none) tt
put-packs name (Some p) command none some old new end =
    subst (λ (c : Command). PacksOn c old new end) (sym (some p)) tt

-- words that spell one command leave what it leaves
pub packs-words : (words : List (String Global)) (command : Command) (old new : Seen) (end : Ending) →
    ((other : Command) → IsForm words other → command ≡ other) → PacksOn command old new end →
    (other : Command) → IsForm words other → PacksOn other old new end
packs-words words command old new end once packs other spelled =
    subst (λ (c : Command). PacksOn c old new end) (once other spelled) packs

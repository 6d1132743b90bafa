-- The devices of a command as they are seen, and how it ended.
--
--   seen holds faults providers left read_faults written write_faults
--                                              == what is seen of the devices, by the members of their traits
--   seen_over D P K disk providers left read_faults sink
--                                              == the same, of a disk, providers and a sink by their traits'
--                                                 members taken whole
--   seen_of D P S K disk providers source sink == and of a source
--   seen_beside disk disk_faults P S K providers source sink
--                                              == the same, whatever is seen of the disk
--   ending_of report                           == how a command ended
--   ending_with status at                      == it ended with this status, which speaks of this place, and
--                                                 nothing was heard
use Rattle.std.specs.Prelude.{ℕ, List, [], Option, map}
use Rattle.disk_model.specs.declared.disk.Disk.{Ghosts as DiskGhosts}
use Rattle.provider_model.specs.declared.provider.Provider.{Ghosts as ProviderGhosts}
use Rattle.stream_model.specs.declared.sink.Sink.{Ghosts as SinkGhosts}
use Rattle.stream_model.specs.declared.source.Source.{Ghosts as SourceGhosts}
use Rattle.device_defs.specs.Cells.{Cells}
use Rattle.command_defs.specs.Seen.{Seen, Ending, seen}
use Rattle.provider_model.specs.Seen.{provider_seen}
use Rattle.hail_replay.specs.Heard.{entries_heard}
use Rattle.hail_top.specs.declared.report.Report.{Report}

-- the same, of a disk, providers and a sink by the members of their traits
abbrev pub seen_over : {W X Z : Type 0} → DiskGhosts W → ProviderGhosts X → SinkGhosts Z → W → List X
    → Option (List ℕ) → ℕ → Z → Seen
seen_over D P K disk providers left read_faults sink =
    seen (D.holds disk) (D.faults disk) (map (provider_seen P) providers) left read_faults
    (K.written sink) (K.faults sink)

-- and of a source
abbrev pub seen_of : {W X Y Z : Type 0} → DiskGhosts W → ProviderGhosts X → SourceGhosts Y → SinkGhosts Z
    → W → List X → Y → Z → Seen
seen_of D P S K disk providers source sink =
    seen_over D P K disk providers (S.left source) (S.faults source) sink

-- the same, whatever is seen of the disk
abbrev pub seen_beside : {X Y Z : Type 0} → Option Cells → ℕ → ProviderGhosts X → SourceGhosts Y
    → SinkGhosts Z → List X → Y → Z → Seen
seen_beside disk disk_faults P S K providers source sink =
    seen disk disk_faults (map (provider_seen P) providers) (S.left source) (S.faults source)
    (K.written sink) (K.faults sink)

-- how a command ended
abbrev pub ending_of : Report → Ending
ending_of report = record { status = report.status; at = report.at; heard = entries_heard report.heard }

-- a command ended so, and heard nothing
abbrev pub ending_with : ℕ → ℕ → Ending
ending_with status at = record { status = status; at = at; heard = [] }

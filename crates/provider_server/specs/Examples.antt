-- A removal that is served.
--
--   removal                     == the bytes of a request to remove the object 1
--   before_removal held         == one provider that holds this, and a source that has the request
--   behind_removal held         == the same when it was served: the object is gone, and the answer written
use Rattle.std.specs.Prelude.{ℕ, List, [], ◌∷◌, Some}
use Rattle.device_defs.specs.Providers.{Held, without_object}
use Rattle.command_defs.specs.Seen.{Seen}
use Rattle.wire_defs.specs.Links.{provider_behind}
use Rattle.provider_wire.specs.Loops.{idle}

-- the bytes of a request to remove the object 1
abbrev pub removal : List ℕ
removal = 4 ∷ 1 ∷ 0 ∷ 0 ∷ 0 ∷ 0 ∷ 0 ∷ 0 ∷ 0 ∷ []

-- one provider, what the source has and what the sink took
abbrev pub lone : Held → List ℕ → List ℕ → Seen
lone held left written = record {
  disk = Some [];
  disk_faults = 0;
  providers = provider_behind (idle 0 0 0 held) ∷ [];
  source = Some left;
  source_faults = 0;
  sink = Some written;
  sink_faults = 0;
}

-- a source that has the request
abbrev pub before_removal : Held → Seen
before_removal held = lone held removal []

-- the object is gone, and the answer written
abbrev pub behind_removal : Held → Seen
behind_removal held = lone (without_object 1 held) [] (1 ∷ [])

-- How `serve` ends.
--
--   served_status end, place_of end   == the status of a server's end, and the offset that it speaks of
--   OnlyServes number old new         == no device was touched but the source, the sink and this provider
--   ServesRequests number old new end == the requests that the source gives were served with this provider
--   AnswersServe number old new end   == `serve`: 22 exactly where the provider was not handed in, unless
--                                        there was no memory for the words
use Rattle.std.specs.Prelude.{◌≡◌, ◌≢◌, ℕ, ◌<◌, ◌≤◌, [], length}
use Rattle.device_defs.specs.Faults.{HasCause}
use Rattle.command_defs.specs.Seen.{Seen, Ending, provider_at}
use Rattle.wire_defs.specs.Serving.{End, Finished, BadAt, TooMany, SourceFailed, SinkFailed, OutOfMemory, HasServed}

-- the status of a server's end
abbrev pub served_status : End → ℕ
served_status Finished = 0
served_status (BadAt at) = 25
served_status TooMany = 16
served_status SourceFailed = 14
served_status SinkFailed = 15
served_status OutOfMemory = 70

-- the offset that the status speaks of
abbrev pub place_of : End → ℕ
place_of Finished = 0
place_of (BadAt at) = at
place_of TooMany = 0
place_of SourceFailed = 0
place_of SinkFailed = 0
place_of OutOfMemory = 0

-- no device was touched but the source, the sink and this provider
pub record OnlyServes (number : ℕ) (old new : Seen) : Type 0 where
  pub disk : new.disk ≡ old.disk
  pub disk_faults : new.disk_faults ≡ old.disk_faults
  pub handed : length new.providers ≡ length old.providers
  pub others : (k : ℕ) → k ≢ number → provider_at new.providers k ≡ provider_at old.providers k

-- the requests that the source gives were served with this provider, and the answers written
pub record ServesRequests (number : ℕ) (old new : Seen) (end : Ending) : Type 0 where
  pub how : End
  pub status_is : end.status ≡ served_status how
  pub place : end.at ≡ place_of how
  pub heard : end.heard ≡ []
  pub served : HasServed how old.source new.source (provider_at old.providers number)
      (provider_at new.providers number) old.sink new.sink
  pub source : HasCause old.source_faults new.source_faults (how ≡ SourceFailed)
  pub sink : HasCause old.sink_faults new.sink_faults (how ≡ SinkFailed)
  pub only : OnlyServes number old new

-- a `serve`; where there was no memory for its words nothing is touched
pub data AnswersServe (number : ℕ) (old new : Seen) (end : Ending) : Type 0 where
  no_memory : end ≡ record { status = 70; at = 0; heard = [] } → new ≡ old → AnswersServe number old new end
  too_few : length old.providers ≤ number → end ≡ record { status = 22; at = 0; heard = [] } → new ≡ old
      → AnswersServe number old new end
  served : number < length old.providers → ServesRequests number old new end → AnswersServe number old new end

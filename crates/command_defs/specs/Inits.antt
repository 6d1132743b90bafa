-- What `init` does.
--
--   setup_with numbers key          == the setup of these numbers and this master key
--   AnswersInit numbers old new end == how `init` ends
use Rattle.std.specs.Prelude.{◌≡◌, ℕ, ◌<◌, ◌≤◌, true, false, List, [], length, IfSome}
use Rattle.device_defs.specs.Faults.{Rose}
use Rattle.device_defs.specs.Images.{EachImage}
use Rattle.device_defs.specs.Told.{Goes}
use Rattle.record_defs.specs.Records.{Setup, is_setup}
use Rattle.opening_defs.specs.Journals.{journal_read, IsBadInit, IsSetUpAlready, IsSetUpOn, MayBeLeft}
use Rattle.command_defs.specs.Forms.{Numbers}
use Rattle.command_defs.specs.Keys.{IsKeyForm, longest_key}
use Rattle.command_defs.specs.Seen.{Seen, Ending, IsRefused, ReadsAtMost, ReadsUpTo, SameSource, sinking}
use Rattle.command_defs.specs.Sinking.{WritesLine}
use Rattle.command_defs.specs.Lines.{ready_line}

-- a setup of these numbers
abbrev pub setup_with : Numbers → List ℕ → Setup
setup_with numbers key = record {
  n = numbers.n;
  l = numbers.l;
  b = numbers.b;
  profile = numbers.profile;
  rounds = numbers.rounds;
  picks = numbers.picks;
  tolerance = numbers.tolerance;
  master = key;
}

-- an init that failed once it had read the disk: nothing was written to the sink
pub record FailsToInit (status : ℕ) (s : Setup) (old new : Seen) (end : Ending) : Type 0 where
  pub status_is : end.status ≡ status
  pub place : end.at ≡ 0
  pub heard : end.heard ≡ []
  pub images : IfSome old.disk (λ cells. EachImage new.disk (MayBeLeft s cells))
  pub providers : new.providers ≡ old.providers
  pub sink : new.sink ≡ old.sink

-- an init that is done
pub record IsInitDone (s : Setup) (old new : Seen) (end : Ending) : Type 0 where
  pub written : WritesLine ready_line end.status (sinking old new)
  pub place : end.at ≡ 0
  pub heard : end.heard ≡ []
  pub disk : Goes (IsSetUpOn s) old.disk new.disk
  pub providers : new.providers ≡ old.providers

-- an init with a key, on the disk
pub data InitsDisk (s : Setup) (old new : Seen) (end : Ending) : Type 0 where
  disk_fault : Rose old.disk_faults new.disk_faults → FailsToInit 12 s old new end → InitsDisk s old new end
  bad_journal : (at : ℕ) → IfSome old.disk (λ cells. (9 < length (journal_read cells)) × IsBadInit
      (journal_read cells) at) → IsRefused 8 at old new end → InitsDisk s old new end
  already : IfSome old.disk (λ cells. (9 < length (journal_read cells)) × IsSetUpAlready
      (journal_read cells)) → IsRefused 10 0 old new end → InitsDisk s old new end
  no_memory : FailsToInit 70 s old new end → InitsDisk s old new end
  ready : IsInitDone s old new end → InitsDisk s old new end

-- how `init` ends, in the order of its refusals
pub data AnswersInit (numbers : Numbers) (old new : Seen) (end : Ending) : Type 0 where
  bad_setup : is_setup (setup_with numbers []) ≡ false → SameSource old new → IsRefused 20 0 old new end
      → AnswersInit numbers old new end
  too_few_providers : is_setup (setup_with numbers []) ≡ true → length old.providers < numbers.n
      → SameSource old new → IsRefused 22 0 old new end →
      AnswersInit numbers old new end
  source_fault : is_setup (setup_with numbers []) ≡ true → numbers.n ≤ length old.providers
      → Rose old.source_faults new.source_faults →
      ReadsAtMost longest_key old.source new.source → IsRefused 14 0 old new end
      → AnswersInit numbers old new end
  bad_key : (bytes : List ℕ) → is_setup (setup_with numbers []) ≡ true → numbers.n ≤ length old.providers →
      ReadsUpTo longest_key old.source new.source bytes → ((key : List ℕ) → IsKeyForm bytes key → ⊥)
      → IsRefused 18 0 old new end →
      AnswersInit numbers old new end
  keyed : (bytes key : List ℕ) → is_setup (setup_with numbers []) ≡ true → numbers.n ≤ length old.providers →
      ReadsUpTo longest_key old.source new.source bytes → IsKeyForm bytes key
      → InitsDisk (setup_with numbers key) old new end →
      AnswersInit numbers old new end
  no_memory : ReadsAtMost longest_key old.source new.source → IsRefused 70 0 old new end
      → AnswersInit numbers old new end

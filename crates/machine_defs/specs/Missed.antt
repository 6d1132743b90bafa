-- Damage that an audit missed.
--
--   is_wrong_now w f j             == provider j, if it tells what it holds, is wrong for a file
--   Misses start ms counts begun j == an audit of this begin with these counts, whose AuditDone comes into
--                                     effect after these moments, missed provider j: it does not flag j, j
--                                     was not replaced since its begin, and j was wrong at its begin for a
--                                     file then in effect
--   NoneMissed start ms            == no audit whose AuditDone came into effect missed a provider
use Rattle.std.specs.Prelude.{◌≡◌, ℕ, ◌<◌, Bool, true, false, List, [], ◌∷◌, Option, None, Some}
use Rattle.column_defs.specs.Columns.{is_wrong}
use Rattle.column_defs.specs.Verdicts.{is_flagged}
use Rattle.record_defs.specs.Records.{Record, AuditDone}
use Rattle.record_defs.specs.Table.{File}
use Rattle.device_defs.specs.Providers.{Held}
use Rattle.machine_defs.specs.States.{State, setup_in, file_object, file_in}
use Rattle.machine_defs.specs.Runs.{Moment, now, first_moments, is_replaced_since, came}

-- a provider that tells what it holds is wrong for a file
abbrev pub is_wrong_told : State → File → ℕ → Option Held → Bool
is_wrong_told w f j None = false
is_wrong_told w f j (Some held) = is_wrong (file_object w f) (w.bytes f.id) j (held f.id)

-- a provider is wrong for a file now
abbrev pub is_wrong_now : State → File → ℕ → Bool
is_wrong_now w f j = is_wrong_told w f j (w.providers j).held

-- An audit with these counts, whose AuditDone comes into effect after these moments, missed a provider.
pub record Misses (start : State) (ms : List Moment) (counts : List ℕ) (begun j : ℕ) : Type 0 where
  pub provider : j < (setup_in (now start ms)).n
  pub unflagged : is_flagged (setup_in (now start ms)).tolerance counts j ≡ false
  pub unreplaced : is_replaced_since begun j ms ≡ false
  pub name : List ℕ
  pub file : File
  pub in_effect : file_in (now start (first_moments begun ms)) name ≡ Some file
  pub wrong : is_wrong_now (now start (first_moments begun ms)) file j ≡ true

-- a record that comes into effect is not the AuditDone of an audit that missed a provider
abbrev pub MissesNone : State → List Moment → State → Option Record → Type 0
MissesNone start ms new (Some (AuditDone number undecided counts)) =
    (j : ℕ) → Misses start ms counts (new.audits number) j → ⊥
MissesNone start ms new came_in = Unit {0}

-- no audit of a run missed a provider
abbrev pub NoneMissed : State → List Moment → Type 0
NoneMissed start [] = Unit {0}
NoneMissed start (m ∷ ms) = MissesNone start ms m.state (came (now start ms) m.state) × NoneMissed start ms

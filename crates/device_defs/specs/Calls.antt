-- The calls of a device in memory, of which those fail whose numbers are listed. They are numbered from 0.
--
--   is_listed fails call  == the call of this number fails
--   CallCount             == the list, how many calls were made, and how many of them failed
--   no_calls fails        == the same before the first call
--   fails_next calls      == the next call fails
--   called calls          == the same after one more call
use Rattle.std.specs.Prelude.{ℕ, Bool, List, ◌==◌, if◌then◌else◌}
use Rattle.std.specs.List.{list_any}
use Rattle.device_defs.specs.Faults.{one_more}

-- the call of this number is listed
abbrev pub is_listed : List ℕ → ℕ → Bool
is_listed fails call = list_any (λ k. k == call) fails

-- the numbers of the calls that fail, how many calls were made, and how many failed
pub record CallCount : Type 0 where
  pub fails : List ℕ
  pub made : ℕ
  pub failed : ℕ

-- before the first call
abbrev pub no_calls : List ℕ → CallCount
no_calls fails = record { fails = fails; made = 0; failed = 0 }

-- whether the next call fails
abbrev pub fails_next : CallCount → Bool
fails_next calls = is_listed calls.fails calls.made

-- after one more call
abbrev pub called : CallCount → CallCount
called calls =
    record {
      fails = calls.fails;
      made = one_more calls.made;
      failed = (if fails_next calls then one_more calls.failed else calls.failed);
    }

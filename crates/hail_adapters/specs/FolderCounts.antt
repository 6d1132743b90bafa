-- What contracts see of a provider in a folder.
--
--   FolderCounts            == how many stores failed, how many other calls failed, how many fetches and
--                              calls there were, and how many of the last calls failed, in a row
--   fresh_counts            == before the first call
--   with_store_fault counts == one more store failed
--   with_other_fault counts == one more of the other calls failed
--   with_answer counts      == the last call did not fail
--   with_fetch counts       == there was one more fetch
--   with_call counts        == there was one more call
--   IsGivenUp counts        == so many calls in a row failed that the folder is not looked at any more
use Rattle.std.specs.Prelude.{ℕ, ◌≤◌}
use Rattle.device_defs.specs.Faults.{one_more}

-- how many stores failed, how many other calls, how many fetches and calls there were, and the last failures
pub record FolderCounts : Type 0 where
  pub store_faults : ℕ
  pub other_faults : ℕ
  pub fetches : ℕ
  pub calls : ℕ
  pub failed_in_a_row : ℕ

-- before the first call
abbrev pub fresh_counts : FolderCounts
fresh_counts = record { store_faults = 0; other_faults = 0; fetches = 0; calls = 0; failed_in_a_row = 0 }

-- one more store failed
abbrev pub with_store_fault : FolderCounts → FolderCounts
with_store_fault counts = record counts {
  store_faults = one_more counts.store_faults;
  failed_in_a_row = one_more counts.failed_in_a_row;
}

-- one more of the other calls failed
abbrev pub with_other_fault : FolderCounts → FolderCounts
with_other_fault counts = record counts {
  other_faults = one_more counts.other_faults;
  failed_in_a_row = one_more counts.failed_in_a_row;
}

-- the last call did not fail
abbrev pub with_answer : FolderCounts → FolderCounts
with_answer counts = record counts { failed_in_a_row = 0 }

-- there was one more fetch
abbrev pub with_fetch : FolderCounts → FolderCounts
with_fetch counts = record counts { fetches = one_more counts.fetches }

-- there was one more call
abbrev pub with_call : FolderCounts → FolderCounts
with_call counts = record counts { calls = one_more counts.calls }

-- eight calls in a row failed
abbrev pub IsGivenUp : FolderCounts → Type 0
IsGivenUp counts = 8 ≤ counts.failed_in_a_row

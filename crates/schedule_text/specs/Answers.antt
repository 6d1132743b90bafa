-- What `read_schedule` answers.
--
--   without_return line     == the line without a carriage return at its end
--   lines_behind behind     == the lines of what is behind a newline, where there is one
--   IsCauseOf text fault    == the line of the fault is the first bad one; want of memory has no cause here
use Rattle.std.specs.Prelude.{ℕ, ◌-◌, ◌==◌, List, [], length, take, slice_index, Option, None, Some, if◌then◌else◌}
use Rattle.schedule_text.specs.declared.fault.ScheduleFault.{ScheduleFault}
use Rattle.schedule_text.specs.declared.fault.ScheduleFault.TheVariants as faults
use Rattle.schedule_text.specs.Schedules.{lines, IsFirstBadLine}

-- the line without a carriage return at its end
abbrev pub without_return : List ℕ → List ℕ
without_return line = if slice_index line (length line - 1) == 13 then take (length line - 1) line else line

-- the lines of what is behind a newline, where there is one
abbrev pub lines_behind : Option (List ℕ) → List (List ℕ)
lines_behind None = []
lines_behind (Some behind) = lines behind

-- the line of the fault is the first bad one
abbrev pub IsCauseOf : List ℕ → ScheduleFault → Type 0
IsCauseOf text (faults.BadLine number) = IsFirstBadLine text number
IsCauseOf text faults.Memory = Unit {0}

-- When a start finds nothing set up.
use Rattle.std.specs.Prelude.{◌⊎◌, ◌≤◌, ℕ, List, [], length}
use Rattle.record_defs.specs.Journal.{StandsFor}

-- at most nine bytes, whatever they are, or a journal with no record
abbrev pub HasNoSetup : List ℕ → Type 0
HasNoSetup bytes = (length bytes ≤ 9) ⊎ StandsFor bytes []

-- Providers that do harm to a get.
--
--   has_risen before now                == a count rose, or it stands at its last value
--   is_bad_for o bytes j old new        == provider j, seen so at the begin and at the end, held a wrong
--                                          block of an object of these bytes at the begin, or its count of
--                                          failed calls rose; so is one that does not tell what it holds
--   is_bad x file bytes j               == the same of a provider of a run, for a file of these bytes
--   bad_count x file bytes              == how many providers of the setup are so in a run
--   bad_seen records old new file bytes == how many providers of the setup are so, as the devices are seen
use Rattle.std.specs.Prelude.{ℕ, ◌||◌, Bool, true, List, Option, None, Some, nat_lt, nat_le}
use Rattle.code_defs.specs.Points.{upto}
use Rattle.column_defs.specs.Objects.{Object}
use Rattle.column_defs.specs.Columns.{is_wrong}
use Rattle.column_defs.specs.Forgeries.{count_of}
use Rattle.device_defs.specs.Faults.{last_count}
use Rattle.device_defs.specs.Providers.{Held, Provider}
use Rattle.record_defs.specs.Records.{Record}
use Rattle.record_defs.specs.Table.{File}
use Rattle.command_defs.specs.Seen.{Seen, provider_at}
use Rattle.command_defs.specs.Opens.{setup_in_effect, object_in_effect}
use Rattle.command_defs.specs.Ran.{Ran, setup_at_begin, object_at_begin}

-- a count rose, or it stands at its last value
abbrev pub has_risen : ℕ → ℕ → Bool
has_risen before now = nat_lt before now || nat_le last_count now

-- a provider with this content is wrong, or failed
abbrev pub is_bad_with : Object → List ℕ → ℕ → Provider → Provider → Option Held → Bool
is_bad_with o bytes j old new None = true
is_bad_with o bytes j old new (Some held) =
    is_wrong o bytes j (held o.id) || has_risen old.other_faults new.other_faults

-- a provider that is seen so is wrong for an object of these bytes, or failed
abbrev pub is_bad_for : Object → List ℕ → ℕ → Provider → Provider → Bool
is_bad_for o bytes j old new = is_bad_with o bytes j old new old.held

-- a provider is wrong for a file of these bytes, or failed in the run
abbrev pub is_bad : Ran → File → List ℕ → ℕ → Bool
is_bad x file bytes j = is_bad_for (object_at_begin x file) bytes j (x.old j) (x.new j)

-- how many providers of the setup are so
abbrev pub bad_count : Ran → File → List ℕ → ℕ
bad_count x file bytes = count_of (is_bad x file bytes) (upto (setup_at_begin x).n)

-- how many providers of the setup are so, as the devices are seen
abbrev pub bad_seen : List Record → Seen → Seen → File → List ℕ → ℕ
bad_seen records old new file bytes =
    count_of (λ j. is_bad_for (object_in_effect records file) bytes j (provider_at old.providers j)
    (provider_at new.providers j)) (upto (setup_in_effect records).n)

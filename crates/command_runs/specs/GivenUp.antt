-- Devices before and after puts that are given up: the source of one fails behind its first stripe, and that
-- of another has more bytes than a file may have.
--
--   sevens count               == so many bytes, each of them 7
--   long, first_stripe         == the bytes of the first source, and those of its first stripe
--   longest_part source        == the first 4,194,304 bytes of a source
--   holds_stripes bytes j t    == a provider that holds its blocks of the first t stripes of these bytes, and
--                                 nothing else
--   to_put_source source       == before a put of such a source
--   put_given_up               == after the put of the first one: its start is in effect
--   put_too_long source        == after the put of a source that is too long
use Rattle.std.specs.Prelude.{ℕ, ◌+◌, List, length, take, drop, replicate}
use Rattle.turn_laws.specs.Turned.{given_stripes}
use Rattle.command_runs.specs.Words.{Provider, largest_file, four, empty_provider, stripes_of, Seen}
use Rattle.command_runs.specs.Devices.{each, reading_devices, with_source, four_records, started_records, none_hold}

-- so many bytes
abbrev pub sevens : ℕ → List ℕ
sevens count = replicate count 7

-- 40 bytes
abbrev pub long : List ℕ
long = sevens 40

-- a stripe has 32: two symbols of 16 bytes
abbrev pub first_stripe : List ℕ
first_stripe = sevens 32

-- as many bytes as a file may have
abbrev pub longest_part : List ℕ → List ℕ
longest_part source = take largest_file source

-- a provider that holds its blocks of the first stripes of these bytes
abbrev pub holds_stripes : List ℕ → ℕ → ℕ → Provider
holds_stripes bytes j t = given_stripes four empty_provider bytes j t

-- a store that was set up once so many stripes of a put are stored
abbrev pub storing : List ℕ → ℕ → Seen
storing bytes t = reading_devices started_records (each (λ j. holds_stripes bytes j t))

-- before a put: a store without files, and these bytes in the source
abbrev pub to_put_source : List ℕ → Seen
to_put_source source = with_source (reading_devices four_records none_hold) source

-- after it: the read behind the 40 bytes failed
abbrev pub put_given_up : Seen
put_given_up = record (storing first_stripe 1) { source_faults = 1 }

-- after a put of which one byte more was read than a file may have
abbrev pub put_too_long : List ℕ → Seen
put_too_long source =
    with_source (storing (longest_part source) (stripes_of four (length (longest_part source))))
    (drop (largest_file + 1) source)

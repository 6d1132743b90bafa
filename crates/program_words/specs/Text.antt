-- The line on standard error.
--
--   status_text status      == its text; every other status than these is that of no memory
--   speaks_of_place status  == it is followed by a place: a row, a byte of the journal, a provider, a line
--                             of the schedule, a byte of the requests
use Rattle.std.specs.Prelude.{ℕ, Bool, List, codes, ◌==◌, ◌||◌, if◌then◌else◌}

-- the text of a status other than 0
abbrev pub status_text : ℕ → List ℕ
status_text status =
    if status == 2 then codes "hail: usage" else
    (if status == 3 then codes "hail: no such name" else
    (if status == 4 then codes "hail: lost row" else
    (if status == 6 then codes "hail: repair due" else
    (if status == 7 then codes "hail: nothing due" else
    (if status == 8 then codes "hail: bad journal at" else
    (if status == 9 then codes "hail: not set up" else
    (if status == 10 then codes "hail: already set up" else
    (if status == 11 then codes "hail: journal full" else
    (if status == 12 then codes "hail: disk fault" else
    (if status == 13 then codes "hail: provider fault" else
    (if status == 14 then codes "hail: source fault" else
    (if status == 15 then codes "hail: sink fault" else
    (if status == 16 then codes "hail: too long" else
    (if status == 17 then codes "hail: bad name" else
    (if status == 18 then codes "hail: bad key" else
    (if status == 19 then codes "hail: bad schedule line" else
    (if status == 20 then codes "hail: bad setup" else
    (if status == 21 then codes "hail: too many files" else
    (if status == 22 then codes "hail: too few providers" else
    (if status == 23 then codes "hail: old journal version" else
    (if status == 24 then codes "hail: new journal version" else
    (if status == 25 then codes "hail: bad frame at" else
    (if status == 26 then codes "hail: journal too long to pack" else
    codes "hail: no memory")))))))))))))))))))))))

-- a place follows the text
abbrev pub speaks_of_place : ℕ → Bool
speaks_of_place status = status == 4 || (status == 8 || (status == 13 || (status == 19 || status == 25)))

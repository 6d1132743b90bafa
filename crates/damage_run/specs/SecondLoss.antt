-- Damage, told by events: a get over a damaged store, and another provider that is damaged after the repair.
--
--   damaged, damaged_later  == the provider that is damaged, and the one that is so after the audit's begin
--   IsReadOver ms gaps c g  == behind a put, of the damaged providers one alone, and a get that ended with
--                              the bytes that were put
--   MovesMark later recent older  == behind the older moments an audit and its repair, at whose end the
--                               audit's begin is a mark; and the run goes on
use Rattle.std.specs.Prelude.{ℕ, ◌≤◌, List, [], ◌∷◌, ◌++◌, length}
use Rattle.run_laws.specs.Stories.{Stored, GetEnds}
use Rattle.damage_run.specs.Words.{Got, IsStart, setup_in, Moment, IsRun, now, since, DamagesOnly, Relies, NoneBeganFor, NoneUnderWay, AllTell, set_up, IsAudit, FindsAll, IsMark, IsMended, BeginsNoScrub, IsMarkedRun, IsCalmRun}
use Rattle.damage_run.specs.Schedule.{name, byte}

-- the provider that is damaged
abbrev pub damaged : List ℕ
damaged = 2 ∷ []

-- a put, and a get while a block of provider 2 is lost
pub record IsReadOver (ms gaps : List Moment) (c g : Moment) : Type 0 where
  pub clean : IsStart set_up
  pub tell : AllTell set_up
  pub run : IsRun 8 set_up (g ∷ (gaps ++ c ∷ ms))
  pub stored : Stored ms name byte
  pub got : GetEnds c gaps g 2 name (Got byte)
  pub damages : DamagesOnly damaged (g ∷ (gaps ++ c ∷ ms))
  pub few : length damaged ≤ (setup_in (now set_up (g ∷ (gaps ++ c ∷ ms)))).b

-- the provider that is damaged after the audit's begin
abbrev pub damaged_later : List ℕ
damaged_later = 0 ∷ []

-- an audit flags provider 2, and at its repair's end its begin is a mark; then a block of provider 0 is lost,
-- and a get ends
pub record MovesMark (later recent older : List Moment) : Type 0 where
  pub tell : AllTell set_up
  pub few_damaged : DamagesOnly damaged (recent ++ older) × (length damaged
      ≤ (setup_in (now set_up (recent ++ older))).b)
  pub finds : FindsAll (setup_in (now set_up (recent ++ older))).tolerance damaged (recent ++ older)
  pub unaudited : NoneBeganFor IsAudit older
  pub calm : IsCalmRun 8 set_up (recent ++ older)
  pub mended : IsMended older (recent ++ older)
  pub marked : IsMarkedRun 8 (since set_up) set_up (recent ++ older)
  pub moment : IsMark set_up (recent ++ older) (length older)
  pub none : NoneUnderWay Relies (recent ++ older)
  pub run : IsRun 8 set_up (later ++ (recent ++ older))
  pub scrubs : BeginsNoScrub (later ++ (recent ++ older))
  pub damages : DamagesOnly damaged_later (later ++ recent)
  pub few : length damaged_later ≤ (setup_in (now set_up (later ++ (recent ++ older)))).b

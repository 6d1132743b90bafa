-- Moves of a job's append.
--
--   ComesMove c job               == a move of the job's append comes next
--   IsUnbegun c job f             == an append, no move of which is made, of the record that the job writes
--   IsMover v w told job action f == an append that is at this move of the job: it brings the record that the
--                                    job writes, which is that of the append in flight, if there is one
use Rattle.std.specs.Prelude.{◌≡◌, ℕ, ◌+◌, true, Option, Some, [], ◌∷◌, ◌++◌, IsTrue}
use Rattle.device_defs.specs.Cells.{Cells}
use Rattle.record_defs.specs.Records.{Record, is_in_grammar}
use Rattle.record_defs.specs.Spellings.{spelling}
use Rattle.machine_defs.specs.Actions.{Action}
use Rattle.machine_defs.specs.States.{State, Append}
use Rattle.state_laws.specs.Orders.{moves_before}
use Rattle.journal_core.specs.Appends.{Appends, gate_of, body_of, moves_of}
use Rattle.vault_core.specs.Carried.{IsWriting}
use Rattle.vault_core.specs.Coming.{is_move, entry_in}
use Rattle.vault_core.specs.View.{CoreView}
use Rattle.vault.specs.declared.flight.Flight.{Flight}
use Rattle.vault.specs.declared.desk.Desk.{Desk}
use Rattle.vault.specs.Desks.{Comes}

-- a move of the job's append comes next
pub record ComesMove (c : CoreView) (job : ℕ) : Type 0 where
  pub action : Action
  pub comes : Comes c job action
  pub moves : is_move (Some action) ≡ true

-- an append, no move of which is made, of the record that the job writes
pub record IsUnbegun (c : CoreView) (job : ℕ) (f : Flight) : Type 0 where
  pub entry : Record
  pub given : entry_in c job ≡ Some entry
  pub spelled : IsTrue (is_in_grammar entry)
  pub gate : gate_of f.append + 1 ≡ c.end
  pub moves : moves_of f.append ≡ 0
  pub body : body_of f.append ≡ spelling entry ++ 0 ∷ []

-- an append that is at this move of the job: its moves so far are made, and it brings the record that the job
-- writes, which is that of the append in flight, if there is one
pub record IsMover (v : Desk) (w : State) (told : Option Cells) (job : ℕ) (action : Action) (f : Flight)
    : Type 0 where
  pub entry : Record
  pub given : entry_in v.core job ≡ Some entry
  pub writing : IsWriting w job entry
  pub in_flight : (a : Append) → w.append ≡ Some a → a.entry ≡ entry
  pub appends : Appends w.area w.journal entry f.append told
  pub moves : moves_of f.append ≡ moves_before action

-- What calls of devices show holds of the same devices with no content told.
use Rattle.vault.proofs.Words.{ℕ, ◌<◌, ◌^◌, Bool, true, false, List, Option, None, refl, inl, inr, IfSome, Cells, Provider, OtherCounts, IsBlock, Asks, Removes, Goes, Question, Task, Asked, IsAuditing, given_of, cells_by, provider_by, if_given, TakesFetch, fetch_size, MakesMove, Result, Ok, Err, Some, ◌≡◌, ap, is_some}
use Rattle.stream_model.specs.declared.fault.WriteFault.{WriteFault}
use Rattle.stream_model.specs.declared.fault.WriteFault.TheVariants as write_fault
use Rattle.std.proofs.lemmas.Result.{on_ok_weaker}
use Rattle.device_defs.proofs.Lasting.{is_some-goes}
use Rattle.journal_core.specs.Turns.{LeavesDisk}
use Rattle.journal_core.specs.declared.append.Append.{Append}
use Rattle.vault.specs.declared.flight.Moved.{Moved}
use Rattle.vault.specs.declared.flight.Moved.TheVariants as moved
use Rattle.vault.specs.Flights.{IsTurn}
use Rattle.vault.specs.declared.tasks.Task.TheVariants as task

-- ---- providers

other_counts : (p q : Provider) → OtherCounts p q
    → OtherCounts (record p { held = None }) (record q { held = None })
other_counts p q h =
    record { store_faults = h.store_faults; other_faults = h.other_faults; fetches = h.fetches }

-- what a fetch left is a block
pub taken : (t u : Task) (found : Bool) (block : List ℕ) → TakesFetch t u found block
    → IfSome (given_of found block) (IsBlock (fetch_size t))
taken (task.Get t) (task.Get u) found block takes = if_given (IsBlock t.fetched.blocks.size) found block
    (record { size_is = takes.1.blocks.fits; symbols = takes.1.blocks.numbers })
taken (task.Repair t) (task.Repair u) found block takes = if_given (IsBlock t.blocks.size) found block
    (record { size_is = takes.1.fits; symbols = takes.1.numbers })
taken t u found block takes = absurd takes

-- an ask, of a symbol where it gave something
pub asks_by : (is_told : Bool) (honest : (ℕ → Option (List ℕ)) → Option ℕ) (o : ℕ) (p q : Provider)
    (given : Option ℕ) → IfSome given (λ symbol. symbol < 2 ^ 128) → Asks honest o p given q
    → Asks honest o (provider_by is_told p) given (provider_by is_told q)
asks_by true honest o p q given number h = h
asks_by false honest o p q given number h = record {
  held = refl;
  counts = other_counts p q h.counts;
  gives = elim h.gives [
    | inl gives ↦ inl number
    | inr fails ↦ inr fails
  ];
}

-- an answer to an ask is a symbol
pub answered : (master : List ℕ) (q : Question) (k : ℕ) (t u : Task) (symbol : Option ℕ)
    → Asked master q k t u symbol → IfSome symbol (λ s. s < 2 ^ 128)
answered master q k (task.Audit t) (task.Audit u) symbol asked = asked.hears.number
answered master q k t u symbol asked = absurd asked

-- and an audit works with it on
pub audits_on : (master : List ℕ) (q : Question) (k : ℕ) (t u : Task) (symbol : Option ℕ)
    → Asked master q k t u symbol → IsAuditing u
audits_on master q k (task.Audit t) (task.Audit u) symbol asked = tt
audits_on master q k t u symbol asked = absurd asked

-- a removal
pub removes_by : (is_told : Bool) (o : ℕ) (p q : Provider) → Removes o p q
    → Removes o (provider_by is_told p) (provider_by is_told q)
removes_by true o p q h = h
removes_by false o p q (inl h) = inl (record { held = refl; counts = other_counts p q h.counts })
removes_by false o p q (inr h) =
    inr (record { held = tt; counts = other_counts p q h.counts; cause = h.cause })

-- ---- the disk

-- what the cells went to
pub goes_by : (is_told : Bool) (step : Cells → Cells → Type 0) (old new : Option Cells) → Goes step old new
    → Goes step (cells_by is_told old) (cells_by is_told new)
goes_by true step old new h = h
goes_by false step old new h = tt

-- what a move leaves on it
pub leaves_by : (is_told : Bool) (n : ℕ) (after : Cells → Cells) (MayTear : Cells → Cells → Type 0)
    (result : Result Bool WriteFault) (old new : Option Cells) → LeavesDisk n after MayTear result old new
    → LeavesDisk n after MayTear result (cells_by is_told old) (cells_by is_told new)
leaves_by true n after MayTear result old new d = d
leaves_by false n after MayTear result old new d = record {
  does = on_ok_weaker result (λ is. refl) d.does;
  torn = λ failed. tt;
  memory = λ memory. refl;
  writes = d.writes;
}

-- a turn of an append
turn_by : (is_told : Bool) (a : Append) (old : Option Cells) (result : Result Bool WriteFault) (b : Append)
    (new : Option Cells) → IsTurn a old result b new
    → IsTurn a (cells_by is_told old) result b (cells_by is_told new)
turn_by is_told a old result b new t =
    record { turns = t.turns; disk = leaves_by is_told _ _ _ result old new t.disk }

-- a move of an append
pub move_by : (is_told : Bool) (a : Append) (old : Option Cells) (m : Moved) (new : Option Cells)
    → MakesMove a old m new → MakesMove a (cells_by is_told old) m (cells_by is_told new)
move_by is_told a old (moved.On f) new h = turn_by is_told a old (Ok false) f.append new h
move_by is_told a old moved.Done new h = (h.0, turn_by is_told a old (Ok true) h.0 new h.1)
move_by is_told a old moved.Failed new h = (h.0, turn_by is_told a old (Err write_fault.Failed) h.0 new h.1)
move_by is_told a old moved.Memory new h = (h.0, turn_by is_told a old (Err write_fault.Memory) h.0 new h.1)

-- a move leaves a disk that tells its cells as before
pub leaves_told : (n : ℕ) (after : Cells → Cells) (MayTear : Cells → Cells → Type 0)
    (result : Result Bool WriteFault) (old new : Option Cells) → LeavesDisk n after MayTear result old new
    → is_some new ≡ is_some old
leaves_told n after MayTear (Ok ended) None new d = ap is_some d.does
leaves_told n after MayTear (Ok ended) (Some old) new d = ap is_some d.does
leaves_told n after MayTear (Err write_fault.Failed) old new d = is_some-goes MayTear old new (d.torn refl)
leaves_told n after MayTear (Err write_fault.Memory) old new d = ap is_some (d.memory refl)

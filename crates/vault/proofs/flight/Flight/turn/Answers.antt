use Rattle.vault.proofs.Words.{Bool, Ok, Err, subst}
use Rattle.stream_model.specs.declared.fault.WriteFault.{WriteFault}
use Rattle.vault.specs.Flights.{IsTurn}
use Rattle.vault.proofs.flight.Flight.turn.Goals as goal

pub returns-in-Ok-true-clause-made : goal.returns-in-Ok-true-clause-made
returns-in-Ok-true-clause-made g c =
    let e = c.in-Ok-true.ensures in (
      c.turn.new.self,
      subst (λ (b : Bool). IsTurn c.args.self.append (g.D.Disk.holds c.args.disk.now) (Ok b) c.turn.new.self
          (g.D.Disk.holds c.turn.new.disk)) c.in-Ok-true.field-0-test (record { turns = e.moves; disk = e.disk }),
    )

pub returns-in-Ok-false-clause-made : goal.returns-in-Ok-false-clause-made
returns-in-Ok-false-clause-made g c =
    let e = c.in-Ok-false.ensures in
    subst (λ (b : Bool). IsTurn c.args.self.append (g.D.Disk.holds c.args.disk.now) (Ok b) c.turn.new.self
    (g.D.Disk.holds c.turn.new.disk)) c.in-Ok-false.field-0-test (record { turns = e.moves; disk = e.disk })

pub returns-in-Err-Failed-clause-made : goal.returns-in-Err-Failed-clause-made
returns-in-Err-Failed-clause-made g c =
    let e = c.in-Err-Failed.ensures in (
      c.turn.new.self,
      subst (λ (why : WriteFault). IsTurn c.args.self.append (g.D.Disk.holds c.args.disk.now) (Err why)
          c.turn.new.self (g.D.Disk.holds c.turn.new.disk)) c.in-Err-Failed.field-0-is
          (record { turns = e.moves; disk = e.disk }),
    )

pub returns-in-Err-Memory-clause-made : goal.returns-in-Err-Memory-clause-made
returns-in-Err-Memory-clause-made g c =
    let e = c.in-Err-Memory.ensures in (
      c.turn.new.self,
      subst (λ (why : WriteFault). IsTurn c.args.self.append (g.D.Disk.holds c.args.disk.now) (Err why)
          c.turn.new.self (g.D.Disk.holds c.turn.new.disk)) c.in-Err-Memory.field-0-is
          (record { turns = e.moves; disk = e.disk }),
    )

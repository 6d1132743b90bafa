use Rattle.hail_client.proofs.Stopped.{stops}
use Rattle.hail_client.proofs.client.Client.stop.Goals as goal

pub returns-clause-machine : goal.returns-clause-machine
returns-clause-machine g c = λ w providers moment stands. stops w moment c.args.picks.now c.args.self.now
    c.give_up.new.self (g.D.Disk.holds c.args.disk.now) (g.D.Disk.holds c.stop.new.self)
    (g.D.Disk.faults c.args.disk.now) (g.D.Disk.faults c.stop.new.self) providers c.bytes_are_bytes.ensures
    c.give_up.ensures.closed c.stop.ensures.image c.stop.ensures.faults stands

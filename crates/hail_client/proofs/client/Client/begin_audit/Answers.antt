use Rattle.hail_client.proofs.Words.{refl, AuditJob}
use Rattle.hail_client.proofs.Beside.{begun-at, streamless-on}
use Rattle.hail_client.proofs.Made.{begin-of}
use Rattle.hail_client.proofs.client.Client.begin_audit.Goals as goal

pub returns-in-Some-clause-machine : goal.returns-in-Some-clause-machine
returns-in-Some-clause-machine c =
    begin-of c.args.self.now _ _ c.begin_audit.new.self c.begin_audit.result c.in-Some.is refl refl refl
    c.begin_audit.ensures.busy c.begin_audit.ensures.unchanged AuditJob tt c.begin_audit.ensures.machine

pub invariant_of-self : goal.invariant_of-self
invariant_of-self c = record {
  at_work = begun-at _ c.begin_audit.new.self c.args.self.now.vault c.args.self.now.alone c.begin_audit.result c.in-Some.is
      c.begin_audit.ensures.busy c.begin_audit.ensures.unchanged c.args.self.now.at_work;
  streamless = streamless-on _ c.begin_audit.new.self c.args.self.now.vault c.in-Some.is c.begin_audit.ensures.streams
      c.args.self.now.streamless;
}

use Rattle.hail_client.proofs.Words.{refl, GetJob}
use Rattle.hail_client.proofs.Beside.{begun-at, streamless-on}
use Rattle.hail_client.proofs.Made.{begin-of}
use Rattle.hail_client.proofs.client.Client.begin_get.Goals as goal

pub returns-in-Some-clause-machine : goal.returns-in-Some-clause-machine
returns-in-Some-clause-machine c =
    begin-of c.args.self.now _ _ c.begin_get.new.self c.begin_get.result c.in-Some.is refl refl refl
    c.begin_get.ensures.busy c.begin_get.ensures.unchanged (GetJob c.args.name.now) c.bytes_are_bytes.ensures c.begin_get.ensures.machine

pub invariant_of-self : goal.invariant_of-self
invariant_of-self c = record {
  at_work = begun-at _ c.begin_get.new.self c.args.self.now.vault c.args.self.now.alone c.begin_get.result c.in-Some.is
      c.begin_get.ensures.busy c.begin_get.ensures.unchanged c.args.self.now.at_work;
  streamless = streamless-on _ c.begin_get.new.self c.args.self.now.vault c.in-Some.is c.begin_get.ensures.streams
      c.args.self.now.streamless;
}

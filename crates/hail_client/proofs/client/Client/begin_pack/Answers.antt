use Rattle.std.proofs.Common.{refl}
use Rattle.hail_client.proofs.Beside.{begun-at, streamless-on}
use Rattle.hail_client.proofs.Packed.{pack-refused}
use Rattle.hail_client.proofs.client.Client.begin_pack.Goals as goal

pub invariant_of-self-in-Err-1 : goal.invariant_of-self-in-Err-1
invariant_of-self-in-Err-1 c = record {
  at_work = begun-at c.in-Some.vault c.begin_pack.new.self c.args.self.now.vault c.args.self.now.alone
      c.begin_pack.result c.in-Some.is c.begin_pack.ensures.busy c.begin_pack.ensures.unchanged
      c.args.self.now.at_work;
  streamless = streamless-on c.in-Some.vault c.begin_pack.new.self c.args.self.now.vault c.in-Some.is
      c.begin_pack.ensures.streams c.args.self.now.streamless;
}

pub returns-in-Err-clause-machine : goal.returns-in-Err-clause-machine
returns-in-Err-clause-machine c =
    pack-refused c.args.self.now _ c.in-Some.vault c.begin_pack.new.self c.in-Err.fault c.in-Some.is refl refl
    refl c.in-Err.ensures.begins c.in-Err.ensures.busy c.in-Err.ensures.unchanged

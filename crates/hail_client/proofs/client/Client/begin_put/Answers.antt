use Rattle.hail_client.proofs.Words.{refl, subst, AreBytes}
use Rattle.hail_client.proofs.Beside.{begun-at, streamless-on}
use Rattle.hail_client.proofs.Made.{put-of, put-closed}
use Rattle.hail_client.proofs.client.Client.begin_put.Goals as goal

pub returns-in-Some-clause-machine : goal.returns-in-Some-clause-machine
returns-in-Some-clause-machine c = put-of c.args.self.now _ _ c.begin_put.new.self c.begin_put.result
    c.in-Some.is refl refl refl c.begin_put.ensures.busy c.begin_put.ensures.unchanged c.args.profile
    c.args.name.now c.args.bytes c.profiles_fit.ensures
    (c.bytes_are_bytes.ensures, subst AreBytes c.as_slice.ensures c.bytes_are_bytes-2.ensures)
    c.begin_put.ensures.machine

pub returns-in-None-clause-machine : goal.returns-in-None-clause-machine
returns-in-None-clause-machine c = put-closed c.args.self.now _ c.args.profile c.args.name.now c.args.bytes
    c.in-None.is refl refl refl c.profiles_fit.ensures
    (c.bytes_are_bytes.ensures, subst AreBytes c.as_slice.ensures c.bytes_are_bytes-2.ensures)

pub invariant_of-self : goal.invariant_of-self
invariant_of-self c = record {
  at_work = begun-at _ c.begin_put.new.self c.args.self.now.vault c.args.self.now.alone c.begin_put.result
      c.in-Some.is c.begin_put.ensures.busy c.begin_put.ensures.unchanged c.args.self.now.at_work;
  streamless = streamless-on _ c.begin_put.new.self c.args.self.now.vault c.in-Some.is c.begin_put.ensures.streams
      c.args.self.now.streamless;
}

use Rattle.std.proofs.Common.{refl}
use Rattle.hail_client.proofs.Beside.{begun-at, streamless-on}
use Rattle.hail_client.proofs.Scrubs.{scrub-begun, scrub-works, scrub-refused}
use Rattle.hail_client.proofs.client.Client.begin_scrub.Goals as goal

pub invariant_of-self-in-Ok-hold : goal.invariant_of-self-in-Ok-hold
invariant_of-self-in-Ok-hold c = record {
  at_work = scrub-works c.in-Some.vault c.hold.new.self c.in-Ok-hold.number c.in-Ok.scrub
      c.in-Ok.ensures.begun c.in-Ok-hold.ensures.holds c.in-Ok-hold.ensures.busy
      c.in-Ok-hold.ensures.held c.in-Ok.ensures.going c.in-Ok.ensures.providers;
  streamless = streamless-on c.in-Some.vault c.hold.new.self c.args.self.now.vault c.in-Some.is c.hold.ensures.streams
      c.args.self.now.streamless;
}

pub invariant_of-self-in-Err-hold : goal.invariant_of-self-in-Err-hold
invariant_of-self-in-Err-hold c = record {
  at_work = begun-at c.in-Some.vault c.hold.new.self c.args.self.now.vault c.args.self.now.alone
      c.hold.result c.in-Some.is c.hold.ensures.busy c.hold.ensures.unchanged c.args.self.now.at_work;
  streamless = streamless-on c.in-Some.vault c.hold.new.self c.args.self.now.vault c.in-Some.is c.hold.ensures.streams
      c.args.self.now.streamless;
}

pub returns-in-Ok-hold-clause-machine : goal.returns-in-Ok-hold-clause-machine
returns-in-Ok-hold-clause-machine c =
    scrub-begun c.in-Some.vault c.hold.new.self c.in-Ok-hold.number c.in-Ok.scrub c.in-Ok.ensures.begun
    c.in-Ok-hold.ensures.holds c.in-Ok-hold.ensures.busy c.args.self.now _ c.in-Some.is refl refl

pub returns-in-Err-hold-clause-machine : goal.returns-in-Err-hold-clause-machine
returns-in-Err-hold-clause-machine c =
    scrub-refused c.args.self.now _ c.in-Some.vault c.hold.new.self c.in-Err-hold.fault c.in-Some.is refl refl
    refl c.in-Err-hold.ensures.holds c.in-Err-hold.ensures.busy c.in-Err-hold.ensures.unchanged

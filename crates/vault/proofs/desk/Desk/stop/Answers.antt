use Rattle.std.proofs.Common.{refl, arith}
use Rattle.vault.specs.declared.turn.Turn.TheVariants as turn
use Rattle.vault.proofs.JobPlaces.{item_at, place_within}
use Rattle.vault.proofs.desk.Desk.stop.Goals as goal

pub remove-running-requires : goal.remove-running-requires
remove-running-requires c =
    omega (arith, place_within c.args.self.now.jobs.items c.args.job _ c.place_of-place.ensures)

pub returns-clause-stopped : goal.returns-clause-stopped
returns-clause-stopped c =
    let at = c.place_of-place.ensures in
    record {
      place = c.place_of-place.result;
      running = c.remove-running.result;
      found = at;
      there = item_at c.args.self.now.jobs.items c.args.job c.place_of-place.result c.remove-running.result at
          c.remove-running.ensures.value;
      turn_is = λ i. turn.Done (record { answer = c.args.answer; heard = c.into_heard-heard.ensures i });
      jobs = c.remove-running.ensures.items;
      flight = refl;
      fed = record {
        step = c.feed.ensures.step;
        streams = record { setup = c.feed.ensures.setup; none = c.feed.ensures.streams; told = c.feed.ensures.told };
      };
      keeps = record { setup = refl; master = refl; shape = refl; base = refl };
    }

pub returns-clause-acted : goal.returns-clause-acted
returns-clause-acted c = λ none. none

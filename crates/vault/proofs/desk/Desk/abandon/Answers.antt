use Rattle.std.proofs.Common.{refl, arith}
use Rattle.vault.proofs.JobPlaces.{item_at, place_within}
use Rattle.vault.proofs.Streams.{abandoned_stands, abandoned_works, place_waits}
use Rattle.vault.proofs.desk.Desk.abandon.Goals as goal

pub place_of-place-requires : goal.place_of-place-requires
place_of-place-requires c = place_waits c.args.self.now c.args.job c.requires.wants c.requires.at_work

pub remove-running-requires : goal.remove-running-requires
remove-running-requires c =
    omega (arith, place_within c.args.self.now.jobs.items c.args.job _ c.place_of-place.ensures)

pub returns-clause-stands : goal.returns-clause-stands
returns-clause-stands c = λ w d j S runs. abandoned_stands c.args.self.now _ c.args.job (
    record {
      wants = c.requires.wants;
      place = c.place_of-place.result;
      old = c.remove-running.result;
      at = c.place_of-place.ensures;
      there = item_at c.args.self.now.jobs.items c.args.job c.place_of-place.result c.remove-running.result
          c.place_of-place.ensures c.remove-running.ensures.value;
      jobs = c.remove-running.ensures.items;
      keeps = record { setup = refl; master = refl; shape = refl; base = refl };
      flight = refl;
      stands = c.abandon.ensures.stands;
      gone = c.abandon.ensures.ended;
      others = c.abandon.ensures.others;
    }
    ) w d j S runs

pub returns-clause-at_work : goal.returns-clause-at_work
returns-clause-at_work c = abandoned_works c.args.self.now _ c.args.job (
    record {
      wants = c.requires.wants;
      place = c.place_of-place.result;
      old = c.remove-running.result;
      at = c.place_of-place.ensures;
      there = item_at c.args.self.now.jobs.items c.args.job c.place_of-place.result c.remove-running.result
          c.place_of-place.ensures c.remove-running.ensures.value;
      jobs = c.remove-running.ensures.items;
      keeps = record { setup = refl; master = refl; shape = refl; base = refl };
      flight = refl;
      stands = c.abandon.ensures.stands;
      gone = c.abandon.ensures.ended;
      others = c.abandon.ensures.others;
    }
    ) c.requires.at_work

use Rattle.std.proofs.Common.{refl, sym, arith, rules}
use Rattle.vault.specs.declared.turn.Turn.TheVariants as turn
use Rattle.vault.proofs.AtWork.{place_there}
use Rattle.vault.proofs.JobPlaces.{item_at, place_within}
use Rattle.vault.proofs.EndStep.{end_step}
use Rattle.vault.proofs.Replies.{replies}
use Rattle.vault.proofs.RunningJobs.{runs_next}
use Rattle.vault.proofs.desk.Desk.end.Goals as goal

pub place_of-place-requires : goal.place_of-place-requires
place_of-place-requires c = place_there c.args.self.now c.args.job _ c.requires.next c.requires.at_work

pub subject_of-number-requires : goal.subject_of-number-requires
subject_of-number-requires c = runs_next c.args.self.now.core c.args.job _ c.requires.next.value

pub sums_of-sums-requires : goal.sums_of-sums-requires
sums_of-sums-requires c = runs_next c.args.self.now.core c.args.job _ c.requires.next.value

pub returns-clause-machine : goal.returns-clause-machine
returns-clause-machine c = λ w moment d stands.
    let at = c.place_of-place.ensures in
    let there = item_at c.args.self.now.jobs.items c.args.job c.place_of-place.result
    c.remove-running.result at c.remove-running.ensures.value in
    end_step c.args.self.now d w moment c.args.job stands c.requires.next _ _ c.place_of-place.result
    c.subject_of-number.result c.sums_of-sums.result.0 c.sums_of-sums.result.1 c.remove-running.result
    (sym c.subject_of-number.ensures) (sym c.sums_of-sums.ensures.value) at there
    (record {
      place = c.place_of-place.result;
      running = c.remove-running.result;
      found = at;
      there = there;
      turn_is = λ i. turn.Done
          (record { answer = c.into_end.ensures.answer i; heard = c.into_end.ensures.heard i });
      jobs = c.remove-running.ensures.items;
      flight = refl;
      fed = record {
        step = c.feed.ensures.step;
        streams = record { setup = c.feed.ensures.setup; none = c.feed.ensures.streams; told = c.feed.ensures.told };
      };
      keeps = record { setup = refl; master = refl; shape = refl; base = refl };
    })

pub feed-requires-clause-reply : goal.feed-requires-clause-reply
feed-requires-clause-reply c = replies c.args.self.now.core c.args.job _ _ c.requires.next.value tt

pub remove-running-requires : goal.remove-running-requires
remove-running-requires c =
    omega (arith, place_within c.args.self.now.jobs.items c.args.job _ c.place_of-place.ensures)

pub feed-requires-clause-given : goal.feed-requires-clause-given
feed-requires-clause-given c = c.requires.next.wants

pub returns-clause-acted : goal.returns-clause-acted
returns-clause-acted c = record {
  acted = λ none. none;
  left = λ more. c.feed.ensures.falls;
  padded = (search rules);
  streams = record { setup = c.feed.ensures.setup; none = c.feed.ensures.streams; told = c.feed.ensures.told };
}

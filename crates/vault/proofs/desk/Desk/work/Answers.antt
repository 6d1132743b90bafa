use Rattle.vault.proofs.Words.{None, refl, ap, arith, is_some, devices}
use Rattle.vault.proofs.JobPlaces.{item_at, place_within}
use Rattle.vault.proofs.AtWork.{by_work, place_there}
use Rattle.vault.proofs.Props.{work_prop}
use Rattle.vault.proofs.Replies.{replies}
use Rattle.vault.proofs.Stops.{place_set}
use Rattle.vault.proofs.WorkStep.{work_there, work_step, lost_step}
use Rattle.vault.proofs.Called.{stopped-acted}
use Rattle.vault.proofs.desk.Desk.work.Goals as goal

pub place_of-place-requires : goal.place_of-place-requires
place_of-place-requires c = place_there c.args.self.now c.args.job _ c.requires.next c.requires.at_work

pub work-requires : goal.work-requires
work-requires c =
    let v = c.args.self.now in
    let place = c.place_of-place.result in
    let running = c.index_mut.result.now in
    let at = c.place_of-place.ensures in
    by_work (work_prop running.task) v
    (λ w faults ps stands. work_there v w (devices None faults ps) 0 c.args.job _ _ stands c.requires.next
    place running at (item_at v.jobs.items c.args.job place running at c.index_mut.ensures.value))
    c.requires.at_work

pub stop-requires-clause-there : goal.stop-requires-clause-there
stop-requires-clause-there c =
    let v = c.args.self.now in
    let at = c.place_of-place.ensures in
    let there = item_at v.jobs.items c.args.job c.place_of-place.result
    c.index_mut.result.now at c.index_mut.ensures.value in
    ap is_some (place_set v.jobs.items c.args.job c.place_of-place.result c.index_mut.result.now
    (record { number = c.index_mut.result.now.number; task = c.work.new.self }) at there refl)

pub returns-in-Ok-clause-machine : goal.returns-in-Ok-clause-machine
returns-in-Ok-clause-machine c = λ w moment d stands.
    let at = c.place_of-place.ensures in
    work_step c.args.self.now w d moment c.args.job _ _ stands c.requires.next c.place_of-place.result
    c.index_mut.result.now at (item_at c.args.self.now.jobs.items c.args.job c.place_of-place.result
    c.index_mut.result.now at c.index_mut.ensures.value)
    (record { number = c.index_mut.result.now.number; task = c.work.new.self }) refl
    _ _ _ c.in-Ok.is c.work.ensures refl
    (record { setup = refl; master = refl; shape = refl; base = refl }) refl (record {
      step = c.feed.ensures.step;
      streams = record { setup = c.feed.ensures.setup; none = c.feed.ensures.streams; told = c.feed.ensures.told };
    })

pub returns-in-Err-clause-machine : goal.returns-in-Err-clause-machine
returns-in-Err-clause-machine c = λ w moment d stands.
    let at = c.place_of-place.ensures in
    lost_step c.args.self.now w d moment c.args.job _ _ stands c.requires.next c.place_of-place.result
    c.index_mut.result.now at (item_at c.args.self.now.jobs.items c.args.job c.place_of-place.result
    c.index_mut.result.now at c.index_mut.ensures.value)
    (record { number = c.index_mut.result.now.number; task = c.work.new.self }) refl
    _ _ _ _ _ _ c.in-Err.is refl c.work.ensures refl refl
    (record { setup = refl; master = refl; shape = refl; base = refl }) refl c.stop.ensures.stopped

pub index_mut-requires : goal.index_mut-requires
index_mut-requires c =
    omega (arith, place_within c.args.self.now.jobs.items c.args.job _ c.place_of-place.ensures)

pub feed-requires-clause-reply : goal.feed-requires-clause-reply
feed-requires-clause-reply c = replies c.args.self.now.core c.args.job _ _ c.requires.next.value tt

pub stop-requires-clause-reply : goal.stop-requires-clause-reply
stop-requires-clause-reply c = replies c.args.self.now.core c.args.job _ _ c.requires.next.value tt

pub feed-requires-clause-given : goal.feed-requires-clause-given
feed-requires-clause-given c = c.requires.next.wants

pub stop-requires-clause-given : goal.stop-requires-clause-given
stop-requires-clause-given c = c.requires.next.wants

pub returns-in-Ok-clause-acted : goal.returns-in-Ok-clause-acted
returns-in-Ok-clause-acted c = record {
  acted = λ none. none;
  left = λ more. c.feed.ensures.falls;
  padded = tt;
  streams = record { setup = c.feed.ensures.setup; none = c.feed.ensures.streams; told = c.feed.ensures.told };
}

pub returns-in-Err-clause-acted : goal.returns-in-Err-clause-acted
returns-in-Err-clause-acted c = stopped-acted _ _ _ _ _ _ c.stop.ensures.stopped tt

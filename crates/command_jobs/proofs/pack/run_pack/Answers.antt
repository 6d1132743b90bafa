use Rattle.command_jobs.proofs.Words.{List, true, refl, ◌∙◌, arith, now, to_of, text_of, moves_of, Area, other_area, packed, Record, BeginFault, IsFreshOver, IsPackRefused}
use Rattle.command_jobs.proofs.PackCells.{starts-cells, pack-cells, starts-low, pack-starts, ends-cells}
use Rattle.command_jobs.proofs.Packing.{no-pack, pack-more, pack-end, pack-refused, pack-ends}
use Rattle.command_jobs.proofs.Readings.{told-by}
use Rattle.command_jobs.proofs.pack.run_pack.Goals as goal

pub returns-in_err-job-clause-refused : goal.returns-in_err-job-clause-refused
returns-in_err-job-clause-refused g c = told-by c.from_residual.result c.in_err-job.field-0.0
    (λ (why : BeginFault). (area : Area) (records : List Record) → IsFreshOver c.args.vault area records
    (g.D.Disk.holds c.args.disk.now) (g.D.Disk.faults c.args.disk.now) → IsPackRefused area records why)
    c.from_residual.ensures.1 (λ area records fresh. pack-refused c.opened_states.ensures c.args.vault area
    records (g.D.Disk.holds c.args.disk.now) (g.D.Disk.faults c.args.disk.now) fresh c.begin_pack.new.self
    c.in_err-job.field-0.0 c.in_err-job.ensures.begins)

pub loop-next-init : goal.loop-next-init
loop-next-init g c = record {
  is_of = c.in_ok-job.ensures.is_of.0;
  number = refl;
  to = refl;
  text = refl;
  cells = λ told is long low. starts-cells (moves_of c.in_ok-job.job.pack) _ _ told _
      c.in_ok-job.ensures.is_of.1 is long;
  way = λ w moment providers stands. no-pack w c.in_ok-job.job.number moment c.begin_pack.new.self
      c.in_ok-job.job _ stands;
  tells = refl;
  faults = omega arith;
}

pub step_pack-requires : goal.step_pack-requires
step_pack-requires g c = c.loop-next.invariant.is_of

pub loop-next-smaller : goal.loop-next-smaller
loop-next-smaller g c =
    let more = c.in-More.ensures.goes_on.moves in
    let undone = c.in-More.next.undone in
    omega (arith, more, undone)

pub loop-next-preserved : goal.loop-next-preserved
loop-next-preserved g c = record {
  is_of = c.in-More.ensures.goes_on.is_of;
  number = c.in-More.ensures.goes_on.number ∙ c.loop-next.invariant.number;
  to = c.in-More.ensures.goes_on.to ∙ c.loop-next.invariant.to;
  text = c.in-More.ensures.goes_on.text ∙ c.loop-next.invariant.text;
  cells = λ told is long low. pack-cells c.loop-next.job.pack (moves_of c.in-More.next.pack)
      (to_of c.in_ok-job.job.pack) (text_of c.in_ok-job.job.pack) told _ _ c.loop-next.invariant.to
      c.loop-next.invariant.text
      (let more = c.in-More.ensures.goes_on.moves in let undone = c.in-More.next.undone in
      omega (arith, more, undone)) c.in-More.ensures.goes_on.moves low
      (c.loop-next.invariant.cells told is long low) c.in-More.ensures.moves;
  way = λ w moment providers stands.
      let way = c.loop-next.invariant.way w moment providers stands in
      pack-more w c.in_ok-job.job.number moment c.loop-next.vault c.step_pack.new.self c.loop-next.job _ _
      c.loop-next.invariant.number way c.in-More.next
      (c.in-More.ensures.machine (now w way.steps) providers true way.stands);
  tells = c.step_pack.ensures.calls.tells ∙ c.loop-next.invariant.tells;
  faults = (let a = c.loop-next.invariant.faults in let b = c.step_pack.ensures.cause.never_falls in
      omega (arith, a, b));
}

pub returns-in-Done-clause-ended : goal.returns-in-Done-clause-ended
returns-in-Done-clause-ended g c = λ records providers old new opened fresh before after. pack-ends
    c.opened_states.ensures c.args.vault records (g.D.Disk.holds c.args.disk.now)
    (g.D.Disk.faults c.args.disk.now) old new opened fresh c.begin_pack.new.self c.step_pack.new.self
    c.in_ok-job.job c.in-Done.answer providers (g.D.Disk.holds c.step_pack.new.disk)
    (g.D.Disk.faults c.step_pack.new.disk) c.in_ok-job.ensures.begins (λ w moment stands.
    let way = c.loop-next.invariant.way w moment providers stands in
    pack-end w c.in_ok-job.job.number moment c.loop-next.vault c.step_pack.new.self c.loop-next.job _ _
    c.loop-next.invariant.number way c.in-Done.answer
    (c.in-Done.ensures.machine (now w way.steps) providers true way.stands))
    (let a = c.loop-next.invariant.faults in let b = c.step_pack.ensures.cause.never_falls in
    omega (arith, a, b))
    (c.step_pack.ensures.calls.tells ∙ c.loop-next.invariant.tells) before after c.told_packs_leave.ensures

pub returns-in-Done-clause-around : goal.returns-in-Done-clause-around
returns-in-Done-clause-around g c = λ area records told fresh is.
    let S = pack-starts c.opened_states.ensures c.args.vault area records (g.D.Disk.holds c.args.disk.now)
    (g.D.Disk.faults c.args.disk.now) fresh c.begin_pack.new.self c.in_ok-job.job c.in_ok-job.ensures.begins
    c.in_ok-job.ensures.is_of.1 in
    ends-cells (other_area area) (packed records) c.in_ok-job.job.pack c.loop-next.job.pack
    (g.D.Disk.holds c.args.disk.now) S c.loop-next.invariant.to c.loop-next.invariant.text c.in-Done.answer told
    _ _
    (c.loop-next.invariant.cells told is S.long
    (starts-low (other_area area) (packed records) c.in_ok-job.job.pack S.writes)) c.in-Done.ensures.moves

pub returns-in-Done-clause-tells : goal.returns-in-Done-clause-tells
returns-in-Done-clause-tells g c = c.step_pack.ensures.calls.tells ∙ c.loop-next.invariant.tells

pub returns-in-Done-clause-count : goal.returns-in-Done-clause-count
returns-in-Done-clause-count g c =
    omega (arith, c.loop-next.invariant.faults, c.step_pack.ensures.cause.never_falls)

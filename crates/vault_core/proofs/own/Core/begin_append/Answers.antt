use Rattle.vault_core.proofs.Words.{rules, refl, Some, with_item}
use Rattle.vault_core.proofs.Goes.{left_some}
use Rattle.vault_core.proofs.Drawing.{start_here, drawn_here, drawn_needs, seen_drawn, begun_view}
use Rattle.vault_core.proofs.Advancing.{advances, on_core, on_same}
use Rattle.vault_core.proofs.own.Core.begin_append.Goals as goal

pub advance-requires : goal.advance-requires
advance-requires c =
    let mid = drawn_here c.args.place c.self.view_is c.self.invariant c.index_mut-job.ensures.value
    c.index.ensures c.requires.begins c.draw.ensures.subject c.draw.ensures.tasks c.draw.ensures.same
    c.number-number.ensures in
    record {
      kept = mid.kept.steady;
      going = mid.going;
      left = left_some mid.kept;
      fits = mid.kept.fits;
      few = search rules;
      some = search rules;
    }

pub invariant_of-self : goal.invariant_of-self
invariant_of-self c =
    let here = start_here c.args.place c.self.view_is c.self.invariant c.index_mut-job.ensures.value
    c.requires.begins in
    let mid = drawn_here c.args.place c.self.view_is c.self.invariant c.index_mut-job.ensures.value
    c.index.ensures c.requires.begins c.draw.ensures.subject c.draw.ensures.tasks c.draw.ensures.same
    c.number-number.ensures in
    on_core c.args.place c.self.view_is c.self.invariant here.here (advances here.kept c.draw.ensures.same
    c.advance.ensures.same) (Some c.advance.new.self.number) (drawn_needs here.kept mid c.draw.ensures.same
    c.advance.new.self c.advance.ensures.kept c.advance.ensures.rest c.advance.ensures.same) c.requires.given

pub returns : goal.returns
returns c =
    let here = start_here c.args.place c.self.view_is c.self.invariant c.index_mut-job.ensures.value
    c.requires.begins in
    let index = start_here c.args.place c.self.view_is c.self.invariant c.index.ensures c.requires.begins in
    let mid = drawn_here c.args.place c.self.view_is c.self.invariant c.index_mut-job.ensures.value
    c.index.ensures c.requires.begins c.draw.ensures.subject c.draw.ensures.tasks c.draw.ensures.same
    c.number-number.ensures in
    record {
      moved = begun_view c.self.inside (with_item c.self.inside.jobs c.args.place c.advance.new.self)
          c.args.place c.index_mut-job.result.now c.advance.new.self c.self.view_is refl here.here index.here
          index.kept (seen_drawn c.index_mut-job.result.now c.draw.ensures.subject c.draw.ensures.same
          c.advance.new.self c.advance.ensures.same) c.number-number.ensures;
      falls = on_same c.args.place c.self.view_is c.self.invariant here.here
          (advances here.kept c.draw.ensures.same c.advance.ensures.same) (Some c.advance.new.self.number)
          here.kept (drawn_needs here.kept mid c.draw.ensures.same c.advance.new.self c.advance.ensures.kept
          c.advance.ensures.rest c.advance.ensures.same).kept;
    }

use Rattle.vault_core.proofs.Words.{rules, ap, refl, with_item, core_job, stepped_job}
use Rattle.vault_core.proofs.Goes.{left_some}
use Rattle.vault_core.proofs.Moving.{plain_here, went_on, set_view_same}
use Rattle.vault_core.proofs.Advancing.{advances, on_core, on_same}
use Rattle.vault_core.proofs.own.Core.advance.Goals as goal

pub advance-requires : goal.advance-requires
advance-requires c =
    let here = plain_here c.args.place c.self.view_is c.self.invariant c.index_mut-job.ensures.value
    c.requires.plain in
    record {
      kept = here.kept.steady;
      going = here.going;
      left = left_some here.kept;
      fits = here.kept.fits;
      few = search rules;
      some = search rules;
    }

pub invariant_of-self : goal.invariant_of-self
invariant_of-self c =
    let here = plain_here c.args.place c.self.view_is c.self.invariant c.index_mut-job.ensures.value
    c.requires.plain in
    on_core c.args.place c.self.view_is c.self.invariant here.here (advances here.kept refl
    c.advance.ensures.same) c.self.inside.append (went_on here.kept here.head here.gateless
    c.advance.ensures.kept c.advance.ensures.rest c.advance.ensures.same) c.requires.given

pub returns : goal.returns
returns c =
    let here = plain_here c.args.place c.self.view_is c.self.invariant c.index_mut-job.ensures.value
    c.requires.plain in
    record {
      moved = set_view_same c.self.inside (with_item c.self.inside.jobs c.args.place c.advance.new.self)
          c.args.place c.advance.new.self c.index_mut-job.result.now stepped_job c.self.view_is refl here.here
          (ap core_job c.advance.ensures.same);
      falls = on_same c.args.place c.self.view_is c.self.invariant here.here (advances here.kept refl
          c.advance.ensures.same) c.self.inside.append here.kept (went_on here.kept here.head here.gateless
          c.advance.ensures.kept c.advance.ensures.rest c.advance.ensures.same).kept;
    }

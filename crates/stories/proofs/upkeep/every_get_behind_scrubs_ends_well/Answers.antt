use Rattle.stories.proofs.Words.{◌∷◌, ◌++◌, scrubbed, job_behind, Ended, called_behind}
use Rattle.stories.specs.Words.{Begin, Begun, GetJob}
use Rattle.stories.proofs.Told.{scrubs-but}
use Rattle.stories.proofs.Among.{among, gives-among}
use Rattle.stories.proofs.upkeep.every_get_behind_scrubs_ends_well.Goals as goal

pub returns : goal.returns
returns c =
    λ words text front between behind us ts rs name g named how start ms old new end I many some none told tell before
    B.
    (let commands = job_behind behind between (Begin (GetJob name)) g front in
    let outcomes = rs ++ Ended how ∷ (ts ++ Begun g ∷ us) in
    let base = called_behind start ms in
    let R = c.told_replays_are_read.ensures words text commands outcomes start ms old new end I in
    let A = among front between behind us ts rs R.0 name g how start ms new end R.1 R.2 told many some none in
    record {
      after = A.job.later;
      last = A.job.end;
      gaps = A.job.gap;
      begin = A.job.begin;
      before = A.job.older;
      left = A.left;
      ends = A.ends;
      gives = gives-among front between behind us ts rs R.0 name g how start base R.2.later new A
          c.gets_give_what_stood.ensures named (scrubbed start)
          (λ few. c.scrubs_in_a_row_begin_epochs.ensures.marked 8 start base R.2.later commands R.0 named R.2.left.starts
          tell R.2.left.run R.2.reads (scrubs-but named commands R.0 outcomes R.1 B) (tt, before) few);
    })

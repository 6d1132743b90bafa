use Rattle.stories.proofs.Words.{[], ◌∷◌, ◌++◌, scrubbed, job_behind, Ended, called_behind}
use Rattle.stories.specs.Words.{Begin, Begun, Put, GetJob}
use Rattle.machine_defs.specs.Events.{put_event}
use Rattle.stories.proofs.Told.{scrubs-but}
use Rattle.stories.proofs.Among.{among, run-before, gives-among}
use Rattle.stories.proofs.Since.{stored-since, gave-since, stood-since}
use Rattle.stories.proofs.upkeep.gets_behind_scrubs_give_old_or_new.Goals as goal

pub returns : goal.returns
returns c =
    λ words text front beside middle between behind us vs ts ws rs name bytes other own p g named how start ms old new end
    I many some more last none_g none_p told leaves asks only tell before B.
    (let first = job_behind middle beside (put_event own name bytes) p front in
    let commands = job_behind behind between (Begin (GetJob name)) g first in
    let outcomes = ts ++ Ended Put ∷ (vs ++ Begun p ∷ us) in
    let base = called_behind start ms in
    let R = c.told_replays_are_read.ensures words text commands (rs ++ Ended how ∷ (ws ++ Begun g ∷ outcomes)) start ms
    old new end I in
    let A = among first between behind outcomes ws rs R.0 name g how start ms new end R.1 R.2 told many some none_g in
    let S = stored-since front beside middle us vs ts A.told.last name bytes other own p start ms A.job.older
    A.told.lasts A.job.before more last none_p leaves asks only in
    record {
      after = A.job.later;
      last = A.job.end;
      gaps = A.job.gap;
      begin = A.job.begin;
      before = A.job.older;
      left = A.left;
      ends = A.ends;
      right = gave-since first between behind outcomes ws rs R.0 name bytes other g how start ms new end R.2 A S
          I.none_calls;
      gives = λ few. stood-since name bytes other start base A.job.older A.left.starts
          (run-before first between behind outcomes ws rs R.0 name g how start base R.2.later new A) S A.job.end.state how
          (gives-among first between behind outcomes ws rs R.0 name g how start base R.2.later new A
          c.gets_give_what_stood.ensures named (scrubbed start) (λ few. c.scrubs_in_a_row_begin_epochs.ensures.marked 8 start base R.2.later
          commands R.0 named R.2.left.starts tell R.2.left.run R.2.reads (scrubs-but named commands R.0
          (rs ++ Ended how ∷ (ws ++ Begun g ∷ outcomes)) R.1 B) (tt, before) few) few);
    })

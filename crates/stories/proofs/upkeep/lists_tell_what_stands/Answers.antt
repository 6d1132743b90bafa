use Rattle.stories.proofs.Words.{◌∷◌, ◌++◌, subst, Dropped, Names, Listed, DropJob, done_by, Ended, Once, devices_of_seen, AreLeft, called_behind}
use Rattle.stories.specs.Words.{Put, Begin, Begun}
use Rattle.stories.specs.Files.{put_of}
use Rattle.stories.proofs.Listed.{apart, each, put-listed, drop-listed, unput-listed}
use Rattle.stories.proofs.upkeep.lists_tell_what_stands.Goals as goal

pub returns : goal.returns
returns c = (let read = c.told_replays_are_read.ensures in record {
  every = λ words text commands behind outcomes rs told start ms old new end I some.
      (let R = read words text (behind ++ Once Names ∷ commands) (rs ++ Listed told ∷ outcomes) start ms old new end I in
      let A = apart behind commands R.0 rs outcomes told start ms new end R.1 R.2 some in record {
        later = A.later;
        ms = A.older;
        left = subst (λ l. AreLeft start l (devices_of_seen new)) A.moments R.2.left;
        each = each commands outcomes told start (called_behind start ms) R.2.later A;
      });
  put = λ words text front middle behind us ts rs told name bytes own p start ms old new end I some many leaves asks.
      (let commands = middle ++ put_of front name bytes own p in
      let outcomes = ts ++ Ended Put ∷ Begun p ∷ us in
      let R = read words text (behind ++ Once Names ∷ commands) (rs ++ Listed told ∷ outcomes) start ms old new end I in
      put-listed front middle us ts told name start ms R.2.later bytes own p
      (apart behind commands R.0 rs outcomes told start ms new end R.1 R.2 some) many leaves asks);
  drop = λ words text front middle behind us ts rs told name d start ms old new end I some many leaves asks.
      (let commands = middle ++ done_by (Begin (DropJob name)) d front in
      let outcomes = ts ++ Ended Dropped ∷ Begun d ∷ us in
      let R = read words text (behind ++ Once Names ∷ commands) (rs ++ Listed told ∷ outcomes) start ms old new end I in
      drop-listed front middle us ts told name start ms R.2.later d
      (apart behind commands R.0 rs outcomes told start ms new end R.1 R.2 some) many leaves asks);
  none = λ words text commands behind outcomes rs told name start ms old new end I some none before.
      (let R = read words text (behind ++ Once Names ∷ commands) (rs ++ Listed told ∷ outcomes) start ms old new end I in
      unput-listed commands outcomes told name start ms R.2.later
      (apart behind commands R.0 rs outcomes told start ms new end R.1 R.2 some) none before);
})

use Rattle.std.proofs.Common.{reverse}
use Rattle.stories.proofs.Told.{was-told}
use Rattle.stories.proofs.texts.told_replays_are_read.Goals as goal

pub returns : goal.returns
returns c = λ words text commands outcomes start ms old new end I. was-told commands outcomes start ms old new
    end I.taken (c.replays_go_on.ensures words text (reverse commands) start ms old new end I.answers I.form
    I.source I.spells I.done I.disk I.left) I.none_calls I.before I.behind I.as_many I.told

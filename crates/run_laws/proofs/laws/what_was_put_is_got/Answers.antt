use Rattle.run_laws.proofs.ByEvents.{put_is_got_later}
use Rattle.run_laws.proofs.laws.what_was_put_is_got.Goals as goal

pub returns : goal.returns
returns c = put_is_got_later

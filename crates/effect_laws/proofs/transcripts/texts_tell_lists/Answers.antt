use Rattle.effect_laws.proofs.Lists.{whole, lists}
use Rattle.effect_laws.proofs.transcripts.texts_tell_lists.Goals as goal

pub returns : goal.returns
returns c = record { whole = whole; lists = lists }

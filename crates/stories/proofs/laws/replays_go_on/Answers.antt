use Rattle.hail_replay.specs.declared.forms.Form.TheVariants as forms
use Rattle.stories.proofs.Went.{went-on}
use Rattle.stories.proofs.laws.replays_go_on.Goals as goal

pub returns : goal.returns
returns c = λ words text commands start ms old new end answers form source spells ok told left. went-on text
    commands start ms old new end source spells ok told left (answers.carries forms.Replay form)

use Rattle.command_words.proofs.Spelled.{IsForm-once}
use Rattle.command_words.proofs.laws.words_spell_one_command.Goals as goal

pub returns : goal.returns
returns c = IsForm-once

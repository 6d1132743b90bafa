use Rattle.command_defs.proofs.Keys.{IsKeyForm-once}
use Rattle.command_words.proofs.laws.text_spells_one_key.Goals as goal

pub returns : goal.returns
returns c = IsKeyForm-once

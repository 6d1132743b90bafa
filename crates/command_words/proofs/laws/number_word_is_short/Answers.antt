use Rattle.command_words.proofs.WordLaws.{length-number_word}
use Rattle.command_words.proofs.laws.number_word_is_short.Goals as goal

pub returns : goal.returns
returns c = length-number_word

use Rattle.command_words.proofs.RowWords.{counted-symbols}
use Rattle.command_words.proofs.row.read_count.Goals as goal

pub returns : goal.returns
returns c = counted-symbols (λ symbols. symbols.items) c.args.count c.args.words.now c.read_symbols.result
    c.if-words-count.false c.read_symbols.ensures

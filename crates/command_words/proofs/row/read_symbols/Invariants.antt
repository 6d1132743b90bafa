use Rattle.std.proofs.Common.{take}
use Rattle.command_defs.specs.Words.{AreSymbolWords}
use Rattle.command_words.proofs.row.read_symbols.Given as goal

-- the words so far spell the symbols so far
abbrev pub invariant-loop-word : goal.invariant-loop-word
invariant-loop-word l = AreSymbolWords (take l.word-index l.words) l.symbols.items

use Rattle.std.proofs.Common.{ℕ, List, ◌∷◌, ◌++◌, [], sym, subst, take, ◌∙◌, ap}
use Rattle.std.proofs.lemmas.List.{take_more}
use Rattle.command_defs.specs.Words.{IsSymbolWord}
use Rattle.command_words.proofs.RowWords.{Word, AreSymbolWords-push, AreSymbolWords-at}
use Rattle.command_words.proofs.row.read_symbols.Goals as goal

-- the word that was refused spells no symbol
pub returns-in_default : goal.returns-in_default
returns-in_default c symbols all =
    let one = AreSymbolWords-at c.args.words.now symbols c.loop-word.word-index c.word-item.result all
    c.loop-word-test.true c.word-item.is in
    c.in_default.ensures one.0
    (subst (λ (text : List ℕ). IsSymbolWord text one.0) (sym c.as_str.ensures.value) one.1)

-- the word that was read spells the symbol that was pushed
pub loop-word-preserved : goal.loop-word-preserved
loop-word-preserved c =
    let words = c.args.words.now in
    let i = c.loop-word.word-index in
    let here = subst (λ (text : List ℕ). IsSymbolWord text c.in-Some.symbol) c.as_str.ensures.value
    c.in-Some.ensures in
    let more = AreSymbolWords-push (take i words) c.loop-word.symbols.items c.word-item.result
    c.in-Some.symbol c.loop-word.invariant here in
    let longer = take_more words i c.word-item.result c.loop-word-test.true
    ∙ ap (λ (word : Word). take i words ++ word ∷ []) (sym c.word-item.is) in
    rw (longer, c.in_ok-push.ensures.items) more

use Rattle.std.proofs.Common.{◌≡◌, List, subst, sym, ap, ◌∙◌, arith, take, drop, length, length-drop}
use Rattle.std.proofs.lemmas.List.{take_all}
use Rattle.std.proofs.lemmas.Option.{MatchOption-at_some}
use Rattle.command_defs.specs.Words.{AreSymbolWords}
use Rattle.command_words.proofs.RowWords.{Word, IsRowForm-from_parts, same_from_ne, spelled_by}
use Rattle.command_words.proofs.row.read_row.Goals as goal

-- each part of the words was read
pub returns-clause-found : goal.returns-clause-found
returns-clause-found c =
    let words = c.args.words.now in
    let parts = c.in-Some.ensures in
    let found = MatchOption-at_some _ _ c.in-Some-2.seen c.in-Some-2.is c.in_ok-seen.ensures in
    let behind : take _ (drop 4 words) ≡ drop 4 words =
    take_all _ (drop 4 words) (omega (arith, length-drop 4 words)) in
    let symbols = subst (λ (texts : List Word). AreSymbolWords texts c.in-Some-2.seen.items) behind found.1 in
    let count = ap length (sym behind) ∙ found.0 in
    IsRowForm-from_parts words c.command-item.result c.n-item.result c.l-item.result c.b-item.result _ _ _ _
    c.in-len4-up.len_at_least c.command-item.is c.n-item.is c.l-item.is c.b-item.is
    (sym c.as_str.ensures.value ∙ same_from_ne _ _ c.if-ne.ensures)
    (spelled_by (sym c.as_str-2.ensures.value) parts.0) (spelled_by (sym c.as_str-3.ensures.value) parts.1)
    (spelled_by (sym c.as_str-4.ensures.value) parts.2) count symbols

use Rattle.journal_pack.proofs.Words.{◌≡◌, take, entries, newest_first}
use Rattle.journal_pack.proofs.pack.make_text.Given as goal

abbrev pub invariant-loop-entry : goal.invariant-loop-entry
invariant-loop-entry l = l.text.items ≡ entries (newest_first (take l.entry-index l.records))

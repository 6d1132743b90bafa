use Rattle.std.proofs.Common.{◌≡◌, ℕ, List, [], ◌∷◌, ◌++◌, length, take, ap, sym, ◌∙◌, arith, length-take}
use Rattle.record_defs.proofs.Sizes.{length-spelling}
use Rattle.journal_core.proofs.JournalLemmas.{body_made}
use Rattle.journal_core.proofs.append.Append.new.Goals as goal

pub write-n-requires : goal.write-n-requires
write-n-requires c = c.requires.in_grammar

pub returns-clause-body : goal.returns-clause-body
returns-clause-body c =
    let n = c.write-n.result in
    let out = c.write-n.new.out in
    let len : length (take n out) ≡ n = ap length c.write-n.ensures.bytes
    ∙ length-spelling _ c.requires.in_grammar.spelled ∙ sym c.write-n.ensures.size in
    body_made (take n out) c.copy_front.new.all n
    (omega (arith, length-take n out, len, c.write-n.array_long)) (omega arith) c.copy_front.ensures
    ∙ ap (λ (l : List ℕ). l ++ (0 ∷ [])) c.write-n.ensures.bytes

use Rattle.std.proofs.Common.{◌+◌, ℕ, ap, ◌∙◌}
use Rattle.journal_pack.proofs.Packs.{size-first, size-second}
use Rattle.journal_pack.proofs.pack.Pack.size.Goals as goal

pub returns-then-self-eq-FIRST_BASE : goal.returns-then-self-eq-FIRST_BASE
returns-then-self-eq-FIRST_BASE c = λ area qs spelled w.
    ap (λ (k : ℕ). 8 + k) (c.len.ensures ∙ c.args.self.now.text.ok.0)
    ∙ size-first area qs c.args.self.now spelled w c.if-self-eq-FIRST_BASE.true

pub returns-else-self-eq-FIRST_BASE : goal.returns-else-self-eq-FIRST_BASE
returns-else-self-eq-FIRST_BASE c = λ area qs spelled w.
    c.len-else-self-eq-FIRST_BASE.ensures ∙ c.args.self.now.text.ok.0
    ∙ size-second area qs c.args.self.now spelled w c.if-self-eq-FIRST_BASE.false

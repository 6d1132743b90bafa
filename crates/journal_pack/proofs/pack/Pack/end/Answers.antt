use Rattle.journal_pack.proofs.Words.{◌+◌, ℕ, ap, ◌∙◌, to_of}
use Rattle.journal_pack.proofs.Packs.{end-is}
use Rattle.journal_pack.proofs.pack.Pack.end.Goals as goal

pub returns-clause-value : goal.returns-clause-value
returns-clause-value c = λ area qs spelled w.
    ap (λ (k : ℕ). to_of c.args.self.now + k) (c.len.ensures ∙ c.args.self.now.text.ok.0)
    ∙ end-is area qs c.args.self.now spelled w

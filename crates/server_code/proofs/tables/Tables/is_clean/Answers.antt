use Rattle.server_code.proofs.Words.{OnTrue_from, plain_profile}
use Rattle.server_code.proofs.Checks.{codeword_opens}
use Rattle.server_code.proofs.tables.Tables.is_clean.Goals as goal

pub returns : goal.returns
returns c = OnTrue_from c.is_codeword.result _ (λ yes. codeword_opens (plain_profile c.args.self.now.profile)
    c.args.block.now (c.is_codeword.ensures.0 yes))

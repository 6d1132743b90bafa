use Rattle.provider_model.proofs.Places.{taken}
use Rattle.provider_model.proofs.held.HeldBlocks.take_block.Goals as goal

pub returns-clause-held : goal.returns-clause-held
returns-clause-held c =
    taken (λ b. b.items) c.args.self.now.blocks.entries c.remove.new.self.entries c.args.object c.args.stripe
    c.is_some.result c.remove.result c.is_some.ensures c.remove.ensures.unchanged c.remove.ensures.updates.0

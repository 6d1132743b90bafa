use Rattle.journal_core.proofs.Turning.{beyond-turn}
use Rattle.journal_core.proofs.append.Append.turn.Goals as goal

pub returns-clause-beyond : goal.returns-clause-beyond
returns-clause-beyond g c = beyond-turn c.args.self.now c.make_move.result _ _ c.make_move.ensures.disk

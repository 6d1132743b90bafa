use Rattle.std.proofs.Common.{◌∙◌, ap, sym, Some}
use Rattle.vault_core.proofs.Rests.{first_calling, first_working, first_rewriting, first_removing, first_ending, first_opening, first_closing}
use Rattle.vault_core.proofs.job.Job.action.Goals as goal

pub returns-in-Calling-clause-value : goal.returns-in-Calling-clause-value
returns-in-Calling-clause-value c = λ n kept. first_calling n c.args.self.now c.in-Calling.spot
    c.in-Calling.provider c.in-Calling.is kept.within ∙ ap Some (sym c.call.ensures)

pub returns-in-Working-clause-value : goal.returns-in-Working-clause-value
returns-in-Working-clause-value c =
    λ n kept. first_working n c.args.self.now c.in-Working.spot c.in-Working.is kept.comes

pub returns-in-Rewriting-clause-value : goal.returns-in-Rewriting-clause-value
returns-in-Rewriting-clause-value c = λ n kept. first_rewriting n c.args.self.now c.in-Rewriting.spot
    c.in-Rewriting.provider c.in-Rewriting.is kept.within

pub returns-in-Removing-clause-value : goal.returns-in-Removing-clause-value
returns-in-Removing-clause-value c = λ n kept. first_removing n c.args.self.now c.in-Removing.object
    c.in-Removing.provider c.in-Removing.is kept.within

pub returns-in-Ending-clause-value : goal.returns-in-Ending-clause-value
returns-in-Ending-clause-value c = λ n kept. first_ending n c.args.self.now c.in-Ending.is

pub returns-in-Opening-clause-value : goal.returns-in-Opening-clause-value
returns-in-Opening-clause-value c =
    λ n kept. first_opening n c.args.self.now c.in-Opening.at _ _ c.in-Opening.is c.action.ensures

pub returns-in-Closing-clause-value : goal.returns-in-Closing-clause-value
returns-in-Closing-clause-value c =
    λ n kept. first_closing n c.args.self.now c.in-Closing.at _ _ c.in-Closing.is c.action-in-Closing.ensures

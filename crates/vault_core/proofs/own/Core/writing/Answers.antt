use Rattle.vault_core.proofs.Words.{◌≡◌, ap, true, subst, sym, action_next, is_move, core_job}
use Rattle.vault_core.proofs.Fits.{writing_room}
use Rattle.vault_core.proofs.own.Core.writing.Goals as goal
use Rattle.vault_core.proofs.NextMoves.{moves-job}

pub returns-clause-room : goal.returns-clause-room
returns-clause-room c = writing_room c.args.job c.entry_over.result (ap (λ v. v.table) (sym c.self.view_is))
    c.in_ok-running.ensures.reserves c.in_ok-running.ensures.kept c.in_ok-running.ensures.found
    (c.entry_over.ensures.value c.args.self.now.setup c.in_ok-running.ensures.kept)

pub returns-clause-there : goal.returns-clause-there
returns-clause-there c = λ moves. c.entry_over.ensures.there c.args.self.now.setup
    c.in_ok-running.ensures.kept (subst
    (λ v. is_move (action_next c.args.self.now.setup v.table (core_job c.in_ok-running.running.now)) ≡ true)
    (sym c.self.view_is) (moves-job c.args.self.now c.args.job _ (sym c.in_ok-running.ensures.found) moves))

pub returns-clause-in_grammar : goal.returns-clause-in_grammar
returns-clause-in_grammar c = c.entry_over.ensures.in_grammar c.args.self.now.setup.n
    c.in_ok-running.ensures.providers.0 c.in_ok-running.ensures.providers.1
    c.in_ok-running.ensures.kept.steady.stays

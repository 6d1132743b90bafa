use Rattle.vault_core.proofs.Words.{sym}
use Rattle.vault_core.proofs.Rests.{at_along, opened_on, opened, closed_on, closed, removed_on, removed, rest_calling, rest_working, rest_rewriting}
use Rattle.vault_core.proofs.job.Job.after.Goals as goal

pub returns-in-Some : goal.returns-in-Some
returns-in-Some c = opened_on c.args.providers c.args.self.now c.in-Opening.at c.in-Some.at c.in-Opening.is
    c.requires.kept.comes c.in-Some.ensures

pub returns-in-None : goal.returns-in-None
returns-in-None c = opened c.args.providers c.args.self.now c.in-Opening.at c.task_at.result c.in-Opening.is
    c.in-None.ensures (c.task_at.ensures c.args.providers c.requires.some c.requires.kept.stays)

pub returns-in-Calling : goal.returns-in-Calling
returns-in-Calling c = at_along (sym (rest_calling c.args.providers c.args.self.now c.in-Calling.spot
    c.in-Calling.provider c.in-Calling.is c.requires.kept.within)) c.call_after.ensures

pub returns-in-Working : goal.returns-in-Working
returns-in-Working c = at_along (sym (rest_working c.args.providers c.args.self.now c.in-Working.spot
    c.in-Working.is (rw c.in-Working.is at c.requires.kept.comes))) c.work_after.ensures

pub returns-in-Rewriting : goal.returns-in-Rewriting
returns-in-Rewriting c = at_along (sym (rest_rewriting c.args.providers c.args.self.now c.in-Rewriting.spot
    c.in-Rewriting.provider c.in-Rewriting.is c.requires.kept.within)) c.rewrites_after.ensures

pub returns-in-Some-next : goal.returns-in-Some-next
returns-in-Some-next c = closed_on c.args.providers c.args.self.now c.in-Closing.at c.in-Some-next.at
    c.in-Closing.is c.requires.kept.comes c.in-Some-next.ensures

pub returns-in-None-next : goal.returns-in-None-next
returns-in-None-next c =
    closed c.args.providers c.args.self.now c.in-Closing.at c.in-Closing.is c.in-None-next.ensures

pub returns-then-provider-providers : goal.returns-then-provider-providers
returns-then-provider-providers c =
    removed_on c.args.providers c.args.self.now c.in-Removing.object c.in-Removing.provider c.in-Removing.is
    c.requires.kept.comes c.requires.kept.within c.if-provider-providers.true

pub returns-else-provider-providers : goal.returns-else-provider-providers
returns-else-provider-providers c = removed c.args.providers c.args.self.now c.in-Removing.object
    c.in-Removing.provider c.in-Removing.is c.requires.kept.within c.if-provider-providers.false

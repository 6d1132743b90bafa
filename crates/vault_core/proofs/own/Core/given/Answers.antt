use Rattle.vault_core.proofs.Words.{rules, slice_get_within}
use Rattle.vault_core.proofs.Waiting.{may-close, may-tell, few-stripes, takes-more, takes-last}
use Rattle.vault_core.proofs.own.Core.given.Goals as goal

pub close-requires-clause-within : goal.close-requires-clause-within
close-requires-clause-within c = slice_get_within c.args.self.now.jobs c.waiting-place.result.0
    c.waiting-place.ensures.job c.waiting-place.ensures.here

pub close-requires-clause-ends : goal.close-requires-clause-ends
close-requires-clause-ends c = may-close c.args.length c.args.last c.waiting-place.ensures c.requires.length
    c.if-last.true

pub overflow_add-stripes : goal.overflow_add-stripes
overflow_add-stripes c = let l = few-stripes c.args.length c.args.last c.waiting-place.ensures
    c.requires.length c.if-last.false in search rules

pub tell-requires-clause-within : goal.tell-requires-clause-within
tell-requires-clause-within c = slice_get_within c.args.self.now.jobs c.waiting-place.result.0
    c.waiting-place.ensures.job c.waiting-place.ensures.here

pub tell-requires-clause-told : goal.tell-requires-clause-told
tell-requires-clause-told c = may-tell c.args.length c.args.last c.waiting-place.ensures c.requires.length
    c.if-last.false

pub returns-then-last : goal.returns-then-last
returns-then-last c = takes-last c.args.length c.args.last c.waiting-place.ensures c.requires.length
    c.close.new.self c.if-last.true c.close.ensures.moved c.close.ensures.left

pub returns-else-last : goal.returns-else-last
returns-else-last c = takes-more c.args.length c.args.last c.waiting-place.ensures c.requires.length
    c.tell.new.self c.if-last.false c.tell.ensures

use Rattle.std.proofs.Common.{rules, ◌+◌, ◌≤◌, length}
use Rattle.hail_top.proofs.Taken.{more-taken}
use Rattle.hail_top.proofs.reading.read_up_to.Goals as goal

pub returns-in_err-extend_from_slice-clause-at_most : goal.returns-in_err-extend_from_slice-clause-at_most
returns-in_err-extend_from_slice-clause-at_most g c =
    (let few : length c.loop-piece.bytes.items + c.in_ok-count.count ≤ c.args.most = search rules in
    more-taken c.args.most c.in_ok-count.count _ _ _ c.loop-piece.bytes.items c.read.new.out
    c.loop-piece.invariant.front c.in_ok-count.ensures.given few)

use Rattle.provider_wire.proofs.Words.{◌+◌, List, ℕ, ap, ◌∙◌, subst, le_trans, arith, take_rest, told_then, TakesFront, request_of}
use Rattle.provider_wire.proofs.Served.{serves_none, serves_more, serves_part, if_err, no_value, within_rest, nearer, short_rest}
use Rattle.provider_wire.proofs.Causes.{no_fault, not_failed}
use Rattle.provider_wire.proofs.server.serve_front.Goals as goal

pub loop-request-init : goal.loop-request-init
loop-request-init g c = record { within = omega arith; so_far = serves_none _ _; count = omega arith }

pub slice_bounds-read-count : goal.slice_bounds-read-count
slice_bounds-read-count g c = c.loop-request.invariant.within

pub answer-answer-requires : goal.answer-answer-requires
answer-answer-requires g c = c.in-Some.ensures.found.is_request

pub loop-request-smaller : goal.loop-request-smaller
loop-request-smaller g c =
    nearer c.args.bytes.now c.loop-request.at c.in-Some.size c.in-Some.ensures.size c.in-Some.ensures.some

pub loop-request-preserved : goal.loop-request-preserved
loop-request-preserved g c =
    let bytes = c.args.bytes.now in
    let at = c.loop-request.at in
    let size = c.in-Some.size in
    let inv = c.loop-request.invariant in
    record {
      within = within_rest bytes at size inv.within c.in-Some.ensures.size;
      so_far = serves_more bytes at size (request_of c.in-Some.request) _ _ _ _ _ _ c.answer-answer.result
          inv.so_far (rw (take_rest bytes at) at c.in-Some.ensures.found) c.answer-answer.ensures
          (c.in_ok-write_all.ensures.ok
          ∙ ap (told_then (g.K.Sink.written c.loop-request.sink)) c.as_slice-bytes.ensures);
      count = le_trans inv.count c.write_all.ensures.cause.never_falls;
    }

-- a write that did nothing

pub returns-in_err-write_all-clause-within : goal.returns-in_err-write_all-clause-within
returns-in_err-write_all-clause-within g c = no_value _ _ c.from_residual.ensures.0

pub returns-in_err-write_all-clause-ok : goal.returns-in_err-write_all-clause-ok
returns-in_err-write_all-clause-ok g c = no_value _ _ c.from_residual.ensures.0

pub returns-in_err-write_all-clause-none : goal.returns-in_err-write_all-clause-none
returns-in_err-write_all-clause-none g c = no_value _ _ c.from_residual.ensures.0

pub returns-in_err-write_all-clause-short : goal.returns-in_err-write_all-clause-short
returns-in_err-write_all-clause-short g c = no_value _ _ c.from_residual.ensures.0

pub returns-in_err-write_all-clause-err : goal.returns-in_err-write_all-clause-err
returns-in_err-write_all-clause-err g c =
    let bytes = c.args.bytes.now in
    let at = c.loop-request.at in
    let size = c.in-Some.size in
    let inv = c.loop-request.invariant in
    if_err c.from_residual.result _ (
      at + size,
      within_rest bytes at size inv.within c.in-Some.ensures.size,
      serves_part bytes at size (request_of c.in-Some.request) _ _ _ _ _ _ c.answer-answer.result inv.so_far
          (rw (take_rest bytes at) at c.in-Some.ensures.found) c.answer-answer.ensures
          (subst (λ (l : List ℕ). TakesFront (g.K.Sink.written c.loop-request.sink)
          (g.K.Sink.written c.write_all.new.sink) l) c.as_slice-bytes.ensures c.in_err-write_all.ensures.err),
    )

-- no request is there

pub returns-clause-within : goal.returns-clause-within
returns-clause-within g c = c.loop-request.invariant.within

pub returns-clause-ok : goal.returns-clause-ok
returns-clause-ok g c = c.loop-request.invariant.so_far

pub returns-clause-none : goal.returns-clause-none
returns-clause-none g c = rw (take_rest c.args.bytes.now c.loop-request.at) at c.in_default.ensures.none

pub returns-clause-short : goal.returns-clause-short
returns-clause-short g c = short_rest c.args.bytes.now c.loop-request.at c.in_default.ensures.short

pub returns-clause-cause : goal.returns-clause-cause
returns-clause-cause g c = no_fault c.loop-request.invariant.count (not_failed _)

use Rattle.provider_wire.proofs.Words.{◌≡◌, ◌++◌, ℕ, List, [], length, drop, sym, ap, ◌∙◌, arith, take-append-drop, length-drop, IfNone, append-nil, request_bytes, request_of}
use Rattle.std.specs.Prelude.{Option, Some, None}
use Rattle.provider_wire.proofs.Takes.{one_front}
use Rattle.provider_wire.proofs.loop_link.whole.Goals as goal

if_none : {A : Type 0} (o : Option A) (P : Type 0) → P → IfNone o P
if_none None P p = p
if_none (Some x) P p = tt

pub returns-in_err-request-clause-none : goal.returns-in_err-request-clause-none
returns-in_err-request-clause-none c = if_none c.from_residual.result _
    (λ r s. c.in_err-request.ensures.none r c.args.bytes.now [] s (sym (append-nil c.args.bytes.now)))

pub returns-else-size-bytes-clause-none : goal.returns-else-size-bytes-clause-none
returns-else-size-bytes-clause-none c = λ r s.
    let bytes = c.args.bytes.now in
    let size = c.in_ok-request.size in
    let found = c.in_ok-request.ensures.found in
    let parts : request_bytes (request_of c.in_ok-request.request) ++ drop size bytes
    ≡ request_bytes r ++ [] = ap (λ (l : List ℕ). l ++ drop size bytes) (sym found.bytes_are)
    ∙ take-append-drop size bytes ∙ s.bytes_are ∙ sym (append-nil (request_bytes r)) in
    let same = one_front (request_of c.in_ok-request.request) r (drop size bytes)
    [] found.is_request s.is_request parts in
    let none : length (drop size bytes) ≡ 0 = ap length same.1 in
    absurd (omega (arith, none, length-drop size bytes, c.in_ok-request.ensures.size, c.if-size-bytes.false))

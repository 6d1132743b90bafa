use Rattle.provider_wire.proofs.Words.{◌≡◌, ◌-◌, [], take, drop, false, refl, sym, ap, ◌∙◌, subst, le_trans, arith, take_rest, SpellsNoRequest, is_bad_request}
use Rattle.provider_wire.proofs.Progress.{starts, nothing_spells, source_failed, read_fits, waited_before, beyond_waits, bytes_size, front_waits, front_is_there, rest_was_read, finished_at, stopped_at, write_failed, went_on, bad_at, too_long, rest_waits, rest_is_short}
use Rattle.provider_wire.proofs.Causes.{no_fault, last_part, after_is_no_source_fault, sink_failed}
use Rattle.provider_wire.proofs.server.serve_all.Goals as goal

pub loop-count-init : goal.loop-count-init
loop-count-init g c =
    let none : c.args.window.now ≡ [] = c.requires in
    record {
      so_far = rw none (starts _ _ _);
      within = omega arith;
      none = subst SpellsNoRequest (sym none) nothing_spells;
      fine = ap is_bad_request none;
      short = rw none (omega arith);
      source_count = omega arith;
      sink_count = omega arith;
    }

-- sizes, in the order of the code

pub overflow_add-fill : goal.overflow_add-fill
overflow_add-fill g c = record { fits = omega arith }

pub overflow_sub-taken : goal.overflow_sub-taken
overflow_sub-taken g c = omega (arith, c.loop-count.invariant.within)

pub overflow_sub-result : goal.overflow_sub-result
overflow_sub-result g c =
    let inv = c.loop-count.invariant in
    waited_before _ inv.so_far c.in-Ok.ensures.given inv.within c.len-waiting.ensures c.if-count-eq0.true

pub overflow_add-taken : goal.overflow_add-taken
overflow_add-taken g c =
    let inv = c.loop-count.invariant in
    read_fits _ inv.so_far c.in-Ok.ensures.given inv.within c.len-waiting.ensures

pub overflow_sub-within : goal.overflow_sub-within
overflow_sub-within g c =
    let inv = c.loop-count.invariant in
    beyond_waits _ inv.so_far c.in-Ok.ensures.given inv.within c.len-waiting.ensures c.saturating_sub.ensures

pub slice_bounds-bytes-end : goal.slice_bounds-bytes-end
slice_bounds-bytes-end g c =
    let inv = c.loop-count.invariant in
    bytes_size _ inv.so_far c.in-Ok.ensures.given inv.within c.len-waiting.ensures c.saturating_sub.ensures
    c.as_slice.ensures

pub slice_bounds-is_bad-count : goal.slice_bounds-is_bad-count
slice_bounds-is_bad-count g c = c.in-Ok-serve_front.ensures.within

pub overflow_sub-result-then-is_bad : goal.overflow_sub-result-then-is_bad
overflow_sub-result-then-is_bad g c =
    let inv = c.loop-count.invariant in
    front_waits _ inv.so_far c.in-Ok.ensures.given inv.within c.len-waiting.ensures c.saturating_sub.ensures
    c.as_slice.ensures c.in-Ok-serve_front.ensures.within

pub overflow_sub-result-then-is_bad-2 : goal.overflow_sub-result-then-is_bad-2
overflow_sub-result-then-is_bad-2 g c =
    let inv = c.loop-count.invariant in
    rest_was_read _ inv.so_far c.in-Ok.ensures.given inv.within c.len-waiting.ensures c.saturating_sub.ensures
    c.as_slice.ensures c.in-Ok-serve_front.done

pub skip-requires : goal.skip-requires
skip-requires g c =
    let inv = c.loop-count.invariant in
    front_is_there _ inv.so_far c.in-Ok.ensures.given inv.within c.len-waiting.ensures
    c.saturating_sub.ensures c.as_slice.ensures c.in-Ok-serve_front.ensures.within

pub loop-count-smaller : goal.loop-count-smaller
loop-count-smaller g c = omega (arith, c.loop-count.invariant.within, c.if-count-eq0.false)

-- what was served at each end

pub returns-in-Err-clause-served : goal.returns-in-Err-clause-served
returns-in-Err-clause-served g c =
    let inv = c.loop-count.invariant in
    source_failed inv.so_far _ c.in-Err.ensures.err inv.within inv.none inv.fine

pub returns-then-waiting-eq0-clause-served : goal.returns-then-waiting-eq0-clause-served
returns-then-waiting-eq0-clause-served g c =
    let inv = c.loop-count.invariant in
    let told = c.in-Ok.ensures in
    finished_at _ inv.so_far told.given inv.within c.len-waiting.ensures c.if-count-eq0.true told.end
    inv.short c.if-waiting-eq0.true

pub returns-then-count-eq0-clause-served : goal.returns-then-count-eq0-clause-served
returns-then-count-eq0-clause-served g c =
    let inv = c.loop-count.invariant in
    let told = c.in-Ok.ensures in
    stopped_at _ inv.so_far told.given inv.within c.len-waiting.ensures c.if-count-eq0.true told.end inv.short
    inv.none c.if-waiting-eq0.false

pub returns-in-Err-serve_front-clause-served : goal.returns-in-Err-serve_front-clause-served
returns-in-Err-serve_front-clause-served g c =
    let inv = c.loop-count.invariant in
    write_failed _ inv.so_far c.in-Ok.ensures.given inv.within c.len-waiting.ensures c.saturating_sub.ensures
    c.as_slice.ensures c.in-Err-serve_front.fault c.fault_end.result c.fault_end.ensures
    c.in-Err-serve_front.ensures.err

pub returns-then-is_bad-clause-served : goal.returns-then-is_bad-clause-served
returns-then-is_bad-clause-served g c =
    let inv = c.loop-count.invariant in
    let served = c.in-Ok-serve_front.ensures in
    let bytes = take (c.len-waiting.result - c.saturating_sub.result) c.as_slice.result.now in
    bad_at _ inv.so_far c.in-Ok.ensures.given inv.within c.len-waiting.ensures c.saturating_sub.ensures
    c.as_slice.ensures served.within served.ok
    (ap is_bad_request (sym (take_rest bytes c.in-Ok-serve_front.done)) ∙ sym c.is_bad.ensures
    ∙ c.if-is_bad.true)

pub returns-then-taken-gt-MOST-clause-served : goal.returns-then-taken-gt-MOST-clause-served
returns-then-taken-gt-MOST-clause-served g c =
    let inv = c.loop-count.invariant in
    let served = c.in-Ok-serve_front.ensures in
    let bytes = take (c.len-waiting.result - c.saturating_sub.result) c.as_slice.result.now in
    too_long _ inv.so_far c.in-Ok.ensures.given inv.within c.len-waiting.ensures c.saturating_sub.ensures
    c.as_slice.ensures served.within served.ok c.if-taken-gt-MOST.true served.none
    (ap is_bad_request (sym (take_rest bytes c.in-Ok-serve_front.done)) ∙ sym c.is_bad.ensures
    ∙ c.if-is_bad.false)

pub loop-count-preserved : goal.loop-count-preserved
loop-count-preserved g c =
    let inv = c.loop-count.invariant in
    let given = c.in-Ok.ensures.given in
    let served = c.in-Ok-serve_front.ensures in
    let done = c.in-Ok-serve_front.done in
    let bytes = take (c.len-waiting.result - c.saturating_sub.result) c.as_slice.result.now in
    let few = c.if-taken-gt-MOST.false in
    let fine : is_bad_request (drop done bytes) ≡ false = ap is_bad_request (sym (take_rest bytes done))
    ∙ sym c.is_bad.ensures ∙ c.if-is_bad.false in
    let rest : drop done bytes ≡ c.skip.new.self =
    rest_waits _ inv.so_far given inv.within c.len-waiting.ensures c.saturating_sub.ensures c.as_slice.ensures
    served.within served.ok few ∙ sym c.skip.ensures in
    record {
      so_far = rw c.skip.ensures (went_on _ inv.so_far given inv.within c.len-waiting.ensures
          c.saturating_sub.ensures c.as_slice.ensures served.within served.ok);
      within = few;
      none = subst SpellsNoRequest rest served.none;
      fine = ap is_bad_request (sym rest) ∙ fine;
      short = rest_is_short bytes c.skip.new.self done rest (served.short fine);
      source_count = le_trans inv.source_count c.fill.ensures.cause.never_falls;
      sink_count = le_trans inv.sink_count c.serve_front.ensures.cause.never_falls;
    }

-- the counts of faults at each end

pub returns-in-Err-clause-source : goal.returns-in-Err-clause-source
returns-in-Err-clause-source g c =
    last_part c.loop-count.invariant.source_count c.in-Err.ensures.cause (λ _. refl)

pub returns-in-Err-clause-sink : goal.returns-in-Err-clause-sink
returns-in-Err-clause-sink g c = no_fault c.loop-count.invariant.sink_count (λ e. cc e)

pub returns-then-waiting-eq0-clause-source : goal.returns-then-waiting-eq0-clause-source
returns-then-waiting-eq0-clause-source g c =
    no_fault (le_trans c.loop-count.invariant.source_count c.fill.ensures.cause.never_falls) (λ e. cc e)

pub returns-then-waiting-eq0-clause-sink : goal.returns-then-waiting-eq0-clause-sink
returns-then-waiting-eq0-clause-sink g c = no_fault c.loop-count.invariant.sink_count (λ e. cc e)

pub returns-then-count-eq0-clause-source : goal.returns-then-count-eq0-clause-source
returns-then-count-eq0-clause-source g c =
    no_fault (le_trans c.loop-count.invariant.source_count c.fill.ensures.cause.never_falls) (λ e. cc e)

pub returns-then-count-eq0-clause-sink : goal.returns-then-count-eq0-clause-sink
returns-then-count-eq0-clause-sink g c = no_fault c.loop-count.invariant.sink_count (λ e. cc e)

pub returns-in-Err-serve_front-clause-source : goal.returns-in-Err-serve_front-clause-source
returns-in-Err-serve_front-clause-source g c =
    no_fault (le_trans c.loop-count.invariant.source_count c.fill.ensures.cause.never_falls)
    (after_is_no_source_fault c.in-Err-serve_front.fault c.fault_end.result c.fault_end.ensures)

pub returns-in-Err-serve_front-clause-sink : goal.returns-in-Err-serve_front-clause-sink
returns-in-Err-serve_front-clause-sink g c =
    last_part c.loop-count.invariant.sink_count c.in-Err-serve_front.ensures.cause
    (sink_failed c.in-Err-serve_front.fault c.fault_end.result c.fault_end.ensures)

pub returns-then-is_bad-clause-source : goal.returns-then-is_bad-clause-source
returns-then-is_bad-clause-source g c =
    no_fault (le_trans c.loop-count.invariant.source_count c.fill.ensures.cause.never_falls) (λ e. cc e)

pub returns-then-is_bad-clause-sink : goal.returns-then-is_bad-clause-sink
returns-then-is_bad-clause-sink g c =
    no_fault (le_trans c.loop-count.invariant.sink_count c.serve_front.ensures.cause.never_falls) (λ e. cc e)

pub returns-then-taken-gt-MOST-clause-source : goal.returns-then-taken-gt-MOST-clause-source
returns-then-taken-gt-MOST-clause-source g c =
    no_fault (le_trans c.loop-count.invariant.source_count c.fill.ensures.cause.never_falls) (λ e. cc e)

pub returns-then-taken-gt-MOST-clause-sink : goal.returns-then-taken-gt-MOST-clause-sink
returns-then-taken-gt-MOST-clause-sink g c =
    no_fault (le_trans c.loop-count.invariant.sink_count c.serve_front.ensures.cause.never_falls) (λ e. cc e)

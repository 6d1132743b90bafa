use Rattle.std.proofs.lemmas.Result.{err_from_is_err_and}
use Rattle.file_layout.specs.Files.{shaped_object}
use Rattle.stripe_parts.proofs.SeenLaws.{gives_seen, loses_seen}
use Rattle.stripe_parts.proofs.opening.open_stripe.Goals as goal

pub returns-in_err-answer-clause-fault : goal.returns-in_err-answer-clause-fault
returns-in_err-answer-clause-fault c =
    let o = shaped_object c.args.master.now.0 c.args.file.now in
    let p = err_from_is_err_and c.from_residual-in_err-answer.result c.from_residual-in_err-answer.ensures.1 in
    let opened = rw (
      c.in_ok-bench.ensures.master,
      c.in_ok-bench.ensures.file,
      c.deref.ensures.value,
      c.deref-2.ensures.value,
      c.in_ok-symbols.ensures.blocks,
    ) at c.in_err-answer.ensures.opened in
    rw (p.1, p.2) (loses_seen o c.args.stripe c.args.seen.now _ opened)

pub returns-clause-given : goal.returns-clause-given
returns-clause-given c =
    let o = shaped_object c.args.master.now.0 c.args.file.now in
    let opened = rw (
      c.in_ok-bench.ensures.master,
      c.in_ok-bench.ensures.file,
      c.deref.ensures.value,
      c.deref-2.ensures.value,
      c.in_ok-symbols.ensures.blocks,
    ) at c.in_ok-answer.ensures.opened in
    rw (c.copy_from_slice.ensures.after, c.deref-3.ensures.value) (gives_seen o c.args.stripe c.args.seen.now _ opened)

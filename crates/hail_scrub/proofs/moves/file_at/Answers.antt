use Rattle.hail_scrub.proofs.Words.{refl, slice_get_read}
use Rattle.hail_scrub.proofs.Rests.{file_found, files_end}
use Rattle.hail_scrub.proofs.moves.file_at.Goals as goal

pub returns-in-Some-clause-at : goal.returns-in-Some-clause-at
returns-in-Some-clause-at c = λ off.
    let h = c.in-Some.ensures.lookup in
    file_found c.args.providers c.args.items.now off c.args.place c.in-Some.item.now c.requires
    (slice_get_read c.args.items.now _ c.args.place c.in-Some.item.now refl h.3.0 h.1)

pub returns-in-None-clause-at : goal.returns-in-None-clause-at
returns-in-None-clause-at c = λ off. files_end c.args.providers c.args.items.now off c.args.place
    c.in-None.ensures.lookup.3

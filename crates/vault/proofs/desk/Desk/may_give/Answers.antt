use Rattle.vault.proofs.Words.{ap, ◌∙◌, arith, is_some}
use Rattle.vault.proofs.JobPlaces.{item_at, place_within}
use Rattle.vault.proofs.Streams.{place_waits, size_there}
use Rattle.vault.proofs.desk.Desk.may_give.Goals as goal

pub place_of-place-requires : goal.place_of-place-requires
place_of-place-requires c = place_waits c.args.self.now c.args.job (ap is_some c.requires.wants) c.requires.at_work

pub index-requires : goal.index-requires
index-requires c =
    omega (arith, place_within c.args.self.now.jobs.items c.args.job _ c.place_of-place.ensures)

pub returns-clause-yes : goal.returns-clause-yes
returns-clause-yes c = λ yes. (rw (c.piece_size-size.ensures
    ∙ size_there c.args.self.now c.args.job c.args.stripe c.place_of-place.result c.index.result.now
    c.requires.wants c.place_of-place.ensures
    (item_at c.args.self.now.jobs.items c.args.job c.place_of-place.result c.index.result.now
    c.place_of-place.ensures c.index.ensures)
    c.requires.at_work) at (c.is_piece.ensures.yes yes))

pub returns-clause-no : goal.returns-clause-no
returns-clause-no c = λ no piece. c.is_piece.ensures.no no (rw (← (c.piece_size-size.ensures
    ∙ size_there c.args.self.now c.args.job c.args.stripe c.place_of-place.result c.index.result.now
    c.requires.wants c.place_of-place.ensures
    (item_at c.args.self.now.jobs.items c.args.job c.place_of-place.result c.index.result.now
    c.place_of-place.ensures c.index.ensures)
    c.requires.at_work)) at piece)

use Rattle.vault.proofs.Words.{◌≤◌, ℕ, ◌*◌, ◌+◌, Option, refl, sym, ap, subst, ◌∙◌, arith, largest_file, IsGivenLength, CoreJob, job_in, told_by, wants_in, stripe_by, IsPiece}
use Rattle.std.proofs.Common.{length}
use Rattle.vault.proofs.GivenStripes.{IsGiven, given_fitting, given_works, may_tell, piece_bound}
use Rattle.vault.proofs.JobPlaces.{item_at, place_within}
use Rattle.vault.proofs.Streams.{place_waits, size_there, streams_there, total_with}
use Rattle.vault.proofs.desk.Desk.give.Goals as goal

pub place_of-place-requires : goal.place_of-place-requires
place_of-place-requires c = place_waits c.args.self.now c.args.job c.requires.wants c.requires.at_work

pub index_mut-requires : goal.index_mut-requires
index_mut-requires c =
    omega (arith, place_within c.args.self.now.jobs.items c.args.job _ c.place_of-place.ensures)

pub take-size-requires : goal.take-size-requires
take-size-requires c = streams_there c.args.self.now c.args.job c.in-Some.stripe c.place_of-place.result
    c.index_mut.result.now (sym c.in-Some.ensures) c.place_of-place.ensures
    (item_at c.args.self.now.jobs.items c.args.job c.place_of-place.result c.index_mut.result.now
    c.place_of-place.ensures c.index_mut.ensures.value) c.requires.at_work

pub length_with-length-requires : goal.length_with-length-requires
length_with-length-requires c =
    subst (λ x. c.in-Some.stripe * x + length c.args.piece.now ≤ largest_file) (sym (c.take-size.ensures.size
    ∙ size_there c.args.self.now c.args.job c.in-Some.stripe c.place_of-place.result c.index_mut.result.now
    (sym c.in-Some.ensures) c.place_of-place.ensures
    (item_at c.args.self.now.jobs.items c.args.job c.place_of-place.result c.index_mut.result.now
    c.place_of-place.ensures c.index_mut.ensures.value)
    c.requires.at_work))
    (piece_bound _ c.in-Some.stripe (length c.args.piece.now) c.args.last
    (rw (← c.in-Some.ensures) at c.requires.piece))

pub given-requires-clause-length : goal.given-requires-clause-length
given-requires-clause-length c = λ j is.
    let total = (total_with c.args.self.now c.args.job c.in-Some.stripe c.place_of-place.result c.index_mut.result.now
    (sym c.in-Some.ensures) c.place_of-place.ensures
    (item_at c.args.self.now.jobs.items c.args.job c.place_of-place.result c.index_mut.result.now
    c.place_of-place.ensures c.index_mut.ensures.value)
    c.requires.at_work c.take-size.result c.length_with-length.result (length c.args.piece.now)
    c.take-size.ensures.size c.length_with-length.ensures) in
    subst (λ (o : Option CoreJob). IsGivenLength (stripe_by c.args.self.now.core.setup o)
    (wants_in c.args.self.now.core c.args.job) c.length_with-length.result c.args.last) is
    (subst (λ (o : Option ℕ). IsGivenLength (stripe_by c.args.self.now.core.setup
    (job_in c.args.self.now.core.jobs c.args.job)) o c.length_with-length.result c.args.last)
    c.in-Some.ensures
    (may_tell _ c.in-Some.stripe c.length_with-length.result (length c.args.piece.now) c.args.last total
    (subst (λ (o : Option ℕ). IsPiece (stripe_by c.args.self.now.core.setup
    (job_in c.args.self.now.core.jobs c.args.job)) o (length c.args.piece.now) c.args.last)
    (sym c.in-Some.ensures) c.requires.piece)))

pub given-requires-clause-wants : goal.given-requires-clause-wants
given-requires-clause-wants c = c.requires.wants

pub returns : goal.returns
returns c =
    let there = item_at c.args.self.now.jobs.items c.args.job c.place_of-place.result c.index_mut.result.now
    c.place_of-place.ensures c.index_mut.ensures.value in
    let given : IsGiven c.args.self.now _ c.args.job c.in-Some.stripe c.args.piece.now c.args.last = record {
      wants = sym c.in-Some.ensures;
      is_piece = rw (← c.in-Some.ensures) at c.requires.piece;
      place = c.place_of-place.result;
      old = c.index_mut.result.now;
      new = record { number = c.index_mut.result.now.number; task = c.take-size.new.self };
      at = c.place_of-place.ensures;
      there = there;
      number_is = refl;
      takes = c.take-size.ensures.taken;
      jobs = refl;
      keeps = record { setup = refl; master = refl; shape = refl; base = refl };
      flight = refl;
      total = c.length_with-length.result;
      total_is = total_with c.args.self.now c.args.job c.in-Some.stripe c.place_of-place.result
          c.index_mut.result.now (sym c.in-Some.ensures) c.place_of-place.ensures there
          c.requires.at_work c.take-size.result c.length_with-length.result (length c.args.piece.now)
          c.take-size.ensures.size c.length_with-length.ensures;
      stands = c.given.ensures.stands;
      more = c.given.ensures.more c.in-Some.stripe (sym c.in-Some.ensures);
      closed = c.given.ensures.closed;
      others = λ m other. ap told_by (c.given.ensures.others m other);
    } in
    record {
      stands = given_fitting c.args.self.now _ c.args.job c.in-Some.stripe c.args.piece.now c.args.last given;
      at_work = given_works c.args.self.now _ c.args.job c.in-Some.stripe c.args.piece.now c.args.last given
          c.bytes_are_bytes.ensures c.requires.at_work;
      takes = record {
        more = c.given.ensures.more;
        closed = c.given.ensures.closed;
        wants = c.given.ensures.wants;
        left = c.given.ensures.left;
      };
    }

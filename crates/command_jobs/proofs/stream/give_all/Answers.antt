use Rattle.command_jobs.proofs.Words.{◌≡◌, ℕ, ◌+◌, [], length, take, None, refl, sym, subst, ◌∙◌, arith, length-take-le, wants_of, rose-before}
use Rattle.command_jobs.proofs.Fed.{none-waits}
use Rattle.command_jobs.proofs.Feeding.{waits-first, ends-first, stops-long, piece-fits, given-under-way, given-ends, waits-next, stops-short}
use Rattle.command_jobs.proofs.stream.give_all.Goals as goal

pub advance-requires-clause-given : goal.advance-requires-clause-given
advance-requires-clause-given g c = subst (λ n. wants_of c.args.vault.now n ≡ None) (sym c.requires.first)
    (none-waits c.args.vault.now _ (length c.args.stripe.now) [] (c.requires.begun [] refl (omega arith)))

pub returns-in-Some-clause-went : goal.returns-in-Some-clause-went
returns-in-Some-clause-went g c = ends-first c.args.vault.now c.advance.new.vault _ _
    (take c.args.first c.args.stripe.now) (length c.args.stripe.now) c.args.first _ c.in-Some.ended
    c.requires.stripe (length-take-le c.args.first c.args.stripe.now c.requires.read) c.requires.read
    (rw c.requires.first at c.requires.open) (rw c.requires.first at c.in-Some.ensures.went)

pub loop-length-init : goal.loop-length-init
loop-length-init g c = record {
  waits = waits-first c.args.vault.now c.advance.new.vault _ _ (length c.args.stripe.now) c.args.stripe.now
      c.args.first _ c.requires.stripe c.requires.begun refl c.requires.read c.bytes_are_bytes.ensures
      c.requires.end (rw c.requires.first at c.requires.open) (rw c.requires.first at c.in-None.ensures.went)
      ((rw c.requires.first at c.in-None.ensures.waits) refl) ((rw c.requires.first at c.in-None.ensures.told) refl);
  tells = c.in-None.ensures.tells;
  faults = omega arith;
  count = c.in-None.ensures.count;
}

pub returns-then-length-gt-LARGEST_FILE-clause-went : goal.returns-then-length-gt-LARGEST_FILE-clause-went
returns-then-length-gt-LARGEST_FILE-clause-went g c = stops-long c.requires.stripe c.requires.begun
    c.loop-length.invariant.waits (let l = c.if-length-gt-LARGEST_FILE.true in omega (arith, l))

pub give-requires-clause-piece : goal.give-requires-clause-piece
give-requires-clause-piece g c = rw (← c.requires.first) at (piece-fits c.requires.stripe c.requires.begun
    c.loop-length.invariant.waits (let l = c.if-length-gt-LARGEST_FILE.false in omega (arith, l)))

pub advance-requires-in-loop-length-clause-under_way : goal.advance-requires-in-loop-length-clause-under_way
advance-requires-in-loop-length-clause-under_way g c = given-under-way c.requires.stripe c.requires.begun
    c.loop-length.invariant.waits (let l = c.if-length-gt-LARGEST_FILE.false in omega (arith, l))
    c.give.new.self (rw c.requires.first at c.give.ensures.stands)
    (rw c.requires.first at c.give.ensures.more) (rw c.requires.first at c.give.ensures.closed)

pub returns-in-Some-advance-clause-went : goal.returns-in-Some-advance-clause-went
returns-in-Some-advance-clause-went g c =
    given-ends c.requires.stripe c.requires.begun c.loop-length.invariant.waits
    (let l = c.if-length-gt-LARGEST_FILE.false in omega (arith, l)) c.give.new.self
    (rw c.requires.first at c.give.ensures.stands) (rw c.requires.first at c.give.ensures.more)
    (rw c.requires.first at c.give.ensures.closed) c.advance-in-loop-length.new.vault _
    c.in-Some-advance.ended (rw c.requires.first at c.in-Some-advance.ensures.went)

pub loop-length-preserved : goal.loop-length-preserved
loop-length-preserved g c = record {
  waits = waits-next c.requires.stripe c.requires.begun c.loop-length.invariant.waits
      (omega (arith, c.if-length-gt-LARGEST_FILE.false)) c.give.new.self
      (rw c.requires.first at c.give.ensures.stands) (rw c.requires.first at c.give.ensures.more)
      (rw c.requires.first at c.give.ensures.closed) c.advance-in-loop-length.new.vault _
      (rw c.requires.first at c.in-None-advance.ensures.went)
      ((rw c.requires.first at c.in-None-advance.ensures.waits) refl)
      ((rw c.requires.first at c.in-None-advance.ensures.told) refl) c.read_piece.new.stripe c.in-Ok.next _
      (c.in-Ok.ensures.room ∙ c.loop-length.invariant.waits.room) c.in-Ok.ensures.piece;
  tells = c.in-None-advance.ensures.tells ∙ c.loop-length.invariant.tells;
  faults = omega (arith, c.loop-length.invariant.faults, c.in-Ok.ensures.cause.never_falls);
  count = c.in-None-advance.ensures.count ∙ c.loop-length.invariant.count;
}

pub returns-in-Err-clause-went : goal.returns-in-Err-clause-went
returns-in-Err-clause-went g c = stops-short c.requires.stripe c.requires.begun c.loop-length.invariant.waits
    (let l = c.if-length-gt-LARGEST_FILE.false in omega (arith, l)) c.give.new.self
    (rw c.requires.first at c.give.ensures.stands) (rw c.requires.first at c.give.ensures.more)
    (rw c.requires.first at c.give.ensures.closed) c.advance-in-loop-length.new.vault _
    (rw c.requires.first at c.in-None-advance.ensures.went)
    ((rw c.requires.first at c.in-None-advance.ensures.waits) refl)
    ((rw c.requires.first at c.in-None-advance.ensures.told) refl) (length c.read_piece.new.stripe) _
    (c.in-Err.ensures.room ∙ c.loop-length.invariant.waits.room) c.in-Err.ensures.short

pub returns-in-Err-clause-cause : goal.returns-in-Err-clause-cause
returns-in-Err-clause-cause g c =
    let a = c.loop-length.invariant.faults in
    let b = c.in-Err.ensures.cause.never_falls in
    record {
      never_falls = omega (arith, a, b);
      rose = λ e. rose-before _ _ _ a b (c.in-Err.ensures.cause.rose refl);
    }

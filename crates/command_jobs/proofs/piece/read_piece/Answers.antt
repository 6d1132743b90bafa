use Rattle.command_jobs.proofs.Words.{◌≡◌, ◌-◌, ◌≤◌, min, length, take, ap, sym, ◌∙◌, arith, rules, length-take-le, then_told}
use borrow.Rule.Slice.PartMut.{put_mid}
use Rattle.journal_core.proofs.MoveLemmas.{on_err}
use Rattle.command_jobs.proofs.ReadBytes.{bytes-front, told-on, put-more}
use Rattle.command_jobs.proofs.piece.read_piece.Goals as goal

pub returns-in_err-given-clause-short : goal.returns-in_err-given-clause-short
returns-in_err-given-clause-short g c = on_err c.from_residual.result _ (
    let m = c.loop-count.invariant.most in
    let t = c.loop-count-test.true in
    let a = c.min-most.ensures in
    let r = c.requires in
    let n : length (take c.loop-count.count c.loop-count.stripe) ≡ c.loop-count.count =
    length-take-le c.loop-count.count c.loop-count.stripe (omega (arith, m, t)) in
    let room : length c.loop-count.stripe ≡ length c.args.stripe.now = c.loop-count.invariant.room in
    record {
      bytes = take c.loop-count.count c.loop-count.stripe;
      read = record {
        are_bytes = bytes-front c.loop-count.count c.loop-count.stripe c.bytes_are_bytes.ensures;
        front = c.loop-count.invariant.front
            ∙ ap (then_told (take c.loop-count.count c.loop-count.stripe)) (sym c.in_err-given.ensures.err);
      };
      short = search rules;
      limit = (omega (arith, m, t, n, r));
    })

pub loop-count-preserved : goal.loop-count-preserved
loop-count-preserved g c =
    let m = c.loop-count.invariant.most in
    let t = c.loop-count-test.true in
    let few : c.in_ok-given.given ≤ c.min-most.result - c.loop-count.count = search rules in
    let room : length (put_mid c.loop-count.count (c.min-most.result - c.loop-count.count) c.loop-count.stripe
    c.read.new.out) ≡ length c.loop-count.stripe = search rules in
    record {
      front = told-on _ _ _ (take c.loop-count.count c.loop-count.stripe) (take c.in_ok-given.given c.read.new.out)
          c.loop-count.invariant.front c.in_ok-given.ensures.given
          ∙ ap (λ xs. then_told xs (g.S.Source.left c.read.new.self))
          (sym (put-more c.loop-count.count (c.min-most.result - c.loop-count.count) c.in_ok-given.given
          c.loop-count.stripe c.read.new.out (omega (arith, m, t)) (search rules) few));
      few = omega arith;
      most = m ∙ ap (λ n. min n (4194305 - c.args.before)) (sym room);
      room = room ∙ c.loop-count.invariant.room;
      faults = omega (arith, c.loop-count.invariant.faults, c.read.ensures.cause.never_falls);
    }

pub returns-clause-piece : goal.returns-clause-piece
returns-clause-piece g c =
    let m = c.loop-count.invariant.most in
    let f = c.loop-count.invariant.few in
    let t = c.loop-count-test.false in
    let r = c.requires in
    record {
      few = omega (arith, m, f);
      limit = omega (arith, m, f, r);
      read = record {
        are_bytes = bytes-front c.loop-count.count c.loop-count.stripe c.bytes_are_bytes-2.ensures;
        front = c.loop-count.invariant.front;
      };
      end = λ short low. absurd (omega (arith, m, f, t, r, short, low));
    }

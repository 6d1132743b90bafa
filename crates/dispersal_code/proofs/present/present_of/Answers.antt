use Rattle.dispersal_code.proofs.Words.{◌∷◌, [], arith, get_or_read, length-append, present_points, present_symbols}
use Rattle.dispersal_code.proofs.PresentSteps.{points_passed, symbols_passed, points_taken, symbols_taken, points_end, symbols_end, chosen_is}
use Rattle.dispersal_code.proofs.present.present_of.Goals as goal
use Rattle.dispersal_code.proofs.present.present_of.Goals.{in-Some, in_default}

pub loop-k-preserved : goal.loop-k-preserved
loop-k-preserved c =
    let i = c.loop-k.invariant in
    elim c.match-seen-k.branch [
      | in-Some w ↦ rw (w.present-is, w.push.ensures) (record {
        few = omega (arith, i.few, length-append c.loop-k.present.points (w.index-points-k.result ∷ []));
        points_are = points_taken c.args.points.now c.loop-k.present.points
            (present_points c.args.points.now c.args.seen.now) c.args.seen.now c.loop-k.k
            w.index-points-k.result w.in-Some.symbol _ (omega arith) c.requires.even
            (get_or_read c.args.points.now c.loop-k.k w.index-points-k.result (omega arith)
            w.index-points-k.is 0) w.in-Some.is i.points_are;
        symbols_are = symbols_taken c.loop-k.present.symbols (present_symbols c.args.seen.now) c.args.seen.now
            c.loop-k.k w.in-Some.symbol _ (omega (arith, c.requires.even)) w.in-Some.is i.symbols_are;
      })
      | in_default w ↦ rw w.present-is (record {
        few = omega (arith, i.few);
        points_are = points_passed c.args.points.now c.loop-k.present.points
            (present_points c.args.points.now c.args.seen.now) c.args.seen.now c.loop-k.k _
            (omega arith) c.requires.even w.in_default.is i.points_are;
        symbols_are = symbols_passed c.loop-k.present.symbols (present_symbols c.args.seen.now)
            c.args.seen.now c.loop-k.k _ (omega (arith, c.requires.even)) w.in_default.is i.symbols_are;
      })
    ]

pub returns : goal.returns
returns c =
    let at_points = points_end c.args.points.now c.loop-k.present.points
    (present_points c.args.points.now c.args.seen.now) c.args.seen.now c.loop-k.k c.loop-k-test.false
    c.loop-k.invariant.points_are in
    let at_symbols = symbols_end c.loop-k.present.symbols
    (present_symbols c.args.seen.now) c.args.seen.now c.loop-k.k
    (omega (arith, c.requires.even)) c.loop-k.invariant.symbols_are in
    chosen_is c.loop-k.present (present_points c.args.points.now c.args.seen.now)
    (present_symbols c.args.seen.now) at_points at_symbols

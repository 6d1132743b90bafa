use Rattle.vault.proofs.Words.{◌≡◌, ◌⊎◌, ◌<◌, ◌≤◌, ℕ, Bool, false, None, Err, refl, ap, sym, ◌∙◌, inl, inr, arith, IsTrue, false≢true, cases_eq, CoreView, devices, Desk, plain}
use Rattle.journal_pack.specs.Packs.{moves_of}
use Rattle.vault.proofs.PackSteps.{turned_by, barred-works, pack-on, ends_made, ends_unwritten, fails, goes, goes_fourth}
use Rattle.vault.proofs.vault.Vault.step_pack.Goals as goal

-- of a pack whose moves are not all made, fewer than four are
few_of : (n : ℕ) (made : Bool) → n ≤ 4 → (n ≡ 4 → IsTrue made) → made ≡ false → n < 4
few_of n made most is not = by (cases_eq n 4)
  where
    by : (n ≡ 4) ⊎ (n ≡ 4 → ⊥) → n < 4
    by (inl e) = absurd (false≢true (sym not ∙ is e))
    by (inr other) = grind (arith, most, other)

pub returns-then-is_made-clause-machine : goal.returns-then-is_made-clause-machine
returns-then-is_made-clause-machine g c = λ w ps is_told S.
    let four = c.is_made.ensures.0 c.if-is_made.true in
    ends_made c.args.self.now c.args.job w _ _ ps S four _ c.size-after.result refl refl
    (c.size-after.ensures w.area w.journal S.sound.journal.spelled (S.made four).1)

pub returns-in-Ok-true-clause-machine : goal.returns-in-Ok-true-clause-machine
returns-in-Ok-true-clause-machine g c = λ w ps is_told S.
    let e = c.in-Ok-true.ensures in
    let four = e.moves.count.last.0 c.in-Ok-true.field-0-test in
    goes_fourth c.args.self.now c.args.job w _ _ ps S _ _ _ refl refl _
    (turned_by is_told c.args.job.pack _ c.turn.new.self (g.D.Disk.holds c.args.disk.now)
    (g.D.Disk.holds c.turn.new.disk) (record { turns = e.moves; disk = e.disk }))
    c.turn.ensures.cause.never_falls (let n = e.moves.count.next in omega (arith, n, four)) _
    (record { held = c.requires.held; quiet = c.switch.ensures.quiet; text = λ l. absurd (omega arith) })
    (c.switch.ensures.stands (plain w) (devices None (g.D.Disk.faults c.args.disk.now) ps)
    (devices None (g.D.Disk.faults c.args.disk.now) ps) S.beside.desk
    (record {
      images = tt;
      faults = S.devices.faults;
      providers = record { count = S.devices.providers.count; each = S.devices.providers.each };
    }) tt)

pub returns-in-Ok-false-clause-machine : goal.returns-in-Ok-false-clause-machine
returns-in-Ok-false-clause-machine g c = λ w ps is_told S.
    let e = c.in-Ok-false.ensures in
    let few = few_of (moves_of c.args.job.pack) c.is_made.result c.args.job.undone c.is_made.ensures.1
    c.if-is_made.false in
    let less = few_of (moves_of c.turn.new.self) c.in-Ok-false.field-0 (let n = e.moves.count.next in omega (arith, n, few))
    e.moves.count.last.1 c.in-Ok-false.field-0-test in
    goes c.args.self.now c.args.job w _ _ ps S _ _ _ refl refl _
    (turned_by is_told c.args.job.pack _ c.turn.new.self (g.D.Disk.holds c.args.disk.now)
    (g.D.Disk.holds c.turn.new.disk) (record { turns = e.moves; disk = e.disk }))
    c.turn.ensures.cause.never_falls (let n = e.moves.count.next in omega (arith, n, less))
    (pack-on c.args.self.now c.args.job _ c.requires refl e.moves.to e.moves.text few)

pub invariant_of-self-in-Err-Failed : goal.invariant_of-self-in-Err-Failed
invariant_of-self-in-Err-Failed g c =
    let v : Desk = c.args.self.now.desk in
    record {
      at_work = barred-works v _ c.requires.quiet
          (ap (λ (core : CoreView). record v { core = core }) c.bar.ensures.barred) c.args.self.now.at_work;
    }

pub returns-in-Err-Failed-clause-machine : goal.returns-in-Err-Failed-clause-machine
returns-in-Err-Failed-clause-machine g c = λ w ps is_told S.
    let v : Desk = c.args.self.now.desk in
    let e = c.in-Err-Failed.ensures in
    fails c.args.self.now c.args.job w _ _ ps S _ _ _ refl c.turn.ensures.cause.never_falls _ _
    (turned_by is_told c.args.job.pack _ c.turn.new.self (g.D.Disk.holds c.args.disk.now)
    (g.D.Disk.holds c.turn.new.disk) (record { turns = e.moves; disk = e.disk }))
    (e.cause.rose (ap Err c.in-Err-Failed.field-0-is)) (ap (λ (core : CoreView). record v { core = core }) c.bar.ensures.barred)
    (few_of (moves_of c.args.job.pack) c.is_made.result c.args.job.undone c.is_made.ensures.1 c.if-is_made.false)

pub returns-clause-machine : goal.returns-clause-machine
returns-clause-machine g c = λ w ps is_told S.
    let e = c.in-Err-Memory.ensures in
    ends_unwritten c.args.self.now c.args.job w _ _ ps S _ _ _ refl
    (e.no_fault (λ failed. let memory = c.in-Err-Memory.field-0-is in cc)) _ _
    (turned_by is_told c.args.job.pack _ c.turn.new.self (g.D.Disk.holds c.args.disk.now)
    (g.D.Disk.holds c.turn.new.disk) (record { turns = e.moves; disk = e.disk }))
    (ap Err c.in-Err-Memory.field-0-is)
    (few_of (moves_of c.args.job.pack) c.is_made.result c.args.job.undone c.is_made.ensures.1 c.if-is_made.false)
    refl

pub returns-then-is_made-clause-moves : goal.returns-then-is_made-clause-moves
returns-then-is_made-clause-moves g c = (c.is_made.ensures.0 c.if-is_made.true, refl)

pub returns-in-Ok-true-clause-moves : goal.returns-in-Ok-true-clause-moves
returns-in-Ok-true-clause-moves g c = c.in-Ok-true.ensures.disk.does

pub returns-in-Ok-false-clause-moves : goal.returns-in-Ok-false-clause-moves
returns-in-Ok-false-clause-moves g c = c.in-Ok-false.ensures.disk.does

pub returns-in-Err-Failed-clause-moves : goal.returns-in-Err-Failed-clause-moves
returns-in-Err-Failed-clause-moves g c = c.in-Err-Failed.ensures.disk.torn (ap Err c.in-Err-Failed.field-0-is)

pub returns-clause-moves : goal.returns-clause-moves
returns-clause-moves g c =
    let memory = ap Err c.in-Err-Memory.field-0-is in
    (c.in-Err-Memory.ensures.disk.writes memory, c.in-Err-Memory.ensures.disk.memory memory)

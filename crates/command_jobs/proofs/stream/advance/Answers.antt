use Rattle.command_jobs.proofs.Words.{◌≡◌, ℕ, ◌+◌, false, length, Option, None, Some, refl, ap, sym, ◌∙◌, arith, is_some, length-map, now, provider_seen}
use Rattle.vault.specs.declared.turn.Turn.TheVariants as turn
use Rattle.command_jobs.proofs.Advancing.{still-behind, still-told, ends-early}
use Rattle.command_jobs.proofs.Fresh.{stands-enough}
use Rattle.command_jobs.proofs.Fronts.{step-front}
use Rattle.command_jobs.proofs.Goings.{no-steps, steps-turn, never-stops}
use Rattle.command_jobs.proofs.stream.advance.Goals as goal

none-some : (o p : Option ℕ) → o ≡ p → is_some o ≡ false → p ≡ None
none-some None p e h = sym e
none-some (Some n) p e h = cc

pub loop-vault-init : goal.loop-vault-init
loop-vault-init g c = record {
  went = λ start w kind own moment d way. record { way = way; behind = λ b. b };
  given = c.requires.given;
  told = refl;
  tells = refl;
  left = omega arith;
  count = refl;
}

pub step-requires-clause-handed : goal.step-requires-clause-handed
step-requires-clause-handed g c =
    let u = c.requires.under_way in
    let few = stands-enough c.loop-vault.vault _ _ (c.loop-vault.invariant.went u.start u.state u.kind u.own 0 _
    (no-steps u.start u.kind u.own u.state 0 c.args.vault.now _ u.only u.stands)).way.stands in
    omega (arith, few, length-map c.loop-vault.providers (provider_seen g.P.Provider))

pub returns-then-is_some-clause-went : goal.returns-then-is_some-clause-went
returns-then-is_some-clause-went g c = λ start w kind own moment d way b.
    let here = c.loop-vault.invariant.went start w kind own moment d way in
    (still-behind start kind own w moment c.args.number c.requires.first _ way.only.job.place
    c.loop-vault.vault c.step.new.self d _ _ here c.loop-vault.invariant.told c.loop-vault.invariant.given
    (step-front c.loop-vault.vault _ _ (now w here.way.steps) c.args.number turn.More here.way.stands
    c.loop-vault.invariant.given (λ none. ap g.D.Disk.holds (c.in-More.ensures.calls.still none))
    (λ entry. c.in-More.ensures.moves (now w here.way.steps) entry here.way.stands))
    (c.in-More.ensures.machine (now w here.way.steps) (moment + length here.way.steps) here.way.stands)).way

pub returns-then-is_some-clause-told : goal.returns-then-is_some-clause-told
returns-then-is_some-clause-told g c = λ none.
    let u = c.requires.under_way in
    let here = c.loop-vault.invariant.went u.start u.state u.kind u.own 0 _
    (no-steps u.start u.kind u.own u.state 0 c.args.vault.now _ u.only u.stands) in
    still-told u.start u.kind u.own u.state 0 c.args.number c.requires.first _ _
    c.loop-vault.vault c.step.new.self _ _ _ here c.loop-vault.invariant.told c.loop-vault.invariant.given
    (step-front c.loop-vault.vault _ _ (now u.state here.way.steps) c.args.number turn.More here.way.stands
    c.loop-vault.invariant.given (λ none. ap g.D.Disk.holds (c.in-More.ensures.calls.still none))
    (λ entry. c.in-More.ensures.moves (now u.state here.way.steps) entry here.way.stands))
    (c.in-More.ensures.machine (now u.state here.way.steps) (0 + length here.way.steps) here.way.stands)
    (c.in-More.ensures.leaves.told c.args.number)

pub loop-vault-preserved : goal.loop-vault-preserved
loop-vault-preserved g c =
    let u = c.requires.under_way in
    let there = c.loop-vault.invariant.went u.start u.state u.kind u.own 0 _
    (no-steps u.start u.kind u.own u.state 0 c.args.vault.now _ u.only u.stands) in
    record {
      went = λ start w kind own moment d way.
          let here = c.loop-vault.invariant.went start w kind own moment d way in
          still-behind start kind own w moment c.args.number c.requires.first _ way.only.job.place
          c.loop-vault.vault c.step.new.self d _ _ here c.loop-vault.invariant.told
          c.loop-vault.invariant.given
          (step-front c.loop-vault.vault _ _ (now w here.way.steps) c.args.number turn.More here.way.stands
          c.loop-vault.invariant.given (λ none. ap g.D.Disk.holds (c.in-More.ensures.calls.still none))
          (λ entry. c.in-More.ensures.moves (now w here.way.steps) entry here.way.stands))
          (c.in-More.ensures.machine (now w here.way.steps) (moment + length here.way.steps)
          here.way.stands);
      given = none-some _ _ c.wants.ensures (sym c.is_some.ensures ∙ c.if-is_some.false);
      told = still-told u.start u.kind u.own u.state 0 c.args.number c.requires.first _ _
          c.loop-vault.vault c.step.new.self _ _ _ there c.loop-vault.invariant.told
          c.loop-vault.invariant.given
          (step-front c.loop-vault.vault _ _ (now u.state there.way.steps) c.args.number turn.More there.way.stands
          c.loop-vault.invariant.given (λ none. ap g.D.Disk.holds (c.in-More.ensures.calls.still none))
          (λ entry. c.in-More.ensures.moves (now u.state there.way.steps) entry there.way.stands))
          (c.in-More.ensures.machine (now u.state there.way.steps) (0 + length there.way.steps)
          there.way.stands) (c.in-More.ensures.leaves.told c.args.number);
      tells = c.in-More.ensures.calls.tells ∙ c.loop-vault.invariant.tells;
      left = (let a = c.in-More.ensures.left refl in let b = c.loop-vault.invariant.left in
          omega (arith, a, b));
      count = c.in-More.ensures.calls.called.count ∙ c.loop-vault.invariant.count;
    }

pub returns-then-is_some-clause-tells : goal.returns-then-is_some-clause-tells
returns-then-is_some-clause-tells g c = c.in-More.ensures.calls.tells ∙ c.loop-vault.invariant.tells

pub returns-then-is_some-clause-count : goal.returns-then-is_some-clause-count
returns-then-is_some-clause-count g c = c.in-More.ensures.calls.called.count ∙ c.loop-vault.invariant.count

pub returns-in-Done-clause-went : goal.returns-in-Done-clause-went
returns-in-Done-clause-went g c = λ start w kind own moment d way b.
    let here = c.loop-vault.invariant.went start w kind own moment d way in
    ends-early start kind own w moment c.args.number c.requires.first _ way.only.job.place
    c.loop-vault.vault c.step.new.self d _ _ here c.loop-vault.invariant.told c.loop-vault.invariant.given
    c.in-Done.ended
    (step-front c.loop-vault.vault _ _ (now w here.way.steps) c.args.number (turn.Done c.in-Done.ended) here.way.stands
    c.loop-vault.invariant.given (λ none. ap g.D.Disk.holds (c.in-Done.ensures.calls.still none))
    (λ entry. c.in-Done.ensures.moves (now w here.way.steps) entry here.way.stands))
    (c.in-Done.ensures.machine (now w here.way.steps) (moment + length here.way.steps) here.way.stands) b

pub returns-in-Done-clause-tells : goal.returns-in-Done-clause-tells
returns-in-Done-clause-tells g c = c.in-Done.ensures.calls.tells ∙ c.loop-vault.invariant.tells

pub returns-in-Done-clause-count : goal.returns-in-Done-clause-count
returns-in-Done-clause-count g c = c.in-Done.ensures.calls.called.count ∙ c.loop-vault.invariant.count

pub unreachable-requires : goal.unreachable-requires
unreachable-requires g c =
    let u = c.requires.under_way in
    let here = c.loop-vault.invariant.went u.start u.state u.kind u.own 0 _
    (no-steps u.start u.kind u.own u.state 0 c.args.vault.now _ u.only u.stands) in
    never-stops c.step.result c.in-Waiting.is
    (steps-turn u.start u.kind u.own (now u.state here.way.steps) 0 c.args.number c.step.result c.step.new.self
    _ _ here.way.only c.requires.first
    (c.step.ensures.machine (now u.state here.way.steps) 0 here.way.stands))

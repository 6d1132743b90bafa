use Rattle.provider_wire.proofs.Words.{refl, sym, ap, ◌∙◌, arith, out_of_step}
use Rattle.provider_wire.proofs.Outcomes.{heard, fetch_done, fetch_missing, fetch_failed, steps}
use Rattle.provider_wire.proofs.Counting.{went, lost, answer_came, call_failed, one_more_is}
use Rattle.provider_wire.proofs.link_provider.LinkProvider.fetch_with.Goals as goal

pub returns-then-eq-clause-answered : goal.returns-then-eq-clause-answered
returns-then-eq-clause-answered g c =
    let e = c.request-answer.ensures in
    let h = heard e.told e.untold c.as_slice.ensures c.fetch_frame-frame.ensures c.requires.room in
    fetch_done h c.take_symbols.new.out c.take_symbols.ensures
    c.take_symbols.auto.out c.symbols_are_numbers.ensures (sym c.eq.ensures ∙ c.if-eq.true) e.store_faults e.other_faults
    (omega (arith, c.saturating_add-self.ensures, e.fetches)) (omega arith)

pub returns-then-eq-2-clause-answered : goal.returns-then-eq-2-clause-answered
returns-then-eq-2-clause-answered g c =
    let e = c.request-answer.ensures in
    let h = heard e.told e.untold c.as_slice.ensures c.fetch_frame-frame.ensures c.requires.room in (
      fetch_missing h (sym c.eq-2.ensures ∙ c.if-eq-2.true) e.store_faults e.other_faults
          (omega (arith, c.saturating_add-self.ensures, e.fetches)) (omega arith),
      refl,
    )

pub invariant_of-self-2 : goal.invariant_of-self-2
invariant_of-self-2 g c =
    let e = c.request-answer.ensures in
    let h = heard e.told e.untold c.as_slice.ensures c.fetch_frame-frame.ensures c.requires.room in
    record {
      in_step = ap (out_of_step (g.L.Link.behind c.request-answer.new.self.link)) c.ne-self.ensures
          ∙ steps h (sym c.eq.ensures ∙ c.if-eq.false) (sym c.eq-2.ensures ∙ c.if-eq-2.false);
    }

pub returns-clause-answered : goal.returns-clause-answered
returns-clause-answered g c =
    let e = c.request-answer.ensures in
    let h = heard e.told e.untold c.as_slice.ensures c.fetch_frame-frame.ensures c.requires.room in (
      fetch_failed h (sym c.eq.ensures ∙ c.if-eq.false) (sym c.eq-2.ensures ∙ c.if-eq-2.false)
          e.store_faults (omega (arith, c.saturating_add-self-2.ensures, e.other_faults)) (omega (arith, c.saturating_add-self.ensures, e.fetches))
          (omega (arith, e.other_faults)) (omega arith),
      refl,
    )

pub returns-then-eq-clause-counts : goal.returns-then-eq-clause-counts
returns-then-eq-clause-counts g c = went 1 (sym c.eq.ensures ∙ c.if-eq.true) c.request-answer.ensures.ok
    c.request-answer.ensures.was (λ f. absurd (cc f)) c.request-answer.ensures.other_faults

pub returns-then-eq-2-clause-counts : goal.returns-then-eq-2-clause-counts
returns-then-eq-2-clause-counts g c = went 0 (sym c.eq-2.ensures ∙ c.if-eq-2.true) c.request-answer.ensures.ok
    c.request-answer.ensures.was (λ f. absurd (cc f)) c.request-answer.ensures.other_faults

pub returns-clause-counts : goal.returns-clause-counts
returns-clause-counts g c =
    let e = c.request-answer.ensures in
    lost c.ne-self.ensures e.was refl (omega (arith, c.saturating_add-self-2.ensures, e.other_faults))
    (omega (arith, e.other_faults))

pub returns-then-eq-clause-fetches : goal.returns-then-eq-clause-fetches
returns-then-eq-clause-fetches g c = c.request-answer.ensures.fetches ∙ c.saturating_add-self.ensures
    ∙ one_more_is c.args.self.now.fetches (omega arith)

pub returns-then-eq-2-clause-fetches : goal.returns-then-eq-2-clause-fetches
returns-then-eq-2-clause-fetches g c = c.request-answer.ensures.fetches ∙ c.saturating_add-self.ensures
    ∙ one_more_is c.args.self.now.fetches (omega arith)

pub returns-clause-fetches : goal.returns-clause-fetches
returns-clause-fetches g c = c.request-answer.ensures.fetches ∙ c.saturating_add-self.ensures
    ∙ one_more_is c.args.self.now.fetches (omega arith)

pub returns-then-eq-clause-link_fault : goal.returns-then-eq-clause-link_fault
returns-then-eq-clause-link_fault g c = answer_came 1 (sym c.eq.ensures ∙ c.if-eq.true)
    c.request-answer.ensures.link_fault

pub returns-then-eq-2-clause-link_fault : goal.returns-then-eq-2-clause-link_fault
returns-then-eq-2-clause-link_fault g c = answer_came 0 (sym c.eq-2.ensures ∙ c.if-eq-2.true)
    c.request-answer.ensures.link_fault

pub returns-clause-link_fault : goal.returns-clause-link_fault
returns-clause-link_fault g c = call_failed refl c.ne-self.ensures c.request-answer.ensures.link_fault

use Rattle.provider_wire.proofs.Words.{refl, sym, ap, ◌∙◌, arith, out_of_step}
use Rattle.provider_wire.proofs.Outcomes.{heard, remove_done, remove_failed, steps}
use Rattle.provider_wire.proofs.Counting.{went, lost, answer_came, call_failed}
use Rattle.provider_wire.proofs.link_provider.LinkProvider.remove_over.Goals as goal

pub returns-then-eq-clause-answered : goal.returns-then-eq-clause-answered
returns-then-eq-clause-answered g c =
    let e = c.request-answer.ensures in
    let h = heard e.told e.untold c.as_slice.ensures c.remove_frame-frame.ensures refl in
    remove_done h (sym c.eq.ensures ∙ c.if-eq.true) e.store_faults e.other_faults
    e.fetches

pub invariant_of-self : goal.invariant_of-self
invariant_of-self g c =
    let e = c.request-answer.ensures in
    let h = heard e.told e.untold c.as_slice.ensures c.remove_frame-frame.ensures refl in
    record {
      in_step = ap (out_of_step (g.L.Link.behind c.request-answer.new.self.link)) c.ne-self.ensures
          ∙ steps h (sym c.eq.ensures ∙ c.if-eq.false) (sym c.eq.ensures ∙ c.if-eq.false);
    }

pub returns-clause-answered : goal.returns-clause-answered
returns-clause-answered g c =
    let e = c.request-answer.ensures in
    let h = heard e.told e.untold c.as_slice.ensures c.remove_frame-frame.ensures refl in
    remove_failed h (sym c.eq.ensures ∙ c.if-eq.false)
    e.store_faults (omega (arith, c.saturating_add-self.ensures, e.other_faults)) e.fetches
    (omega (arith, e.other_faults))

pub returns-then-eq-clause-counts : goal.returns-then-eq-clause-counts
returns-then-eq-clause-counts g c = went 1 (sym c.eq.ensures ∙ c.if-eq.true) c.request-answer.ensures.ok
    c.request-answer.ensures.was (λ f. absurd (cc f)) c.request-answer.ensures.other_faults

pub returns-clause-counts : goal.returns-clause-counts
returns-clause-counts g c =
    let e = c.request-answer.ensures in
    lost c.ne-self.ensures e.was refl (omega (arith, c.saturating_add-self.ensures, e.other_faults))
    (omega (arith, e.other_faults))

pub returns-then-eq-clause-link_fault : goal.returns-then-eq-clause-link_fault
returns-then-eq-clause-link_fault g c = answer_came 1 (sym c.eq.ensures ∙ c.if-eq.true)
    c.request-answer.ensures.link_fault

pub returns-clause-link_fault : goal.returns-clause-link_fault
returns-clause-link_fault g c = call_failed refl c.ne-self.ensures c.request-answer.ensures.link_fault

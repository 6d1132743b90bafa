use Rattle.std.proofs.Common.{◌≡◌, Some, None, subst, sym, ap, ◌∙◌, refl, inl, inr}
use Rattle.damage_run.specs.Words.{Step, Lost, job_of, now, first_moments, set_up, IsMarkedRun}
use Rattle.damage_run.specs.Points.{name, byte, at}
use Rattle.fault_run.proofs.Points.{marked_to}
use Rattle.fault_run.proofs.laws.gets_are_refused_or_lost_by_faults.Goals as goal

pub returns-clause-lost : goal.returns-clause-lost
returns-clause-lost c ms f h = (let q = h.get_missed in
    let e = h.get_lost in
    let marked = c.the_start_is_a_mark.ensures 8 set_up ms f.clean f.tell f.run f.calm f.scrubs in
    let g = c.gets_give_or_are_lost.ensures.ends 8 (λ moments. 0) set_up e.moment (first_moments 20 ms) q.job
    name (Lost 0 0) (subst (IsMarkedRun 8 (λ moments. 0) set_up) e.is (marked_to 21 ms marked))
    (e.event ∙ ap Step (sym q.number_is)) e.outcome
    (subst (λ n. job_of (at 20 ms).jobs n ≡ Some q.job) (sym q.number_is) q.runs) q.kind_is in (
      now set_up (first_moments q.job.begun (first_moments 20 ms)),
      rw e.is (elim g.gives [
        | inl other ↦ absurd (cc other)
        | inr lost ↦ lost
      ]),
    ))

pub returns-clause-missed : goal.returns-clause-missed
returns-clause-missed c ms f h = (let q = h.get_missed in
    let marked = c.the_start_is_a_mark.ensures 8 set_up ms f.clean f.tell f.run f.calm f.scrubs in
    elim (c.damage_of_pinned_files_is_new.ensures.fetched 8 (λ moments. 0) set_up
    (first_moments 20 ms) 2 q.job (record { id = 1; profile = 0; bytes = byte }) 0 0 None
    (marked_to 20 ms marked) q.runs q.pinned q.provider_in q.stripe_in q.missed refl)
    [ inl r ↦ inl r | inr r ↦ inr r.1 ])

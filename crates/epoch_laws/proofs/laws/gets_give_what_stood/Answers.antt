use Rattle.epoch_laws.proofs.Words.{◌≡◌, ◌∷◌, ◌++◌, Some, ap, sym, subst, ◌∙◌, inl, GetJob, job_of, Step, now, first_moments, first_behind, ended_of_kind, marked_facts, get_sharply}
use Rattle.second_half_laws.specs.Sharp.{GivesOrIsLost}
use Rattle.epoch_laws.proofs.laws.gets_give_what_stood.Goals as goal

pub returns : goal.returns
returns c limit mark start ms gaps b g get name how h G = (let all = gaps ++ b ∷ ms in
    let q = ended_of_kind limit start gaps ms g b (GetJob name) get how h.clean h.run (inl G.begin_event) G.begun
    G.none G.end_event G.ended in
    let job = q.0 in
    let runs : job_of (now start all).jobs job.number ≡ Some job =
    ap (job_of (now start all).jobs) q.2 ∙ q.1 in
    subst (λ hs. GivesOrIsLost (now start hs) g.state name how)
    (ap (λ n. first_moments n all) q.4 ∙ first_behind gaps b ms)
    (get_sharply limit mark start g all h.clean h.run h.calm.1
    (marked_facts limit mark start h.clean h.tell all h.run.2 h.calm.1 h.marks.1) job name how runs q.3
    (G.end_event ∙ ap Step (sym q.2)) G.ended))

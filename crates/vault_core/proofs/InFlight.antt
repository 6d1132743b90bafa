-- The record of the append in flight.
use Rattle.vault_core.proofs.Words.{◌≡◌, ◌+◌, ◌<◌, ℕ, inl, inr, refl, None, Some, sym, ap, ◌∙◌, arith, if◌then◌else◌, ◌==◌, slice_get, cases_Bool, eqb-true, Action, actions_of, moves_before, Setup, State, Append, setup_in, CoreJob, CoreView, job_in, wanted_at, action_next, is_move, written_by, written_of, written_in, entry_of_found, entry_in, IsToldAs, IsJobOf, CoreIs}
use Rattle.std.proofs.Common.{◌*◌, Option}
use Rattle.machine_defs.specs.Jobs.{Job}
use Rattle.vault_core.proofs.Alike.{table-like}
use Rattle.vault_core.proofs.Pairs.{pair_some}
use Rattle.vault_core.proofs.Standing.{same_job}
use Rattle.vault_core.proofs.Links.{next_same}
use Rattle.vault_core.proofs.Fronts.{shared, shared-waits}
use Rattle.vault_core.proofs.Steps.{flight-stands, flight-moves}

-- a stream that is in an append does not wait for a stripe
pub flies_free : (s : Setup) (j : CoreJob) (m : Job) → IsJobOf s j m → (a : Action) →
    slice_get (actions_of s m) m.place ≡ Some a → 0 < moves_before a → wanted_at s j.place j.told ≡ None
flies_free s j m is a stands begun = by j.told refl is.within
  where
    by : (o : Option ℕ) → j.told ≡ o → IsToldAs s j o → wanted_at s j.place o ≡ None
    by None e h = refl
    by (Some k) e h = elim (cases_Bool (j.place == 4 + k * s.n)) [
      | inl t ↦ absurd (omega (
        arith,
        shared-waits is.place (shared is e h) a (eqb-true j.place (4 + k * s.n) t) stands,
        begun,
      ))
      | inr f ↦ ap (λ b. if b then Some k else None) f
    ]

-- it is the one that the core gives for its job
pub flight-entry : (c : CoreView) (w : State) (a : Append) → CoreIs c w → w.append ≡ Some a →
    entry_in c a.job ≡ Some a.entry
flight-entry c w a is e = by (job_in c.jobs a.job) refl
  where
    held : written_in c a.job ≡ Some a.entry
    held = (rw e at is.append).1

    by : (o : Option CoreJob) → job_in c.jobs a.job ≡ o → entry_in c a.job ≡ Some a.entry
    by None f = cc (sym (ap (written_of c.setup c.table) f) ∙ held)
    by (Some j) f = (let p = pair_some c.setup c.jobs w.jobs a.job j is.jobs f in
        let q = same_job is.setup p.is in
        let stands = flight-stands is p.runs e in
        let next = next_same w (table-like c w is) q (flies_free (setup_in w) j p.job q stands.0 stands.1.1
        stands.1.2) ∙ ap (λ s. action_next s c.table j) (sym is.setup) in
        ap (entry_of_found c.setup c.table) f
        ∙ (ap (λ b. if b then written_by c.setup c.table j else None) (sym (ap is_move next) ∙
        flight-moves c w p.job a is p.runs e)
        ∙ (sym (ap (written_of c.setup c.table) f) ∙ held)))

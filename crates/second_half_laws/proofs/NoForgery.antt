-- No fetched row of a get is a forgery in a run that is calm by a mark.
use Rattle.second_half_laws.proofs.Words.{refl, ap, sym, subst, ◌∙◌, inl, IsTrue, In, AllOpen, File, GetJob, Job, job_of, object_of, profiled, State, IsStart, setup_in, file_object, file_in, pinned_file, Moment, now, IsRun, Mark, relies, replaced_count, heard_by, HoldsForgery, same_value, HasFile, heard_blocks, setup_same, runs_shape}
use Rattle.std.proofs.Common.{◌≡◌, ℕ, List, [], ◌∷◌, Some}
use Rattle.std.specs.Prelude.{◌≤◌}
use Rattle.second_half_laws.proofs.Absent.{own_row}
use Rattle.second_half_laws.proofs.GetEnds.{have_files}
use Rattle.second_half_laws.proofs.EveryRun.{always}
use Rattle.second_half_laws.proofs.Points.{Facts, begin_of, mark_of}
use Rattle.second_half_laws.proofs.Readers.{few_there}

-- no running get of a run that is calm by a mark has fetched a forgery against its file
pub no_forgery : (limit : ℕ) (mark : Mark) (start : State) (ms : List Moment) → IsStart start →
    IsRun limit start ms → Facts mark start ms →
    ((k : ℕ) (j : Job) → job_of (now start ms).jobs k ≡ Some j → IsTrue (relies j.kind) →
    replaced_count (now start ms) (mark_of mark ms j) ms ≤ (setup_in (now start ms)).b) →
    (number : ℕ) (job : Job) (name : List ℕ) (file : File) → job_of (now start ms).jobs number ≡ Some job →
    job.kind ≡ GetJob name → file_in (begin_of start ms job) name ≡ Some file →
    HoldsForgery (file_object (begin_of start ms job) file) ((begin_of start ms job).bytes file.id) job.number
    (heard_by (Some job)) → ⊥
no_forgery limit mark start ms clean run F calm number job name file runs kind in_effect forged =
    of_now (subst (λ t. HoldsForgery (object_of (profiled t file.profile) file.id)
    ((now start ms).bytes file.id) job.number (heard_by (Some job))) (sym setup)
    (subst (λ y. HoldsForgery (file_object (begin_of start ms job) file) y job.number
    (heard_by (Some job))) ((always limit start clean ms run).pinned number job
    (pinned_file (begin_of start ms job) file) runs in_file) forged))
  where
    H : HasFile (begin_of start ms job) (now start ms) job name
    H = have_files limit start clean ms run number job name runs kind

    setup : setup_in (now start ms) ≡ setup_in (begin_of start ms job)
    setup = setup_same (now start ms) (begin_of start ms job) H.setup

    pinned : job.pinned ≡ pinned_file (begin_of start ms job) file ∷ []
    pinned = H.pinned ∙ ap (λ f. pinned_file (begin_of start ms job) f ∷ [])
        (same_value _ H.file file H.in_effect in_effect)

    in_file : In (pinned_file (begin_of start ms job) file) job.pinned
    in_file = subst (In (pinned_file (begin_of start ms job) file)) (sym pinned) (inl refl)

    of_now : HoldsForgery (file_object (now start ms) file) ((now start ms).bytes file.id) job.number
        (heard_by (Some job)) → ⊥
    of_now h = (let f = h.forgery in
        let few = few_there mark start ms F calm number job (pinned_file (begin_of start ms job) file)
        h.stripe runs (ap relies kind) in_file f.row_in.stripe_in in
        f.forged.other (own_row _ _ _ _ _ _ _ f.row refl (runs_shape limit start ms clean run number job runs)
        f.row_in few (subst (λ seen. AllOpen (file_object (now start ms) file) h.stripe 0
        seen f.opened) (heard_blocks job name _ _ _ kind) f.opens) f.forged.accepted))

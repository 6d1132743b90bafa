-- What a get was given that a step ended.
use Rattle.second_half_laws.proofs.Words.{refl, sym, subst, inl, arith, In, stripes, File, GetJob, Fetched, Job, job_of, profiled, stripes_of, Fetch, Work, Got, Lost, Step, Ended, State, IsStart, setup_in, file_object, file_in, pinned_file, block_given, next_action, Moment, now, first_moments, IsRun, event_end, all, setup_same, next_stands, WasFetched}
use Rattle.std.proofs.Common.{◌≡◌, ℕ, ◌<◌, List, [], ◌∷◌, length, Some}
use Rattle.second_half_laws.proofs.GetEnds.{begin_of, have_files, Get_ends, get_ends}
use Rattle.second_half_laws.proofs.Places.{fetched_before_end}
use Rattle.second_half_laws.proofs.MadeFacts.{facts, fetched_at, given_block}

-- a get that gave bytes had fetched each stripe of its file from each provider
pub got_fetched : (limit : ℕ) (start : State) (m : Moment) (ms : List Moment) (job : Job)
    (name bytes : List ℕ) (file : File) (j stripe : ℕ) → IsStart start → IsRun limit start (m ∷ ms) →
    m.event ≡ Step job.number →
    m.outcome ≡ Ended (Got bytes) → job_of (now start ms).jobs job.number ≡ Some job →
    job.kind ≡ GetJob name → file_in (now start (first_moments job.begun ms)) name ≡ Some file →
    j < (setup_in (now start ms)).n →
    stripe < stripes (file_object (now start (first_moments job.begun ms)) file)
    (length ((now start (first_moments job.begun ms)).bytes file.id)) →
    WasFetched start ms job j file.id stripe (block_given job.given file.id stripe j)
got_fetched limit start m ms job name bytes file j stripe clean run event outcome runs kind in_effect k l =
    (let H = have_files limit start clean ms run.2 job.number job name runs kind in
    let b : State = begin_of start ms job in let same : H.file ≡ file = cc in
    let pinned : job.pinned ≡ pinned_file b file ∷ [] = cc in let t = setup_same (now start ms) b H.setup in
    let few : stripe < stripes_of (profiled (setup_in (now start ms)) file.profile) (length (b.bytes file.id))
    =
    subst (λ u. stripe < stripes_of (profiled u file.profile) (length (b.bytes file.id))) (sym t) l
    in let F = facts limit start clean ms run.2 in
    let made = fetched_before_end _ job name _ stripe j kind (event_end limit _ _ _ _ _ job _ (λ h. h) event
    outcome runs run.1).0 (subst (In (pinned_file b file)) (sym pinned) (inl refl)) few k in
    let g = (F.made job.number job made.place (Fetch j file.id stripe) runs made.made made.action).1 in
    F.came job.number job (Fetched j file.id stripe (block_given job.given file.id stripe j)) runs
    (given_block job.given j file.id stripe g.0 g.1))

-- a get that is lost at a stripe had fetched this stripe from each provider
pub lost_fetched : (limit : ℕ) (start : State) (m : Moment) (ms : List Moment) (job : Job) (name : List ℕ)
    (file : File) (j stripe row : ℕ) → IsStart start → IsRun limit start (m ∷ ms) →
    m.event ≡ Step job.number → m.outcome ≡ Ended (Lost stripe row) →
    job_of (now start ms).jobs job.number ≡ Some job → job.kind ≡ GetJob name →
    file_in (now start (first_moments job.begun ms)) name ≡ Some file → j < (setup_in (now start ms)).n →
    WasFetched start ms job j file.id stripe (block_given job.given file.id stripe j)
lost_fetched limit start m ms job name file j stripe row clean run event outcome runs kind in_effect k =
    (let H = have_files limit start clean ms run.2 job.number job name runs kind in
    let b : State = begin_of start ms job in let same : H.file ≡ file = cc in
    by_end (get_ends limit start m ms job name _ _ (all limit start clean ms run.2).numbers.idle.lone run
    event outcome runs kind (cc)))
  where
    at_work : (s : ℕ) → s ≡ stripe → next_action (now start ms) job ≡ Some (Work file.id s) →
        WasFetched start ms job j file.id stripe (block_given job.given file.id stripe j)
    at_work s is next_is = fetched_at start ms (facts limit start clean ms run.2) job.number job job.place j
        file.id stripe runs (omega arith) (next_stands _ job _ (cc) (λ e. cc)) k

    by_end : Get_ends (now start ms) job (pinned_file (begin_of start ms job) file) (Lost stripe row) →
        WasFetched start ms job j file.id stripe (block_given job.given file.id stripe j)
    by_end (Get_ends.with_bytes bytes is) = absurd (cc is)
    by_end (Get_ends.is_lost s r is next_is lost) = at_work s (cc is) next_is

use Rattle.second_half_laws.proofs.Words.{◌⊎◌, inl, inr, Answer, Got, Lost, pinned_file, Pinned, Job, now, State, all}
use Rattle.std.proofs.Common.{◌≡◌, ℕ, List}
use Rattle.second_half_laws.proofs.GetEnds.{begin_of, have_files, Get_ends, get_ends}
use Rattle.second_half_laws.proofs.laws.gets_end_so.Goals as goal

ends_so : (old : State) (job : Job) (f : Pinned) (how : Answer) → Get_ends old job f how →
    ((bytes : List ℕ) × (how ≡ Got bytes)) ⊎ ((stripe : ℕ) × (row : ℕ) × (how ≡ Lost stripe row))
ends_so old job f how (Get_ends.with_bytes bytes e) = inl (bytes, e)
ends_so old job f how (Get_ends.is_lost stripe row e next_is lost) = inr (stripe, row, e)

pub returns : goal.returns
returns c limit start m ms job name how clean run event outcome runs kind =
    (let H = have_files limit start clean ms run.2 job.number job name runs kind in
    ends_so (now start ms) job (pinned_file (begin_of start ms job) H.file) how
    (get_ends limit start m ms job name (pinned_file (begin_of start ms job) H.file) how
    (all limit start clean ms run.2).numbers.idle.lone run event outcome runs kind H.pinned))

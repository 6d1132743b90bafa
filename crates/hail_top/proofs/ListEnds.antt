-- How a list ends whose vault was opened.
use Rattle.hail_top.proofs.Words.{◌≡◌, ℕ, List, refl, sym, subst, Record, files_of, list_lines, Seen, Ending, IsSynced, sinking, WritesLine, IsOpened, AnswersList, listed, ending_with}

-- the files were written, or cut off
pub listed-told : (records : List Record) (old new : Seen) (end : Ending) (status : ℕ) →
    end ≡ ending_with status 0 → IsOpened old records
    → WritesLine (list_lines (files_of records)) status (sinking old new) → IsSynced old new →
    new.providers ≡ old.providers → AnswersList old new end
listed-told records old new end status is opened written synced same =
    subst (λ (e : Ending). AnswersList old new e) (sym is)
    (listed records opened
    (record { written = written; place = refl; heard = refl; disk = synced; providers = same }))

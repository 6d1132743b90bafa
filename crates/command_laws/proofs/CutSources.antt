-- Commands whose source failed, or has more bytes than a file may have: which end so, and what they leave.
use Rattle.command_laws.proofs.Words.{◌≡◌, ◌⊎◌, ℕ, List, Option, Some, None, refl, sym, ◌∙◌, inl, inr, arith, Record, Area, Kind, PutJob, GetJob, DropJob, AuditJob, RepairJob, UpgradeJob, Command, Numbers, RowOf, InitWith, PutUnder, PutAt, ListAll, ScrubAll, PackJournal, Seen, Ending, IsRefused, sinking, WritesLine, refusal_over, pack_refusal_over, AnswersInit, InitsDisk, AnswersScrub, AnswersPack, AnswersPut, AnswersAlone, AnswersList, Answers, put_of, GivesUpPut}
use Rattle.machine_defs.specs.Refusals as refusal
use Rattle.command_laws.proofs.Known.{refused-not, told-refusal, status-written, status-ended}
use Rattle.command_laws.proofs.InitEnds.{init-not}
use Rattle.command_laws.proofs.RowCauses.{none-at}
use Rattle.command_laws.proofs.JobEnds.{never, short-never, cut-not, unstarted-cut, ended-cut, job-cut, given-gives}
use Rattle.command_laws.proofs.Images.{ReadsNone}

-- its source failed, or is too long
abbrev IsCut : ℕ → Type 0
IsCut status = (status ≡ 14) ⊎ (status ≡ 16)

-- ---- commands that read no source

-- only a put is refused for a length
kind-short : (area : Area) (kind : Kind) (records : List Record) → ReadsNone kind →
    refusal_over area records kind None ≡ Some refusal.TooLong → ⊥
kind-short area (PutJob name bytes) records none = absurd none
kind-short area (GetJob name) records none =
    never _ refusal.BadName _ (λ e. cc) (never _ refusal.NoSuchName None (λ e. cc) (λ e. cc))
kind-short area (DropJob name) records none = never _ refusal.BadName _ (λ e. cc)
    (never _ refusal.NoSuchName _ (λ e. cc) (never _ refusal.JournalFull None (λ e. cc) (λ e. cc)))
kind-short area AuditJob records none =
    never _ refusal.RepairDue _ (λ e. cc) (never _ refusal.JournalFull None (λ e. cc) (λ e. cc))
kind-short area RepairJob records none =
    never _ refusal.NothingDue _ (λ e. cc) (never _ refusal.JournalFull None (λ e. cc) (λ e. cc))
kind-short area UpgradeJob records none =
    never _ refusal.NewVersion _ (λ e. cc) (never _ refusal.JournalFull None (λ e. cc) (λ e. cc))

alone-cut : (kind : Kind) (old new : Seen) (end : Ending) → ReadsNone kind → AnswersAlone kind old new end →
    IsCut end.status → ⊥
alone-cut kind old new end none (AnswersAlone.unstarted u) cut = unstarted-cut old new end u cut
alone-cut kind old new end none (AnswersAlone.begun records opened A) cut =
    job-cut kind None records old new end (kind-short opened.area kind records none) A cut

written-cut : (text : List ℕ) (old new : Seen) (end : Ending) →
    WritesLine text end.status (sinking old new) → IsCut end.status → ⊥
written-cut text old new end w cut = ended-cut end.status (status-written text old new end w) cut

list-cut : (old new : Seen) (end : Ending) → AnswersList old new end → IsCut end.status → ⊥
list-cut old new end (AnswersList.unstarted u) cut = unstarted-cut old new end u cut
list-cut old new end (AnswersList.no_memory r) cut = cut-not 70 r.status_is refl cut
list-cut old new end (AnswersList.listed records opened L) cut = written-cut _ old new end L.written cut

scrub-cut : (old new : Seen) (end : Ending) → AnswersScrub old new end → IsCut end.status → ⊥
scrub-cut old new end (AnswersScrub.unstarted u) cut = unstarted-cut old new end u cut
scrub-cut old new end (AnswersScrub.no_memory records opened synced r) cut = cut-not 70 r.status_is refl cut
scrub-cut old new end (AnswersScrub.ended records how opened synced heard runs left by) cut =
    ended-cut end.status (status-ended _ how old new end by) cut

-- nor is a pack
pack-short : (area : Area) (records : List Record) → pack_refusal_over area records ≡ Some refusal.TooLong → ⊥
pack-short area records =
    never _ refusal.OldVersion _ (λ e. cc) (never _ refusal.PackTooLong None (λ e. cc) (λ e. cc))

pack-cut : (old new : Seen) (end : Ending) → AnswersPack old new end → IsCut end.status → ⊥
pack-cut old new end (AnswersPack.unstarted u) cut = unstarted-cut old new end u cut
pack-cut old new end (AnswersPack.refused records why opened is synced r) (inl e) =
    refused-not why 14 refl (λ k. omega (arith, k)) (sym r.status_is ∙ e)
pack-cut old new end (AnswersPack.refused records why opened is synced r) (inr e) =
    pack-short opened.area records (is ∙ told-refusal end why refusal.TooLong
    (λ k. omega (arith, sym e ∙ (r.status_is ∙ k))) r.status_is (λ k. omega (arith, k)) e)
pack-cut old new end (AnswersPack.no_memory records opened synced r) cut = cut-not 70 r.status_is refl cut
pack-cut old new end (AnswersPack.ended records how opened none heard runs left by) cut =
    ended-cut end.status (status-ended _ how old new end by) cut

row-cut : (n l b : ℕ) (seen : List (Option ℕ)) (old new : Seen) (end : Ending) →
    Answers (RowOf n l b seen) old new end → IsCut end.status → ⊥
row-cut n l b seen old new end A (inl is) = none-at n l b seen old new end A.0 14 is refl
row-cut n l b seen old new end A (inr is) = none-at n l b seen old new end A.0 16 is refl

-- ---- an init and a put

-- an init whose source failed has changed nothing
init-cut : (numbers : Numbers) (old new : Seen) (end : Ending) → AnswersInit numbers old new end →
    IsCut end.status → (end.status ≡ 14) × IsRefused 14 0 old new end
init-cut numbers old new end (AnswersInit.source_fault good enough rose taken r) cut = (r.status_is, r)
init-cut numbers old new end (AnswersInit.keyed seen key good enough read form (InitsDisk.ready R)) cut = absurd (written-cut _ old new end R.written cut)
init-cut numbers old new end A cut = absurd (elim cut [
  | inl e ↦ init-not numbers old new end A 14 e refl
  | inr e ↦ init-not numbers old new end A 16 e refl
])

-- a put whose source failed before its begin has changed nothing; else it was given up
put-cut : (name : List ℕ) (own : Option ℕ) (old new : Seen) (end : Ending) → AnswersPut name own old new end →
    IsCut end.status → ((end.status ≡ 14) × IsRefused 14 0 old new end) ⊎ GivesUpPut name own old new end
put-cut name own old new end (AnswersPut.unstarted u same) cut = absurd (unstarted-cut old new end u cut)
put-cut name own old new end (AnswersPut.bad_profile records opened unknown synced same r) cut =
    absurd (cut-not 20 r.status_is refl cut)
put-cut name own old new end (AnswersPut.source_fault records opened known rose synced taken r) cut =
    inl (r.status_is, r)
put-cut name own old new end (AnswersPut.no_memory taken r) cut = absurd (cut-not 70 r.status_is refl cut)
put-cut name own old new end (AnswersPut.begun records bytes opened known read few A whole one) cut =
    absurd (job-cut (PutJob name bytes) own records old new end
    (short-never opened.area records name bytes own few) A cut)
put-cut name own old new end (AnswersPut.given_up records bytes opened known none stops runs left) cut =
    inr (given-gives name bytes own records old new end opened known none stops left)

-- ---- all commands

-- a put that was given up
abbrev IsGivenUp : Command → Seen → Seen → Ending → Type 0
IsGivenUp command old new end =
    (name : List ℕ) × (own : Option ℕ) × (command ≡ put_of name own) × GivesUpPut name own old new end

command-cut : (command : Command) (old new : Seen) (end : Ending) → Answers command old new end →
    IsCut end.status → ((end.status ≡ 14) × IsRefused 14 0 old new end) ⊎ IsGivenUp command old new end
command-cut (RowOf n l b seen) old new end A cut = absurd (row-cut n l b seen old new end A cut)
command-cut (InitWith numbers) old new end A cut = inl (init-cut numbers old new end A cut)
command-cut (PutUnder name) old new end A cut = elim (put-cut name None old new end A cut) [
  | inl same ↦ inl same
  | inr given ↦ inr (name, None, refl, given)
]
command-cut (PutAt name profile) old new end A cut = elim (put-cut name (Some profile) old new end A cut) [
  | inl same ↦ inl same
  | inr given ↦ inr (name, Some profile, refl, given)
]
command-cut ListAll old new end A cut = absurd (list-cut old new end A.0 cut)
command-cut ScrubAll old new end A cut = absurd (scrub-cut old new end A.0 cut)
command-cut PackJournal old new end A cut = absurd (pack-cut old new end A.0 cut)
command-cut command old new end A cut = absurd (alone-cut _ old new end tt A.0 cut)

-- a command whose source failed has changed nothing, or is a put that was given up
pub source-told : (command : Command) (old new : Seen) (end : Ending) → Answers command old new end →
    end.status ≡ 14 → IsRefused 14 0 old new end ⊎ IsGivenUp command old new end
source-told command old new end A is = elim (command-cut command old new end A (inl is)) [
  | inl same ↦ inl same.1
  | inr given ↦ inr given
]

-- one whose source is too long is a put that was given up
pub long-told : (command : Command) (old new : Seen) (end : Ending) → Answers command old new end →
    end.status ≡ 16 → IsGivenUp command old new end
long-told command old new end A is = elim (command-cut command old new end A (inr is)) [
  | inl same ↦ absurd (omega (arith, sym same.0 ∙ is))
  | inr given ↦ given
]

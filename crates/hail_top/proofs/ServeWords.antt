-- The words that ask to serve a provider: one number at most, and no other command.
use Rattle.hail_top.proofs.Words.{◌≡◌, ℕ, true, false, List, [], ◌∷◌, refl, ap, sym, subst, ◌∙◌, codes, bytes_eq, Global, false≢true, Seen, Ending, Spelled, RowOf, InitWith, PutUnder, PutAt, GetOf, DropOf, ListAll, AuditAll, RepairAll, UpgradeJournal, ScrubAll, PackJournal, IsForm, IsFormOf, Form, IsServeForm, AnswersServe, ending_with}
use Rattle.std.proofs.Common.{String}
use Rattle.hail_replay.specs.declared.forms.Form.TheVariants as forms
use Rattle.provider_server.specs.Answers as answers
use Rattle.hail_top.proofs.FormWords.{first-word, command-word, form-word, command-first, form-first}

-- the number is told by its word
serve-once : (words : List (String Global)) (number other : ℕ) → IsServeForm words number →
    IsServeForm words other → number ≡ other
serve-once [] number other one two = absurd one
serve-once (first ∷ []) number other one two = absurd one
serve-once (first ∷ second ∷ []) number other one two = sym one.1.value ∙ two.1.value
serve-once (first ∷ second ∷ third ∷ words) number other one two = absurd one

-- the provider of the number that was read was served, so that of the number that the words spell was
pub answered-serve : (words : List (String Global)) (number other : ℕ) (old new : Seen) (end told : Ending) →
    IsServeForm words number
    → AnswersServe number old new end → told ≡ end → IsServeForm words other → AnswersServe other old new told
answered-serve words number other old new end told found a same is =
    subst (λ (n : ℕ). AnswersServe n old new told) (serve-once words number other found is)
    (subst (λ (e : Ending). AnswersServe number old new e) (sym same) a)

-- where there was no memory, nothing is touched
pub unstarted-serve : (number : ℕ) (same : Seen) (end : Ending) → end ≡ ending_with 70 0 →
    AnswersServe number same same end
unstarted-serve number same end is = answers.no_memory is refl

-- ---- words that spell another command

serve-first : (words : List (String Global)) (number : ℕ) → IsServeForm words number →
    first-word words ≡ codes "serve"
serve-first [] number form = absurd form
serve-first (c ∷ []) number form = absurd form
serve-first (c ∷ n ∷ []) number form = form.0
serve-first (c ∷ n ∷ more ∷ words) number form = absurd form

command-apart : (command : Spelled) → bytes_eq (command-word command) (codes "serve") ≡ false
command-apart (RowOf n l b seen) = refl
command-apart (InitWith numbers) = refl
command-apart (PutUnder name) = refl
command-apart (PutAt name profile) = refl
command-apart (GetOf name) = refl
command-apart (DropOf name) = refl
command-apart ListAll = refl
command-apart AuditAll = refl
command-apart RepairAll = refl
command-apart UpgradeJournal = refl
command-apart ScrubAll = refl
command-apart PackJournal = refl

form-apart : (form : Form) → bytes_eq (form-word form) (codes "serve") ≡ false
form-apart forms.Replay = refl
form-apart (forms.Trial number) = refl

serve-same : bytes_eq (codes "serve") (codes "serve") ≡ true
serve-same = refl

-- words with such a first word ask to serve nothing
apart : (word : List ℕ) (words : List (String Global)) (number : ℕ) → first-word words ≡ word →
    bytes_eq word (codes "serve") ≡ false → IsServeForm words number → ⊥
apart word words number first differs is = (let meet = sym first ∙ serve-first words number is in
    false≢true (sym differs ∙ (ap (λ (w : List ℕ). bytes_eq w (codes "serve")) meet ∙ serve-same)))

-- words that spell a command ask to serve nothing
pub no-serve : (words : List (String Global)) (command : Spelled) (number : ℕ) → IsForm words command →
    IsServeForm words number → ⊥
no-serve words command number spelled is =
    apart (command-word command) words number (command-first words command spelled) (command-apart command) is

-- nor do those of a replay or a trial
pub form-serves-none : (words : List (String Global)) (form : Form) (number : ℕ) → IsFormOf words form →
    IsServeForm words number → ⊥
form-serves-none words form number spelled is =
    apart (form-word form) words number (form-first words form spelled) (form-apart form) is

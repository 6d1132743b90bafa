-- The forms of the two commands that carry events out: words spell one of them at most, and then no other
-- command.
use Rattle.hail_top.proofs.Words.{◌≡◌, ℕ, true, false, List, [], ◌∷◌, refl, ap, sym, subst, ◌∙◌, codes, bytes_eq, Global, false≢true, Seen, Ending, IsRowForm, Numbers, Spelled, RowOf, InitWith, PutUnder, PutAt, GetOf, DropOf, ListAll, AuditAll, RepairAll, UpgradeJournal, ScrubAll, PackJournal, IsForm, IsInitForm, IsNamedForm, IsPutAtForm, IsBareForm, IsReplayForm, IsTrialForm, IsFormOf, Form, AnswersForm}
use Rattle.std.proofs.Common.{String}
use Rattle.std.specs.Prelude.{Option}
use Rattle.std.specs.String.{string_bytes}
use Rattle.hail_replay.specs.declared.forms.Form.TheVariants as forms

-- one word is not two
replay-alone : (words : List (String Global)) (number : ℕ) → IsReplayForm words → IsTrialForm words number → ⊥
replay-alone [] number one other = one
replay-alone (first ∷ []) number one other = other
replay-alone (first ∷ second ∷ words) number one other = one

-- the number of a trial is told by its word
trial-once : (words : List (String Global)) (number other : ℕ) → IsTrialForm words number →
    IsTrialForm words other → number ≡ other
trial-once [] number other one two = absurd one
trial-once (first ∷ []) number other one two = absurd one
trial-once (first ∷ second ∷ []) number other one two = sym one.1.value ∙ two.1.value
trial-once (first ∷ second ∷ third ∷ words) number other one two = absurd one

-- words spell one form at most
form-once : (words : List (String Global)) (form other : Form) → IsFormOf words form → IsFormOf words other →
    form ≡ other
form-once words forms.Replay forms.Replay one two = refl
form-once words forms.Replay (forms.Trial other) one two = absurd (replay-alone words other one two)
form-once words (forms.Trial number) forms.Replay one two = absurd (replay-alone words number two one)
form-once words (forms.Trial number) (forms.Trial other) one two =
    ap (λ (n : ℕ). forms.Trial n) (trial-once words number other one two)

-- the form that was read was answered, so the one that the words spell was
pub answered-form : (words : List (String Global)) (form other : Form) (old new : Seen) (end : Ending) →
    IsFormOf words form → AnswersForm form old new end → IsFormOf words other → AnswersForm other old new end
answered-form words form other old new end found a is =
    subst (λ (f : Form). AnswersForm f old new end) (form-once words form other found is) a

-- ---- words that spell a command

abbrev pub first-word : List (String Global) → List ℕ
first-word [] = []
first-word (word ∷ words) = string_bytes word

abbrev pub command-word : Spelled → List ℕ
command-word (RowOf n l b seen) = codes "row"
command-word (InitWith numbers) = codes "init"
command-word (PutUnder name) = codes "put"
command-word (PutAt name profile) = codes "put"
command-word (GetOf name) = codes "get"
command-word (DropOf name) = codes "drop"
command-word ListAll = codes "list"
command-word AuditAll = codes "audit"
command-word RepairAll = codes "repair"
command-word UpgradeJournal = codes "upgrade"
command-word ScrubAll = codes "scrub"
command-word PackJournal = codes "pack"

abbrev pub form-word : Form → List ℕ
form-word forms.Replay = codes "replay"
form-word (forms.Trial number) = codes "trial"

row-first : (words : List (String Global)) (n l b : ℕ) (seen : List (Option ℕ)) → IsRowForm words n l b seen →
    first-word words ≡ codes "row"
row-first (c ∷ f ∷ s ∷ t ∷ words) n l b seen form = form.0
row-first [] n l b seen form = absurd form
row-first (c ∷ []) n l b seen form = absurd form
row-first (c ∷ f ∷ []) n l b seen form = absurd form
row-first (c ∷ f ∷ s ∷ []) n l b seen form = absurd form

init-first : (words : List (String Global)) (numbers : Numbers) → IsInitForm words numbers →
    first-word words ≡ codes "init"
init-first [] numbers form = absurd form
init-first (c ∷ words) numbers form = form.0

named-first : (command : List ℕ) (words : List (String Global)) (name : List ℕ) →
    IsNamedForm command words name → first-word words ≡ command
named-first command [] name form = absurd form
named-first command (c ∷ []) name form = absurd form
named-first command (c ∷ n ∷ []) name form = form.0
named-first command (c ∷ n ∷ more ∷ words) name form = absurd form

put_at-first : (words : List (String Global)) (name : List ℕ) (profile : ℕ) →
    IsPutAtForm words name profile → first-word words ≡ codes "put"
put_at-first [] name profile form = absurd form
put_at-first (c ∷ []) name profile form = absurd form
put_at-first (c ∷ n ∷ []) name profile form = absurd form
put_at-first (c ∷ n ∷ p ∷ []) name profile form = form.0
put_at-first (c ∷ n ∷ p ∷ more ∷ words) name profile form = absurd form

bare-first : (command : List ℕ) (words : List (String Global)) → IsBareForm command words →
    first-word words ≡ command
bare-first command [] form = absurd form
bare-first command (c ∷ []) form = form
bare-first command (c ∷ more ∷ words) form = absurd form

trial-first : (words : List (String Global)) (number : ℕ) → IsTrialForm words number →
    first-word words ≡ codes "trial"
trial-first [] number form = absurd form
trial-first (c ∷ []) number form = absurd form
trial-first (c ∷ n ∷ []) number form = form.0
trial-first (c ∷ n ∷ more ∷ words) number form = absurd form

-- the first word of a form is that of its command
pub command-first : (words : List (String Global)) (command : Spelled) → IsForm words command →
    first-word words ≡ command-word command
command-first words (RowOf n l b seen) form = row-first words n l b seen form
command-first words (InitWith numbers) form = init-first words numbers form
command-first words (PutUnder name) form = named-first (codes "put") words name form
command-first words (PutAt name profile) form = put_at-first words name profile form
command-first words (GetOf name) form = named-first (codes "get") words name form
command-first words (DropOf name) form = named-first (codes "drop") words name form
command-first words ListAll form = bare-first (codes "list") words form
command-first words AuditAll form = bare-first (codes "audit") words form
command-first words RepairAll form = bare-first (codes "repair") words form
command-first words UpgradeJournal form = bare-first (codes "upgrade") words form
command-first words ScrubAll form = bare-first (codes "scrub") words form
command-first words PackJournal form = bare-first (codes "pack") words form

-- the first word tells the form
pub form-first : (words : List (String Global)) (form : Form) → IsFormOf words form →
    first-word words ≡ form-word form
form-first words forms.Replay is = bare-first (codes "replay") words is
form-first words (forms.Trial number) is = trial-first words number is

replay-apart : (command : Spelled) → bytes_eq (command-word command) (codes "replay") ≡ false
replay-apart (RowOf n l b seen) = refl
replay-apart (InitWith numbers) = refl
replay-apart (PutUnder name) = refl
replay-apart (PutAt name profile) = refl
replay-apart (GetOf name) = refl
replay-apart (DropOf name) = refl
replay-apart ListAll = refl
replay-apart AuditAll = refl
replay-apart RepairAll = refl
replay-apart UpgradeJournal = refl
replay-apart ScrubAll = refl
replay-apart PackJournal = refl

trial-apart : (command : Spelled) → bytes_eq (command-word command) (codes "trial") ≡ false
trial-apart (RowOf n l b seen) = refl
trial-apart (InitWith numbers) = refl
trial-apart (PutUnder name) = refl
trial-apart (PutAt name profile) = refl
trial-apart (GetOf name) = refl
trial-apart (DropOf name) = refl
trial-apart ListAll = refl
trial-apart AuditAll = refl
trial-apart RepairAll = refl
trial-apart UpgradeJournal = refl
trial-apart ScrubAll = refl
trial-apart PackJournal = refl

words-apart : (command : Spelled) (form : Form) → bytes_eq (command-word command) (form-word form) ≡ false
words-apart command forms.Replay = replay-apart command
words-apart command (forms.Trial number) = trial-apart command

word-same : (form : Form) → bytes_eq (form-word form) (form-word form) ≡ true
word-same forms.Replay = refl
word-same (forms.Trial number) = refl

-- words that spell a command spell no such form
pub no-form : (words : List (String Global)) (command : Spelled) (form : Form) → IsForm words command →
    IsFormOf words form → ⊥
no-form words command form spelled is =
    (let meet = sym (command-first words command spelled) ∙ form-first words form is in
    false≢true (sym (words-apart command form)
    ∙ (ap (λ (word : List ℕ). bytes_eq word (form-word form)) meet ∙ word-same form)))

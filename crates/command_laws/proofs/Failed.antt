-- What a store that failed and a lost row leave, and that nothing is fetched by the other commands.
use Rattle.command_laws.proofs.Words.{◌≡◌, ℕ, ◌≤◌, true, List, length, Option, None, refl, ap, sym, subst, ◌∙◌, inl, inr, cases_lt, Provider, Record, largest_file, Area, Kind, PutJob, GetJob, DropJob, AuditJob, RepairJob, UpgradeJob, Answer, Command, Numbers, RowOf, InitWith, PutUnder, PutAt, GetOf, DropOf, ListAll, AuditAll, UpgradeJournal, PackJournal, WritesLine, Seen, Ending, ReadsFront, provider_at, sinking, IsOpened, setup_in_effect, Ran, text_of, LosesStripe, flags, LosesAtPlace, EndsByAnswer, LeavesBy, LeftAlone, AnswersInit, PackLeaves, AnswersPack, AnswersPut, AnswersAlone, AnswersList, Answers, ran_to, SameFetches, stores_blocks, opens_rows, FailsToPut, FailsToRepair, LosesFile, LosesRepair}
use Rattle.machine_defs.specs.Answers as answer
use Rattle.command_laws.proofs.Known.{written-so}
use Rattle.command_laws.proofs.GetEnds.{ran_left}
use Rattle.command_laws.proofs.RowCauses.{none-at}
use Rattle.command_laws.proofs.JobEnds.{images-have, left-same, given-not, fits, ends-at}
use Rattle.command_laws.proofs.Early.{early-not, early-same, alone-cases, put-cases, list-cases, pack-cases, init-cases, is_early}
use Rattle.std.proofs.Common.{◌||◌, ◌==◌, false, Bool, not}
use Rattle.std.proofs.lemmas.Bool.{false≢true}

-- ---- nothing is fetched

-- how often a provider was fetched from
abbrev fetches_of : Provider → ℕ
fetches_of p = p.fetches

-- a put fetches nothing
pub put-fetches : (name : List ℕ) (old new : Seen) (end : Ending) {own : Option ℕ} →
    AnswersPut name own old new end → SameFetches old new
put-fetches name old new end = put-cases (early-same fetches_of)
    (λ records bytes opened known none stops left j. elim (cases_lt j (setup_in_effect records).n) [
      | inl l ↦ left.fetches j l
      | inr l ↦ ap fetches_of (left.others j l)
    ])
    (λ records bytes opened known read few how none left whole by.
    left-same fetches_of records (PutJob name bytes) how old new end.heard left left.leaves.by_kind.1)

-- a drop fetches nothing
pub drop-fetches : (name : List ℕ) (old new : Seen) (end : Ending) → AnswersAlone (DropJob name) old new end →
    SameFetches old new
drop-fetches name old new end = alone-cases (early-same fetches_of) (λ records opened how none left by.
    left-same fetches_of records (DropJob name) how old new end.heard left left.leaves.by_kind.1)

-- an audit fetches nothing
pub audit-fetches : (old new : Seen) (end : Ending) → AnswersAlone AuditJob old new end → SameFetches old new
audit-fetches old new end = alone-cases (early-same fetches_of) (λ records opened how none left by.
    left-same fetches_of records AuditJob how old new end.heard left left.leaves.by_kind.fetches)

-- an upgrade fetches nothing
pub upgrade-fetches : (old new : Seen) (end : Ending) → AnswersAlone UpgradeJob old new end →
    SameFetches old new
upgrade-fetches old new end = alone-cases (early-same fetches_of) (λ records opened how none left by.
    left-same fetches_of records UpgradeJob how old new end.heard left left.leaves.by_kind.1)

-- a list fetches nothing
pub list-fetches : (old new : Seen) (end : Ending) → AnswersList old new end → SameFetches old new
list-fetches old new end = list-cases (early-same fetches_of)
    (λ records opened L j. ap (λ ps. (provider_at ps j).fetches) L.providers)

-- an init fetches nothing
pub init-fetches : (numbers : Numbers) (old new : Seen) (end : Ending) → AnswersInit numbers old new end →
    SameFetches old new
init-fetches numbers old new end = init-cases (early-same fetches_of)
    (λ key status two F j. ap (λ ps. (provider_at ps j).fetches) F.providers)
    (λ key R j. ap (λ ps. (provider_at ps j).fetches) R.providers)

-- ---- by the answer of its job

module _ (records : List Record) (old new : Seen) (end : Ending) (opened : IsOpened old records) where
  -- a job left this and ended with this answer, to which this status fits
  abbrev Ended : ℕ → Kind → Option ℕ → Answer → Type 0
  Ended n kind own how = LeftAlone opened.area records kind own how old new end.heard × EndsByAnswer
      (text_of (setup_in_effect records).tolerance kind how) how old new end × (fits n how ≡ true)

  put-by : (name bytes : List ℕ) {own : Option ℕ} → ReadsFront old.source new.source bytes →
      length bytes ≤ largest_file → (how : Answer) → Ended 13 (PutJob name bytes) own how →
      FailsToPut name own old new end
  put-by name bytes read few (answer.ProviderFault j) (left, by, t) = (let L = left.leaves.by_kind.0 in record {
    records = records;
    bytes = bytes;
    opened = opened;
    are_bytes = read.are_bytes;
    read = read;
    few = few;
    provider = rw (← by.place) at L.0;
    rose = rw (← by.place) at L.1;
    sink = by.sink;
    disk = images-have opened.area new.disk left.after left.doubt _ L.2.after L.2.sure left.images;
    stored = L.3;
  })
  put-by name bytes read few how (left, by, t) = absurd (first_of (assumption left.leaves.by_kind.0, cc t))

  get-by : (name : List ℕ) (how : Answer) → Ended 4 (GetJob name) None how → LosesFile name old new end
  get-by name (answer.Lost stripe row) (left, by, t) = (let L = left.leaves.by_kind in let G = L.gives in
      let H = G.hears in record {
        records = records;
        file = L.file;
        stripe = stripe;
        opened = opened;
        in_effect = L.in_effect;
        lost = subst (λ k. LosesStripe (ran_to records records old new end.heard) L.file stripe k)
            (sym by.place) (record {
              within = G.within;
              hears = record { heard = H.heard; truthful = H.truthful };
              before = G.before;
              loses = G.loses;
            });
        sink = by.sink;
        disk = images-have opened.area new.disk left.after left.doubt records L.records L.sure left.images;
      })
  get-by name how (left, by, t) = absurd (first_of (assumption left.leaves.by_kind.gives, cc t))

  repair-by : (how : Answer) → Ended 13 RepairJob None how → FailsToRepair old new end
  repair-by (answer.ProviderFault j) (left, by, t) = (let D = left.leaves.by_kind.0 in let L = D.gives in
      let S = L.4 in let P = S.part in record {
        records = records;
        due = D.due;
        opened = opened;
        is_due = D.is_due;
        provider = rw (← by.place) at L.0;
        flagged = rw (← by.place) at L.1;
        rose = rw (← by.place) at L.2;
        sink = by.sink;
        disk = images-have opened.area new.disk left.after left.doubt records L.3.after L.3.sure left.images;
        part = record {
          done = S.done;
          rest = S.rest;
          gave = S.gave;
          symbols = S.symbols;
          part = record { parts = P.parts; truth = P.truth; gives = P.gives; held = P.held };
        };
      })
  repair-by how (left, by, t) = absurd (first_of (assumption left.leaves.by_kind.0.gives, cc t))

  lost-by : (how : Answer) → Ended 4 RepairJob None how → LosesRepair old new end
  lost-by (answer.Lost stripe row) (left, by, t) = (let D = left.leaves.by_kind.0 in let L = D.gives in
      let S = L.1 in let P = S.part in record {
        records = records;
        due = D.due;
        stripe = stripe;
        opened = opened;
        is_due = D.is_due;
        lost = subst (λ k. LosesAtPlace (ran_to records records old new end.heard)
            (flags (ran_to records records old new end.heard) D.due) stripe k) (sym by.place) (record {
              done = S.done;
              place = S.place;
              rest = S.rest;
              gave = S.gave;
              symbols = S.symbols;
              part = record { parts = P.parts; truth = P.truth; gives = P.gives; held = P.held };
              truth = S.truth;
              stripe_is = S.stripe_is;
              loses = S.loses;
            });
        sink = by.sink;
        disk = images-have opened.area new.disk left.after left.doubt records L.0.after L.0.sure left.images;
      })
  lost-by how (left, by, t) = absurd (first_of (assumption left.leaves.by_kind.0.gives, cc t))

-- a put of which a store failed used its number, and changed neither the files nor what is due
pub put-fails : (name : List ℕ) (old new : Seen) (end : Ending) {own : Option ℕ} →
    AnswersPut name own old new end → end.status ≡ 13 → FailsToPut name own old new end
put-fails name old new end A is = put-cases (λ E. absurd (early-not E 13 refl is))
    (λ records bytes opened known none stops left. absurd (given-not _ bytes old new end 13 stops refl is))
    (λ records bytes opened known read few how none left whole by. put-by records old new end opened name bytes
    read few how (left, by, ends-at _ old new end 13 how by is)) A

-- a get that ends at a lost row found the lowest of the first stripe that has one, and gave nothing
pub get-loses : (name : List ℕ) (old new : Seen) (end : Ending) → AnswersAlone (GetJob name) old new end →
    end.status ≡ 4 → LosesFile name old new end
get-loses name old new end A is = alone-cases (λ E. absurd (early-not E 4 refl is))
    (λ records opened how none left by. get-by records old new end opened name how
    (left, by, ends-at _ old new end 4 how by is)) A

-- a repair of which a store failed stays due, and rewrote at most some of its blocks
pub repair-fails : (old new : Seen) (end : Ending) → AnswersAlone RepairJob old new end → end.status ≡ 13 →
    FailsToRepair old new end
repair-fails old new end A is = alone-cases (λ E. absurd (early-not E 13 refl is))
    (λ records opened how none left by. repair-by records old new end opened how
    (left, by, ends-at _ old new end 13 how by is)) A

-- a repair that ends at a lost row stays due, and rewrote at most some blocks before that place
pub repair-loses : (old new : Seen) (end : Ending) → AnswersAlone RepairJob old new end → end.status ≡ 4 →
    LosesRepair old new end
repair-loses old new end A is = alone-cases (λ E. absurd (early-not E 4 refl is))
    (λ records opened how none left by. lost-by records old new end opened how
    (left, by, ends-at _ old new end 4 how by is)) A

-- ---- no other command ends so

-- the status of a store that failed, and of a lost row
abbrev status_of : Bool → ℕ
status_of true = 13
status_of false = 4

off : (b : Bool) → is_early (status_of b) ≡ false
off true = refl
off false = refl

-- which kinds of job end so
abbrev Ends : Bool → Kind → Type 0
Ends true (PutJob name bytes) = Unit {0}
Ends false (GetJob name) = Unit {0}
Ends b RepairJob = Unit {0}
Ends b kind = ⊥

ends-kind : (b : Bool) (x : Ran) (kind : Kind) (own : Option ℕ) (how : Answer) → LeavesBy x kind own how →
    fits (status_of b) how ≡ true → Ends b kind
ends-kind true x (PutJob name bytes) own how L t = tt
ends-kind false x (GetJob name) own how L t = tt
ends-kind b x RepairJob own how L t = tt
ends-kind true x (GetJob name) own (answer.ProviderFault j) L t = L.gives
ends-kind true x AuditJob own (answer.ProviderFault j) L t = L.gives
ends-kind false x AuditJob own (answer.Lost stripe row) L t = L.gives
ends-kind true x kind own (answer.ProviderFault j) L t = L.0
ends-kind false x kind own (answer.Lost stripe row) L t = L.0
ends-kind b x kind own how L t = absurd (false≢true t)

ends-alone : (b : Bool) (kind : Kind) (old new : Seen) (end : Ending) → AnswersAlone kind old new end →
    end.status ≡ status_of b → Ends b kind
ends-alone b kind old new end A is = alone-cases (λ E. absurd (early-not E _ (off b) is))
    (λ records opened how none left by. ends-kind b (ran_left records kind how old new end.heard left) kind None
    how left.leaves.by_kind (ends-at _ old new end _ how by is)) A

put-4 : (name : List ℕ) (old new : Seen) (end : Ending) {own : Option ℕ} → AnswersPut name own old new end →
    end.status ≡ 4 → ⊥
put-4 name old new end {own} A is = put-cases (λ E. early-not E 4 refl is)
    (λ records bytes opened known none stops left. given-not _ bytes old new end 4 stops refl is)
    (λ records bytes opened known read few how none left whole by. ends-kind false
    (ran_left records (PutJob name bytes) how old new end.heard left) (PutJob name bytes) own how
    left.leaves.by_kind (ends-at _ old new end 4 how by is)) A

-- a status that is of no text, nor of a refusal
abbrev is_own : ℕ → Bool
is_own m = not ((m == 0) || (m == 12) || (m == 15) || (m == 70))

none-own : (b : Bool) (m : ℕ) → is_own m ≡ false → m ≡ status_of b → ⊥
none-own true m off is = false≢true (sym off ∙ ap is_own is)
none-own false m off is = false≢true (sym off ∙ ap is_own is)

written-own : (b : Bool) (text : List ℕ) (old new : Seen) (end : Ending) →
    WritesLine text end.status (sinking old new) → end.status ≡ status_of b → ⊥
written-own b text old new end w = none-own b end.status (written-so is_own text old new end refl refl refl w)

list-own : (b : Bool) (old new : Seen) (end : Ending) → AnswersList old new end → end.status ≡ status_of b → ⊥
list-own b old new end A is = list-cases (λ E. early-not E _ (off b) is)
    (λ records opened L. written-own b _ old new end L.written is) A

init-own : (b : Bool) (numbers : Numbers) (old new : Seen) (end : Ending) →
    AnswersInit numbers old new end → end.status ≡ status_of b → ⊥
init-own b numbers old new end A is = init-cases (λ E. early-not E _ (off b) is) (λ key status two F.
    none-own b status (elim two [ inl e ↦ ap is_own e | inr e ↦ ap is_own e ]) (sym F.status_is ∙ is))
    (λ key R. written-own b _ old new end R.written is) A

pack-own : (b : Bool) (old new : Seen) (end : Ending) → AnswersPack old new end → end.status ≡ status_of b → ⊥
pack-own b old new end A is = pack-cases {old = old} {new = new} {end = end} (λ E. early-not E _ (off b) is)
    (λ records how opened none left by.
    never b opened.area records how left.leaves (ends-at _ old new end _ how by is)) A
  where
    never : (b : Bool) (area : Area) (records : List Record) (how : Answer) →
        PackLeaves area records how old new → fits (status_of b) how ≡ true → ⊥
    never true area records (answer.ProviderFault j) L t = L
    never false area records (answer.Lost stripe row) L t = L
    never b area records how L t = false≢true t

-- which commands end so
abbrev may_end : Bool → Command → Bool
may_end true command = stores_blocks command
may_end false command = opens_rows command

ends-only : (b : Bool) (command : Command) (old new : Seen) (end : Ending) → Answers command old new end →
    end.status ≡ status_of b → may_end b command ≡ true
ends-only true (RowOf n l c seen) old new end A is = absurd (none-at n l c seen old new end A.0 13 is refl)
ends-only b (InitWith numbers) old new end A is = absurd (init-own b numbers old new end A is)
ends-only false (PutUnder name) old new end A is = absurd (put-4 name old new end A is)
ends-only false (PutAt name profile) old new end A is = absurd (put-4 name old new end A is)
ends-only true (GetOf name) old new end A is = absurd (ends-alone true (GetJob name) old new end A.0 is)
ends-only b (DropOf name) old new end A is = absurd (ends-alone b (DropJob name) old new end A.0 is)
ends-only b ListAll old new end A is = absurd (list-own b old new end A.0 is)
ends-only b AuditAll old new end A is = absurd (ends-alone b AuditJob old new end A.0 is)
ends-only b UpgradeJournal old new end A is = absurd (ends-alone b UpgradeJob old new end A.0 is)
ends-only b PackJournal old new end A is = absurd (pack-own b old new end A.0 is)
ends-only b command old new end A is = refl

-- only a put, a repair and a scrub end in a failed store
pub stores-only : (command : Command) (old new : Seen) (end : Ending) → Answers command old new end →
    end.status ≡ 13 → stores_blocks command ≡ true
stores-only = ends-only true

-- only a row, a get, a repair and a scrub end at a lost row
pub rows-only : (command : Command) (old new : Seen) (end : Ending) → Answers command old new end →
    end.status ≡ 4 → opens_rows command ≡ true
rows-only = ends-only false

-- Which records a disk reads, and its images stand for, after a job that ran over known records.
use Rattle.command_laws.proofs.Words.{◌≡◌, ◌≢◌, ℕ, ◌<◌, ◌≤◌, ◌⊎◌, Bool, true, false, cond, not, List, [], ◌∷◌, length, Option, None, Some, refl, ap, sym, subst, ◌∙◌, inl, inr, arith, is_some, IfSome, list_all, false≢true, nat_tests, Cells, reads, EachImage, Record, Setup, is_byte, is_name_byte, is_name, largest_journal, Area, end_in, StandsActive, setup_of, AreAccepted, Kind, PutJob, GetJob, DropJob, Answer, AreBytes, IsSpelledKind, Entry, Refusal, setup_or_none, State, setup_in, StandsPlain, StandsWithDoubt, StandsSwitched, StandsForState, Seen, journal_read, IsRead, IsOpened, setup_in_effect, refusal_over, RunsAlone, PartRuns, MayName, IsKnown, DiskHas, IsSure, IsImage-reads, active-take, stands-long, one_meaning, setup-more, opened_state, state-over}
use Rattle.command_laws.proofs.LastStates.{IsLast, last-state, part-state}

-- ---- a text that fits is looked at

-- ---- images of a store

-- an image stands for records that a start accepts, in this area and with this setup
pub record IsGood (s : Setup) (image : List ℕ) (area : Area) (rs : List Record) : Type 0 where
  pub some : rs ≢ []
  pub accepted : AreAccepted rs
  pub room : end_in area rs ≤ largest_journal
  pub setup : setup_in_effect rs ≡ s
  pub stands : StandsActive image area rs

-- so it does in one area or the other
abbrev pub MayBeGood : Setup → List ℕ → Type 0
MayBeGood s image = (area : Area) × (rs : List Record) × IsGood s image area rs

-- what each image of a disk is so
abbrev pub AreGood : Setup → Option Cells → Type 0
AreGood s told = EachImage told (MayBeGood s)

-- a disk that reads a good image reads its records
pub read-good : (s : Setup) (told : Option Cells) (cells : Cells) (area : Area) (rs : List Record) →
    told ≡ Some cells → IsGood s (reads cells) area rs → IsRead told area rs
read-good s told cells area rs is G = record {
  some = G.some;
  in_grammar = G.stands.holds.in_grammar;
  accepted = G.accepted;
  room = G.room;
  reads_are = subst (λ d. IfSome d (λ c. (9 < length (reads c)) × StandsActive (journal_read c) area rs))
      (sym is) (
        stands-long (reads cells) rs G.some (area, G.stands),
        active-take largest_journal (reads cells) area rs G.stands G.room,
      );
}

-- a store whose disk reads a good image is known, with its records
abbrev pub known-good : (s : Setup) (d : Seen) (cells : Cells) (area : Area) (rs : List Record) →
    d.disk ≡ Some cells → IsGood s (reads cells) area rs → s.n ≤ length d.providers → IsKnown d rs
known-good s d cells area rs is G enough = record {
  tells = ap is_some is;
  opened = record {
    area = area;
    read = read-good s d.disk cells area rs is G;
    enough = subst (λ (t : Setup). t.n ≤ length d.providers) (sym G.setup) enough;
  };
}

-- known records with another setup's text read are these
same-good : (s : Setup) (image : List ℕ) (a b : Area) (rs qs : List Record) → IsGood s image a rs →
    StandsActive image b qs → IsGood s image b qs
same-good s image a b rs qs G stands = (let one = one_meaning image a b rs qs G.stands stands in
    (rw one.0 at (subst (IsGood s image a) one.1 G)))

-- a store whose images are all good, and stand for these records, is sure
pub sure-good : (s : Setup) (d : Seen) (cells : Cells) (area : Area) (rs : List Record) →
    d.disk ≡ Some cells → AreGood s d.disk → s.n ≤ length d.providers → DiskHas area rs d → IsSure d rs
sure-good s d cells area rs is good enough has =
    record { known = known-good s d cells area rs is here enough; images = has }
  where
    here : IsGood s (reads cells) area rs
    here = (let a = (subst (AreGood s) is good) (reads cells) (IsImage-reads cells) in
        same-good s (reads cells) a.0 area a.1 rs a.2 ((subst (λ t. EachImage t
        (λ image. StandsActive image area rs)) is has) (reads cells) (IsImage-reads cells)))

-- ---- the last state of a job

-- records with a setup are not empty
pub none-up : (rs : List Record) → is_some (setup_of rs) ≡ true → rs ≢ []
none-up rs up none = false≢true (sym (ap (λ l. is_some (setup_of l)) none) ∙ up)

-- what an image of a state stands for
abbrev pub StandsInState : State → List ℕ → Type 0
StandsInState w image = StandsPlain w image ⊎ (StandsWithDoubt w image ⊎ StandsSwitched w image)

-- an image of the last state is good
last-good : (start last : State) → IsLast start last → (image : List ℕ) → StandsInState last image →
    MayBeGood (setup_in start) image
unfolding setup_in
last-good start last L image h = by_stand h
  where
    up : is_some (setup_of last.journal) ≡ true
    up = ap is_some L.sound.journal.alike.setup ∙ L.up

    same : setup_in_effect last.journal ≡ setup_in start
    same = ap setup_or_none L.sound.journal.alike.setup ∙ L.setup

    by_stand : StandsInState last image → MayBeGood (setup_in start) image
    by_stand (inl (inl stands)) = (
      last.area,
      last.journal,
      record {
        some = none-up last.journal up;
        accepted = L.sound.journal.accepted;
        room = omega (arith, L.sound.room);
        setup = same;
        stands = stands;
      },
    )
    by_stand (inl (inr empty)) = absurd (none-up last.journal up empty.0)
    by_stand (inr (inl D)) = (let F = L.sound.doubt D.doubt D.in_doubt in (
      last.area,
      D.doubt.entry ∷ last.journal,
      record {
        some = λ e. cc;
        accepted = (F.in_journal, L.sound.journal.accepted);
        room = omega (arith, F.room);
        setup = ap setup_or_none (setup-more D.doubt.entry last.journal up F.in_journal) ∙ same;
        stands = D.stands;
      },
    ))
    by_stand (inr (inr X)) = absurd (false≢true (sym L.unswitched ∙ X.switching))

images-good : (start last : State) (told : Option Cells) → IsLast start last → StandsForState told last →
    AreGood (setup_in start) told
images-good start last None L h = tt
images-good start last (Some cells) L h = λ image is. last-good start last L image (h image is)

-- ---- a job that is not refused has words that are bytes

name-byte : (b : ℕ) → is_name_byte b ≡ true → is_byte b ≡ true
name-byte b h = grind (arith, nat_tests, h)

names-bytes : (name : List ℕ) → list_all is_name_byte name ≡ true → list_all is_byte name ≡ true
names-bytes [] h = refl
names-bytes (b ∷ name) h = (let here = name-byte b (grind (arith, h)) in
    let there = names-bytes name (grind (arith, h)) in grind (arith, here, there))

name-bytes : (name : List ℕ) → is_name name ≡ true → AreBytes name
name-bytes name h = names-bytes name (grind (arith, h))

first-off : (b : Bool) (x : Refusal) (rest : Option Refusal) → cond (not b) (Some x) rest ≡ None → b ≡ true
first-off true x rest h = refl
first-off false x rest h = absurd (cc h)

-- the words of a put are bytes where its source gives bytes
abbrev pub HasBytes : Kind → Type 0
HasBytes (PutJob name bytes) = AreBytes bytes
HasBytes kind = Unit {0}

-- a job that is not refused, and whose bytes are bytes, has words that are bytes
pub spelled-kind : (area : Area) (records : List Record) (kind : Kind) (own : Option ℕ) → HasBytes kind →
    refusal_over area records kind own ≡ None → IsSpelledKind kind
spelled-kind area records (PutJob name bytes) own are none =
    (name-bytes name (first-off (is_name name) _ _ none), are)
spelled-kind area records (GetJob name) own are none = name-bytes name (first-off (is_name name) _ _ none)
spelled-kind area records (DropJob name) own are none = name-bytes name (first-off (is_name name) _ _ none)
spelled-kind area records kind own are none = tt

-- ---- what a job leaves

-- each image is good, and as many providers are handed in
abbrev pub LeavesGood : List Record → Seen → Seen → Type 0
LeavesGood records old new =
    AreGood (setup_in_effect records) new.disk × ((setup_in_effect records).n ≤ length new.providers)

-- a job that ran alone leaves only good images, and as many providers
pub ran-good : (records : List Record) (kind : Kind) {own : Option ℕ} (how : Answer) (old new : Seen)
    (heard : List Entry) → (opened : IsOpened old records) → IsSpelledKind kind → MayName kind own →
    RunsAlone opened.area records kind own how old new heard → LeavesGood records old new
unfolding setup_in
ran-good records kind how old new heard R spelled named A =
    (let w = opened_state R.area records A.faults old.providers in
    let over = state-over records A.faults old R in
    let ran = A.ran w 1 over in
    let L = last-state w ran.last 1 kind _ how heard over.at_rest spelled named ran.runs in (
      images-good w ran.last new.disk L ran.images,
      (omega (arith, L.handed, ran.handed.count, over.handed.count, R.enough)),
    ))

-- so does a put that was given up
pub part-good : (records : List Record) (name bytes : List ℕ) (own : Option ℕ) (old new : Seen) →
    (opened : IsOpened old records) → IsSpelledKind (PutJob name bytes) → MayName (PutJob name bytes) own →
    PartRuns opened.area records name bytes own old new → LeavesGood records old new
unfolding setup_in
part-good records name bytes own old new R spelled named A =
    (let w = opened_state R.area records A.faults old.providers in
    let over = state-over records A.faults old R in
    let ran = A.ran w 1 over in
    let L = part-state w ran.last 1 (PutJob name bytes) own _ over.at_rest spelled named ran.runs in (
      images-good w ran.last new.disk L ran.images,
      (omega (arith, L.handed, ran.handed.count, over.handed.count, R.enough)),
    ))

-- A file that is in effect stays right over the commands that do not touch it, and over a repair.
use Rattle.command_laws.proofs.Words.{◌≡◌, ◌≢◌, ℕ, zero, suc, ◌<◌, ◌≤◌, ◌==◌, Bool, true, false, not, List, [], ◌∷◌, ◌++◌, length, reverse, take, Option, None, Some, refl, ap, sym, subst, ◌∙◌, inl, inr, arith, cond, is_some, IfSome, cases_Bool, false≢true, eq-eqb, Object, columns, is_wrong_block, is_flagged, Held, Record, Setup, PutStart, Drop, AuditStart, AuditDone, Version, Area, File, Due, next_id, next_audit, file_of, due_of, started_as, is_start_of, setup_or_none, profiled, object_of, stripes_of, PutJob, DropJob, RepairJob, Answer, Command, PutUnder, PutAt, GetOf, DropOf, ListAll, AuditAll, UpgradeJournal, PackJournal, chosen, Seen, Ending, IsRefused, provider_at, setup_in_effect, object_in_effect, StoredOn, PartlyStored, DroppedFrom, put_done, put_records, PutIsCut, PutLeaves, DropLeaves, IfFlagged, LeftAlone, PartLeft, AnswersPut, AnswersAlone, Answers, IsDone, IsKnown, SameHolds, put_of, after_put, after_repair, IsRepaired, AreAppended, is_wrong_or_untold, HasRightFile, IsThen, HasGrown, IsSteady, spoilt_below, keeps_blocks, IsOfAnother, column-right, cond_true, cond_false, same_value, sound-accepted, file-alike, each-not-wrong, not-wrong-each}
use Rattle.std.proofs.Common.{◌&&◌}
use Rattle.device_defs.specs.Told.{Goes}
use Rattle.machine_defs.specs.Answers as answer
use Rattle.machine_defs.proofs.RecordFacts.{AreSound, other_name}
use Rattle.command_laws.proofs.Known.{known-once, known-both}
use Rattle.command_laws.proofs.GetEnds.{ran_left}
use Rattle.command_laws.proofs.JobEnds.{get-holds, list-holds, audit-holds, repair-done, upgrade-holds, done-case}
use Rattle.command_laws.proofs.Anew.{repair-right}
use Rattle.command_laws.proofs.PackEnds.{pack-holds}
use Rattle.command_laws.proofs.FilesStay.{bad-few}
use Rattle.command_laws.proofs.Images.{take-none}
use Rattle.command_laws.proofs.Early.{IsEarly, put-cases, alone-cases}

-- ---- what is held of one object

-- an object's blocks are as they were
abbrev SameOf : ℕ → Held → Held → Type 0
SameOf id old new = (stripe : ℕ) → new id stripe ≡ old id stripe

-- so they are as a provider tells them
abbrev SameAt : ℕ → Option Held → Option Held → Type 0
SameAt id old new = Goes (SameOf id) old new

same-told : (id : ℕ) (a b : Option Held) → b ≡ a → SameAt id a b
same-told id a b same = subst (SameAt id a) (sym same) (none a)
  where
    none : (a : Option Held) → SameAt id a a
    none None = tt
    none (Some held) = λ stripe. refl

-- a provider that is right for an object is so while it holds the object's blocks as before
pub wrong-same : (o : Object) (bytes : List ℕ) (j : ℕ) (a b : Option Held) → SameAt o.id a b →
    is_wrong_or_untold o bytes j a ≡ false → is_wrong_or_untold o bytes j b ≡ false
wrong-same o bytes j None None same right = right
wrong-same o bytes j (Some a) (Some b) same right =
    each-not-wrong o bytes j (b o.id) (λ t l. ap (is_wrong_block o bytes j t) (same t)
    ∙ not-wrong-each o bytes j (a o.id) right t l)
wrong-same o bytes j a b same right = absurd same

has-same : (name bytes : List ℕ) (records after : List Record) (spoilt : ℕ → Bool) (old new : Seen)
    (H : HasRightFile old records name bytes spoilt) → file_of after name ≡ file_of records name →
    setup_in_effect after ≡ setup_in_effect records →
    ((j : ℕ) → j < (setup_in_effect records).n →
    SameAt H.file.id (provider_at old.providers j).held (provider_at new.providers j).held) →
    HasRightFile new after name bytes spoilt
has-same name bytes records after spoilt old new H file setup same = record {
  file = H.file;
  in_effect = file ∙ H.in_effect;
  are_bytes = H.are_bytes;
  size = H.size;
  right = λ j below clean. (let l = rw setup at below in
      (rw (← setup) at (wrong-same (object_in_effect records H.file) bytes j (provider_at old.providers j).held
      (provider_at new.providers j).held (same j l) (H.right j l clean))));
}

-- ---- the records after a command

-- the first few of two records, and of one
first-two : (P : List Record → Type 0) (a b : Record) (rs : List Record) → P rs → P (a ∷ rs) →
    P (b ∷ a ∷ rs) → (count : ℕ) → P (reverse (take count (a ∷ b ∷ [])) ++ rs)
first-two P a b rs p q r zero = p
first-two P a b rs p q r (suc zero) = q
first-two P a b rs p q r (suc (suc count)) =
    subst (λ l. P (reverse (a ∷ b ∷ l) ++ rs)) (sym (take-none count)) r

first-one : (P : List Record → Type 0) (a : Record) (rs : List Record) → P rs → P (a ∷ rs) → (count : ℕ) →
    P (reverse (take count (a ∷ [])) ++ rs)
first-one P a rs p q zero = p
first-one P a rs p q (suc count) = subst (λ l. P (reverse (a ∷ l) ++ rs)) (sym (take-none count)) q

-- a name has the file that it had, and the setup is the same
abbrev Stays : List ℕ → List Record → List Record → Type 0
Stays name records after =
    (file_of after name ≡ file_of records name) × (setup_in_effect after ≡ setup_in_effect records)

grown-by : (P : List Record → Type 0) (records after : List Record) (own : List Record) (count : ℕ) →
    after ≡ reverse (take count own) ++ records → (known : List Record) → own ≡ known →
    P (reverse (take count known) ++ records) → P after
grown-by P records after own count is known own_is p =
    rw (← (is ∙ ap (λ l. reverse (take count l) ++ records) own_is)) at p

get-grown : (name : List ℕ) (records after : List Record) (got : List ℕ) (old new : Seen) →
    HasGrown (GetOf got) records old new after → Stays name records after
get-grown name records after got old new G = grown-by (Stays name records) records after G.own G.count
    G.after_is [] (subst (λ kd. AreAppended records kd None G.own) G.of_command G.are_own)
    (subst (λ l. Stays name records (reverse l ++ records)) (sym (take-none G.count)) (refl, refl))

audit-grown : (name : List ℕ) (records after : List Record) (old new : Seen) →
    HasGrown AuditAll records old new after → Stays name records after
audit-grown name records after old new G =
    (let own = subst (λ kd. AreAppended records kd None G.own) G.of_command G.are_own in
    grown-by (Stays name records) records after G.own G.count G.after_is _ own.2
    (first-two (Stays name records) (AuditStart (next_audit records))
    (AuditDone (next_audit records) own.0 own.1) records (refl, refl) (refl, refl) (refl, refl) G.count))

put-stays : (name other : List ℕ) (own : Option ℕ) (records : List Record) (size : ℕ) → other ≢ name →
    Stays name records (after_put records other size own)
put-stays name other own records size differ =
    done-case (λ r. Stays name records (r ∷ PutStart (next_id records) other ∷ records)) records size own
    (stays _, refl) (stays _, refl)
  where
    stays : (f : Option File) → cond (is_start_of name
        (started_as (PutStart (next_id records) other ∷ records) (next_id records))) f
        (file_of records name) ≡ file_of records name
    stays f = cond_false (is_start_of name (started_as (PutStart (next_id records) other ∷ records)
        (next_id records))) f (file_of records name) (ap (is_start_of name)
        (cond_true (next_id records == next_id records) (Some other) (started_as records (next_id records))
        (eq-eqb (next_id records) (next_id records) refl)) ∙ other_name other name differ)

put-grown-by : (name other bytes : List ℕ) (own : Option ℕ) (records after : List Record) → other ≢ name →
    (all : List Record) (count : ℕ) → after ≡ reverse (take count all) ++ records →
    all ≡ put_records records other (length bytes) own → Stays name records after
put-grown-by name other bytes own records after differ all count is all_is =
    grown-by (Stays name records) records after all count is _ all_is
    (first-two (Stays name records) (PutStart (next_id records) other) (put_done records (length bytes) own)
    records (refl, refl) (refl, refl) (put-stays name other own records (length bytes) differ) count)

put-grown : (name other : List ℕ) (own : Option ℕ) (records after : List Record) (old new : Seen) →
    other ≢ name → HasGrown (put_of other own) records old new after → Stays name records after
put-grown name other None records after old new differ G = put-grown-by name other G.of_command.0 None records
    after differ G.own G.count G.after_is (rw G.of_command.4 at G.are_own)
put-grown name other (Some p) records after old new differ G = put-grown-by name other G.of_command.0 (Some p)
    records after differ G.own G.count G.after_is (rw G.of_command.4 at G.are_own)

upgrade-grown : (name : List ℕ) (records after : List Record) (old new : Seen) →
    HasGrown UpgradeJournal records old new after → Stays name records after
upgrade-grown name records after old new G = grown-by (Stays name records) records after G.own G.count
    G.after_is _ (subst (λ kd. AreAppended records kd None G.own) G.of_command G.are_own)
    (first-one (Stays name records) Version records (refl, refl) (refl, refl) G.count)

drop-grown : (name other : List ℕ) (records after : List Record) (old new : Seen) → other ≢ name →
    HasGrown (DropOf other) records old new after → Stays name records after
drop-grown name other records after old new differ G = (let own = rw G.of_command at G.are_own in
    grown-by (Stays name records) records after G.own G.count G.after_is _ own
    (first-one (Stays name records) (Drop other) records (refl, refl)
    (cond_false _ None (file_of records name) (other_name other name differ), refl) G.count))

then-by : (command : Command) (name : List ℕ) (records after : List Record) (old new : Seen) →
    (HasGrown command records old new after → Stays name records after) →
    IsThen command records old new after → Stays name records after
then-by command name records after old new grown (inl same) =
    (ap (λ rs. file_of rs name) same, ap setup_in_effect same)
then-by command name records after old new grown (inr (inl G)) = grown G
then-by command name records after old new grown (inr (inr P)) =
    (file-alike after records name P.alike, ap setup_or_none P.alike.setup)

-- ---- commands that keep all blocks

reads-by : (command : Command) (name bytes : List ℕ) (records after : List Record) (spoilt : ℕ → Bool)
    (old new : Seen) → SameHolds old new → HasRightFile old records name bytes spoilt →
    Stays name records after → HasRightFile new after name bytes spoilt
reads-by command name bytes records after spoilt old new holds H S = has-same name bytes records after spoilt
    old new H S.0 S.1 (λ j below. same-told H.file.id (provider_at old.providers j).held
    (provider_at new.providers j).held (holds j))

-- a file that is right stays so over a get, a list, an audit, an upgrade and a pack
pub reads-have : (command : Command) (name bytes : List ℕ) (records after : List Record) (spoilt : ℕ → Bool)
    (old new : Seen) (end : Ending) → Answers command old new end → keeps_blocks command ≡ true →
    HasRightFile old records name bytes spoilt → IsThen command records old new after →
    HasRightFile new after name bytes spoilt
reads-have (GetOf got) name bytes records after spoilt old new end A keeps H T =
    reads-by (GetOf got) name bytes records after spoilt old new (get-holds got old new end A.0) H
    (then-by (GetOf got) name records after old new (get-grown name records after got old new) T)
reads-have ListAll name bytes records after spoilt old new end A keeps H T =
    reads-by ListAll name bytes records after spoilt old new (list-holds old new end A.0) H
    (then-by ListAll name records after old new (λ G. absurd G.of_command) T)
reads-have AuditAll name bytes records after spoilt old new end A keeps H T =
    reads-by AuditAll name bytes records after spoilt old new (audit-holds old new end A.0) H
    (then-by AuditAll name records after old new (audit-grown name records after old new) T)
reads-have UpgradeJournal name bytes records after spoilt old new end A keeps H T =
    reads-by UpgradeJournal name bytes records after spoilt old new (upgrade-holds old new end A.0) H
    (then-by UpgradeJournal name records after old new (upgrade-grown name records after old new) T)
reads-have PackJournal name bytes records after spoilt old new end A keeps H T =
    reads-by PackJournal name bytes records after spoilt old new (pack-holds old new end A.0) H
    (then-by PackJournal name records after old new (λ G. absurd G.of_command) T)
reads-have command name bytes records after spoilt old new end A keeps H T = absurd (false≢true keeps)

-- a file that is right stays so over a refusal
pub refused-has : (status at : ℕ) (name bytes : List ℕ) (records : List Record) (spoilt : ℕ → Bool)
    (old new : Seen) (end : Ending) → IsRefused status at old new end →
    HasRightFile old records name bytes spoilt → HasRightFile new records name bytes spoilt
refused-has status at name bytes records spoilt old new end r H = has-same name bytes records records spoilt
    old new H refl refl (λ j below. same-told H.file.id (provider_at old.providers j).held
    (provider_at new.providers j).held (ap (λ ps. (provider_at ps j).held) r.providers))

-- ---- a put and a drop of another name

-- each provider of the setup holds an object as it did
abbrev KeepsObject : List Record → ℕ → Seen → Seen → Type 0
KeepsObject records id old new = (j : ℕ) → j < (setup_in_effect records).n →
    SameAt id (provider_at old.providers j).held (provider_at new.providers j).held

told-keeps : (records : List Record) (id : ℕ) (old new : Seen) → ((j : ℕ) → j < (setup_in_effect records).n →
    (provider_at new.providers j).held ≡ (provider_at old.providers j).held) → KeepsObject records id old new
told-keeps records id old new same j below =
    same-told id (provider_at old.providers j).held (provider_at new.providers j).held (same j below)

early-keeps : (records : List Record) (id : ℕ) {old new : Seen} {end : Ending} → IsEarly old new end →
    KeepsObject records id old new
early-keeps records id {old} {new} E =
    told-keeps records id old new (λ j below. ap (λ ps. (provider_at ps j).held) E.refused.providers)

same-goes : (id : ℕ) (change : Held → Held → Type 0) → ((a b : Held) → change a b → SameOf id a b) →
    (a b : Option Held) → Goes change a b → SameAt id a b
same-goes id change keeps None None g = tt
same-goes id change keeps (Some a) (Some b) g = keeps a b g
same-goes id change keeps b a g = absurd g

module _ (name other : List ℕ) (records : List Record) (file : File) (sound : AreSound records)
    (in_effect : file_of records name ≡ Some file) (differ : other ≢ name) where
  -- the file has none of the numbers that are stored or taken away
  not-next : file.id ≢ next_id records
  not-next e = omega (arith, (sound.file name file in_effect).0, e)

  not-older : IfSome (file_of records other) (λ f. file.id ≢ f.id)
  not-older = by_file (file_of records other) refl
    where
      by_file : (o : Option File) → file_of records other ≡ o → IfSome o (λ f. file.id ≢ f.id)
      by_file None e = tt
      by_file (Some f) e = λ same. differ (sym (sound.one_name name other file f in_effect e same))

  abbrev its : Option ℕ → Object
  its own = object_of (profiled (setup_in_effect records) (chosen (setup_in_effect records) own))
      (next_id records)

  -- a change of each provider that leaves the file's blocks keeps them
  goes-keeps : (change : ℕ → Held → Held → Type 0) (old new : Seen) →
      ((j : ℕ) (a b : Held) → change j a b → SameOf file.id a b) → ((j : ℕ) → j < (setup_in_effect records).n →
      Goes (change j) (provider_at old.providers j).held (provider_at new.providers j).held) →
      KeepsObject records file.id old new
  goes-keeps change old new keeps goes j below = same-goes file.id (change j) (keeps j)
      (provider_at old.providers j).held (provider_at new.providers j).held (goes j below)

  -- what is stored under the next number, with nothing taken away, leaves the file
  all-keeps : (bytes : List ℕ) (own : Option ℕ) (j : ℕ) (a b : Held) →
      StoredOn (its own) bytes None ⊥ j a b → SameOf file.id a b
  all-keeps bytes own j a b S stripe = S.others file.id stripe
      (record { stored = λ e. absurd (not-next e); removed = tt })

  -- so does a put that was given up
  given-keeps : {area : Area} (bytes : List ℕ) (own : Option ℕ) (old new : Seen) →
      PartLeft area records other bytes own old new → KeepsObject records file.id old new
  given-keeps bytes own old new left = goes-keeps _ old new (all-keeps bytes own) left.stored

  put-keeps : {area : Area} (bytes : List ℕ) (own : Option ℕ) (how : Answer) (old new : Seen) (end : Ending)
      (left : LeftAlone area records (PutJob other bytes) own how old new end.heard) →
      PutLeaves (ran_left records (PutJob other bytes) how old new end.heard left) own other bytes how →
      KeepsObject records file.id old new
  put-keeps bytes own how old new end left = by_answer how
    where
      stored : (rose : Type 0) (j : ℕ) (a b : Held) →
          StoredOn (its own) bytes (file_of records other) rose j a b → SameOf file.id a b
      stored rose j a b S stripe =
          S.others file.id stripe (record { stored = λ e. absurd (not-next e); removed = not-older })

      cut : PutIsCut (ran_left records (PutJob other bytes) how old new end.heard left) own other bytes →
          KeepsObject records file.id old new
      cut (PutIsCut.at_start after doubt held) = told-keeps records file.id old new held
      cut (PutIsCut.at_done after doubt stored) = goes-keeps _ old new (all-keeps bytes own) stored

      partly : (j : ℕ) (a b : Held) → PartlyStored (its own) bytes j a b → SameOf file.id a b
      partly j a b S stripe = S.others file.id stripe (λ e. not-next e)

      by_answer : (h : Answer) →
          PutLeaves (ran_left records (PutJob other bytes) how old new end.heard left) own other bytes h →
          KeepsObject records file.id old new
      by_answer answer.Put L = goes-keeps _ old new (λ j. stored _ j) L.1
      by_answer (answer.ProviderFault k) L = goes-keeps _ old new partly L.3
      by_answer answer.DiskFault L = cut L.1
      by_answer answer.Memory L = goes-keeps _ old new partly L.1
      by_answer h L = absurd L

  drop-keeps : {area : Area} (how : Answer) (old new : Seen) (end : Ending)
      (left : LeftAlone area records (DropJob other) None how old new end.heard) →
      DropLeaves (ran_left records (DropJob other) how old new end.heard left) other how →
      KeepsObject records file.id old new
  drop-keeps how old new end left = by_answer how
    where
      dropped : (f : File) → file_of records other ≡ Some f → (rose : Type 0) (a b : Held) →
          DroppedFrom f.id rose a b → SameOf file.id a b
      dropped f is rose a b D stripe = D.others file.id stripe (rw is at not-older)

      by_answer : (h : Answer) →
          DropLeaves (ran_left records (DropJob other) how old new end.heard left) other h →
          KeepsObject records file.id old new
      by_answer answer.Dropped L = goes-keeps _ old new (λ j. dropped L.1.file L.1.in_effect _) L.1.held
      by_answer answer.DiskFault L = told-keeps records file.id old new L.2
      by_answer answer.Memory L = told-keeps records file.id old new L.1
      by_answer h L = absurd L

put-command : (name other bytes : List ℕ) (own : Option ℕ) (records : List Record) (spoilt : ℕ → Bool)
    (old new : Seen)
    (end : Ending) → other ≢ name → IsKnown old records → (H : HasRightFile old records name bytes spoilt) →
    AnswersPut other own old new end → KeepsObject records H.file.id old new
put-command name other bytes own records spoilt old new end differ K H =
    put-cases (early-keeps records H.file.id) {own = own}
    (λ rs seen opened known none stops left. given-keeps name other records H.file sound H.in_effect differ seen
    own old new (known-both old records rs K opened (λ a l. PartLeft a l other seen own old new) left))
    (λ rs seen opened known read few how none left whole by. let L = known-both old records rs K opened
    (λ a l. LeftAlone a l (PutJob other seen) own how old new end.heard) left in
    put-keeps name other records H.file sound H.in_effect differ seen own how old new end L L.leaves.by_kind.0)
  where
    sound : AreSound records
    sound = sound-accepted records K.opened.read.accepted

drop-command : (name other bytes : List ℕ) (records : List Record) (spoilt : ℕ → Bool) (old new : Seen)
    (end : Ending) → other ≢ name → IsKnown old records → (H : HasRightFile old records name bytes spoilt) →
    AnswersAlone (DropJob other) old new end → KeepsObject records H.file.id old new
drop-command name other bytes records spoilt old new end differ K H = alone-cases (early-keeps records H.file.id)
    (λ rs opened how none left by. let L = known-both old records rs K opened
    (λ a l. LeftAlone a l (DropJob other) None how old new end.heard) left in
    drop-keeps name other records H.file (sound-accepted records K.opened.read.accepted) H.in_effect differ how
    old new end L L.leaves.by_kind.0)

-- a file that is right stays so over a put or a drop of another name
pub others-have : (command : Command) (name bytes : List ℕ) (records after : List Record) (spoilt : ℕ → Bool)
    (old new : Seen) (end : Ending) → Answers command old new end → IsOfAnother name command →
    IsKnown old records → HasRightFile old records name bytes spoilt → IsThen command records old new after →
    HasRightFile new after name bytes spoilt
others-have (PutUnder other) name bytes records after spoilt old new end A differ K H T =
    (let S = then-by (PutUnder other) name records after old new
    (put-grown name other None records after old new differ) T in
    has-same name bytes records after spoilt old new H S.0 S.1
    (put-command name other bytes None records spoilt old new end differ K H A))
others-have (PutAt other profile) name bytes records after spoilt old new end A differ K H T =
    (let S = then-by (PutAt other profile) name records after old new
    (put-grown name other (Some profile) records after old new differ) T in
    has-same name bytes records after spoilt old new H S.0 S.1
    (put-command name other bytes (Some profile) records spoilt old new end differ K H A))
others-have (DropOf other) name bytes records after spoilt old new end A differ K H T =
    (let S = then-by (DropOf other) name records after old new
    (drop-grown name other records after old new differ) T in
    has-same name bytes records after spoilt old new H S.0 S.1
    (drop-command name other bytes records spoilt old new end differ K H A.0))
others-have command name bytes records after spoilt old new end A differ K H T = absurd differ

-- ---- a repair that is done

-- a provider that is not flagged holds an object as before
pub flag-off : (id : ℕ) (flag : Bool) (change : Held → Held → Type 0) (a b : Option Held) → flag ≡ false →
    Goes (IfFlagged flag change) a b → SameAt id a b
flag-off id false change None None off g = tt
flag-off id false change (Some a) (Some b) off g = λ stripe. g id stripe
flag-off id true change a b off g = absurd (false≢true (sym off))
flag-off id false change a b off g = absurd g

-- a provider that told what it holds before a change tells it after
pub goes-tells : (change : Held → Held → Type 0) (a b : Option Held) → is_some a ≡ true → Goes change a b →
    is_some b ≡ true
goes-tells change None b tells g = absurd (false≢true tells)
goes-tells change (Some a) None tells g = absurd g
goes-tells change (Some a) (Some b) tells g = refl

-- a provider that holds its own column of each stripe is right for the file
pub columns-right : (s : Setup) (file : File) (bytes : List ℕ) (j : ℕ) (told : Option Held) →
    length bytes ≡ file.size → is_some told ≡ true →
    ((stripe : ℕ) → stripe < stripes_of (profiled s file.profile) file.size →
    IfSome told (λ held. held file.id stripe ≡ Some
    (columns (object_of (profiled s file.profile) file.id) bytes j stripe))) →
    is_wrong_or_untold (object_of (profiled s file.profile) file.id) bytes j told ≡ false
columns-right s file bytes j None size tells h = absurd (false≢true tells)
columns-right s file bytes j (Some held) size tells h =
    each-not-wrong (object_of (profiled s file.profile) file.id) bytes j (held file.id)
    (λ t l. ap (is_wrong_block (object_of (profiled s file.profile) file.id) bytes j t) (h t (rw size at l))
    ∙ column-right (object_of (profiled s file.profile) file.id) bytes j t)

-- if `b and not c` is off, and c is off, b is off
pub and-off : (b c : Bool) → (b && not c) ≡ false → c ≡ false → b ≡ false
and-off true true h off = absurd (false≢true (sym off))
and-off true false h off = absurd (false≢true (sym h))
and-off false c h off = refl

-- a provider that is not flagged holds an object as it did, and each tells on that told
abbrev GoesFlagged : ℕ → List Record → Due → Seen → Seen → ℕ → Type 0
GoesFlagged id records due old new j = (is_flagged (setup_in_effect records).tolerance due.counts j ≡ false →
    SameAt id (provider_at old.providers j).held (provider_at new.providers j).held) ×
    (is_some (provider_at old.providers j).held ≡ true → is_some (provider_at new.providers j).held ≡ true)

repaired-goes : (id : ℕ) (old new : Seen) (end : Ending) (P : IsRepaired old new end) (j : ℕ) →
    j < (setup_in_effect P.records).n → GoesFlagged id P.records P.due old new j
repaired-goes id old new end P j below = (
  λ off. flag-off id (is_flagged (setup_in_effect P.records).tolerance P.due.counts j) _
      (provider_at old.providers j).held (provider_at new.providers j).held off (P.rewritten.held j below),
  λ tells. goes-tells _ (provider_at old.providers j).held (provider_at new.providers j).held tells
      (P.rewritten.held j below),
)

-- after a done repair a right file is right also on the flagged providers, where few are spoilt
pub repair-has : (name bytes : List ℕ) (records : List Record) (due : Due) (spoilt : ℕ → Bool)
    (old new : Seen) (end : Ending) → AnswersAlone RepairJob old new end → IsDone end → IsKnown old records →
    due_of records ≡ Some due →
    HasRightFile old records name bytes spoilt → IsSteady (setup_in_effect records).n spoilt old new →
    spoilt_below (setup_in_effect records).n spoilt ≤ (setup_in_effect records).b →
    ((j : ℕ) → j < (setup_in_effect records).n → is_flagged (setup_in_effect records).tolerance due.counts j
    ≡ true → is_some (provider_at old.providers j).held ≡ true) →
    HasRightFile new (after_repair records due) name bytes
    (λ j. spoilt j && not (is_flagged (setup_in_effect records).tolerance due.counts j))
repair-has name bytes records due spoilt old new end A done K is_due H steady few tells = record {
  file = H.file;
  in_effect = H.in_effect;
  are_bytes = H.are_bytes;
  size = H.size;
  right = right;
}
  where
    goes : (j : ℕ) → j < (setup_in_effect records).n → GoesFlagged H.file.id records due old new j
    goes j below = (let P = repair-done old new end A done in
        let same = known-once old records P.records K P.opened.read in
        let due_is = same_value (due_of records) P.due due
        (ap due_of (sym same) ∙ P.is_due) is_due in
        (rw due_is at (subst (λ rs. GoesFlagged H.file.id rs P.due old new j) same
        (repaired-goes H.file.id old new end P j
        (subst (λ rs. j < (setup_in_effect rs).n) (sym same) below)))))

    right : (j : ℕ) → j < (setup_in_effect records).n →
        (spoilt j && not (is_flagged (setup_in_effect records).tolerance due.counts j)) ≡ false →
        is_wrong_or_untold (object_in_effect records H.file) bytes j (provider_at new.providers j).held
        ≡ false
    right j below clean = (let g = goes j below in
        elim (cases_Bool (is_flagged (setup_in_effect records).tolerance due.counts j)) [
          | inl flagged ↦ columns-right (setup_in_effect records) H.file bytes j
              (provider_at new.providers j).held H.size (g.1 (tells j below flagged))
              (repair-right name bytes records H.file due j old new end A K done is_due H.in_effect H.size
              (omega (arith, bad-few name bytes records spoilt old new H steady, few)) below flagged)
          | inr free ↦ wrong-same (object_in_effect records H.file) bytes j (provider_at old.providers j).held
              (provider_at new.providers j).held (g.0 free) (H.right j below
              (and-off (spoilt j) (is_flagged (setup_in_effect records).tolerance due.counts j) clean free))
        ])

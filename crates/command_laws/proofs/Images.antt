-- What the images of the disk stand for after a command.
use Rattle.command_laws.proofs.Words.{◌≡◌, ◌≢◌, ℕ, zero, suc, ◌+◌, ◌<◌, ◌⊎◌, true, List, [], ◌∷◌, ◌++◌, length, take, reverse, Option, None, Some, refl, ap, sym, subst, ◌∙◌, inl, inr, arith, IfSome, IsSomeAnd, is_some, option_map, false≢true, reverse-append, Cells, reads, synced, IsImage, EachImage, Record, PutStart, AuditStart, AuditDone, largest_journal, Area, other_area, StandsActive, packed, StandsFor, next_id, next_audit, Kind, PutJob, GetJob, DropJob, AuditJob, RepairJob, UpgradeJob, Answer, Command, Numbers, PutUnder, PutAt, ListAll, ScrubAll, PackJournal, IsResynced, IsFree, IsSetUpOn, MayBeLeft, Seen, Ending, IsRefused, KeepsDisk, IsOpened, Ran, IsWhole, IsCut, IsCutInDoubt, put_done, put_records, MayHaveEnd, PutIsCut, audit_records, AuditIsCut, LeavesBy, setup_with, AnswersInit, AnswersScrub, PackLeaves, AnswersPack, AnswersPut, AnswersAlone, AnswersList, Answers, IsKnown, put_of, profile_named, RunsKind, ReadsWhole, opens_store, KeepsImages, AreAppended, IsAfter, LeavesImages, InitImages, image-firm, each_image-mono, IsImage-reads, stands-front, stands-long, one_list, image-resynced, resynced, set_up-free, LeftAlone, RowOf, InitWith}
use Rattle.std.proofs.Math.Seq.{take-append_seam, take-append-add, take-length}
use Rattle.device_defs.specs.Told.{Goes}
use Rattle.machine_defs.specs.Answers as answer
use Rattle.command_laws.proofs.Known.{known-once}
use Rattle.command_laws.proofs.GetEnds.{ran_left}
use Rattle.command_laws.proofs.JobEnds.{named-by, put-kind, given-kind}
use Rattle.command_laws.proofs.Early.{IsEarly, list-cases, scrub-cases, pack-cases, init-cases, put-cases, alone-cases}

-- ---- images of a disk that was synced

image-synced : (cells : Cells) (image : List ℕ) → IsImage (synced cells) image → IsImage cells image
image-synced cells image is = rw (← (image-firm (reads cells) image is)) at (IsImage-reads cells)

-- each image was one before
abbrev Keeps : Option Cells → Option Cells → Type 0
Keeps old new = IfSome old (λ cells. EachImage new (IsImage cells))

keeps-resynced : (old new : Option Cells) → Goes IsResynced old new → Keeps old new
keeps-resynced None None g = tt
keeps-resynced (Some old) (Some new) g = image-resynced old new g
keeps-resynced old new g = absurd g

keeps-synced : (old new : Option Cells) → new ≡ option_map synced old → Keeps old new
keeps-synced None new is = tt
keeps-synced (Some old) new is = subst (λ d. EachImage d (IsImage old)) (sym is) (image-synced old)

-- a disk that is as before has only images that it had before
pub keeps-same : (old new : Option Cells) → new ≡ old → Keeps old new
keeps-same None new is = tt
keeps-same (Some old) new is = subst (λ d. EachImage d (IsImage old)) (sym is) (λ image of. of)

-- after a refusal the disk has only images that it had before
pub refused-keeps : (status at : ℕ) (old new : Seen) (end : Ending) → IsRefused status at old new end →
    KeepsImages old new
refused-keeps status at old new end r = keeps-resynced old.disk new.disk r.disk

early-keeps : {old new : Seen} {end : Ending} → IsEarly old new end → KeepsImages old new
early-keeps {old} {new} {end} E = refused-keeps E.status E.at old new end E.refused

-- ---- the records that a job wrote

-- the first few came into effect, and the next one may be in doubt
record Came (x : Ran) (own : List Record) : Type 0 where
  count : ℕ
  after : x.after ≡ reverse (take count own) ++ x.records
  doubt : (x.doubt ≡ None) ⊎
      ((next : Record) × (x.doubt ≡ Some next) ×
      (next ∷ x.after ≡ reverse (take (suc count) own) ++ x.records))

came-some : (x : Ran) (own : List Record) (count : ℕ) → IsWhole x (take count own) → Came x own
came-some x own count W = record { count = count; after = W.after; doubt = inl W.sure }

came-whole : (x : Ran) (own : List Record) → IsWhole x own → Came x own
came-whole x own W = record {
  count = length own;
  after = W.after
      ∙ ap (λ l. reverse l ++ x.records) (sym (take-length own));
  doubt = inl W.sure;
}

came-cut : (x : Ran) (own : List Record) → IsCut x own → Came x own
came-cut x own C = record {
  count = length C.done;
  after = C.after ∙ ap (λ l. reverse l ++ x.records)
      (sym (ap (take (length C.done)) C.parts ∙ take-append_seam C.done (C.next ∷ C.rest)));
  doubt = inl C.sure;
}

came-doubt : (x : Ran) (own : List Record) → IsCutInDoubt x own → Came x own
came-doubt x own C = record {
  count = length C.done;
  after = C.after ∙ ap (λ l. reverse l ++ x.records)
      (sym (ap (take (length C.done)) C.parts ∙ take-append_seam C.done (C.next ∷ C.rest)));
  doubt = elim C.doubt [ inl sure ↦ inl sure | inr is ↦ inr (C.next, is, more) ];
}
  where
    one : take (suc (length C.done)) own ≡ C.done ++ C.next ∷ []
    one = ap (take (suc (length C.done))) C.parts
        ∙ (ap (λ n. take n (C.done ++ C.next ∷ C.rest))
        (let e : suc (length C.done) ≡ length C.done + 1 = omega arith in e)
        ∙ take-append-add C.done (C.next ∷ C.rest) 1)

    more : C.next ∷ x.after ≡ reverse (take (suc (length C.done)) own) ++ x.records
    more = ap (λ l. C.next ∷ l) C.after
        ∙ (ap (λ l. l ++ x.records) (sym (reverse-append C.done (C.next ∷ [])))
        ∙ ap (λ l. reverse l ++ x.records) (sym one))

came-put : (x : Ran) (profile : Option ℕ) (name bytes : List ℕ) → PutIsCut x profile name bytes →
    Came x (put_records x.records name (length bytes) profile)
came-put x profile name bytes (PutIsCut.at_start after doubt held) = record {
  count = 0;
  after = after;
  doubt = elim doubt [
    | inl sure ↦ inl sure
    | inr is ↦ inr (_, is, ap (λ l. PutStart (next_id x.records) name ∷ l) after)
  ];
}
came-put x profile name bytes (PutIsCut.at_done after doubt stored) = record {
  count = 1;
  after = after;
  doubt = elim doubt [
    | inl sure ↦ inl sure
    | inr is ↦ inr (_, is, ap (λ l. put_done x.records (length bytes) profile ∷ l) after)
  ];
}

-- those of its kind
abbrev Wrote : Ran → Kind → Option ℕ → Type 0
Wrote x kind profile = (own : List Record) × AreAppended x.records kind profile own × Came x own

audit-wrote : (x : Ran) (undecided : ℕ) (counts : List ℕ) →
    Came x (audit_records x.records undecided counts) → Wrote x AuditJob None
audit-wrote x undecided counts C = (audit_records x.records undecided counts, (undecided, counts, refl), C)

cut-wrote : (x : Ran) → AuditIsCut x → Wrote x AuditJob None
cut-wrote x (AuditIsCut.at_start after doubt none) = audit-wrote x 0 [] (record {
  count = 0;
  after = after;
  doubt = elim doubt [
    | inl sure ↦ inl sure
    | inr is ↦ inr (_, is, ap (λ l. AuditStart (next_audit x.records) ∷ l) after)
  ];
})
cut-wrote x (AuditIsCut.before_done after sure hears) =
    audit-wrote x 0 [] (record { count = 1; after = after; doubt = inl sure })
cut-wrote x (AuditIsCut.at_done undecided counts after is hears counted) = audit-wrote x undecided counts
    (record {
      count = 1;
      after = after;
      doubt = inr (_, is, ap (λ l. AuditDone (next_audit x.records) undecided counts ∷ l) after);
    })

wrote-by : (x : Ran) (kind : Kind) (profile : Option ℕ) (how : Answer) → LeavesBy x kind profile how →
    Wrote x kind profile
wrote-by x (PutJob name bytes) profile answer.Put L =
    (put_records x.records name (length bytes) profile, refl, came-whole x _ L.0.0)
wrote-by x (PutJob name bytes) profile (answer.ProviderFault j) L =
    (put_records x.records name (length bytes) profile, refl, came-some x _ 1 L.0.2)
wrote-by x (PutJob name bytes) profile answer.DiskFault L =
    (put_records x.records name (length bytes) profile, refl, came-put x profile name bytes L.0.1)
wrote-by x (PutJob name bytes) profile answer.Memory L =
    (put_records x.records name (length bytes) profile, refl, came-cut x _ L.0.0)
wrote-by x (PutJob name bytes) profile how L = absurd L.0
wrote-by x (GetJob name) profile how L =
    ([], refl, record { count = 0; after = L.records; doubt = inl L.sure })
wrote-by x (DropJob name) profile answer.Dropped L = (_, refl, came-whole x _ L.0.0)
wrote-by x (DropJob name) profile answer.DiskFault L = (_, refl, came-doubt x _ L.0.1)
wrote-by x (DropJob name) profile answer.Memory L = (_, refl, came-cut x _ L.0.0)
wrote-by x (DropJob name) profile how L = absurd L.0
wrote-by x AuditJob profile (answer.Audited number undecided counts) L =
    audit-wrote x undecided counts (came-whole x _ L.gives.1)
wrote-by x AuditJob profile answer.DiskFault L = cut-wrote x L.gives.1
wrote-by x AuditJob profile answer.Memory L = audit-wrote x L.gives.0 L.gives.1 (came-cut x _ L.gives.2)
wrote-by x AuditJob profile how L = absurd L.gives
wrote-by x RepairJob profile (answer.Repaired number) L =
    (_, (L.0.due, L.0.is_due, refl), came-whole x _ L.0.gives.1)
wrote-by x RepairJob profile (answer.Lost stripe row) L =
    (_, (L.0.due, L.0.is_due, refl), came-some x _ 0 L.0.gives.0)
wrote-by x RepairJob profile (answer.ProviderFault j) L =
    (_, (L.0.due, L.0.is_due, refl), came-some x _ 0 L.0.gives.3)
wrote-by x RepairJob profile answer.DiskFault L = (_, (L.0.due, L.0.is_due, refl), came-doubt x _ L.0.gives.1)
wrote-by x RepairJob profile answer.Memory L = (_, (L.0.due, L.0.is_due, refl), came-cut x _ L.0.gives.0)
wrote-by x RepairJob profile how L = absurd L.0.gives
wrote-by x UpgradeJob profile answer.Upgraded L = (_, refl, came-whole x _ L.0.0)
wrote-by x UpgradeJob profile answer.DiskFault L = (_, refl, came-doubt x _ L.0.1)
wrote-by x UpgradeJob profile answer.Memory L = (_, refl, came-cut x _ L.0.0)
wrote-by x UpgradeJob profile how L = absurd L.0

-- nothing can be taken of nothing
pub take-none : (count : ℕ) → ◌≡◌ {A = List Record} (take count []) []
take-none zero = refl
take-none (suc count) = refl

-- a put has read its whole source where its last record is in effect or in doubt
abbrev ReadsAll : Ran → Kind → Option ℕ → Seen → Seen → Type 0
ReadsAll x (PutJob name bytes) profile old new =
    MayHaveEnd x.records x.after x.doubt name (length bytes) profile → ReadsWhole (PutJob name bytes) old new
ReadsAll x kind profile old new = Unit {0}

-- a job that is no put
abbrev pub ReadsNone : Kind → Type 0
ReadsNone (PutJob name bytes) = ⊥
ReadsNone kind = Unit {0}

-- so it is where both of its records came in
all-came : (x : Ran) (kind : Kind) (profile : Option ℕ) (old new : Seen) → ReadsAll x kind profile old new →
    (own : List Record) → AreAppended x.records kind profile own → (count : ℕ) →
    x.after ≡ reverse (take count own) ++ x.records → 1 < count → ReadsWhole kind old new
all-came x (PutJob name bytes) profile old new all own are zero after l = absurd (omega (arith, l))
all-came x (PutJob name bytes) profile old new all own are (suc zero) after l = absurd (omega (arith, l))
all-came x (PutJob name bytes) profile old new all own are (suc (suc count)) after l =
    all (inl (after ∙ ap (λ rs. reverse (take (suc (suc count)) rs) ++ x.records) are
    ∙ ap (λ rs. reverse (PutStart (next_id x.records) name
    ∷ put_done x.records (length bytes) profile ∷ rs) ++ x.records) (take-none count)))
all-came x kind profile old new all own are count after l = tt

-- and where the first came in, and the other is in doubt
all-doubted : (x : Ran) (kind : Kind) (profile : Option ℕ) (old new : Seen) →
    ReadsAll x kind profile old new → (own : List Record) → AreAppended x.records kind profile own →
    (count : ℕ) → (next : Record) → x.doubt ≡ Some next →
    next ∷ x.after ≡ reverse (take (suc count) own) ++ x.records → 1 < suc count → ReadsWhole kind old new
all-doubted x (PutJob name bytes) profile old new all own are zero next is more l = absurd (omega (arith, l))
all-doubted x (PutJob name bytes) profile old new all own are (suc count) next is more l =
    all (inr (is ∙ ap Some (head-same next x.after _ _
    (more ∙ ap (λ rs. reverse (take (suc (suc count)) rs) ++ x.records) are
    ∙ ap (λ rs. reverse (PutStart (next_id x.records) name
    ∷ put_done x.records (length bytes) profile ∷ rs) ++ x.records) (take-none count)))))
  where
    head-same : (a : Record) (more : List Record) (b : Record) (rest : List Record) →
        a ∷ more ≡ b ∷ rest → a ≡ b
    head-same a more b rest e = cc
all-doubted x kind profile old new all own are count next is more l = tt

image-after : (x : Ran) (area : Area) (kind : Kind) (profile : Option ℕ) (old new : Seen) →
    ReadsAll x kind profile old new → Wrote x kind profile → (image : List ℕ) →
    StandsActive image area x.after ⊎ IsSomeAnd x.doubt (λ entry. StandsActive image area (entry ∷ x.after)) →
    IsAfter x.records kind profile old new image
image-after x area kind profile old new all W image (inl stands) = record {
  own = W.0;
  are_own = W.1;
  count = W.2.count;
  whole = all-came x kind profile old new all W.0 W.1 W.2.count W.2.after;
  stands = (area, subst (StandsActive image area) W.2.after stands);
}
image-after x area kind profile old new all W image (inr entry) = elim W.2.doubt [
  | inl sure ↦ absurd (subst (λ d. IsSomeAnd d (λ e. StandsActive image area (e ∷ x.after))) sure entry)
  | inr (next, is, more) ↦ record {
    own = W.0;
    are_own = W.1;
    count = suc W.2.count;
    whole = all-doubted x kind profile old new all W.0 W.1 W.2.count next is more;
    stands = (
      area,
      subst (StandsActive image area) more
          (subst (λ d. IsSomeAnd d (λ e. StandsActive image area (e ∷ x.after))) is entry),
    );
  }
]

images-after : (x : Ran) (area : Area) (kind : Kind) (profile : Option ℕ) (old new : Seen) →
    ReadsAll x kind profile old new → Wrote x kind profile → (told : Option Cells) →
    EachImage told (λ image. StandsActive image area x.after ⊎
    IsSomeAnd x.doubt (λ entry. StandsActive image area (entry ∷ x.after))) →
    EachImage told (IsAfter x.records kind profile old new)
images-after x area kind profile old new all W told =
    each_image-mono told _ _ (image-after x area kind profile old new all W)

-- ---- commands that look at a store

-- a command whose job ran leaves images that stand for the records read with some that it wrote
job-images : (command : Command) (kind : Kind) (profile : Option ℕ) (records : List Record) (old new : Seen)
    (end : Ending) → profile_named command ≡ profile → RunsKind command old new kind →
    (opened : IsOpened old records) (how : Answer)
    (left : LeftAlone opened.area records kind profile how old new end.heard) →
    ReadsAll (ran_left records kind how old new end.heard left) kind profile old new →
    LeavesImages command old new
job-images command kind profile records old new end named is opened how left all =
    LeavesImages.ran records kind opened is (rw (← named) at
    (images-after (ran_left records kind how old new end.heard left) opened.area kind profile old new all
    (wrote-by (ran_left records kind how old new end.heard left) kind profile how left.leaves.by_kind)
    new.disk left.images))

-- a job that is no put has read no source
reads-none : (x : Ran) (kind : Kind) (profile : Option ℕ) (old new : Seen) → ReadsNone kind →
    ReadsAll x kind profile old new
reads-none x (PutJob name bytes) profile old new none = absurd none
reads-none x kind profile old new none = tt

put-images : (name : List ℕ) (own : Option ℕ) (old new : Seen) (end : Ending) →
    AnswersPut name own old new end → LeavesImages (put_of name own) old new
put-images name own old new end A = put-cases (λ E. LeavesImages.kept (early-keeps E)) {own = own}
    (λ records bytes opened known none stops left. LeavesImages.ran records (PutJob name bytes) opened
    (given-kind opened.area name bytes own records old new end none stops).1
    (subst (λ p. EachImage new.disk (IsAfter records (PutJob name bytes) p old new)) (sym (named-by name own))
    (each_image-mono new.disk _ _ (λ image stands. record {
      own = put_records records name (length bytes) own;
      are_own = refl;
      count = 1;
      whole = λ l. absurd (omega (arith, l));
      stands = (opened.area, stands);
    }) left.images)))
    (λ records bytes opened known read few how none left whole by. job-images (put_of name own)
    (PutJob name bytes) own records old new end (named-by name own) (put-kind name bytes own old new read few)
    opened how left (λ may. (read, whole may))) A

alone-images : (command : Command) (kind : Kind) (old new : Seen) (end : Ending) →
    profile_named command ≡ None → RunsKind command old new kind → ReadsNone kind →
    AnswersAlone kind old new end → LeavesImages command old new
alone-images command kind old new end named is none = alone-cases (λ E. LeavesImages.kept (early-keeps E))
    (λ records opened how begins left by. job-images command kind None records old new end named is opened how
    left (reads-none (ran_left records kind how old new end.heard left) kind None old new none))

list-images : (old new : Seen) (end : Ending) → AnswersList old new end → KeepsImages old new
list-images old new end = list-cases early-keeps (λ records opened L. keeps-synced old.disk new.disk L.disk)

-- a scrub at most syncs the disk
pub scrub-disk : (old new : Seen) (end : Ending) → AnswersScrub old new end → KeepsDisk old new
scrub-disk old new end = scrub-cases (λ E. E.refused.disk)
    (λ records how opened synced left by. resynced old.disk new.disk synced)

-- a scrub leaves only images that the disk had before
pub scrub-images : (old new : Seen) (end : Ending) → AnswersScrub old new end → KeepsImages old new
scrub-images old new end = scrub-cases early-keeps
    (λ records how opened synced left by. keeps-synced old.disk new.disk synced)

-- an image after a pack stands for the records that were read, or for the packed ones
abbrev StandsPacked : List Record → List ℕ → Type 0
StandsPacked records image = StandsFor image records ⊎ StandsFor image (packed records)

pack-by : (area : Area) (records : List Record) (how : Answer) (old new : Seen) →
    PackLeaves area records how old new → EachImage new.disk (StandsPacked records)
pack-by area records (answer.Packed before after) old new L =
    each_image-mono new.disk _ _ (λ image h. inr (other_area area, h)) L.2
pack-by area records answer.DiskFault old new L = each_image-mono new.disk _ _
    (λ image h. elim h [ inl s ↦ inl (area, s) | inr s ↦ inr (other_area area, s) ]) L.1
pack-by area records answer.Memory old new L = each_image-mono new.disk _ _ (λ image h. inl (area, h)) L
pack-by area records how old new L = absurd L

pack-images : (old new : Seen) (end : Ending) → AnswersPack old new end → LeavesImages PackJournal old new
pack-images old new end = pack-cases (λ E. LeavesImages.kept (early-keeps E))
    (λ records how opened none left by. LeavesImages.was_packed records opened refl
    (pack-by opened.area records how old new left.leaves))

-- a command leaves images as before, or ones of the records read with some that its job wrote, or packed
pub store-images : (command : Command) (old new : Seen) (end : Ending) → Answers command old new end →
    opens_store command ≡ true → LeavesImages command old new
store-images (RowOf n l b seen) old new end A opens = absurd (false≢true opens)
store-images (InitWith numbers) old new end A opens = absurd (false≢true opens)
store-images (PutUnder name) old new end A opens = put-images name None old new end A
store-images (PutAt name profile) old new end A opens = put-images name (Some profile) old new end A
store-images ListAll old new end A opens = LeavesImages.kept (list-images old new end A.0)
store-images ScrubAll old new end A opens = LeavesImages.kept (scrub-images old new end A.0)
store-images PackJournal old new end A opens = pack-images old new end A.0
store-images command old new end A opens = alone-images command _ old new end refl refl tt A.0

-- what each image stands for, where each stood for the records before
abbrev StandsAfter : Command → List Record → Seen → Seen → List ℕ → Type 0
StandsAfter command records old new image =
    StandsFor image records ⊎ (((kind : Kind) × RunsKind command old new kind × IsAfter records kind
    (profile_named command) old new image) ⊎ ((command ≡ PackJournal) × StandsFor image (packed records)))

kept-stand : (command : Command) (records : List Record) (old new : Seen) (before after : Option Cells) →
    IfSome before (λ cells. EachImage after (IsImage cells)) → before ≢ None →
    EachImage before (λ image. StandsFor image records) →
    EachImage after (StandsAfter command records old new)
kept-stand command records old new None after kept tells stand = absurd (tells refl)
kept-stand command records old new (Some cells) None kept tells stand = tt
kept-stand command records old new (Some cells) (Some now) kept tells stand =
    λ image is. inl (stand image (kept image is))

-- over known records each image stands for these after a command, or for these with some of its job's
pub known-images : (command : Command) (records : List Record) (old new : Seen) (end : Ending) →
    Answers command old new end → opens_store command ≡ true → IsKnown old records →
    EachImage old.disk (λ image. StandsFor image records) →
    EachImage new.disk (StandsAfter command records old new)
known-images command records old new end A opens K stand = go (store-images command old new end A opens)
  where
    tells : old.disk ≢ None
    tells none = false≢true (sym (ap is_some none) ∙ K.tells)

    go : LeavesImages command old new → EachImage new.disk (StandsAfter command records old new)
    go (LeavesImages.kept kept) = kept-stand command records old new old.disk new.disk kept tells stand
    go (LeavesImages.ran other kind opened is images) =
        each_image-mono new.disk _ _ (λ image after. inr (inl (kind, is, after)))
        (rw (known-once old records other K opened.read) at images)
    go (LeavesImages.was_packed other opened is images) =
        each_image-mono new.disk (StandsPacked records) (StandsAfter command records old new)
        (λ image h. elim h [ inl s ↦ inl s | inr s ↦ inr (inr (is, s)) ])
        (rw (known-once old records other K opened.read) at images)

-- ---- init

not-free : (cells : Cells) (rs : List Record) → rs ≢ [] → StandsFor (reads cells) rs → IsFree cells → ⊥
not-free cells rs some S (inl short) = (omega (arith, stands-long (reads cells) rs some S, short))
not-free cells rs some S (inr none) =
    some (one_list (reads cells) rs [] S (stands-front largest_journal (reads cells) [] none))

left-kept : (cells : Cells) (numbers : Numbers) (key : List ℕ) → (IsFree cells → ⊥) → (after : Option Cells) →
    EachImage after (MayBeLeft (setup_with numbers key) cells) → EachImage after (IsImage cells)
left-kept cells numbers key taken None h = tt
left-kept cells numbers key taken (Some now) h =
    λ image is. elim (h image is) [ inl same ↦ same | inr free ↦ absurd (taken free.0) ]

kept-left : (numbers : Numbers) (key : List ℕ) (old new : Option Cells) →
    IfSome old (λ cells. EachImage new (IsImage cells)) →
    IfSome old (λ cells. EachImage new (MayBeLeft (setup_with numbers key) cells))
kept-left numbers key (Some cells) (Some now) h = λ image is. inl (h image is)
kept-left numbers key old new h = tt

-- an init sets the store up, or leaves images that a failed init may leave
pub init-images : (numbers : Numbers) (old new : Seen) (end : Ending) → AnswersInit numbers old new end →
    InitImages numbers old new
init-images numbers old new end =
    init-cases (λ E. ([], inr (kept-left numbers [] old.disk new.disk (early-keeps E))))
    (λ key status two F. (key, inr F.images)) (λ key R. (key, inl R.disk))

-- over a store that is set up an init leaves only images that the disk had before
pub init-kept : (numbers : Numbers) (records : List Record) (old new : Seen) (end : Ending) →
    AnswersInit numbers old new end → records ≢ [] → EachImage old.disk (λ image. StandsFor image records) →
    KeepsImages old new
init-kept numbers records old new end A some stand =
    go old.disk new.disk stand (init-images numbers old new end A)
  where
    go : (before after : Option Cells) → EachImage before (λ image. StandsFor image records) →
        (key : List ℕ) × (Goes (IsSetUpOn (setup_with numbers key)) before after ⊎
        IfSome before (λ cells. EachImage after (MayBeLeft (setup_with numbers key) cells))) →
        IfSome before (λ cells. EachImage after (IsImage cells))
    go None after stand h = tt
    go (Some cells) None stand (key, inl g) = absurd g
    go (Some cells) (Some now) stand (key, inl g) = absurd (not-free cells records some
        (stand (reads cells) (IsImage-reads cells)) (set_up-free (setup_with numbers key) cells now g))
    go (Some cells) after stand (key, inr left) = left-kept cells numbers key
        (not-free cells records some (stand (reads cells) (IsImage-reads cells))) after left

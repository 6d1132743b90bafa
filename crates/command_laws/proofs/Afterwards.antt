-- A store is known again after a command, and the next one finds it so.
use Rattle.command_laws.proofs.Words.{◌≡◌, ℕ, ◌≤◌, true, false, List, length, Option, None, Some, refl, ap, sym, subst, ◌∙◌, inl, inr, arith, is_some, IfSome, false≢true, IsShape, Cells, reads, firm, Stopped, IsImage, EachImage, Record, Area, StandsActive, Command, Numbers, RowOf, WritesLine, TellsLine, IsResynced, IsRead, Seen, Ending, IsRefused, sinking, setup_in_effect, AnswersInit, Answers, IsKnown, IsSure, Follows, is_refusal, reads-firm, image-firm, each_image-mono, IsImage-reads, is_some-at, resynced-equal}
use Rattle.device_defs.specs.Told.{Goes}
use Rattle.command_laws.proofs.Known.{EndStatus, ended-so, written-so}
use Rattle.command_laws.proofs.Images.{init-kept, refused-keeps}
use Rattle.command_laws.proofs.Knowing.{known-good}
use Rattle.command_laws.proofs.Early.{IsEarly, command-cases, init-cases}

-- ---- refusals

reads-resynced : (old new : Cells) → IsResynced old new → reads new ≡ reads old
reads-resynced old new (inl same) = ap reads same
reads-resynced old new (inr after) = ap reads after ∙ reads-firm (reads old)

-- a disk that was at most synced still tells, and reads the same records
pub read-kept : (a b : Option Cells) (area : Area) (records : List Record) → Goes IsResynced a b →
    is_some a ≡ true → IsRead a area records → (is_some b ≡ true) × IsRead b area records
read-kept None b area records g tells R = absurd (false≢true tells)
read-kept (Some a) None area records g tells R = absurd g
read-kept (Some a) (Some b) area records g tells R = (
  refl,
  record {
    some = R.some;
    in_grammar = R.in_grammar;
    accepted = R.accepted;
    room = R.room;
    reads_are = rw (← (reads-resynced a b g)) at R.reads_are;
  },
)

-- a store that is known is so after a refusal
abbrev pub known-refused : (status at : ℕ) (records : List Record) (old new : Seen) (end : Ending) →
    IsRefused status at old new end → IsKnown old records → IsKnown new records
known-refused status at records old new end r K =
    (let kept = read-kept old.disk new.disk K.opened.area records r.disk K.tells K.opened.read in record {
      tells = kept.0;
      opened = record {
        area = K.opened.area;
        read = kept.1;
        enough = subst (λ ps. (setup_in_effect records).n ≤ length ps) (sym r.providers) K.opened.enough;
      };
    })

-- what holds of the images of a disk holds of those that are left of them
pub images-kept : (a b : Option Cells) (P : List ℕ → Type 0) → IfSome a (λ cells. EachImage b (IsImage cells)) →
    is_some a ≡ true → EachImage a P → EachImage b P
images-kept None b P kept tells stand = absurd (false≢true tells)
images-kept (Some a) None P kept tells stand = tt
images-kept (Some a) (Some b) P kept tells stand = λ image is. stand image (kept image is)

-- what holds of the images of a disk holds of what a stop leaves of it
pub stopped-at : (a b : Option Cells) (P : List ℕ → Type 0) → is_some a ≡ true → EachImage a P →
    Goes Stopped a b → (image : List ℕ) × (b ≡ Some (firm image)) × P image
stopped-at None b P tells stand g = absurd (false≢true tells)
stopped-at (Some a) None P tells stand g = absurd g
stopped-at (Some a) (Some b) P tells stand (image, of, is) = (image, ap Some is, stand image of)

-- a store that is sure is so after a refusal
pub sure-refused : (status at : ℕ) (records : List Record) (old new : Seen) (end : Ending) →
    IsRefused status at old new end → IsSure old records → IsSure new records
sure-refused status at records old new end r S = record {
  known = known-refused status at records old new end r S.known;
  images = images-kept old.disk new.disk _ (refused-keeps status at old new end r) S.known.tells S.images;
}

-- ---- which statuses are of refusals

early-told : {old new : Seen} {end : Ending} → IsEarly old new end → IsRefused end.status end.at old new end
early-told E = record {
  status_is = refl;
  place = refl;
  heard = E.refused.heard;
  disk = E.refused.disk;
  providers = E.refused.providers;
  sink = E.refused.sink;
  no_fault = λ e. E.refused.no_fault (sym E.refused.status_is ∙ e);
}

other-status : (status m : ℕ) → status ≡ m → is_refusal m ≡ false → is_refusal status ≡ true → ⊥
other-status status m is none refuses = false≢true (sym none ∙ (ap is_refusal (sym is) ∙ refuses))

no-end : (status : ℕ) → EndStatus status → is_refusal status ≡ true → ⊥
no-end status e refuses = false≢true (sym (ended-so is_refusal refl refl refl refl refl refl e) ∙ refuses)

no-text : (line : List ℕ) (old new : Seen) (end : Ending) → WritesLine line end.status (sinking old new) →
    is_refusal end.status ≡ true → ⊥
no-text line old new end w refuses =
    false≢true (sym (written-so is_refusal line old new end refl refl refl w) ∙ refuses)

no-tale : (line : List ℕ) (old new : Seen) (end : Ending) → TellsLine 4 line end.status (sinking old new) →
    is_refusal end.status ≡ true → ⊥
no-tale line old new end (inl w) refuses = other-status end.status 4 w.0 refl refuses
no-tale line old new end (inr (inl w)) refuses = other-status end.status 4 w.0 refl refuses
no-tale line old new end (inr (inr w)) refuses = other-status end.status 70 w.0 refl refuses

row-told : (n l b : ℕ) (seen : List (Option ℕ)) (old new : Seen) (end : Ending) →
    Answers (RowOf n l b seen) old new end → is_refusal end.status ≡ true →
    IsRefused end.status end.at old new end
row-told n l b seen old new end (A, T) refuses = record {
  status_is = refl;
  place = refl;
  heard = T.heard;
  disk = resynced-equal old.disk new.disk T.disk;
  providers = T.providers;
  sink = (A.no_shape no-shape).1;
  no_fault = λ e. T.disk_faults;
}
  where
    no-shape : IsShape n l b → ⊥
    no-shape shape = no-tale _ old new end
        (A.lost shape (λ p accepted. no-text _ old new end (A.held shape p accepted) refuses)) refuses

-- a command that ends with a status of a refusal touched nothing: it was refused
pub refusal-told : (command : Command) (old new : Seen) (end : Ending) → Answers command old new end →
    is_refusal end.status ≡ true → IsRefused end.status end.at old new end
refusal-told command old new end A refuses = command-cases early-told
    (λ e. absurd (no-end end.status e refuses)) (λ cut. absurd (elim cut [
      | inl e ↦ other-status end.status 14 e refl refuses
      | inr e ↦ other-status end.status 16 e refl refuses
    ]))
    (λ n l b seen A. row-told n l b seen old new end A refuses) command A

-- ---- a stop, and the next command

abbrev known-sure : (s : Seen) (records : List Record) (cells : Cells) (told : Seen) (S : IsSure s records) →
    told.disk ≡ Some cells → StandsActive (reads cells) S.known.opened.area records →
    length told.providers ≡ length s.providers → IsKnown told records
known-sure s records cells told S is stands handed = (let R = S.known.opened.read in
    known-good (setup_in_effect records) told cells S.known.opened.area records is
    (record { some = R.some; accepted = R.accepted; room = R.room; setup = refl; stands = stands })
    (let e = S.known.opened.enough in omega (arith, e, handed)))

-- an image stands for these records, in this area
abbrev StandsIn : Area → List Record → List ℕ → Type 0
StandsIn area records image = StandsActive image area records

-- a store that is sure is so where the next command finds it
pub sure-next : (records : List Record) (new next : Seen) → IsSure new records → Follows new next →
    IsSure next records
sure-next records new next S N = elim N.disk [
  | inl same ↦ (let c = is_some-at new.disk S.known.tells in record {
    known = known-sure new records c.0 next S (same ∙ c.1)
        (subst (λ d. EachImage d (StandsIn S.known.opened.area records)) c.1 S.images (reads c.0)
        (IsImage-reads c.0)) N.handed;
    images = subst (λ d. EachImage d (StandsIn S.known.opened.area records)) (sym same) S.images;
  })
  | inr stopped ↦ (let c = stopped-at new.disk next.disk (StandsIn S.known.opened.area records)
      S.known.tells S.images stopped in record {
        known = known-sure new records (firm c.0) next S c.1
            (subst (StandsIn S.known.opened.area records) (sym (reads-firm c.0)) c.2) N.handed;
        images = subst (λ d. EachImage d (StandsIn S.known.opened.area records)) (sym c.1)
            (λ image is. subst (StandsIn S.known.opened.area records) (sym (image-firm c.0 image is)) c.2);
      })
]

-- ---- commands that leave the store alone

-- a store that is sure is so where disk and providers are the same
pub sure-same : (records : List Record) (old new : Seen) → new.disk ≡ old.disk →
    new.providers ≡ old.providers → IsSure old records → IsSure new records
sure-same records old new same providers S = record {
  known = record {
    tells = ap is_some same ∙ S.known.tells;
    opened = record {
      area = S.known.opened.area;
      read = rw (← same) at S.known.opened.read;
      enough = rw (← providers) at S.known.opened.enough;
    };
  };
  images = rw (← same) at S.images;
}

init-providers : (numbers : Numbers) (old new : Seen) (end : Ending) → AnswersInit numbers old new end →
    new.providers ≡ old.providers
init-providers numbers old new end =
    init-cases (λ E. E.refused.providers) (λ key status two F. F.providers) (λ key R. R.providers)

-- an init leaves a store that is set up
pub sure-init : (numbers : Numbers) (records : List Record) (old new : Seen) (end : Ending) →
    AnswersInit numbers old new end → IsSure old records → is_some new.disk ≡ is_some old.disk →
    IsSure new records
sure-init numbers records old new end A S tells =
    (let images = images-kept old.disk new.disk (λ image. StandsActive image S.known.opened.area records)
    (init-kept numbers records old new end A S.known.opened.read.some
    (each_image-mono old.disk _ _ (λ image stands. (S.known.opened.area, stands)) S.images))
    S.known.tells S.images in
    let c = is_some-at new.disk (tells ∙ S.known.tells) in
    record {
      known = known-sure old records c.0 new S c.1 (subst
          (λ d. EachImage d (λ image. StandsActive image S.known.opened.area records)) c.1 images (reads c.0)
          (IsImage-reads c.0)) (ap length (init-providers numbers old new end A));
      images = images;
    })

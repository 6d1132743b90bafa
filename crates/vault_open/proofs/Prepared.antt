-- A disk that is made ready for its first record, and what a failed init leaves of it.
use Rattle.vault_open.proofs.Words.{◌≡◌, ◌⊎◌, inl, inr, ℕ, ◌<◌, ◌≤◌, List, [], ◌∷◌, length, Option, Some, None, refl, sym, ap, ◌∙◌, subst, arith, length-take, IfSome, option_map, Cells, reads, written, synced, IsImage, EachImage, Goes, Setup, SetUp, largest_journal, text, StandsFor, Area, A, StandsActive, active-front, MayStandWith, InitFault, journal_read, IsBlankIn, IsResynced, MayBeLeft, blank-free, IsInitFault, IsBlank, IsReadied, IsHalfReady, emptied, IsTextFault}
use Rattle.vault_open.specs.declared.fault.InitFault.TheVariants as init_fault
use Rattle.opening_defs.proofs.Resyncs.{image-resynced}
use Rattle.vault_open.proofs.Readings.{reads-synced}
use Rattle.vault_open.proofs.Stores.{IsLookedAt}
use Rattle.vault_open.proofs.Emptied.{emptied-is, text-blank}

abbrev IsShort : Cells → Type 0
IsShort cells = length (reads cells) ≤ 9

-- ---- what a fault leaves

half-image : (cells : Cells) (new : Option Cells) → Goes IsResynced (Some cells) new →
    EachImage new (IsImage cells)
half-image cells None goes = absurd goes
half-image cells (Some new) goes = image-resynced cells new goes

-- a disk that was synced, or left as it was, has only images that it had before
pub half-resynced : (told new : Option Cells) → Goes IsResynced told new →
    IfSome told (λ cells. IsHalfReady cells new)
half-resynced None new goes = tt
half-resynced (Some cells) new goes = inl (half-image cells new goes)

-- a short disk of which a fault leaves only short images is one that a fault may leave on the way
pub half-empty : (told mid new : Option Cells) → mid ≡ option_map synced told → IfSome told IsShort →
    (IfSome mid IsShort → EachImage new (λ image. length image ≤ 9))
    → IfSome told (λ cells. IsHalfReady cells new)
half-empty None mid new is short left = tt
half-empty (Some cells) mid new is short left = inr (
  short,
  left (subst (λ (o : Option Cells). IfSome o IsShort) (sym is)
      (subst (λ (l : List ℕ). length l ≤ 9) (sym (reads-synced cells)) short)),
)

-- ---- why it is not made ready

text-at : (cells : Cells) (bytes : List ℕ) (why : InitFault) (s : Setup) →
    (9 < length (reads cells)) × (bytes ≡ journal_read cells) → IsTextFault bytes why →
    IsInitFault (journal_read cells) s why
text-at cells bytes (init_fault.BadJournal at) s is bad = (
  omega (arith, is.0, length-take largest_journal (reads cells)),
  subst (λ (l : List ℕ). IsTextFault l (init_fault.BadJournal at)) is.1 bad,
)
text-at cells bytes init_fault.Already s is bad = (
  omega (arith, is.0, length-take largest_journal (reads cells)),
  subst (λ (l : List ℕ). IsTextFault l init_fault.Already) is.1 bad,
)
text-at cells bytes init_fault.Memory s is bad = absurd bad
text-at cells bytes init_fault.BadSetup s is bad = absurd bad
text-at cells bytes init_fault.DiskFault s is bad = absurd bad

-- a fault that lies in the text is one that an init may tell of this disk
pub text_fault : (told : Option Cells) (bytes : List ℕ) (why : InitFault) (s : Setup) →
    IsLookedAt told bytes → IsTextFault bytes why →
    IfSome told (λ cells. IsInitFault (journal_read cells) s why)
text_fault None bytes why s is bad = tt
text_fault (Some cells) bytes why s is bad = text-at cells bytes why s is bad

-- ---- how it is made ready

-- a short disk, once synced and emptied, is ready in the first area
pub readied-empty : (told mid new : Option Cells) → mid ≡ option_map synced told →
    new ≡ option_map emptied mid → IfSome told IsShort → Goes (IsReadied A) told new
readied-empty None mid new is made short =
    subst (λ (o : Option Cells). Goes (IsReadied A) None o) (sym (made ∙ ap (option_map emptied) is)) tt
readied-empty (Some cells) mid new is made short =
    let short_synced : length (reads (synced cells)) ≤ 9 =
    subst (λ (l : List ℕ). length l ≤ 9) (sym (reads-synced cells)) short in
    let whole = emptied-is (synced cells) short_synced in
    subst (λ (o : Option Cells). Goes (IsReadied A) (Some cells) o) (sym (made ∙ ap (option_map emptied) is))
    (record {
      blank = written 0 (text []) cells;
      blank_is = IsBlankIn.short short refl refl;
      synced_is = whole ∙ sym (emptied-is cells short);
      reads_none = subst (IsBlank A) (sym whole) text-blank;
    })

-- a disk that stands for no records in an area, once synced, is ready there
pub readied-read : (told mid : Option Cells) (bytes : List ℕ) (area : Area) → mid ≡ option_map synced told →
    IsLookedAt told bytes → StandsActive bytes area [] → Goes (IsReadied area) told mid
readied-read None mid bytes area is looked stands =
    subst (λ (o : Option Cells). Goes (IsReadied area) None o) (sym is) tt
readied-read (Some cells) mid bytes area is looked stands =
    let read : StandsActive (journal_read cells) area [] =
    subst (λ (l : List ℕ). StandsActive l area []) looked.1 stands in
    subst (λ (o : Option Cells). Goes (IsReadied area) (Some cells) o) (sym is) (record {
      blank = cells;
      blank_is = IsBlankIn.empty read refl;
      synced_is = refl;
      reads_none = record {
        bytes = reads cells;
        firm_is = refl;
        stands = active-front largest_journal (reads cells) area [] read;
      };
    })

-- ---- what a failed init leaves

each-left : (s : Setup) (cells : Cells) (new : Option Cells) (P : List ℕ → Type 0) →
    ((image : List ℕ) → P image → MayBeLeft s cells image) → EachImage new P →
    EachImage new (MayBeLeft s cells)
each-left s cells None P step all = tt
each-left s cells (Some new) P step all = λ image of. step image (all image of)

half-left-at : (s : Setup) (cells : Cells) (new : Option Cells) → IsHalfReady cells new →
    EachImage new (MayBeLeft s cells)
half-left-at s cells new (inl same) = each-left s cells new (IsImage cells) (λ image is. inl is) same
half-left-at s cells new (inr short) =
    each-left s cells new (λ image. length image ≤ 9) (λ image is. inr (inl short.0, inl is)) short.1

-- what a fault on the way leaves of a disk is what a failed init may leave
pub half-left : (s : Setup) (told new : Option Cells) → IfSome told (λ cells. IsHalfReady cells new) →
    IfSome told (λ cells. EachImage new (MayBeLeft s cells))
half-left s None new half = tt
half-left s (Some cells) new half = half-left-at s cells new half

-- what a failed append of the setup leaves of a ready disk is what a failed init may leave
pub append-left : (s : Setup) (area : Area) (told mid new : Option Cells) → Goes (IsReadied area) told mid →
    MayStandWith area [] (SetUp s) new → IfSome told (λ cells. EachImage new (MayBeLeft s cells))
append-left s area None mid new ready stands = tt
append-left s area (Some cells) None new ready stands = absurd ready
append-left s area (Some cells) (Some mid) new ready stands =
    each-left s cells new (λ image. StandsActive image area [] ⊎ StandsActive image area (SetUp s ∷ []))
    (λ image is. inr (blank-free cells ready.blank area ready.blank_is, inr (somewhere image is))) stands
  where
    somewhere : (image : List ℕ) → StandsActive image area [] ⊎ StandsActive image area (SetUp s ∷ []) →
        StandsFor image [] ⊎ StandsFor image (SetUp s ∷ [])
    somewhere image (inl none) = inl (area, none)
    somewhere image (inr one) = inr (area, one)

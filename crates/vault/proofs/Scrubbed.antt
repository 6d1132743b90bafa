-- The files of a scrub of all files in effect.
use Rattle.vault.proofs.Words.{◌≡◌, ℕ, zero, suc, ◌+◌, ◌≤◌, ◌^◌, List, [], ◌∷◌, map, inl, inr, None, Some, refl, ap, sym, subst, ◌∙◌, arith, ℕ_set, props, slice_get, AllZip, In, in_contains, Shape, FileShape, Setup, largest_file, most_files, files_of, with_master, pin_all, AuditJob, State, setup_in, AreAscending, pins-ascend, pins-few, pins-stored, pin_of, PinnedFile, Devices, devices, Desk, DeskStands, IsAtWork, IsShaped, IsShapeFor, AreShaped}
use Rattle.std.proofs.Common.{length}
use Rattle.machine_defs.specs.Jobs.{Pinned}
use Rattle.hail_scrub.specs.Begins.{AreFilesOf, AreApart, HaveOneCount, IsFileOf}
use Rattle.hail_scrub.specs.Begun.{file_providers}
use Rattle.vault.proofs.AtWork.{by_work}
use Rattle.vault.proofs.GetBegins.{least}

-- ---- shapes of pinned files

-- they are the desk's
pub all_shaped : (v : Desk) (ps : List PinnedFile) (fs : List FileShape) → AllZip (IsShapeFor v) ps fs
    → AreShaped v fs
all_shaped v [] [] are k f is = absurd (let e : None ≡ Some f = is in cc)
all_shaped v (p ∷ ps) (x ∷ fs) are zero f is = (let e : Some x ≡ Some f = is in let same : x ≡ f = cc in
    (rw same at are.0.shape_is))
all_shaped v (p ∷ ps) (x ∷ fs) are (suc k) f is = all_shaped v ps fs are.1 k f is
all_shaped v _ _ are k f is = absurd are

module _ (v : Desk) (s : Setup) (shaped : IsShaped v) (setup : s ≡ with_master v.setup v.master.0) where
  -- a file of such a shape is one of the machine
  file_is : (p : Pinned) (f : FileShape) → IsShapeFor v (pin_of p) f → length p.bytes ≤ largest_file
      → IsFileOf s v.master.0 f p
  file_is p f is short =
      let n = ap (λ x. x.n) is.shape_is ∙ shaped.n
      ∙ sym (ap (λ x. x.n) setup) in
      let l = ap (λ x. x.l) is.shape_is ∙ shaped.l
      ∙ sym (ap (λ x. x.l) setup) in
      let b = ap (λ x. x.b) is.shape_is ∙ shaped.b
      ∙ sym (ap (λ x. x.b) setup) in
      record {
        id_is = is.id_is;
        length_is = is.length_is ∙ least (length p.bytes) (2 ^ 22) short;
        object_is = λ i. record {
          shape = record { n = n i; l = l i; b = b i };
          profile = is.profile_is i;
          master = (sym (ap (λ (x : Setup). x.master) setup)) i;
          id = is.id_is i;
        };
      }

  -- so are all of them
  files_are : (ps : List Pinned) (fs : List FileShape) → AllZip (IsShapeFor v) (map pin_of ps) fs
      → ((p : Pinned) → In p ps → length p.bytes ≤ largest_file) → AreFilesOf s v.master.0 fs ps
  files_are [] [] are short = tt
  files_are (p ∷ ps) (f ∷ fs) are short = (
    file_is p f are.0 (short p (inl refl)),
    files_are ps fs are.1 (λ q i. short q (inr i)),
  )
  files_are _ _ are short = absurd are

-- the files in effect, of a state that a desk stands for
pub all_files : (v : Desk) (d : Devices) (w : State) (pins : List PinnedFile) (fs : List FileShape) →
    DeskStands v d w → pins ≡ map pin_of (pin_all w (files_of w.records)) → AllZip (IsShapeFor v) pins fs →
    AreFilesOf (setup_in w) v.master.0 fs (pin_all w (files_of w.records))
all_files v d w pins fs S is are =
    let ps = pin_all w (files_of w.records) in
    let sound = S.core.sound in
    files_are v (setup_in w) S.shaped S.setup ps fs
    (subst (λ (l : List PinnedFile). AllZip (IsShapeFor v) l fs) is are)
    (λ p i. (pins-stored w sound.accepted sound.spelled sound.files AuditJob p (in_contains ps p i)).size)

-- ---- files that ascend

module _ (s : Setup) (master : List ℕ) where
  -- there are as many as files that the machine works on
  same_count : (fs : List FileShape) (ps : List Pinned) → AreFilesOf s master fs ps → length fs ≡ length ps
  same_count [] [] are = refl
  same_count (f ∷ fs) (p ∷ ps) are = ap suc (same_count fs ps are.1)
  same_count _ _ are = absurd are

  -- none has a number below the least
  not_below : (low : ℕ) (fs : List FileShape) (ps : List Pinned) → AreFilesOf s master fs ps
      → AreAscending low ps → (k : ℕ) (f : FileShape) → slice_get fs k ≡ Some f → low ≤ f.id
  not_below low [] ps are up k f is = absurd (let e : None ≡ Some f = is in cc)
  not_below low (x ∷ fs) [] are up k f is = absurd are
  not_below low (x ∷ fs) (p ∷ ps) are up zero f is = (let e : Some x ≡ Some f = is in let same : x ≡ f = cc in
      let id : x.id ≡ f.id = ap (λ (y : FileShape). y.id) same in
      omega (arith, are.0.id_is, up.0, id))
  not_below low (x ∷ fs) (p ∷ ps) are up (suc k) f is =
      (let more = not_below (p.id + 1) fs ps are.1 up.1 k f is in omega (arith, more, up.0))

  -- the first has a number below those of the others
  first_below : (low : ℕ) (x : FileShape) (fs : List FileShape) (ps : List Pinned)
      → AreFilesOf s master (x ∷ fs) ps → AreAscending low ps → (k : ℕ) (f g : FileShape)
      → Some x ≡ Some f → slice_get fs k ≡ Some g → f.id ≡ g.id → ⊥
  first_below low x fs [] are up k f g e is same = are
  first_below low x fs (p ∷ ps) are up k f g e is same = (let first : x ≡ f = cc in
      let id : x.id ≡ f.id = ap (λ (y : FileShape). y.id) first in
      let more = not_below (p.id + 1) fs ps are.1 up.1 k g is in
      omega (arith, more, are.0.id_is, id, same))

  -- so no two have one number
  apart : (low : ℕ) (fs : List FileShape) (ps : List Pinned) → AreFilesOf s master fs ps
      → AreAscending low ps → AreApart fs
  apart low [] ps are up i k f g here there same = absurd (let e : None ≡ Some f = here in cc)
  apart low (x ∷ fs) [] are up i k f g here there same = absurd are
  apart low (x ∷ fs) (p ∷ ps) are up zero zero f g here there same = refl
  apart low (x ∷ fs) (p ∷ ps) are up zero (suc k) f g here there same =
      absurd (first_below low x fs (p ∷ ps) are up k f g here there same)
  apart low (x ∷ fs) (p ∷ ps) are up (suc i) zero f g here there same =
      absurd (first_below low x fs (p ∷ ps) are up i g f there here (sym same))
  apart low (x ∷ fs) (p ∷ ps) are up (suc i) (suc k) f g here there same =
      ap suc (apart (p.id + 1) fs ps are.1 up.1 i k f g here there same)

-- ---- of a desk at work

-- what is found of all files in effect, whatever the state
abbrev AreAllFiles : Desk → List FileShape → Type 0
AreAllFiles v fs = (w : State) (d : Devices) → DeskStands v d w → AreFilesOf (setup_in w) v.master.0 fs
    (pin_all w (files_of w.records))

module _ (v : Desk) (fs : List FileShape) (files : AreAllFiles v fs) (at : IsAtWork v) where
  -- there are no more of them than may be in effect
  pub few_files : length fs ≤ most_files
  few_files = by_work (hlevel props) v (λ w faults ps stands.
      let d = devices None faults ps in
      let sound = stands.core.sound in
      let same = same_count (setup_in w) v.master.0 fs (pin_all w (files_of w.records)) (files w d stands) in
      let few = pins-few w sound.accepted sound.spelled sound.files AuditJob in omega (arith, same, few)) at

  -- and no two have one object number
  pub files_apart : AreApart fs
  files_apart i k f g here there same = by_work (ℕ_set _ _) v (λ w faults ps stands.
      let sound = stands.core.sound in
      apart (setup_in w) v.master.0 0 fs (pin_all w (files_of w.records))
      (files w (devices None faults ps) stands)
      (pins-ascend w sound.accepted sound.spelled sound.files AuditJob) i k f g here there same) at

module _ (v : Desk) (fs : List FileShape) (are : AreShaped v fs) where
  -- all have the same number of providers
  pub one_count : HaveOneCount fs
  one_count i k f g here there = ap (λ (x : Shape). x.n) (are i f here ∙ sym (are k g there))

  -- which is that of the setup
  pub count_fits : IsAtWork v → file_providers fs ≤ v.setup.n
  count_fits at = by fs are (by_work (ℕ_set _ _) v (λ w faults ps stands. stands.shaped.n) at)
    where
      by : (l : List FileShape) → AreShaped v l → v.shape.n ≡ v.setup.n → file_providers l ≤ v.setup.n
      by [] all n = omega arith
      by (f ∷ l) all n = omega (arith, ap (λ (x : Shape). x.n) (all 0 f refl), n)

-- The object of a number among the files that a job works on, or among those in effect, is that of its file.
use Rattle.job_laws.proofs.Words.{◌≡◌, ℕ, ◌==◌, true, false, cond, List, [], ◌∷◌, Some, refl, ap, sym, ◌∙◌, inl, inr, nat_lt, cases_Bool, eqb-true, eq-eqb, Each, In, Record, File, files_of, file_of, AreAccepted, Kind, GetJob, Job, profiled, object_of, pinned_file, pin_all, pinned_for, pinned_profile, State, setup_in, file_in, worked_object, cond_true, cond_false, listed_file, Ran, setup_at_begin, object_at_begin, object_numbered, profile_among, with_number, files_by_number, sound-accepted, IsOpenAtRest, object_made, with_job_of, Walked}
use Rattle.std.proofs.Common.{map}
use Rattle.job_laws.proofs.Asked.{pinned-by_number, each-by_number}
use Rattle.job_laws.proofs.Questions.{each-in}

-- ---- the object of a file is that of its number

among-found : (q p : ℕ) (files : List File) (id : ℕ) → ((g : File) → In g files → g.id ≡ id → g.profile ≡ p) →
    (f : File) → In f files → f.id ≡ id → profile_among q files id ≡ p
among-found q p [] id all f i e = absurd i
among-found q p (g ∷ gs) id all f i e = elim (cases_Bool (g.id == id)) [
  | inl t ↦ cond_true (g.id == id) g.profile (profile_among q gs id) t ∙ all g (inl refl) (eqb-true g.id id t)
  | inr o ↦ cond_false (g.id == id) g.profile (profile_among q gs id) o
      ∙ among-found q p gs id (λ h j. all h (inr j)) f (later i o) e
]
  where
    later : In f (g ∷ gs) → (g.id == id) ≡ false → In f gs
    later (inl same) o = absurd (let a : (g.id == id) ≡ true = eq-eqb g.id id (cc) in cc)
    later (inr j) o = j

-- two files in effect of one number have one profile
one-profile : (rs : List Record) → AreAccepted rs → (f g : File) → In f (files_of rs) → In g (files_of rs) →
    g.id ≡ f.id → g.profile ≡ f.profile
one-profile rs accepted f g i j same = (let a : file_of rs g.name ≡ Some g = listed_file rs g j in
    let b : file_of rs f.name ≡ Some f = listed_file rs f i in
    let names : g.name ≡ f.name = (sound-accepted rs accepted).one_name g.name f.name g f a b same in cc)

-- the object of a file in effect is that of its number
pub numbered-file : (x : Ran) → AreAccepted x.records → (file : File) → In file (files_of x.records) →
    object_numbered x file.id ≡ object_at_begin x file
numbered-file x accepted file i = cc (among-found (setup_at_begin x).profile file.profile (files_of x.records)
    file.id (λ g j same. one-profile x.records accepted file g i j same) file i refl)

-- ---- files by number have the profiles that they have in any order

-- files of one number have one profile
abbrev AreOne : List File → Type 0
AreOne [] = Unit {0}
AreOne (f ∷ fs) = Each (λ (g : File). g.id ≡ f.id → g.profile ≡ f.profile) fs × AreOne fs

are-one : (fs : List File) →
    ((f g : File) → In f fs → In g fs → g.id ≡ f.id → g.profile ≡ f.profile) → AreOne fs
are-one [] h = tt
are-one (f ∷ fs) h = (
  each-in (λ (g : File). g.id ≡ f.id → g.profile ≡ f.profile) fs (λ g i. h f g (inl refl) (inr i)),
  are-one fs (λ g k i j. h g k (inr i) (inr j)),
)

-- the profile of the first file, or that of a later one
abbrev first_or : File → ℕ → ℕ → ℕ
first_or f id later = cond (f.id == id) f.profile later

swapped : (f g : File) (id later : ℕ) → (g.id ≡ f.id → g.profile ≡ f.profile) →
    first_or g id (first_or f id later) ≡ first_or f id (first_or g id later)
swapped f g id later one = elim (cases_Bool (g.id == id)) [
  | inl t ↦ cond_true (g.id == id) g.profile (first_or f id later) t
      ∙ elim (cases_Bool (f.id == id)) [
        | inl u ↦ one (eqb-true g.id id t ∙ sym (eqb-true f.id id u)) ∙ sym (cc)
        | inr n ↦ cc
      ]
  | inr o ↦ cc
]

with-among : (q : ℕ) (f : File) (fs : List File) (id : ℕ) →
    Each (λ (g : File). g.id ≡ f.id → g.profile ≡ f.profile) fs →
    profile_among q (with_number f fs) id ≡ profile_among q (f ∷ fs) id
with-among q f [] id h = refl
with-among q f (g ∷ gs) id h = elim (cases_Bool (nat_lt f.id g.id)) [
  | inl t ↦ cc
  | inr o ↦ cc (with-among q f gs id h.1, swapped f g id (profile_among q gs id) h.0)
]

by-number-among : (q : ℕ) (fs : List File) (id : ℕ) → AreOne fs →
    profile_among q (files_by_number fs) id ≡ profile_among q fs id
by-number-among q [] id h = refl
by-number-among q (f ∷ fs) id h = cc (
  with-among q f (files_by_number fs) id (each-by_number _ fs h.0),
  by-number-among q fs id h.1,
)

-- the pins of files have their profiles
pinned-among : (w : State) (q : ℕ) (fs : List File) (id : ℕ) →
    pinned_profile q (map (pinned_file w) fs) id ≡ profile_among q fs id
pinned-among w q [] id = refl
pinned-among w q (f ∷ fs) id = cc (pinned-among w q fs id)

-- ---- a state whose vault was just opened

module _ (start : State) (O : IsOpenAtRest start 1) where
  -- of a job that works on all files, the object of a number is that among the files in effect
  pub made-numbered : (kind : Kind) (job : Job) (x : Ran) → x.records ≡ start.records →
      pinned_for start kind ≡ pin_all start (files_of start.records) → (id : ℕ) →
      object_made (with_job_of start kind job) id ≡ object_numbered x id
  unfolding setup_in
  made-numbered kind job x same all id =
      ap (λ ps. object_of (profiled (setup_in start) (pinned_profile (setup_in start).profile ps id)) id)
      (all ∙ pinned-by_number start (files_of start.records))
      ∙ (ap (λ p. object_of (profiled (setup_in start) p) id)
      (pinned-among start (setup_in start).profile (files_by_number (files_of start.records)) id
      ∙ by-number-among (setup_in start).profile (files_of start.records) id
      (are-one (files_of start.records) (one-profile start.records O.rest.accepted)))
      ∙ ap (λ rs. object_numbered (record x { records = rs }) id) (sym same))

  -- of a get, the object of its file's number is the file's
  pub made-got : (name : List ℕ) (job : Job) (file : File) → file_in start name ≡ Some file →
      object_made (with_job_of start (GetJob name) job) file.id
      ≡ object_of (profiled (setup_in start) file.profile) file.id
  made-got name job file in_effect =
      cc (cond_true (file.id == file.id) file.profile (setup_in start).profile (eq-eqb file.id file.id refl))

  module _ (kind : Kind) (w : State) (job : Job) (W : Walked start kind w job) where
    -- the object that a job works on is that which its actions are made with
    pub worked-made : (id : ℕ) → worked_object w job id ≡ object_made (with_job_of start kind job) id
    worked-made id = cc

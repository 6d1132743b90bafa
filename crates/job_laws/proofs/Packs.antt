-- From the run of a pack, as its command tells it, to what it leaves.
use Rattle.job_laws.proofs.Words.{◌≡◌, ◌≢◌, ℕ, zero, suc, ◌⊎◌, Bool, false, true, List, [], ◌∷◌, length, Option, None, Some, refl, ap, sym, subst, ◌∙◌, inl, inr, arith, false≢true, Rose, Provider, rose-before, each_image-mono, Record, File, Due, files_of, due_of, Area, other_area, StandsActive, as_record, with_files, with_due, packed, Answer, State, StandsPlain, StandsWithDoubt, StandsSwitched, StandsForState, Seen, provider_at, setup_in_effect, RanPack, PacksAlone, PackLeaves, PackedAlone, IsJustOpened}
use Rattle.machine_defs.specs.Answers as answer
use Rattle.command_defs.specs.Opens as opens
use Rattle.job_laws.proofs.PackRuns.{packed_over, PackEnds, pack-ends}
use Rattle.job_laws.proofs.Telling.{opened_state, state-over, providers-seen}

-- ---- a packed journal has a record

files-some : (fs : List File) (rs : List Record) → rs ≢ [] → with_files fs rs ≢ []
files-some [] rs some = some
files-some (f ∷ fs) rs some = files-some fs (as_record f ∷ rs) (λ e. cc)

due-some : (due : Option Due) (rs : List Record) → rs ≢ [] → with_due due rs ≢ []
due-some None rs some = some
due-some (Some due) rs some = λ e. cc

pub packed-some : (rs : List Record) → packed rs ≢ []
packed-some rs = due-some (due_of rs) _ (files-some (files_of rs) _ (λ e. cc))

-- ---- providers that are seen alike

same-providers : (ps qs : List Provider) → length ps ≡ length qs →
    ((j : ℕ) → provider_at ps j ≡ provider_at qs j) → ps ≡ qs
same-providers [] [] e f = refl
same-providers (p ∷ ps) (q ∷ qs) e f =
    (let rest = same-providers ps qs (omega (arith, e)) (λ j. f (suc j)) in λ i. f zero i ∷ rest i)
same-providers ps qs e f = absurd (omega (arith, e))

-- ---- the disk

module _ (w : State) (journal : List Record) (area : Area) (switching barred : Bool) (faults : ℕ)
    (sure : w.doubt ≡ None) (some : journal ≢ []) where
  abbrev left : State
  left = packed_over w journal area switching barred faults

  -- an image of the disk after a pack stands for the journal, or, while the switch is under way, for the
  -- packed one in the other area
  image-left : (image : List ℕ) →
      StandsPlain left image ⊎ (StandsWithDoubt left image ⊎ StandsSwitched left image) →
      StandsActive image area journal
      ⊎ ((switching ≡ true) × StandsActive image (other_area area) (packed journal))
  image-left image (inl (inl h)) = inl h
  image-left image (inl (inr h)) = absurd (some h.0)
  image-left image (inr (inl h)) = cc
  image-left image (inr (inr h)) = inr (h.switching, h.stands)

  -- so where it is not, each image stands for the journal
  firm-left : switching ≡ false → (image : List ℕ) →
      StandsPlain left image ⊎ (StandsWithDoubt left image ⊎ StandsSwitched left image) →
      StandsActive image area journal
  firm-left off image h = elim (image-left image h) [
    | inl s ↦ s
    | inr s ↦ absurd (false≢true (sym off ∙ s.0))
  ]

-- ---- what is left of the run

module _ (records : List Record) (how : Answer) (old new : Seen) (R : opens.IsOpened old records)
    (same : length new.providers ≡ length old.providers) (A : PacksAlone R.area records how old new) where
  abbrev w : State
  w = opened_state R.area records A.faults old.providers

  over : IsJustOpened w R.area records 1 A.faults old.providers
  over = state-over records A.faults old R

  abbrev ran : RanPack records how old new w 1
  ran = A.ran w 1 over

  -- what is left, by the state that it left
  leaves-by : (answer : Answer) → PackEnds w answer ran.last →
      PackLeaves R.area records answer old new × (ran.last.providers ≡ w.providers)
  leaves-by (answer.Packed before after) (b, a, low, is) = (
    (
      b,
      a,
      each_image-mono new.disk _ (λ image. StandsActive image (other_area R.area) (packed records))
          (firm-left w (packed records) (other_area R.area) false false ran.last.disk_faults refl
          (packed-some records) refl) (subst (StandsForState new.disk) is ran.images),
    ),
    cc,
  )
  leaves-by answer.DiskFault (rose, low, switching, is) = (
    (
      rose-before old.disk_faults A.faults new.disk_faults A.before (omega (arith, ran.faults_are, low))
          (subst (Rose A.faults) ran.faults_are rose),
      each_image-mono new.disk _ _ (λ image h. elim (image-left w records R.area switching true
          ran.last.disk_faults refl R.read.some image h) [ inl s ↦ inl s | inr s ↦ inr s.1 ])
          (subst (StandsForState new.disk) is ran.images),
    ),
    cc,
  )
  leaves-by answer.Memory (low, is) = (
    each_image-mono new.disk _ (λ image. StandsActive image R.area records)
        (firm-left w records R.area false false ran.last.disk_faults refl R.read.some refl)
        (subst (StandsForState new.disk) is ran.images),
    cc,
  )
  leaves-by answer h = absurd h

  left-by : PackLeaves R.area records how old new × (ran.last.providers ≡ w.providers)
  left-by = leaves-by how (pack-ends w over.at_rest ran.last 1 how ran.runs)

  -- what a command tells of its pack's run leaves what a pack leaves
  pub packed-alone : PackedAlone R.area records how old new
  packed-alone = record {
    leaves = left-by.0;
    tells = A.tells;
    providers = same-providers new.providers old.providers same
        (λ j. sym (providers-seen w ran.last old new (setup_in_effect records).n refl R.enough same ran.handed
        (λ k l. ap (λ (f : ℕ → Provider). f k) left-by.1) j) ∙ ap (λ (f : ℕ → Provider). f j) left-by.1);
  }

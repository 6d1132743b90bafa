-- What the images of a disk show of a state: one list of records in one area, or nothing.
--
--   Shows w image     == an image stands for what may be in effect
--   MayRead w area rs == a disk that stands for a state may read these records in this area
use Rattle.vault_open.proofs.Words.{◌≡◌, ◌⊎◌, inl, inr, ℕ, ◌<◌, ◌≤◌, true, List, [], ◌∷◌, length, Option, Some, None, refl, sym, ◌∙◌, subst, arith, IfSome, Cells, firm, image-firm, each_image-mono, Record, largest_journal, setup_of, version_of, AreAccepted, Area, other_area, end_in, StandsActive, packed, State, Doubt, MayHold, StandsPlain, StandsWithDoubt, StandsSwitched, StandsForState, StandsFirm, AllStandIn, MayStandWith, MayStandIn, one_meaning, firm-image, IsSoundJournal, IsSound, is_some-at, second-set_up, AreAppended, packed-not-appended, switched-room}
use Rattle.record_defs.proofs.PackLaws.{packed_are}
use Rattle.vault_open.proofs.Texts.{short-none, short-first}

-- an image stands for what may be in effect in a state
abbrev pub Shows : State → List ℕ → Type 0
Shows w image = StandsPlain w image ⊎ (StandsWithDoubt w image ⊎ StandsSwitched w image)

-- the journal in its area, or the packed one in the other area; or the journal with the record in doubt
abbrev pub MayRead : State → Area → List Record → Type 0
MayRead w area rs = MayHold w rs area
    ⊎ ((d : Doubt) × (w.doubt ≡ Some d) × (rs ≡ d.entry ∷ w.journal) × (area ≡ w.area))

-- ---- what one image shows

-- a packed journal has a record
pub packed-some : (rs : List Record) → packed rs ≡ [] → ⊥
packed-some rs none = packed-not-appended rs (subst AreAppended (sym none) refl)

-- so has one with another record
pub more-some : (r : Record) (rs : List Record) → r ∷ rs ≡ [] → ⊥
more-some r rs none = absurd cc

-- the records that an image stands for, in their area, are those that it shows of the state
pub shown-read : (w : State) (image : List ℕ) (area : Area) (rs : List Record) → IsSoundJournal w →
    Shows w image → StandsActive image area rs → MayRead w area rs
shown-read w image area rs journal (inl (inl plain)) stands =
    (let one = one_meaning image area w.area rs w.journal stands plain in inl (inl (one.1, one.0)))
shown-read w image area rs journal (inl (inr empty)) stands = inl (inl (
  short-none image area rs stands empty.1 ∙ sym empty.0,
  short-first image area rs stands empty.1 ∙ sym (journal.first empty.0),
))
shown-read w image area rs journal (inr (inl d)) stands =
    (let one = one_meaning image area w.area rs (d.doubt.entry ∷ w.journal) stands d.stands in
    inr (d.doubt, d.in_doubt, one.1, one.0))
shown-read w image area rs journal (inr (inr x)) stands =
    (let one = one_meaning image area (other_area w.area) rs (packed w.journal) stands x.stands in
    inl (inr (x.switching, one.1, one.0)))

-- an image of at most nine bytes shows that there is no record
pub shown-short : (w : State) (image : List ℕ) → Shows w image → length image ≤ 9 → w.journal ≡ []
shown-short w image (inl (inl plain)) short = short-none image w.area w.journal plain short
shown-short w image (inl (inr empty)) short = empty.0
shown-short w image (inr (inl d)) short = absurd (more-some d.doubt.entry w.journal
    (short-none image w.area (d.doubt.entry ∷ w.journal) d.stands short))
shown-short w image (inr (inr x)) short = absurd (packed-some w.journal
    (short-none image (other_area w.area) (packed w.journal) x.stands short))

-- any other image stands for records that the state may have on its disk
pub shown-long : (w : State) (image : List ℕ) → Shows w image → 9 < length image →
    (area : Area) × (rs : List Record) × StandsActive image area rs × MayRead w area rs
shown-long w image (inl (inl plain)) long = (w.area, w.journal, plain, inl (inl (refl, refl)))
shown-long w image (inl (inr empty)) long = absurd (let short = empty.1 in omega (arith, short, long))
shown-long w image (inr (inl d)) long =
    (w.area, d.doubt.entry ∷ w.journal, d.stands, inr (d.doubt, d.in_doubt, refl, refl))
shown-long w image (inr (inr x)) long =
    (other_area w.area, packed w.journal, x.stands, inl (inr (x.switching, refl, refl)))

module _ (limit : ℕ) (w : State) (sound : IsSound limit w) (area : Area) (rs : List Record) where
  packed-accepted : w.is_switching ≡ true → AreAccepted (packed w.journal)
  packed-accepted switching =
      let second : version_of w.journal ≡ 2 = sound.journal.alike.version
      ∙ (sound.switching switching).version in
      let s = is_some-at (setup_of w.journal) (second-set_up w.journal sound.journal.accepted second) in
      (packed_are w.journal sound.journal.accepted s.0 s.1 second).0

  -- what the disk of a sound state may read is accepted
  pub read-accepted : MayRead w area rs → AreAccepted rs
  read-accepted (inl (inl (same, here))) = subst AreAccepted (sym same) sound.journal.accepted
  read-accepted (inl (inr (switching, same, other))) =
      subst AreAccepted (sym same) (packed-accepted switching)
  read-accepted (inr (d, in_doubt, same, here)) =
      subst AreAccepted (sym same) ((sound.doubt d in_doubt).in_journal, sound.journal.accepted)

  at-end : (a : Area) (l : List Record) → area ≡ a → rs ≡ l → end_in a l ≤ largest_journal →
      end_in area rs ≤ largest_journal
  at-end a l here same fits = subst (λ (x : Area). end_in x rs ≤ largest_journal) (sym here)
      (subst (λ (x : List Record). end_in a x ≤ largest_journal) (sym same) fits)

  -- and ends within the bytes that are looked at
  pub read-fits : MayRead w area rs → end_in area rs ≤ largest_journal
  read-fits (inl (inl (same, here))) =
      at-end w.area w.journal here same (let room = sound.room in omega (arith, room))
  read-fits (inl (inr (switching, same, other))) = at-end (other_area w.area) (packed w.journal) other same
      (switched-room w.journal w.area sound.journal.accepted sound.journal.spelled)
  read-fits (inr (d, in_doubt, same, here)) = at-end w.area (d.entry ∷ w.journal) here same
      (let room = (sound.doubt d in_doubt).room in omega (arith, room))

-- ---- what all images of a disk show

module _ (told : Option Cells) (w : State) (area : Area) (rs : List Record) (journal : w.journal ≡ rs)
    (area_is : w.area ≡ area) where
  -- what stands in an area for the journal with others before it
  at-area : (image : List ℕ) (a : Area) (l : List Record) → w.area ≡ a → w.journal ≡ l →
      StandsActive image a l → StandsActive image w.area w.journal
  at-area image a l here same stands = subst (λ (x : Area). StandsActive image x w.journal) (sym here)
      (subst (λ (x : List Record). StandsActive image a x) (sym same) stands)

  plain : (image : List ℕ) → StandsActive image area rs → Shows w image
  plain image stands = inl (inl (at-area image area rs area_is journal stands))

  -- each image stands for the journal
  pub all-shown : AllStandIn area rs told → StandsForState told w
  all-shown = each_image-mono told (λ image. StandsActive image area rs) (Shows w) plain

  -- or for it with the record in doubt
  pub doubt-shown : (d : Doubt) → w.doubt ≡ Some d → MayStandWith area rs d.entry told → StandsForState told w
  doubt-shown d in_doubt = each_image-mono told
      (λ image. StandsActive image area rs ⊎ StandsActive image area (d.entry ∷ rs)) (Shows w) by
    where
      by : (image : List ℕ) → StandsActive image area rs ⊎ StandsActive image area (d.entry ∷ rs) →
          Shows w image
      by image (inl stands) = plain image stands
      by image (inr stands) = inr (inl (record {
        doubt = d;
        in_doubt = in_doubt;
        stands = subst (λ (x : Area). StandsActive image x (d.entry ∷ w.journal)) (sym area_is)
            (subst (λ (x : List Record). StandsActive image area (d.entry ∷ x)) (sym journal) stands);
      }))

  -- or, while the switch is under way, for the packed journal in the other area
  pub switched-shown : w.is_switching ≡ true → MayStandIn area rs (packed rs) told → StandsForState told w
  switched-shown switching = each_image-mono told
      (λ image. StandsActive image area rs ⊎ StandsActive image (other_area area) (packed rs)) (Shows w) by
    where
      by : (image : List ℕ) → StandsActive image area rs ⊎ StandsActive image (other_area area) (packed rs) →
          Shows w image
      by image (inl stands) = plain image stands
      by image (inr stands) = inr (inr (record {
        switching = switching;
        stands = subst (λ (x : Area). StandsActive image (other_area x) (packed w.journal)) (sym area_is)
            (subst (λ (x : List Record). StandsActive image (other_area area) (packed x)) (sym journal) stands);
      }))

  -- the text of the journal is firm
  pub firm-shown : IfSome told (StandsFirm area rs) → StandsForState told w
  firm-shown = by told
    where
      by : (o : Option Cells) → IfSome o (StandsFirm area rs) → StandsForState o w
      by None f = tt
      by (Some cells) f = λ image of. plain image (firm-image area rs cells image f of)

-- a disk with no loose byte stands for what its bytes show
pub bytes-shown : (bytes : List ℕ) (w : State) → Shows w bytes → StandsForState (Some (firm bytes)) w
bytes-shown bytes w shows image of = subst (Shows w) (sym (image-firm bytes image of)) shows

-- images that stand for a state stand for one that holds the same
pub shown-again : (told : Option Cells) (w new : State) → new.journal ≡ w.journal → new.area ≡ w.area →
    new.is_switching ≡ w.is_switching → new.doubt ≡ w.doubt → StandsForState told w → StandsForState told new
shown-again told w new journal area switching doubt = each_image-mono told (Shows w) (Shows new) by
  where
    moved : (image : List ℕ) (f : Area → Area) (g : List Record → List Record) →
        StandsActive image (f w.area) (g w.journal) → StandsActive image (f new.area) (g new.journal)
    moved image f g stands = subst (λ (a : Area). StandsActive image (f a) (g new.journal)) (sym area)
        (subst (λ (l : List Record). StandsActive image (f w.area) (g l)) (sym journal) stands)

    by : (image : List ℕ) → Shows w image → Shows new image
    by image (inl (inl plain)) = inl (inl (moved image (λ a. a) (λ l. l) plain))
    by image (inl (inr empty)) = inl (inr (journal ∙ empty.0, empty.1))
    by image (inr (inl d)) = inr (inl (record {
      doubt = d.doubt;
      in_doubt = doubt ∙ d.in_doubt;
      stands = moved image (λ a. a) (λ l. d.doubt.entry ∷ l) d.stands;
    }))
    by image (inr (inr x)) = inr (inr (record {
      switching = switching ∙ x.switching;
      stands = moved image other_area packed x.stands;
    }))

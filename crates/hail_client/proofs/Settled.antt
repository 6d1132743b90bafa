-- What is left in effect where the vault is given up and the disk is read again.
use Rattle.hail_client.proofs.Words.{◌≡◌, ◌≢◌, ◌⊎◌, inl, inr, ℕ, ◌≤◌, List, [], ◌∷◌, Some, None, refl, ap, sym, subst, ◌∙◌, arith, is_some, Record, Area, other_area, StandsActive, packed, Stop, State, Doubt, IsSetUp, MayHold, reread, Rereads, IsSoundJournal, IsSound, events-sound, Shows, MayRead, packed-some, more-some, shown-read, shown-short}
use Rattle.std.proofs.Common.{length}
use Rattle.machine_defs.specs.Events.{Stopped}
use Rattle.opening_defs.proofs.Opened.{has-setup}

-- the records that are in effect, and the journal that the disk is read to hold in this area: those of before,
-- or the packed journal in the other area; or both with the record in doubt
abbrev pub AreLeft : State → List Record → List Record → Area → Type 0
AreLeft w rs js area = ((rs ≡ w.records) × MayHold w js area)
    ⊎ ((d : Doubt) × (w.doubt ≡ Some d) × (rs ≡ d.entry ∷ w.records) × (js ≡ d.entry ∷ w.journal)
    × (area ≡ w.area))

-- the vault given up, with these records, this journal in its area and nothing in doubt
abbrev pub left_with : State → List Record → List Record → Area → State
left_with w rs js area = record (reread w js area) { doubt = None; records = rs }

-- to give up the vault over what a disk may hold is to read that disk again
pub left-rereads : (w : State) (rs js : List Record) (area : Area) → AreLeft w rs js area →
    Rereads w (left_with w rs js area)
left-rereads w rs js area (inl (same, may)) = (js, area, may, inl (λ i. left_with w (same i) js area))
left-rereads w rs js area (inr (d, in_doubt, same, held, here)) = (
  w.journal,
  w.area,
  inl (refl, refl),
  inr (d, in_doubt, λ i. left_with w (same i) (held i) (here i)),
)

-- what is so left of a sound state is sound
pub left-sound : (w : State) (rs js : List Record) (area : Area) → IsSound 8 w → AreLeft w rs js area →
    IsSound 8 (left_with w rs js area)
left-sound w rs js area sound left = events-sound 8 0 w sound (omega arith, omega arith) (Stop []) Stopped
    (left_with w rs js area) refl (left-rereads w rs js area left)

-- the state as it was, with the vault given up, is one of these
pub same-left : (w : State) → AreLeft w w.records w.journal w.area
same-left w = inl (refl, inl (refl, refl))

-- where a journal may be read, so much is in effect with it
pub read-left : (w : State) (area : Area) (js : List Record) → MayRead w area js →
    (rs : List Record) × AreLeft w rs js area
read-left w area js (inl may) = (w.records, inl (refl, may))
read-left w area js (inr (d, in_doubt, same, here)) =
    (d.entry ∷ w.records, inr (d, in_doubt, refl, same, here))

-- a sound state whose journal has a record has a setup in effect
pub left-set_up : (w : State) → IsSound 8 w → w.journal ≢ [] → IsSetUp w
left-set_up w sound some =
    sym (ap is_some sound.journal.alike.setup) ∙ has-setup w.journal sound.journal.accepted some

-- ---- what one image leaves

-- the records and the journal that are left, where an image shows them
pub record IsLeft (w : State) (image : List ℕ) : Type 0 where
  pub records : List Record
  pub journal : List Record
  pub area : Area
  pub left : AreLeft w records journal area
  pub shows : Shows (left_with w records journal area) image

-- an image that stands for what may be in effect leaves what it shows
pub image-left : (w : State) (image : List ℕ) → Shows w image → IsLeft w image
image-left w image (inl plain) = record {
  records = w.records;
  journal = w.journal;
  area = w.area;
  left = same-left w;
  shows = inl plain;
}
image-left w image (inr (inl d)) = record {
  records = d.doubt.entry ∷ w.records;
  journal = d.doubt.entry ∷ w.journal;
  area = w.area;
  left = inr (d.doubt, d.in_doubt, refl, refl, refl);
  shows = inl (inl d.stands);
}
image-left w image (inr (inr x)) = record {
  records = w.records;
  journal = packed w.journal;
  area = other_area w.area;
  left = inl (refl, inr (x.switching, refl, refl));
  shows = inl (inl x.stands);
}

-- a disk on which nothing is set up has no record in its journal
pub none-read : (w : State) (image : List ℕ) → IsSoundJournal w → Shows w image →
    (length image ≤ 9) ⊎ ((area : Area) × StandsActive image area []) →
    (w.journal ≡ []) × Shows (left_with w w.records w.journal w.area) image
none-read w image journal shows (inl short) =
    (let none = shown-short w image shows short in (none, inl (inr (none, short))))
none-read w image journal shows (inr (area, stands)) = by (shown-read w image area [] journal shows stands)
  where
    by : MayRead w area [] → (w.journal ≡ []) × Shows (left_with w w.records w.journal w.area) image
    by (inl (inl (same, here))) = (
      sym same,
      inl (inl (subst (λ (a : Area). StandsActive image a w.journal) here
          (subst (λ (l : List Record). StandsActive image area l) same stands))),
    )
    by (inl (inr (switching, same, other))) = absurd (packed-some w.journal (sym same))
    by (inr (d, in_doubt, same, here)) = absurd (more-some d.entry w.journal (sym same))

-- What the images of a disk stand for in the course of a pack.
use Rattle.journal_pack.proofs.Words.{◌≡◌, inl, inr, ◌⊎◌, ℕ, zero, suc, ◌<◌, List, [], ◌∷◌, ◌++◌, take, Option, Some, None, refl, arith, IfSome, Cells, Setup, setup_of, version_of, AreAlike, packed, Area, A, B, other_area, magic_front, area_of, switch_of, StandsActive, HasText, IsSwitching, StandsFirm, AllStandIn, MayStandIn, IsAfterPack, IsBetween, IsPackGivenUp, text-image, switching-image, firm-image}
use Rattle.device_defs.specs.Images.{IsImage, EachImage}
use Rattle.record_defs.specs.Records.{Record}
use Rattle.record_defs.specs.Acceptance.{AreAccepted}
use Rattle.record_defs.proofs.PackLaws.{packed_are}
use Rattle.journal_pack.specs.Alike.{StandsAlike}

-- an area is one or the other
one_of_two : (named area : Area) → (named ≡ area) ⊎ (named ≡ other_area area)
one_of_two A A = inl refl
one_of_two A B = inr refl
one_of_two B A = inr refl
one_of_two B B = inl refl

-- while both areas have a firm text, and the switch byte alone is loose, each image stands for one of them
pub switching-stands : (area : Area) (rs qs : List Record) (cells : Cells) (image : List ℕ) (switch : ℕ) →
    IsSwitching cells switch → HasText cells area rs → HasText cells (other_area area) qs →
    IsImage cells image → StandsActive image area rs ⊎ StandsActive image (other_area area) qs
switching-stands area rs qs cells image switch is old new of = by (switching-image cells image switch is of)
  where
    by : (s : ℕ) × (take 8 image ≡ magic_front ++ s ∷ []) →
        StandsActive image area rs ⊎ StandsActive image (other_area area) qs
    by (s, front) = elim (one_of_two (area_of s) area) [
      | inl here ↦ inl (record {
        active = record { switch = s; front = front; names = here };
        holds = text-image area rs cells image old of;
      })
      | inr there ↦ inr (record {
        active = record { switch = s; front = front; names = there };
        holds = text-image (other_area area) qs cells image new of;
      })
    ]

module _ (area : Area) (rs qs : List Record) where
  abbrev Old : Cells → Type 0
  Old cells = (image : List ℕ) → IsImage cells image → StandsActive image area rs

  abbrev New : Cells → Type 0
  New cells = (image : List ℕ) → IsImage cells image → StandsActive image (other_area area) qs

  abbrev Either : Cells → Type 0
  Either cells = (image : List ℕ) → IsImage cells image →
      StandsActive image area rs ⊎ StandsActive image (other_area area) qs

  old-after : (moves : ℕ) (cells : Cells) → moves < 3 → IsAfterPack moves area rs qs cells → Old cells
  old-after zero cells few held image of = firm-image area rs cells image held of
  old-after (suc zero) cells few held image of = firm-image area rs cells image held.0 of
  old-after (suc (suc zero)) cells few held image of = firm-image area rs cells image held.0 of
  old-after (suc (suc (suc n))) cells few held image of = absurd (omega (arith, few))

  any-after : (moves : ℕ) (cells : Cells) → IsAfterPack moves area rs qs cells → Either cells
  any-after zero cells held image of = inl (firm-image area rs cells image held of)
  any-after (suc zero) cells held image of = inl (firm-image area rs cells image held.0 of)
  any-after (suc (suc zero)) cells held image of = inl (firm-image area rs cells image held.0 of)
  any-after (suc (suc (suc zero))) cells held image of =
      switching-stands area rs qs cells image (switch_of (other_area area)) held.0 held.1 held.2 of
  any-after (suc (suc (suc (suc n)))) cells held image of =
      inr (firm-image (other_area area) qs cells image held of)

  between-images : (cells : Cells) → IsBetween area rs qs cells → Either cells
  between-images cells b image of = elim b.front [
    | inl named ↦ inl (firm-image area rs cells image (record { named = named; text = b.old }) of)
    | inr s ↦ switching-stands area rs qs cells image s.0 s.1 b.old b.new of
  ]

  old-given_up : (moves : ℕ) (cells : Cells) → moves < 2 → IsPackGivenUp moves area rs qs cells → Old cells
  old-given_up zero cells few held image of = firm-image area rs cells image held of
  old-given_up (suc zero) cells few held image of = firm-image area rs cells image held of
  old-given_up (suc (suc n)) cells few held image of = absurd (omega (arith, few))

  any-given_up : (moves : ℕ) (cells : Cells) → IsPackGivenUp moves area rs qs cells → Either cells
  any-given_up zero cells held image of = inl (firm-image area rs cells image held of)
  any-given_up (suc zero) cells held image of = inl (firm-image area rs cells image held of)
  any-given_up (suc (suc n)) cells held image of = between-images cells held image of

  module _ (moves : ℕ) where
    -- up to the third move each image stands for the old records
    pub before-after : (told : Option Cells) → moves < 3 → IfSome told (IsAfterPack moves area rs qs) →
        AllStandIn area rs told
    before-after None few held = tt
    before-after (Some cells) few held = old-after moves cells few held

    -- all through a pack each image stands for the old records or the new ones
    pub between-after : (told : Option Cells) → IfSome told (IsAfterPack moves area rs qs) →
        MayStandIn area rs qs told
    between-after None held = tt
    between-after (Some cells) held = any-after moves cells held

    -- a pack given up before its switch leaves the old records
    pub before-given_up : (told : Option Cells) → moves < 2 → IfSome told (IsPackGivenUp moves area rs qs) →
        AllStandIn area rs told
    before-given_up None few held = tt
    before-given_up (Some cells) few held = old-given_up moves cells few held

    -- a pack given up leaves the old records or the new ones
    pub between-given_up : (told : Option Cells) → IfSome told (IsPackGivenUp moves area rs qs) →
        MayStandIn area rs qs told
    between-given_up None held = tt
    between-given_up (Some cells) held = any-given_up moves cells held

    -- after its four moves the other area is named, and has the new text
    pub ready-after : (told : Option Cells) → moves ≡ 4 → IfSome told (IsAfterPack moves area rs qs) →
        IfSome told (StandsFirm (other_area area) qs)
    ready-after None four held = tt
    ready-after (Some cells) four held = by moves four held
      where
        by : (m : ℕ) → m ≡ 4 → IsAfterPack m area rs qs cells → StandsFirm (other_area area) qs cells
        by zero four held = absurd (omega (arith, four))
        by (suc zero) four held = absurd (omega (arith, four))
        by (suc (suc zero)) four held = absurd (omega (arith, four))
        by (suc (suc (suc zero))) four held = absurd (omega (arith, four))
        by (suc (suc (suc (suc n)))) four held = held

  -- then each image stands for the new records
  pub all-stand : (told : Option Cells) → IfSome told (StandsFirm (other_area area) qs) →
      AllStandIn (other_area area) qs told
  all-stand None held = tt
  all-stand (Some cells) held = λ image of. firm-image (other_area area) qs cells image held of

-- ---- what a pack of accepted records leaves

-- records are alike to themselves
same-alike : (rs : List Record) → AreAlike rs rs
same-alike rs =
    record { setup = refl; version = refl; id = refl; audit = refl; files = refl; due = refl }

-- what a pack may leave stands for accepted records whose table is alike
pub table-kept : (area : Area) (rs : List Record) (s : Setup) (told : Option Cells) → AreAccepted rs →
    setup_of rs ≡ Some s → version_of rs ≡ 2 → MayStandIn area rs (packed rs) told →
    EachImage told (StandsAlike rs)
table-kept area rs s None accepted set second may = tt
table-kept area rs s (Some cells) accepted set second may = λ image of.
    let both = packed_are rs accepted s set second in
    elim (may image of) [
      | inl old ↦ record {
        area = area;
        records = rs;
        stands = old;
        accepted = accepted;
        alike = same-alike rs;
      }
      | inr new ↦ record {
        area = other_area area;
        records = packed rs;
        stands = new;
        accepted = both.0;
        alike = both.1;
      }
    ]

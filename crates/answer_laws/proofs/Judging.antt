-- Bytes are read from where the active area begins, record by record, until they end, a gate is closed, no
-- record stands, or one may not follow.
use Rattle.std.proofs.Common.{◌≡◌, ◌≢◌, ◌⊎◌, ℕ, zero, suc, ◌+◌, ◌<◌, true, List, [], ◌∷◌, ◌++◌, length, take, drop, Option, Some, None, refl, ap, sym, ◌∙◌, inl, inr, arith, append_assoc, length-append}
use Rattle.std.specs.Prelude.{IsTrue}
use Rattle.std.specs.List.{list_all}
use Rattle.std.proofs.lemmas.Bool.{cases_eq, cases_lt}
use Rattle.std.proofs.lemmas.List.{append-nil, take-take}
use Rattle.record_defs.specs.Records.{Record, SetUp, PutStart, PutDone, Drop, AuditStart, AuditDone, RepairDone, is_in_grammar, PutDoneIn, Version, Resume, InEffect, RepairDue}
use Rattle.record_defs.specs.Spellings.{spelling, SpellsNone}
use Rattle.record_defs.specs.Journal.{StandsFor}
use Rattle.record_defs.specs.Areas.{Area, base_of, magic_front, area_of, entries, IsSwitched, HasNoFront, HoldsIn, StandsActive, EndsIn, BreaksIn}
use Rattle.record_defs.specs.Acceptance.{Refused, refused, AreAccepted}
use Rattle.machine_defs.specs.Events.{AreBytes}
use Rattle.record_codec.specs.Reading.{record_at}
use Rattle.record_codec.proofs.Fields.{IsBytes, IsBytes-rest, IsBytes-drop}
use Rattle.record_codec.proofs.Takes.{record_takes, record_again, IsBytes-from_all}
use Rattle.opening_defs.specs.Journals.{BeginsWithSetup, BeginsOtherwise}
use Rattle.answer_laws.specs.Judged.{Judged, JudgedByInit}

-- ---- the front

-- bytes begin so, or otherwise
begins : (front bytes : List ℕ) → ((rest : List ℕ) × (bytes ≡ front ++ rest)) ⊎
    (take (length front) bytes ≢ front)
begins [] bytes = inl (bytes, refl)
begins (x ∷ front) [] = inr (λ e. cc)
begins (x ∷ front) (b ∷ bytes) = joined (cases_eq b x) (begins front bytes)
  where
    joined : (b ≡ x) ⊎ (b ≡ x → ⊥) → ((rest : List ℕ) × (bytes ≡ front ++ rest)) ⊎
        (take (length front) bytes ≢ front) →
        ((rest : List ℕ) × (b ∷ bytes ≡ x ∷ (front ++ rest))) ⊎ (b ∷ take (length front) bytes ≢ x ∷ front)
    joined (inl same) (inl found) = inl (found.0, (λ i. same i ∷ found.1 i))
    joined (inl same) (inr other) = inr (λ e. other cc)
    joined (inr differ) found = inr (λ e. differ cc)

-- bytes name an area, or have no front
named : (bytes : List ℕ) → ((area : Area) × IsSwitched bytes area) ⊎ HasNoFront bytes
named bytes = elim (begins magic_front bytes) [
  | inl found ↦ by-rest found.0 found.1
  | inr other ↦ inr (λ switch is. other
      (sym (take-take 7 8 bytes (omega arith)) ∙ ap (λ (l : List ℕ). take 7 l) is))
]
  where
    by-rest : (rest : List ℕ) → bytes ≡ magic_front ++ rest →
        ((area : Area) × IsSwitched bytes area) ⊎ HasNoFront bytes
    by-rest [] is = inr (λ switch e. ends (sym (ap (λ (l : List ℕ). take 8 l) is) ∙ e))
      where
        ends : {switch : ℕ} → magic_front ≡ magic_front ++ switch ∷ [] → ⊥
        ends e = cc
    by-rest (switch ∷ rest) is =
        inl (area_of switch, record { switch = switch; front = ap (λ (l : List ℕ). take 8 l) is; names = refl })

-- ---- one record

-- where none is read, none is spelled
none-spelled : (rest : List ℕ) → record_at rest ≡ None → SpellsNone rest
none-spelled rest none r front tail spelled parts =
    (let again : record_at rest ≡ Some (r, tail) = ap record_at
    (parts ∙ ap (λ (l : List ℕ). l ++ tail) spelled.bytes_are) ∙ record_again r tail spelled.in_grammar in
    absurd (differ (r, tail) (sym none ∙ again)))
  where
    differ : (x : Record × List ℕ) → None ≡ Some x → ⊥
    differ x e = cc

-- one record more before the gate
one-more : (text : List ℕ) (rs : List Record) (r : Record) (rest tail : List ℕ) →
    text ≡ entries rs ++ 1 ∷ rest → rest ≡ spelling r ++ tail → text ≡ entries (r ∷ rs) ++ tail
one-more text rs r rest tail is parts = is ∙ ap (λ (l : List ℕ). entries rs ++ 1 ∷ l) parts
    ∙ sym (append_assoc (entries rs) (1 ∷ spelling r) tail)

good-more : (r : Record) (rs : List Record) → is_in_grammar r ≡ true → IsTrue (list_all is_in_grammar rs) →
    IsTrue (list_all is_in_grammar (r ∷ rs))
good-more r rs one all = grind (arith, one, all)

shorter : (rest tail text : List ℕ) (n : ℕ) → length rest < n → rest ≡ text ++ tail → length tail < n
shorter rest tail text n few parts = omega (arith, few, ap length parts, length-append text tail)

-- ---- from record to record, for as long as each may follow those before it

-- where the reading of an area stops: it holds records, its bytes end at a gate, no record stands, or one may
-- not follow
data Stops (P : List Record → Type 0) (Q : List Record → Record → Type 0) (bytes : List ℕ)
    (area : Area) : Type 0 where
  stands : (rs : List Record) → P rs → HoldsIn bytes area rs → Stops P Q bytes area
  ends : (rs : List Record) → P rs → (at : ℕ) → (e : EndsIn bytes area at) → e.records ≡ rs →
      Stops P Q bytes area
  breaks : (rs : List Record) → P rs → (at : ℕ) → (b : BreaksIn bytes area at) → b.records ≡ rs →
      Stops P Q bytes area
  stopped : (rs : List Record) → P rs → (r : Record) (rest : List ℕ) →
      IsTrue (list_all is_in_grammar (r ∷ rs)) → drop (base_of area) bytes ≡ entries (r ∷ rs) ++ rest →
      Q rs r → Stops P Q bytes area

module _ (P : List Record → Type 0) (Q : List Record → Record → Type 0)
    (next : (rs : List Record) (r : Record) → P rs → P (r ∷ rs) ⊎ Q rs r) (bytes : List ℕ) (area : Area) where
  -- what is shown of fewer bytes than these
  abbrev Reads : ℕ → Type 0
  Reads n = (rs : List Record) (rest : List ℕ) → length rest < n → IsTrue (list_all is_in_grammar rs) → P rs →
      drop (base_of area) bytes ≡ entries rs ++ rest → IsBytes rest → Stops P Q bytes area

  goes-on : (n : ℕ) → Reads n → (rs : List Record) (r : Record) (tail : List ℕ) → length tail < n →
      IsTrue (list_all is_in_grammar (r ∷ rs)) → P rs →
      drop (base_of area) bytes ≡ entries (r ∷ rs) ++ tail → IsBytes tail → Stops P Q bytes area
  goes-on n again rs r tail few all good is fits = elim (next rs r good) [
    | inl may ↦ again (r ∷ rs) tail few all may is fits
    | inr why ↦ stopped rs good r tail all is why
  ]

  at-record : (n : ℕ) → Reads n → (rs : List Record) (rest : List ℕ) → length rest < n →
      IsTrue (list_all is_in_grammar rs) → P rs → drop (base_of area) bytes ≡ entries rs ++ 1 ∷ rest →
      IsBytes rest → (found : Option (Record × List ℕ)) → record_at rest ≡ found → Stops P Q bytes area
  at-record n again rs rest few all good is fits None e = breaks rs good
      (base_of area + length (entries rs) + 1) (record {
        records = rs;
        rest = rest;
        in_grammar = all;
        bytes_are = is;
        none = none-spelled rest e;
        place = refl;
      }) refl
  at-record n again rs rest few all good is fits (Some x) e = (let took = record_takes rest x fits e in
      goes-on n again rs x.0 x.1 (shorter rest x.1 (spelling x.0) n few took.0.parts)
      (good-more x.0 rs took.1 all) good
      (one-more (drop (base_of area) bytes) rs x.0 rest x.1 is took.0.parts) took.0.rest_fits)

  at-gate : (n : ℕ) → Reads n → (rs : List Record) (g : ℕ) (rest : List ℕ) → length rest < n →
      IsTrue (list_all is_in_grammar rs) → P rs → drop (base_of area) bytes ≡ entries rs ++ g ∷ rest →
      IsBytes rest → Stops P Q bytes area
  at-gate n again rs g rest few all good is fits = elim (cases_eq g 1) [
    | inl opened ↦ at-record n again rs rest few all good
        (is ∙ ap (λ (k : ℕ). entries rs ++ k ∷ rest) opened) fits (record_at rest) refl
    | inr shut ↦ stands rs good
        (record { in_grammar = all; gate = g; rest = rest; closed = shut; bytes_are = is })
  ]

  reads : (n : ℕ) → Reads n
  reads zero rs rest few all good is fits = absurd (omega (arith, few))
  reads (suc n) rs [] few all good is fits = ends rs good (base_of area + length (entries rs)) (record {
    records = rs;
    in_grammar = all;
    bytes_are = is ∙ append-nil (entries rs);
    place = refl;
  }) refl
  reads (suc n) rs (g ∷ rest) few all good is fits =
      at-gate n (reads n) rs g rest (omega (arith, few)) all good is (IsBytes-rest g rest fits)

  -- from where the area begins
  stops : P [] → AreBytes bytes → Stops P Q bytes area
  stops none all = reads (suc (length (drop (base_of area) bytes))) [] (drop (base_of area) bytes)
      (omega arith) refl none refl (IsBytes-drop (base_of area) bytes (IsBytes-from_all bytes all))

-- ---- what a start reads

abbrev IsStopped : List Record → Record → Type 0
IsStopped rs r = refused rs r ≢ None

next-accepted : (rs : List Record) (r : Record) → AreAccepted rs → AreAccepted (r ∷ rs) ⊎ IsStopped rs r
next-accepted rs r accepted = by-told (refused rs r) refl
  where
    some-none : (w : Refused) → Some w ≡ None → ⊥
    some-none w e = cc

    by-told : (told : Option Refused) → refused rs r ≡ told → AreAccepted (r ∷ rs) ⊎ IsStopped rs r
    by-told None e = inl (e, accepted)
    by-told (Some why) e = inr (λ none. some-none why (sym e ∙ none))

-- few bytes are no store
by-length : (bytes : List ℕ) → (9 < length bytes → Judged bytes) → Judged bytes
by-length bytes more =
    elim (cases_lt 9 (length bytes)) [ inl many ↦ more many | inr few ↦ Judged.fresh (inl few) ]

judged-stands : (bytes : List ℕ) (rs : List Record) → AreAccepted rs → StandsFor bytes rs → 9 < length bytes →
    Judged bytes
judged-stands bytes [] accepted is many = Judged.fresh (inr is)
judged-stands bytes (r ∷ rs) accepted is many = Judged.set_up (r ∷ rs) (λ e. cc) accepted many is

module _ (bytes : List ℕ) (area : Area) (active : IsSwitched bytes area) where
  judged-stops : Stops AreAccepted IsStopped bytes area → 9 < length bytes → Judged bytes
  judged-stops (stands rs good is) many =
      judged-stands bytes rs good (area, record { active = active; holds = is }) many
  judged-stops (ends rs good at e same) many = Judged.broken at many (inr (record {
    area = area;
    records = rs;
    active = active;
    accepted = good;
    stops = inl (e, same);
  }))
  judged-stops (breaks rs good at b same) many = Judged.broken at many (inr (record {
    area = area;
    records = rs;
    active = active;
    accepted = good;
    stops = inr (inl (b, same));
  }))
  judged-stops (stopped rs good r rest all is why) many =
      Judged.broken (base_of area + length (entries rs) + 1) many (inr (record {
        area = area;
        records = rs;
        active = active;
        accepted = good;
        stops = inr (inr (record {
          entry = r;
          rest = rest;
          in_grammar = all;
          bytes_are = is;
          refused_is = why;
          place = refl;
        }));
      }))

-- a start takes any bytes for no store, for one with a first bad place, or for accepted records
pub bytes-judged : (bytes : List ℕ) → AreBytes bytes → Judged bytes
bytes-judged bytes all = by-length bytes (λ many. elim (named bytes) [
  | inl found ↦ judged-stops bytes found.0 found.1
      (stops AreAccepted IsStopped next-accepted bytes found.0 tt all) many
  | inr other ↦ Judged.broken 0 many (inl (other, refl))
])

-- ---- what an init reads

abbrev Any : List Record → Type 0
Any rs = Unit {0}

abbrev Never : List Record → Record → Type 0
Never rs r = ⊥

-- the oldest record is a setup, or another
begins-so : (r : Record) (rs : List Record) → BeginsWithSetup (r ∷ rs) ⊎ BeginsOtherwise (r ∷ rs)
begins-so (SetUp s) [] = inl tt
begins-so (PutStart id name) [] = inr tt
begins-so (PutDone id size) [] = inr tt
begins-so (Drop name) [] = inr tt
begins-so (AuditStart number) [] = inr tt
begins-so (AuditDone number undecided counts) [] = inr tt
begins-so (RepairDone number) [] = inr tt
begins-so (PutDoneIn id size profile) [] = inr tt
begins-so Version [] = inr tt
begins-so (Resume next audit) [] = inr tt
begins-so (InEffect id size profile kept) [] = inr tt
begins-so (RepairDue number counts) [] = inr tt
begins-so (SetUp s) (q ∷ rs) = begins-so q rs
begins-so (PutStart id name) (q ∷ rs) = begins-so q rs
begins-so (PutDone id size) (q ∷ rs) = begins-so q rs
begins-so (Drop name) (q ∷ rs) = begins-so q rs
begins-so (AuditStart number) (q ∷ rs) = begins-so q rs
begins-so (AuditDone number undecided counts) (q ∷ rs) = begins-so q rs
begins-so (RepairDone number) (q ∷ rs) = begins-so q rs
begins-so (PutDoneIn id size profile) (q ∷ rs) = begins-so q rs
begins-so Version (q ∷ rs) = begins-so q rs
begins-so (Resume next audit) (q ∷ rs) = begins-so q rs
begins-so (InEffect id size profile kept) (q ∷ rs) = begins-so q rs
begins-so (RepairDue number counts) (q ∷ rs) = begins-so q rs

init-stands : (bytes : List ℕ) (area : Area) (rs : List Record) → StandsActive bytes area rs →
    JudgedByInit bytes
init-stands bytes area [] is = JudgedByInit.free (inr (area, is))
init-stands bytes area (r ∷ rs) is = elim (begins-so r rs) [
  | inl first ↦ JudgedByInit.already (r ∷ rs) (area, is) first
  | inr other ↦ JudgedByInit.broken (base_of area + 1) (inr (record {
    area = area;
    records = r ∷ rs;
    stands = is;
    otherwise = other;
    place = refl;
  }))
]

module _ (bytes : List ℕ) (area : Area) (active : IsSwitched bytes area) where
  init-stops : Stops Any Never bytes area → JudgedByInit bytes
  init-stops (stands rs good is) = init-stands bytes area rs (record { active = active; holds = is })
  init-stops (ends rs good at e same) =
      JudgedByInit.broken at (inl (inr (record { area = area; active = active; fails = inl e })))
  init-stops (breaks rs good at b same) =
      JudgedByInit.broken at (inl (inr (record { area = area; active = active; fails = inr b })))
  init-stops (stopped rs good r rest all is why) = absurd why

-- an init takes any bytes for a free disk, for a store already, or for one with a first bad place
pub bytes-judged-by-init : (bytes : List ℕ) → AreBytes bytes → JudgedByInit bytes
bytes-judged-by-init bytes all = elim (named bytes) [
  | inl found ↦ init-stops bytes found.0 found.1 (stops Any Never (λ rs r good. inl tt) bytes found.0 tt all)
  | inr other ↦ JudgedByInit.broken 0 (inl (inl (other, refl)))
]

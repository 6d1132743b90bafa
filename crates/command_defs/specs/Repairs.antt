-- What a repair leaves whose job was the only one.
--
--   Place                           == a file in effect and one of its stripes
--   places s files                  == all of them, by number and stripe, in order
--   Gave                            == what a fetch of a place from a provider gave
--   blocks_at n gave place          == the same of all providers
--   IsTruth x gave asked            == each provider that tells gave, of these places, what it held, or
--                                      nothing where its count rose
--   GivesPlace x gave symbols place == what was given opens to these symbols in this place
--   RewritesAll x flags, RewritesPart x flags done rest gave symbols, RewritesSome x flags
--                                   == the flagged providers hold the columns of these symbols in all places,
--                                      or in some of these; all else is as before
--   LosesAtPlace x flags stripe row == the same of the places before some place, of which a row is not
--                                      accepted
--   RepairLeaves x answer           == what a repair leaves where it ended with this answer
use Rattle.std.specs.Prelude.{◌≡◌, ◌⊎◌, ℕ, ◌<◌, Bool, true, false, List, [], ◌∷◌, ◌++◌, map, All, Contains, Some, IfSome}
use Rattle.std.specs.List.{flat_map}
use Rattle.code_defs.specs.Points.{upto}
use Rattle.column_defs.specs.Objects.{Object}
use Rattle.column_defs.specs.Opened.{SeenBlock, GivesSymbols, LosesRow}
use Rattle.column_defs.specs.Columns.{column_of_symbols}
use Rattle.column_defs.specs.Verdicts.{is_flagged}
use Rattle.device_defs.specs.Faults.{Rose}
use Rattle.device_defs.specs.Providers.{Held, sized}
use Rattle.record_defs.specs.Records.{Setup, RepairDone}
use Rattle.record_defs.specs.Table.{File, Due, files_of, due_of}
use Rattle.machine_defs.specs.Setups.{profiled, stripes_of}
use Rattle.machine_defs.specs.Answers.{Answer, Repaired, Lost, ProviderFault, DiskFault, Memory}
use Rattle.command_defs.specs.Ran.{Ran, setup_at_begin, object_numbered, EachHeldGoes, IsWhole, IsCut, IsCutInDoubt}
use Rattle.command_defs.specs.Truthful.{IsTruthful}
use Rattle.command_defs.specs.Audits.{files_by_number}

-- an object and one of its stripes
pub record Place : Type 0 where
  pub object : ℕ
  pub stripe : ℕ

-- the stripes of files, by number and stripe
abbrev pub places : Setup → List File → List Place
places s files =
    flat_map (λ (f : File). map (λ stripe. record { object = f.id; stripe = stripe })
    (upto (stripes_of (profiled s f.profile) f.size))) (files_by_number files)

-- the places of a repair
abbrev pub places_of : Ran → List Place
places_of x = places (setup_at_begin x) (files_of x.records)

-- what the fetches from each provider gave, by place
abbrev pub Gave : Type 0
Gave = ℕ → Place → SeenBlock

-- what all providers of the setup gave of a place
abbrev pub blocks_at : Ran → Gave → Place → List SeenBlock
blocks_at x gave place = map (λ j. gave j place) (upto (setup_at_begin x).n)

-- what a provider holds of a place, if it is a block of the size
abbrev pub held_at : Ran → Held → Place → SeenBlock
held_at x held place =
    sized (object_numbered x place.object).profile.size (held place.object place.stripe)

-- each provider that tells gave what it held, or nothing where its count rose
abbrev pub IsTruth : Ran → Gave → List Place → Type 0
IsTruth x gave asked = (j : ℕ) → j < (setup_at_begin x).n → IfSome (x.old j).held (λ held.
    IsTruthful (gave j) (held_at x held) asked (x.old j).other_faults (x.new j).other_faults)

-- what was given opens to these symbols
abbrev pub GivesPlace : Ran → Gave → (Place → List ℕ) → Place → Type 0
GivesPlace x gave symbols place =
    GivesSymbols (object_numbered x place.object) place.stripe (blocks_at x gave place)
    (symbols place)

-- a provider's block of each of these places was made anew from symbols, and all else is as before
pub record RewrittenOn (objects : ℕ → Object) (symbols : Place → List ℕ) (all : List Place) (j : ℕ)
    (old new : Held) : Type 0 where
  pub stored : All (λ place. new place.object place.stripe
      ≡ Some (column_of_symbols (objects place.object) (symbols place) j place.stripe)) all
  pub others : (place : Place) → (Contains all place → ⊥)
      → new place.object place.stripe ≡ old place.object place.stripe

-- the same of some of these places
pub record PartlyRewrittenOn (objects : ℕ → Object) (symbols : Place → List ℕ) (all : List Place) (j : ℕ)
    (old new : Held) : Type 0 where
  pub stored : All (λ place. (new place.object place.stripe ≡ old place.object place.stripe)
      ⊎ (new place.object place.stripe
      ≡ Some (column_of_symbols (objects place.object) (symbols place) j place.stripe))) all
  pub others : (place : Place) → (Contains all place → ⊥)
      → new place.object place.stripe ≡ old place.object place.stripe

-- only what a flagged provider holds goes so
abbrev pub IfFlagged : Bool → (Held → Held → Type 0) → Held → Held → Type 0
IfFlagged true change old new = change old new
IfFlagged false change old new = (object stripe : ℕ) → new object stripe ≡ old object stripe

-- a provider is flagged by the due audit
abbrev pub flags : Ran → Due → ℕ → Bool
flags x due j = is_flagged (setup_at_begin x).tolerance due.counts j

-- the flagged providers hold the columns of what the fetches gave, in every place
pub record RewritesAll (x : Ran) (flags : ℕ → Bool) : Type 0 where
  pub gave : Gave
  pub symbols : Place → List ℕ
  pub truth : IsTruth x gave (places_of x)
  pub gives : All (GivesPlace x gave symbols) (places_of x)
  pub held : EachHeldGoes x (λ j. IfFlagged (flags j)
      (RewrittenOn (object_numbered x) symbols (places_of x) j))

-- the same of the places before some place: the repair ended there
pub record RewritesPart (x : Ran) (flags : ℕ → Bool) (done rest : List Place) (gave : Gave)
    (symbols : Place → List ℕ) : Type 0 where
  pub parts : places_of x ≡ done ++ rest
  pub truth : IsTruth x gave done
  pub gives : All (GivesPlace x gave symbols) done
  pub held : EachHeldGoes x (λ j. IfFlagged (flags j)
      (PartlyRewrittenOn (object_numbered x) symbols done j))

-- the same, with no more said of the place
pub record RewritesSome (x : Ran) (flags : ℕ → Bool) : Type 0 where
  pub done : List Place
  pub rest : List Place
  pub gave : Gave
  pub symbols : Place → List ℕ
  pub part : RewritesPart x flags done rest gave symbols

-- a row of a place is not accepted
pub record LosesAtPlace (x : Ran) (flags : ℕ → Bool) (stripe row : ℕ) : Type 0 where
  pub done : List Place
  pub place : Place
  pub rest : List Place
  pub gave : Gave
  pub symbols : Place → List ℕ
  pub part : RewritesPart x flags done (place ∷ rest) gave symbols
  pub truth : IsTruth x gave (done ++ place ∷ [])
  pub stripe_is : place.stripe ≡ stripe
  pub loses : LosesRow (object_numbered x place.object) stripe (blocks_at x gave place) row

-- what a repair leaves, by the audit that was due
abbrev pub RepairGives : Ran → Due → Answer → Type 0
RepairGives x due (Repaired number) =
    (number ≡ due.number) × IsWhole x (RepairDone due.number ∷ []) × RewritesAll x (flags x due)
RepairGives x due (Lost stripe row) = IsWhole x [] × LosesAtPlace x (flags x due) stripe row
RepairGives x due (ProviderFault j) =
    (j < (setup_at_begin x).n) × (flags x due j ≡ true) × Rose (x.old j).store_faults (x.new j).store_faults
    × IsWhole x [] × RewritesSome x (flags x due)
RepairGives x due DiskFault =
    Rose x.disk_before x.disk_after × IsCutInDoubt x (RepairDone due.number ∷ []) × RewritesAll x (flags x due)
RepairGives x due Memory = IsCut x (RepairDone due.number ∷ []) × RewritesSome x (flags x due)
RepairGives x due answer = ⊥

-- what a repair leaves
pub record RepairLeaves (x : Ran) (answer : Answer) : Type 0 where
  pub due : Due
  pub is_due : due_of x.records ≡ Some due
  pub gives : RepairGives x due answer

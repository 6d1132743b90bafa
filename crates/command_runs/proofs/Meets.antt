-- What the laws ask for beside the commands. What they cite of Stores and of turn_laws is passed on.
use Rattle.command_runs.proofs.Words.{◌≡◌, ◌≢◌, ℕ, suc, ◌<◌, ◌==◌, ◌&&◌, Bool, true, false, List, Some, None, refl, inl, arith, is_some, not, if◌then◌else◌, length, reverse, take, ◌++◌, ne_eqb, column-right, setup, never-rises, columns, is_wrong, is_flagged, Rose, Kind, object_of, Record, file_of, Command, setup_in_effect, Seen, provider_at, Follows, HasGrown, HasRightFile, IsUntouched, IsSteady, is_wrong_at, profile_named, RunsKind, ReadsWhole, AreAppended, other_name, counts, byte, named, byte_records, byte_audited_records, byte_stored, damaged, due, repaired, mended, got, none_hold, byte_kept, byte_upgraded_records, upgraded_kept, altered_block, two_damaged, robbed_later, got_later}
use Rattle.command_runs.specs.Devices.{swept}
use Rattle.command_runs.proofs.Made.{kept}
use Rattle.command_runs.proofs.Alone.{altered-right}
pub use Rattle.turn_laws.proofs.Shape.{always, four, from_some}
pub use Rattle.command_laws.proofs.SureStores.{sure}
pub use Rattle.command_runs.proofs.Made.{first_of}
pub use Rattle.command_runs.proofs.Stores.{audited-fit, byte-fit, damaged-sure, due-sure, mended-sure, put-old, repaired-fit, stored-sure, to_put_other-sure, to_put_own-sure, two_damaged-sure, upgraded_kept-sure}

-- the provider whose block is lost
abbrev pub second : ℕ → Bool
second j = j == 2

-- and another one
abbrev pub first : ℕ → Bool
first j = j == 0

-- the names differ
pub other-name : other_name ≢ named
other-name e = (let f : ◌≡◌ {A = ℕ} 98 97 = cc in omega (arith, f))

-- false and anything
pub spared : (b c : Bool) → b ≡ false → (b && c) ≡ false
spared b c h = rw h refl

-- the audit flags the one that is spoilt
pub flagged-second : (j : ℕ) → (second j && not (is_flagged 0 counts j)) ≡ false
flagged-second = always _ refl refl refl refl
    (λ j. spared (second (suc (suc (suc (suc j))))) _ (ne_eqb _ 2 (λ e. omega (arith, e))))

-- ---- providers tell what they hold: where none holds a block, and where one has lost its own

-- what is told
pub yes : {X : Type 0} → X → true ≡ true
yes x = refl

pub none-tell : (j : ℕ) → j < 4 → is_some (provider_at none_hold j).held ≡ true
none-tell = four _ refl refl refl refl

pub three-tell : (j : ℕ) → j < 4 → is_some (provider_at damaged.providers j).held ≡ true
three-tell = four _ refl refl refl refl

-- ---- between two commands

-- the next one finds the devices as the last one left them
pub stays : {new next : Seen} → next.disk ≡ new.disk → length next.providers ≡ length new.providers →
    Follows new next
stays disk handed = record { disk = inl disk; handed = handed }

-- the records are those before with the first few of a job
pub grown : {command : Command} {records : List Record} {old new : Seen} {after : List Record} (kind : Kind)
    (own : List Record) (count : ℕ) → RunsKind command old new kind →
    AreAppended records kind (profile_named command) own → (1 < count → ReadsWhole kind old new) →
    after ≡ reverse (take count own) ++ records → HasGrown command records old new after
grown kind own count runs are whole is = record {
  kind = kind;
  of_command = runs;
  own = own;
  are_own = are;
  count = count;
  whole = whole;
  after_is = is;
}

-- ---- one provider changed

-- not of the one that did
pub clash : {X : Type 0} → true ≡ false → X
clash e = absurd (cc e)

-- between the put and the audit that block is lost
pub robbed-untouched : IsUntouched 4 second byte_stored damaged
robbed-untouched = four _ (λ s. refl) (λ s. refl) clash (λ s. refl)

-- behind a scrub the block of another one
pub swept-untouched : IsUntouched 4 first swept robbed_later
swept-untouched = four _ clash (λ s. refl) (λ s. refl) (λ s. refl)

-- ---- no count rises

-- from nought to nought
pub never : Rose 0 0 → ⊥
never = never-rises 0 (omega arith)

-- whatever is known
pub calm : {X : Type 0} → X → Rose 0 0 → ⊥
calm x = never

-- of failed calls: in the repair, in the get behind it, in a scrub, and in the get behind that
pub repair-steady : (spoilt : ℕ → Bool) → IsSteady 4 spoilt due repaired
repair-steady spoilt = four _ calm calm calm calm

pub get-steady : (spoilt : ℕ → Bool) → IsSteady 4 spoilt mended got
get-steady spoilt = four _ calm calm calm calm

pub swept-steady : IsSteady 4 second damaged swept
swept-steady = four _ calm calm calm calm

pub later-steady : IsSteady 4 first robbed_later got_later
later-steady = four _ calm calm calm calm

-- ---- the file is right

-- it is in effect, and right on each that is not spoilt
abbrev pub right-file : {s : Seen} {rs : List Record} {spoilt : ℕ → Bool} → file_of rs named ≡ Some kept →
    ((j : ℕ) → j < (setup_in_effect rs).n → spoilt j ≡ false → is_wrong_at rs s kept byte j ≡ false) →
    HasRightFile s rs named byte spoilt
right-file is right = record { file = kept; in_effect = is; are_bytes = refl; size = refl; right = right }

-- the own block is right
pub right : (j : ℕ) {X : Type 0} → X → is_wrong (object_of setup 1) byte j
    (λ stripe. if (1 == 1) && (stripe == 0) then Some (columns (object_of setup 1) byte j 0) else None)
    ≡ false
unfolding is_wrong
right j x = rw (column-right (object_of setup 1) byte j 0) refl

-- so is one with one symbol altered
pub right-altered : {X : Type 0} → X → is_wrong (object_of setup 1) byte 0
    (λ stripe. if (1 == 1) && (stripe == 0) then Some altered_block else None) ≡ false
unfolding is_wrong
right-altered x = rw altered-right refl

-- each is
pub whole : (j : ℕ) → j < 4 → false ≡ false → is_wrong_at byte_records byte_kept kept byte j ≡ false
whole = four _ (right 0) (right 1) (right 2) (right 3)

-- in the upgraded store on every provider
pub upgraded-file : HasRightFile upgraded_kept byte_upgraded_records named byte (λ j. false)
upgraded-file = right-file refl whole

-- on every one but that whose block is lost: also with a repair due, and with a symbol of another altered
pub damaged-file : HasRightFile damaged byte_records named byte second
damaged-file = right-file refl (four _ (right 0) (right 1) clash (right 3))

abbrev pub due-file : HasRightFile due byte_audited_records named byte second
due-file = right-file refl (four _ (right 0) (right 1) clash (right 3))

abbrev pub two-file : HasRightFile two_damaged byte_records named byte second
two-file = right-file refl (four _ right-altered (right 1) clash (right 3))

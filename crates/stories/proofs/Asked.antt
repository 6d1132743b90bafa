-- What the instances ask for beside their runs.
use Rattle.stories.proofs.Words.{◌≡◌, ℕ, zero, suc, Bool, List, [], ◌∷◌, String, length, Some, None, refl, subst, arith, IsSome, Global, never, always, is-start, are-devices, command-words, Cells, empty_provider, IsFresh, IsForm, Seen, Ending, NoCountFalls, provider_at, IsSteady, none_hold, damaged, packed_kept, got_packed, start_of, TellAll, devices_of_seen, AreLeft, AnswersWords, InitsOn, damaged_got}
use Rattle.device_defs.specs.Providers.{Provider}
use Rattle.command_defs.specs.Commands.{Answers}
use Rattle.command_runs.proofs.Meets.{four, from_some}
use Rattle.stories.specs.Words.{Record, Command}

-- ---- counts

-- no provider has counted a fault
abbrev AreIdle : List Provider → Type 0
AreIdle [] = Unit {0}
AreIdle (p ∷ ps) = (p.store_faults ≡ 0) × (p.other_faults ≡ 0) × AreIdle ps

none-counted : (ps : List Provider) → AreIdle ps → (j : ℕ) →
    ((provider_at ps j).store_faults ≡ 0) × ((provider_at ps j).other_faults ≡ 0)
none-counted [] idle zero = (refl, refl)
none-counted [] idle (suc j) = (refl, refl)
none-counted (p ∷ ps) idle zero = (idle.0, idle.1)
none-counted (p ∷ ps) idle (suc j) = none-counted ps idle.2 j

-- nor has another device, and no provider comes or goes
abbrev pub IsIdle : Seen → Seen → Type 0
IsIdle old new = AreIdle old.providers × (length new.providers ≡ length old.providers) × (old.disk_faults ≡ 0)
    × (old.source_faults ≡ 0) × (old.sink_faults ≡ 0)

-- where none was counted, no count falls
pub falls : (old new : Seen) → IsIdle old new → NoCountFalls old new
falls old new idle = record {
  disk = omega (arith, idle.2);
  handed = idle.1;
  stores = λ j. (let e = (none-counted old.providers idle.0 j).0 in omega (arith, e));
  others = λ j. (let e = (none-counted old.providers idle.0 j).1 in omega (arith, e));
  source = omega (arith, idle.3);
  sink = omega (arith, idle.4);
}

-- then words that spell a command are answered as it is
pub answered : ((words : List (String Global)) (command other : Command) → IsForm words command →
    IsForm words other → command ≡ other) → (command : Command) {old new : Seen} {end : Ending} →
    Answers command old new end → InitsOn command old new end → IsIdle old new →
    (words : List (String Global)) → IsForm words command → AnswersWords words old new end
answered once command {old} {new} {end} answers inits idle words spells = command-words words command old new
    end spells (λ other also. once words command other spells also) answers inits (falls old new idle)

-- ---- devices

-- those with a disk before its first use are left by the run of no event
pub first-left : (s : Seen) (cells : Cells) (rs : List Record) → s.disk ≡ Some cells → IsFresh cells rs →
    AreLeft (start_of (devices_of_seen s) rs) [] (devices_of_seen s)
first-left s cells rs told fresh = record {
  starts = is-start (devices_of_seen s) cells rs told fresh;
  run = tt;
  devices = are-devices (devices_of_seen s) cells rs told fresh;
}

-- each of those that hold nothing tells
pub none-tell : TellAll none_hold
none-tell = always _ told told told told (λ j p is. absurd (let e : None ≡ Some p = is in cc))
  where
    told : (p : Provider) → Some empty_provider ≡ Some p → IsSome p.held
    told p is = subst (λ (x : Provider). IsSome x.held) (from_some empty_provider p is) refl

-- the get over the store in which one block is lost raises no count of failed calls
pub damaged-steady : (spoilt : ℕ → Bool) → IsSteady 4 spoilt damaged damaged_got
damaged-steady spoilt = four _ (λ s. never) (λ s. never) (λ s. never) (λ s. never)

-- so does the get from the packed store
pub packed-steady : (filling : List ℕ) (spoilt : ℕ → Bool) →
    IsSteady 4 spoilt (packed_kept filling) (got_packed filling)
packed-steady filling spoilt = four _ (λ s. never) (λ s. never) (λ s. never) (λ s. never)

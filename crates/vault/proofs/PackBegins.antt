-- A pack that begins.
use Rattle.vault.proofs.Words.{◌≡◌, ◌⊎◌, ℕ, ◌+◌, ◌≤◌, ◌^◌, false, List, [], ◌∷◌, Option, Some, None, Ok, refl, sym, ap, ◌∙◌, subst, inl, inr, arith, IfSome, IsSome, IsTrue, is_some, nat_lt, list_all, ℕ_set, props, is_some-none, is_in_grammar, version_of, AreAccepted, Area, A, B, other_area, base_of, end_in, entries_size, text_length, packed, packed-spelled, HasPadding, IsInGrammar, IsFoldOf, pack_causes, reaches_over, pack_refusal, new_pack, Begun, Cause, State, pack-begins, version-either, StandsFirm, IsApart, WritesText, CoreJob, CoreView, Devices, devices, shown-again, Desk, Flight, PackJob, Vault, DeskStands, IsAtWork, IsFlight, IsQuiet, IsPackOf, PacksOver, pack_begun, handed_same}
use Rattle.std.proofs.Common.{length}
use Rattle.std.specs.Prelude.{◌||◌, All}
use mathlib.Core.Bool.{Bool-set}
use Rattle.record_defs.specs.Records.{Record as Entry}
use Rattle.record_codec.specs.declared.records.Record.{Record}
use Rattle.record_codec.specs.declared.records.Record.TheVariants as kind
use Rattle.machine_defs.specs.Refusals as refusal
use Rattle.machine_defs.specs.States as states
use Rattle.state_laws.proofs.Begun.{none-applies}
use Rattle.journal_pack.specs.Packs.{moves_of}
use Rattle.journal_pack.specs.Moves.{IsAfterPack}
use Rattle.vault.proofs.Alone.{drawn, drawn_stands}
use Rattle.vault.proofs.AppendMoves.{closed_of}
use Rattle.vault.proofs.Aside.{aside, unalone-is, plain-sound, again, none-flies}
use Rattle.vault.proofs.AtWork.{by_work}
use Rattle.vault.proofs.Free.{none_run}
use Rattle.vault.proofs.PackSteps.{lies}
use Rattle.vault.proofs.Switching.{no-job, idle, unbarred, clear}

-- ---- records in the grammar, in one way

padding_prop : (r : Record) → IsProp (HasPadding r)
padding_prop (kind.Setup s key) = hlevel props
padding_prop (kind.PutStart id name) = hlevel props
padding_prop (kind.PutDone id size) = hlevel props
padding_prop (kind.Drop name) = hlevel props
padding_prop (kind.AuditStart number) = hlevel props
padding_prop (kind.AuditDone number undecided counts) = hlevel props
padding_prop (kind.RepairDone number) = hlevel props
padding_prop (kind.PutDoneIn id size profile) = hlevel props
padding_prop kind.Version = hlevel props
padding_prop (kind.Resume id audit) = hlevel props
padding_prop (kind.File id size profile name) = hlevel props
padding_prop (kind.Due number counts) = hlevel props

grammar_prop : (r : Record) → IsProp (IsInGrammar r)
grammar_prop r x y = λ i. record {
  spelled = Bool-set _ _ x.spelled y.spelled i;
  padded = padding_prop r x.padded y.padded i;
}

all_prop : (records : List Record) → IsProp (All IsInGrammar records)
all_prop records x y = λ i k d inside. grammar_prop _ (x k d inside) (y k d inside) i

-- ---- where an area begins, in one way

base_prop : (n : ℕ) → IsProp ((n ≡ 8) ⊎ (n ≡ 2 ^ 23))
base_prop n (inl a) (inl b) = ap inl (ℕ_set n 8 a b)
base_prop n (inl a) (inr b) = absurd (omega (arith, a, b))
base_prop n (inr a) (inl b) = absurd (omega (arith, a, b))
base_prop n (inr a) (inr b) = ap inr (ℕ_set n (2 ^ 23) a b)

base_either : (n : ℕ) (area : Area) → n ≡ base_of area → (n ≡ 8) ⊎ (n ≡ 2 ^ 23)
base_either n A is = inl is
base_either n B is = inr is

-- ---- what a desk at work has

-- no job is there where there are none
pub none-there : (js : List CoreJob) → length js ≤ 0 → js ≡ []
none-there [] few = refl
none-there (j ∷ js) few = absurd (omega (arith, few))

not_flying : (f : Option Flight) (o : Option states.Append) (area : Area) (rs : List Entry) → o ≡ None
    → IsFlight f o area rs None → is_some f ≡ false
not_flying None o area rs none is = refl
not_flying (Some f) None area rs none is = absurd is
not_flying (Some f) (Some a) area rs none is = absurd (let e : Some a ≡ None = none in cc)

module _ (v : Desk) (at : IsAtWork v) where
  -- its area begins within the text
  pub base-within : v.base ≤ v.core.end
  base-within = by_work (hlevel props) v (λ w faults ps S. (omega (arith, S.base, S.core.end))) at

  -- and is one of the two
  pub two-bases : (v.base ≡ 8) ⊎ (v.base ≡ 2 ^ 23)
  two-bases = by_work (base_prop v.base) v (λ w faults ps S. base_either v.base w.area S.base) at

  -- its table has a setup
  pub has-setup : IsSome v.core.table.setup
  has-setup = by_work (Bool-set _ _) v (λ w faults ps S.
      ap is_some (S.core.table.setup ∙ S.core.sound.journal.alike.setup)
      ∙ S.core.sound.set_up S.core.is_open) at

  -- with no job it has no append in flight
  pub none-flight : v.core.jobs ≡ [] → v.core.barred ≡ false → v.flight ≡ None
  none-flight none free = is_some-none v.flight (by_work (Bool-set _ _) v (λ w faults ps S.
      not_flying v.flight w.append w.area w.journal
      (none-flies w (none_run v.core.setup v.core.jobs w.jobs S.core.jobs (no-job v.core.jobs none)) S.core.sound)
      (S.flight (sym S.core.barred ∙ free))) at)

  -- its journal has one of the two versions
  pub second-version : (v.core.table.version ≡ 1 → ⊥) → v.core.table.version ≡ 2
  second-version other = by_work (ℕ_set _ _) v (λ w faults ps S. elim (version-either w.journal) [
    | inl one ↦ absurd (other (S.core.table.version ∙ one))
    | inr two ↦ S.core.table.version ∙ two
  ]) at

  -- what is in the grammar and short where the table folds such records is so
  pub spelled : (records : List Record) → ((rs : List Entry) → IsFoldOf rs v.core.table → AreAccepted rs
      → IsTrue (list_all is_in_grammar rs) → All IsInGrammar records) → All IsInGrammar records
  spelled records is = by_work (all_prop records) v (λ w faults ps S.
      is w.journal S.core.table S.core.sound.journal.accepted S.core.sound.journal.spelled) at

  pub short : (qs : List Entry) → ((rs : List Entry) → IsFoldOf rs v.core.table → AreAccepted rs
      → IsTrue (list_all is_in_grammar rs) → entries_size qs ≤ 2 ^ 17) → entries_size qs ≤ 2 ^ 17
  short qs is = by_work (hlevel props) v (λ w faults ps S.
      is w.journal S.core.table S.core.sound.journal.accepted S.core.sound.journal.spelled) at

-- ---- the begin

-- a text that is not too long does not reach into the other area
apart : (area : Area) (rs : List Entry) → reaches_over area rs ≡ false → IsApart area rs
apart A rs fits = at_most (2 ^ 23) (end_in A rs) fits
  where
    at_most : (a b : ℕ) → nat_lt a b ≡ false → b ≤ a
    at_most a b h = grind (arith, h)
apart B rs fits = tt

-- the causes for which a pack is refused
abbrev causes_pack : State → List Cause
causes_pack w =
    record { applies = w.is_barred; refusal = refusal.MustReopen }
    ∷ record { applies = nat_lt 0 (length w.jobs) || is_some w.alone; refusal = refusal.Busy }
    ∷ pack_causes (version_of w.records) w.area w.journal

-- a pack that begins stands for the one that the machine begins
pub pack-begun : (v : Desk) (core : CoreView) (v' : Vault) (job : PackJob) (w : State) (d : Devices)
    → DeskStands v d w → pack_refusal w ≡ None → IsQuiet v
    → core ≡ record v.core { next_job = v.core.next_job + 1 } → v'.desk ≡ record v { core = core }
    → IsPackOf v' job → job.number ≡ v.core.next_job → job.before ≡ text_length w.area w.journal
    → moves_of job.pack ≡ 0 → WritesText (other_area w.area) (packed w.journal) job.pack
    → PacksOver w d (Ok job) v'
pack-begun v core v' job w d S allowed quiet drew same is_of number before moves writes =
    let none = idle v quiet w d S in
    let free = unbarred v quiet w d S in
    let flies = clear v quiet w d S in
    let fine = pack-begins 8 w S.core.sound (Begun w.next_job) (pack_begun w)
    (S.core.is_open, allowed, refl, refl) in
    let number_is = number ∙ S.core.next_job in
    let firm : IfSome d.holds (StandsFirm w.area w.journal) =
    closed_of v.flight w.area w.journal d.holds
    (subst (λ (o : Option states.Append). IsFlight v.flight o w.area w.journal d.holds) flies (S.flight free)) in
    let begun : DeskStands (record v { core = core }) d (drawn w) =
    drawn_stands v (record v { core = core }) d w none drew
    (record { setup = refl; master = refl; shape = refl; base = refl }) refl refl S in (
      allowed,
      number_is,
      record {
        pack = new_pack w;
        alone = refl;
        number_is = number_is;
        before_is = before;
        moves_are = moves;
        is_of = is_of;
        sound = fine;
        beside = record {
          held = is_of.held;
          desk = subst (λ (x : Desk). DeskStands x (devices None d.faults d.providers)
              (aside (drawn w) false w.disk_faults)) (sym same) (again (record v { core = core }) (drawn w) d
              (devices None d.faults d.providers) w.is_switching false w.disk_faults w.disk_faults
              (subst (λ (x : State). DeskStands (record v { core = core }) d x)
              (unalone-is (drawn w) S.core.none_alone) begun) (plain-sound (pack_begun w) fine) (record {
                images = tt;
                faults = S.devices.faults;
                providers = handed_same d.providers w (aside (drawn w) false w.disk_faults) S.devices.providers refl
                    (λ j. refl);
              })
              (λ unbarred. lies v.flight w.append w.area w.journal None quiet.flight flies tt));
          idle = none;
          unbarred = free;
        };
        devices = record {
          images = shown-again d.holds w (pack_begun w) refl refl refl refl S.devices.images;
          faults = S.devices.faults;
          providers = handed_same d.providers w (pack_begun w) S.devices.providers refl (λ j. refl);
        };
        on_way = λ l. record {
          writes = writes;
          in_grammar = packed-spelled w.journal S.core.sound.journal.accepted S.core.sound.journal.spelled;
          apart = apart w.area w.journal (none-applies (causes_pack w) allowed).1.1.1.0;
          disk = subst (λ (n : ℕ). IfSome d.holds (IsAfterPack n w.area w.journal (packed w.journal)))
              (sym moves) firm;
        };
        switching = λ three. absurd (omega (arith, three, moves));
        made = λ four. absurd (omega (arith, four, moves));
      },
    )

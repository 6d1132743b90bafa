-- A store as a start reads it, and why none was read.
use Rattle.vault_open.proofs.Words.{◌≡◌, ◌≢◌, inl, inr, ℕ, ◌<◌, ◌≤◌, ◌&&◌, List, [], length, Option, Some, None, refl, sym, ap, ◌∙◌, subst, arith, length-take, IfSome, IsTrue, option_map, Cells, reads, synced, Record, Setup, is_setup, is_master, largest_journal, StandsFor, Area, StandsActive, setup_of, active-front, with_master, StandsFirm, read-firm, none-set_up, setup-spelled, Kept, StartFault, journal_read, IsRead, IsStartFault, IsFolded, IsFoldFault}
use Rattle.std.proofs.Common.{Ok, Err}
use Rattle.algebra_laws.proofs.Options.{some-not-none}
use Rattle.vault_open.specs.declared.fault.StartFault.TheVariants as start_fault
use Rattle.vault_open.specs.declared.store.Store.{Store}
use Rattle.vault_open.specs.Disks.{ReadsDisk, StartsOver}
use Rattle.vault_open.specs.Stores.{IsStoreOf}
use Rattle.vault_open.proofs.Answers.{err-same, ok-no-err}

-- these bytes were looked at, of a disk that tells what it holds
abbrev pub IsLookedAt : Option Cells → List ℕ → Type 0
IsLookedAt told bytes = IfSome told (λ cells. (9 < length (reads cells)) × (bytes ≡ journal_read cells))

-- ---- why no store is read

-- a start over a short disk is refused: it is not set up
pub short_fault : (told : Option Cells) → IfSome told (λ cells. length (reads cells) ≤ 9) →
    IfSome told (λ cells. IsStartFault (journal_read cells) start_fault.NotSetUp)
short_fault None is = tt
short_fault (Some cells) is = inl (omega (arith, is, length-take largest_journal (reads cells)))

fault_at : (cells : Cells) (bytes : List ℕ) (why : StartFault) →
    (9 < length (reads cells)) × (bytes ≡ journal_read cells) → IsFoldFault bytes why →
    IsStartFault (journal_read cells) why
fault_at cells bytes (start_fault.BadJournal at) is bad = (
  omega (arith, is.0, length-take largest_journal (reads cells)),
  subst (λ (l : List ℕ). IsFoldFault l (start_fault.BadJournal at)) is.1 bad,
)
fault_at cells bytes start_fault.Memory is bad = tt
fault_at cells bytes start_fault.NotSetUp is bad = absurd bad
fault_at cells bytes start_fault.DiskFault is bad = absurd bad

-- a fault of the folding is one that a start may tell of this disk
pub fold_fault : (told : Option Cells) (bytes : List ℕ) (why : StartFault) → IsLookedAt told bytes →
    IsFoldFault bytes why → IfSome told (λ cells. IsStartFault (journal_read cells) why)
fold_fault None bytes why is bad = tt
fold_fault (Some cells) bytes why is bad = fault_at cells bytes why is bad

module _ (bytes : List ℕ) (area : Area) (rs : List Record) (t : Kept) (base end : ℕ)
    (is : IsFolded bytes area rs t base end) where
  none_read : t.setup ≡ None → StandsFor bytes []
  none_read none = (
    area,
    subst (λ (l : List Record). StandsActive bytes area l)
        (none-set_up rs is.accepted (let e = sym is.folds.setup ∙ none in rw e refl)) is.stands,
  )

  -- a start over records without a setup is refused: the disk is not set up
  pub none_fault : (told : Option Cells) → IsLookedAt told bytes → t.setup ≡ None →
      IfSome told (λ cells. IsStartFault (journal_read cells) start_fault.NotSetUp)
  none_fault None looked none = tt
  none_fault (Some cells) looked none = inr (subst (λ (l : List ℕ). StandsFor l []) looked.1 (none_read none))

  limits : (s : Setup) → t.setup ≡ Some s → IsTrue (is_setup s)
  limits s e =
      let good : IsTrue (is_setup s && is_master s.master) =
      setup-spelled rs s is.stands.holds.in_grammar (sym is.folds.setup ∙ e) in
      grind (arith, good)

  -- ---- the store that is read

  module _ (s : Setup) (found : t.setup ≡ Some s) where
    some : rs ≢ []
    some none = some-not-none t.setup s found (is.folds.setup ∙ ap setup_of none)

    whole : (told : Option Cells) → IsLookedAt told bytes →
        IfSome told (λ cells. (9 < length (reads cells)) × StandsActive (journal_read cells) area rs)
    whole None looked = tt
    whole (Some cells) looked = (looked.0, subst (λ (l : List ℕ). StandsActive l area rs) looked.1 is.stands)

    -- a disk whose records were folded and have a setup is read as these records
    pub read : (told : Option Cells) → IsLookedAt told bytes → IsRead told area rs
    read told looked = record {
      some = some;
      in_grammar = is.stands.holds.in_grammar;
      accepted = is.accepted;
      room = is.room;
      reads_are = whole told looked;
    }

  firm : (told now : Option Cells) → now ≡ option_map synced told → IsLookedAt told bytes →
      IfSome now (StandsFirm area rs)
  firm None now same looked = subst (λ (o : Option Cells). IfSome o (StandsFirm area rs)) (sym same) tt
  firm (Some cells) now same looked = subst (λ (o : Option Cells). IfSome o (StandsFirm area rs)) (sym same)
      (read-firm (reads cells) area rs (active-front largest_journal (reads cells) area rs
      (subst (λ (l : List ℕ). StandsActive l area rs) looked.1 is.stands)))

  -- a store with the folded table, where its area begins and its text ends and the setup with its master is
  -- the store of these records
  pub stored : (store : Store) (told now : Option Cells) → store.table ≡ t → store.base ≡ base →
      store.end ≡ end → t.setup ≡ Some (with_master store.setup store.master.0)
      → now ≡ option_map synced told → IsLookedAt told bytes → IsStoreOf store area rs now
  stored store told now table_is base_is end_is found same looked = record {
    folds = rw table_is is.folds;
    setup = rw table_is found;
    limits = limits (with_master store.setup store.master.0) found;
    base = base_is ∙ is.base_is;
    end = end_is ∙ is.end_is;
    stands = firm told now same looked;
  }

-- ---- answers of a start

-- a disk was read as well where less is said to be read, and as much to be a fault
pub reads-as : {old new : Option Cells} {before now : ℕ} {R S F G : Type 0} → (S → R) → (F → G) → (G → F) →
    ReadsDisk old new before now R F → ReadsDisk old new before now S G
reads-as read there here disk = record {
  resynced = disk.resynced;
  synced = λ s. disk.synced (read s);
  called = record {
    tells = disk.called.tells;
    no_fault = λ none. disk.called.no_fault (λ f. none (there f));
    cause = record {
      never_falls = disk.called.cause.never_falls;
      rose = λ g. disk.called.cause.rose (here g);
    };
  };
}

module _ {T U : Type 0} {old new : Option Cells} {before now : ℕ} where
  -- a start that goes well may give any value
  pub ok-starts : {x : T} {y : U} → StartsOver old new before now (Ok x) →
      StartsOver old new before now (Ok y)
  ok-starts start = record {
    refused = tt;
    disk = reads-as (λ j. j) (λ e. absurd (ok-no-err _ _ e)) (λ e. absurd (ok-no-err _ _ e)) start.disk;
  }

  -- one that fails does so whatever it would give
  pub err-starts : {why : StartFault} → StartsOver {T = T} old new before now (Err why) →
      StartsOver {T = U} old new before now (Err why)
  err-starts start = record {
    refused = start.refused;
    disk = reads-as (λ j. j) (λ e. ap (λ (f : StartFault). Err f) (err-same _ _ e))
        (λ e. ap (λ (f : StartFault). Err f) (err-same _ _ e)) start.disk;
  }

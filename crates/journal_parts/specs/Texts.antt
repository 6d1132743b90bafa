-- A journal of one area, from its first byte on. Lists of records have the newest first.
--
--   IsText bytes rs          == the bytes are HAILJRN1, these records each behind an open gate, a closed gate,
--                               and then any bytes
--   EndsAtGate bytes at      == the bytes end where a gate is due
--   BreaksAfterGate bytes at == no record stands behind an open gate
--   FailsAt bytes at         == the first place at which bytes fail to be such a journal: 0 where they do not
--                               begin with the magic
--   IsReadFault bytes fault  == why nothing was read: that place, or want of memory
use Rattle.std.specs.Prelude.{◌≡◌, ◌≢◌, ◌⊎◌, ℕ, ◌+◌, IsTrue, List, ◌∷◌, ◌++◌, length, take}
use Rattle.std.specs.List.{list_all}
use Rattle.record_defs.specs.Records.{Record, is_in_grammar}
use Rattle.record_defs.specs.Spellings.{SpellsNone}
use Rattle.record_defs.specs.Journal.{magic, before_gate}
use Rattle.journal_core.specs.declared.fault.JournalFault.{JournalFault}
use Rattle.journal_core.specs.declared.fault.JournalFault.TheVariants as journal_fault

-- the text of records with any closed gate, and then any bytes
pub record IsText (bytes : List ℕ) (rs : List Record) : Type 0 where
  pub in_grammar : IsTrue (list_all is_in_grammar rs)
  pub gate : ℕ
  pub rest : List ℕ
  pub closed : gate ≢ 1
  pub bytes_are : bytes ≡ before_gate rs ++ gate ∷ rest

-- the bytes end where a gate is due
pub record EndsAtGate (bytes : List ℕ) (at : ℕ) : Type 0 where
  pub records : List Record
  pub in_grammar : IsTrue (list_all is_in_grammar records)
  pub bytes_are : bytes ≡ before_gate records
  pub place : at ≡ length bytes

-- no record stands behind an open gate
pub record BreaksAfterGate (bytes : List ℕ) (at : ℕ) : Type 0 where
  pub records : List Record
  pub rest : List ℕ
  pub in_grammar : IsTrue (list_all is_in_grammar records)
  pub bytes_are : bytes ≡ before_gate records ++ 1 ∷ rest
  pub none : SpellsNone rest
  pub place : at ≡ length (before_gate records) + 1

-- the first place at which bytes fail to be a journal of one area
abbrev pub FailsAt : List ℕ → ℕ → Type 0
FailsAt bytes at = ((take 8 bytes ≢ magic) × (at ≡ 0)) ⊎ (EndsAtGate bytes at ⊎ BreaksAfterGate bytes at)

-- why nothing was read
abbrev pub IsReadFault : List ℕ → JournalFault → Type 0
IsReadFault bytes (journal_fault.Bad bad) = FailsAt bytes bad.at
IsReadFault bytes journal_fault.Memory = Unit {0}

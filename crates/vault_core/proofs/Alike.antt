-- What a core's table keeps is that of the machine's history, as well as that of the journal, which a pack may
-- have put in its place: all but the started puts and the running audit.
use Rattle.vault_core.proofs.Words.{◌≡◌, ◌∙◌, List, Record, setup_of, version_of, next_id, next_audit, files_of, due_of, AreAlike, State, Kept, IsFoldOf, id_after, CoreView, CoreIs}

-- a table is like the fold of records
pub record IsLikeFoldOf (rs : List Record) (t : Kept) : Type 0 where
  pub setup : t.setup ≡ setup_of rs
  pub version : t.version ≡ version_of rs
  pub files : t.files ≡ files_of rs
  pub id : id_after t ≡ next_id rs
  pub audit : t.next_audit ≡ next_audit rs
  pub due : t.due ≡ due_of rs

-- the fold of records is like that of records whose table is alike
pub fold-like : (rs qs : List Record) (t : Kept) → AreAlike rs qs → IsFoldOf rs t → IsLikeFoldOf qs t
fold-like rs qs t alike fold = record {
  setup = fold.setup ∙ alike.setup;
  version = fold.version ∙ alike.version;
  files = fold.files ∙ alike.files;
  id = fold.id ∙ alike.id;
  audit = fold.audit ∙ alike.audit;
  due = fold.due ∙ alike.due;
}

-- the table of a core is like the fold of the machine's history
pub table-like : (c : CoreView) (w : State) → CoreIs c w → IsLikeFoldOf w.records c.table
table-like c w is = fold-like w.journal w.records c.table is.sound.journal.alike is.table

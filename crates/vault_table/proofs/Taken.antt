-- What a table that takes a record promises of the fold.
use Rattle.vault_table.proofs.Words.{Result, Ok, Err, OnOk, IfErr, IsTrue, if◌then◌else◌, Bool, false, ◌||◌, ◌==◌, list_any, Entry, file_of_entry, is_file_id, refl, sym, ap, subst, ◌∙◌, arith, Record, refused, Reason, File, find_file, are_ordered, with_file, without_file, ordered-without, ordered-with, find-without, same-refl, Kept, IsFoldOf}
use Rattle.std.specs.Prelude.{◌≡◌, ℕ, ◌∷◌, List, Option, None, true}
use Rattle.std.specs.Prelude.{[], map}
use Rattle.vault_table.specs.declared.entry.Refused.{Refused}
use Rattle.vault_table.specs.Causes.{Applies, IsCause}
use Rattle.vault_table.proofs.Fold.{same-refusal, goes-on}

-- a table that took a record is the fold of the records with it
pub fold-ok : (old new : Kept) (res : Result Unit Refused) (e r : Record) → r ≡ e → Applies old e res new →
    (rs : List Record) → IsFoldOf rs old → OnOk res (IsFoldOf (r ∷ rs) new)
fold-ok old new (Ok x) e r is a rs fold = subst (λ (q : Record). IsFoldOf (q ∷ rs) new) (sym is)
    (subst (λ (t : Kept). IsFoldOf (e ∷ rs) t) (sym a.1) (goes-on old rs e fold a.0))
fold-ok old new (Err why) e r is a rs fold = tt

-- a record that a table took is one that the fold refuses for no cause
pub fold-accepted : (old new : Kept) (res : Result Unit Refused) (e r : Record) → r ≡ e →
    Applies old e res new → (rs : List Record) → IsFoldOf rs old → OnOk res (refused rs r ≡ None)
fold-accepted old new (Ok x) e r is a rs fold = ap (refused rs) is ∙ sym (same-refusal old rs e fold) ∙ a.0
fold-accepted old new (Err why) e r is a rs fold = tt

-- a record that a table refuses is refused by the fold for the same cause
pub fold-refused : (old new : Kept) (res : Result Unit Refused) (e r : Record) → r ≡ e →
    Applies old e res new → (rs : List Record) → IsFoldOf rs old →
    IfErr res (λ why. IsCause why (refused rs r))
fold-refused old new (Ok x) e r is a rs fold = tt
fold-refused old new (Err why) e r is a rs fold =
    subst (λ (o : Option Reason). IsCause why o) (same-refusal old rs e fold ∙ ap (refused rs) (sym is)) a.0

-- the files stay in order
pub put-in_order : (fs new : List File) (f : File) (b : Bool) → IsTrue (are_ordered fs) →
    new ≡ (if b then with_file (without_file fs f.name) f else fs) → IsTrue (are_ordered new)
put-in_order fs new f true o is =
    let gone : find_file (without_file fs f.name) f.name ≡ None =
    grind (arith, find-without fs f.name f.name, same-refl f.name) in
    ap are_ordered is ∙ ordered-with (without_file fs f.name) f (ordered-without fs f.name o) gone
put-in_order fs new f false o is = ap are_ordered is ∙ o

-- files in order stay so with or without the one of a name
pub drop-in_order : (fs new : List File) (name : List ℕ) (b : Bool) → IsTrue (are_ordered fs) →
    new ≡ (if b then without_file fs name else fs) → IsTrue (are_ordered new)
drop-in_order fs new name true o is = ap are_ordered is ∙ ordered-without fs name o
drop-in_order fs new name false o is = ap are_ordered is ∙ o

-- an id among files, and among what they are kept as
pub any_mapped : (es : List Entry) (id : ℕ) → list_any (λ (e : Entry). e.id == id) es
    ≡ is_file_id (map file_of_entry es) id
any_mapped [] id = refl
any_mapped (e ∷ es) id = ap (λ b. (e.id == id) || b) (any_mapped es id)

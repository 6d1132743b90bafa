-- The length of a file in effect, by its number.
use Rattle.record_defs.proofs.Words.{◌≡◌, ◌==◌, ◌||◌, not, true, List, [], ◌∷◌, Some, if◌then◌else◌, list_all, sym, ap, subst, ◌∙◌, arith, inl, inr, cases_Bool, eqb-true, nat_tests, Record, File, file_of, files_of, find_file, AreAccepted}
use Rattle.std.specs.Prelude.{ℕ}
use Rattle.record_defs.proofs.FilesLaws.{find-files_of}
use Rattle.record_defs.proofs.OrderLaws.{ordered-files_of}
use Rattle.record_defs.proofs.PackLaws.{all-found}
use Rattle.record_defs.proofs.SoundLaws.{are_sound}

-- the length of the first file with this number; 0 where there is none
abbrev pub size_by_id : List File → ℕ → ℕ
size_by_id [] id = 0
size_by_id (f ∷ fs) id = if f.id == id then f.size else size_by_id fs id

-- a found file has that length, if all files with its number do
size-found : (fs : List File) (f : File) (name : List ℕ)
    → list_all (λ (g : File). not (g.id == f.id) || (g.size == f.size)) fs ≡ true →
    find_file fs name ≡ Some f → size_by_id fs f.id ≡ f.size
size-found [] f name all e = absurd cc
size-found (g ∷ fs) f name all e = grind (arith, nat_tests, all, e, size-found fs f name)

-- the length of a file in effect is that of its number
pub size-in_effect : (rs : List Record) → AreAccepted rs → (name : List ℕ) (f : File) →
    file_of rs name ≡ Some f → size_by_id (files_of rs) f.id ≡ f.size
size-in_effect rs a name f h =
    size-found (files_of rs) f name (all-found (λ (g : File). not (g.id == f.id) || (g.size == f.size))
    (files_of rs) (ordered-files_of rs) same) (find-files_of rs name ∙ h)
  where
    same : (g : File) → find_file (files_of rs) g.name ≡ Some g →
        (not (g.id == f.id) || (g.size == f.size)) ≡ true
    same g e = elim (cases_Bool (g.id == f.id)) [
      | inl t ↦ (let there : file_of rs g.name ≡ Some g = sym (find-files_of rs g.name) ∙ e in
          let named : g.name ≡ name = (are_sound rs a).one_name g.name name g f there h
          (eqb-true g.id f.id t) in
          let both : Some g ≡ Some f = sym there ∙ (ap (file_of rs) named ∙ h) in
          let is : g ≡ f = cc in
          subst (λ (x : File). (not (x.id == f.id) || (x.size == f.size)) ≡ true) (sym is)
          (grind (arith, nat_tests)))
      | inr n ↦ grind (arith, nat_tests, n)
    ]

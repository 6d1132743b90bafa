-- Files that are numbered from 1 on, at most three.
use Rattle.std.proofs.Common.{◌≡◌, ℕ, zero, suc, ◌+◌, ◌≤◌, List, [], ◌∷◌, Some, None, ap, sym, ◌∙◌, refl, subst, Ok, arith}
use Rattle.std.specs.Prelude.{slice_get, Result, IfOk}
use Rattle.file_layout.specs.declared.file.FileShape.{FileShape}
use Rattle.hail_scrub.specs.Begins.{HaveOneCount, AreApart}
use Rattle.hail_scrub.specs.Begun.{file_providers}
use Rattle.hail_scrub.specs.Views.{ScrubView}

-- the file at a place has the number behind it, and six providers
abbrev pub AreNumbered : List FileShape → Type 0
AreNumbered files = (k : ℕ) (f : FileShape) → slice_get files k ≡ Some f → (f.id ≡ k + 1) × (f.shape.n ≡ 6)

-- no file
pub none_numbered : (files : List FileShape) → files ≡ [] → AreNumbered files
none_numbered files is k f there =
    absurd (let e : None ≡ Some f = ap (λ (l : List FileShape). slice_get l k) (sym is) ∙ there in cc)

-- a file with this number and six providers
same_file : (x f : FileShape) (n : ℕ) → Some x ≡ Some f → x.id ≡ n → x.shape.n ≡ 6 →
    (f.id ≡ n) × (f.shape.n ≡ 6)
same_file x f n is id six = (let h : x ≡ f = cc in
    (ap (λ (z : FileShape). z.id) (sym h) ∙ id, ap (λ (z : FileShape). z.shape.n) (sym h) ∙ six))

one_at : (x : FileShape) → x.id ≡ 1 → x.shape.n ≡ 6 → AreNumbered (x ∷ [])
one_at x id six zero f there = same_file x f 1 there id six
one_at x id six (suc k) f there = absurd (let e : None ≡ Some f = there in cc)

three_at : (x y z : FileShape) → x.id ≡ 1 → x.shape.n ≡ 6 → y.id ≡ 2 → y.shape.n ≡ 6 → z.id ≡ 3 →
    z.shape.n ≡ 6 → AreNumbered (x ∷ y ∷ z ∷ [])
three_at x y z id six next more last most zero f there = same_file x f 1 there id six
three_at x y z id six next more last most (suc zero) f there = same_file y f 2 there next more
three_at x y z id six next more last most (suc (suc zero)) f there = same_file z f 3 there last most
three_at x y z id six next more last most (suc (suc (suc k))) f there =
    absurd (let e : None ≡ Some f = there in cc)

-- one file
pub one_numbered : (files : List FileShape) (x : FileShape) → files ≡ x ∷ [] → x.id ≡ 1 → x.shape.n ≡ 6 →
    AreNumbered files
one_numbered files x is id six = subst AreNumbered (sym is) (one_at x id six)

-- three files
pub three_numbered : (files : List FileShape) (x y z : FileShape) → files ≡ x ∷ y ∷ z ∷ [] → x.id ≡ 1 →
    x.shape.n ≡ 6 → y.id ≡ 2 → y.shape.n ≡ 6 → z.id ≡ 3 → z.shape.n ≡ 6 → AreNumbered files
three_numbered files x y z is id six next more last most =
    subst AreNumbered (sym is) (three_at x y z id six next more last most)

-- such files have one number of providers
pub one_count : (files : List FileShape) → AreNumbered files → HaveOneCount files
one_count files are i k f g at_i at_k = (are i f at_i).1 ∙ sym (are k g at_k).1

-- and numbers of their own
pub apart : (files : List FileShape) → AreNumbered files → AreApart files
apart files are i k f g at_i at_k same =
    let e : i + 1 ≡ k + 1 = sym (are i f at_i).0 ∙ same ∙ (are k g at_k).0 in omega (arith, e)

-- at most six
pub few_providers : (files : List FileShape) → AreNumbered files → file_providers files ≤ 6
few_providers [] are = omega arith
few_providers (f ∷ fs) are = let e : f.shape.n ≡ 6 = (are 0 f refl).1 in omega (arith, e)

-- so has a scrub of them
pub few_in : {E : Type 0} (r : Result ScrubView E) (v : ScrubView) (files : List FileShape) → r ≡ Ok v →
    IfOk r (λ scrub. scrub.providers ≡ file_providers files) → AreNumbered files → v.providers ≤ 6
few_in r v files is made are =
    let e : v.providers ≡ file_providers files =
    subst (λ z. IfOk z (λ (s : ScrubView). s.providers ≡ file_providers files)) is made in
    let few = few_providers files are in omega (arith, e, few)

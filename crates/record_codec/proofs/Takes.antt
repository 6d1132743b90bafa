-- What is read is spelled so, and what is spelled so is read.
use Rattle.record_codec.proofs.Words.{◌≡◌, ℕ, suc, ◌^◌, ◌<◌, ◌≤◌, true, false, cond, ltb, eqb, leb, List, [], ◌∷◌, ◌++◌, length, take, drop, Option, Some, None, refl, sym, ap, subst, ◌∙◌, append_assoc, arith, ⊎_elim, zero, Bool, Width, w16, w32, w64, to_le_bytes, from_le_bytes, list_all, eqb-true, leb-true, ltb-false, le-ltb, lt-ltb, nat_tests, take_at, drop-front, Setup, SetUp, PutStart, PutDone, Drop, AuditStart, AuditDone, RepairDone, is_name, is_setup, is_master, is_byte, is_in_grammar, PutDoneIn, Version, Resume, InEffect, RepairDue, name_bytes, setup_bytes, counts_bytes, spelling, ◌>>=◌, number_at, name_at, counts_at, keyed_at, setup_at, put_start_at, put_done_at, audit_start_at, audit_done_at, repair_done_at, profile_at, object_at, put_done_in_at, version_at, resume_at, in_effect_at, repair_due_at, record_at}
use Rattle.std.proofs.Common.{length-append, length-take, take-append-drop}
use Rattle.std.specs.Prelude.{◌&&◌}
use Rattle.algebra_laws.proofs.Options.{cond-cases}
use Rattle.record_defs.specs.Records.{Record}
use Rattle.record_codec.specs.Reading.{drop_at}
use Rattle.record_codec.proofs.Fields.{IsBytes, IsBytes-rest, IsBytes-take, IsBytes-drop, IsWide, bind_some, passed, passed_to, stopped, some_is, Takes, Takes-then, wide16, wide32, wide64, number_takes, number_again, name_takes, name_again}
use Rattle.record_codec.proofs.CountsLemmas.{counts_takes, counts_again}

abbrev Found : List ℕ → Record × List ℕ → Type 0
Found bytes x = Takes bytes (spelling x.0) x.1 × (is_in_grammar x.0 ≡ true)

-- bytes pass the test of each
pub IsBytes-all : (bytes : List ℕ) → IsBytes bytes → list_all is_byte bytes ≡ true
IsBytes-all [] fits = refl
IsBytes-all (b ∷ bytes) fits = grind (arith, nat_tests, fits 0, IsBytes-all bytes (IsBytes-rest b bytes fits))

-- what passes the test of each is bytes
pub IsBytes-from_all : (bytes : List ℕ) → list_all is_byte bytes ≡ true → IsBytes bytes
IsBytes-from_all [] all i = omega arith
IsBytes-from_all (b ∷ bytes) all zero = grind (arith, nat_tests)
IsBytes-from_all (b ∷ bytes) all (suc i) = IsBytes-from_all bytes (grind (arith, nat_tests)) i

-- ---- a setup

keyed_takes : (s : Setup) (rest : List ℕ) (x : Record × List ℕ) → IsBytes rest → keyed_at s rest ≡ Some x
    → (key : List ℕ) × (x.0 ≡ SetUp (record s { master = key })) × Takes rest key x.1 × (is_setup s ≡ true) ×
    (is_master key ≡ true)
unfolding keyed_at
keyed_takes s rest x fits e =
    let made : Record × List ℕ = (SetUp (record s { master = take 32 rest }), drop 32 rest) in
    let g = passed_to (is_setup s) (cond (ltb (length rest) 32) None (Some made)) x e in
    let h = stopped (ltb (length rest) 32) (Some made) x g.1 in
    let long : 32 ≤ length rest = ltb-false _ _ h.0 in
    let len : length (take 32 rest) ≡ 32 = omega (arith, length-take 32 rest) in
    let key : is_master (take 32 rest) ≡ true = grind
    (arith, nat_tests, len, IsBytes-all (take 32 rest) (IsBytes-take 32 rest fits)) in
    let took : Takes rest (take 32 rest) (drop 32 rest) =
    record { parts = sym (take-append-drop 32 rest); rest_fits = IsBytes-drop 32 rest fits } in
    subst (λ (y : Record × List ℕ). (key : List ℕ) × (y.0 ≡ SetUp (record s { master = key })) ×
    Takes rest key y.1 × (is_setup s ≡ true) × (is_master key ≡ true))
    (some_is made x h.1) (take 32 rest, refl, took, g.0, key)

setup_takes : (rest : List ℕ) (x : Record × List ℕ) → IsBytes rest → setup_at rest ≡ Some x →
    Found (1 ∷ rest) x
unfolding setup_at spelling
setup_takes (n ∷ l ∷ b ∷ profile ∷ rounds ∷ picks ∷ low ∷ high ∷ rest) x fits e =
    let two : List ℕ = low ∷ high ∷ [] in
    let s : Setup = record {
      n = n;
      l = l;
      b = b;
      profile = profile;
      rounds = rounds;
      picks = picks;
      tolerance = from_le_bytes w16 two;
      master = [];
    } in
    let inner : IsBytes rest = λ i. fits (suc (suc (suc (suc (suc (suc (suc (suc i)))))))) in
    let two_fit : IsBytes two = IsBytes-take 2 (low ∷ high ∷ rest)
    (λ i. fits (suc (suc (suc (suc (suc (suc i))))))) in
    let k = keyed_takes s rest x inner e in
    let front : List ℕ = n ∷ l ∷ b ∷ profile ∷ rounds ∷ picks ∷ [] in
    let parts : 1 ∷ n ∷ l ∷ b ∷ profile ∷ rounds ∷ picks ∷ low ∷ high ∷ rest
    ≡ spelling (SetUp (record s { master = k.0 })) ++ x.1 =
    (λ i. 1 ∷ n ∷ l ∷ b ∷ profile ∷ rounds ∷ picks ∷ (sym (wide16.back two refl two_fit) i ++ k.2.parts i))
    ∙ (λ i. 1 ∷ n ∷ l ∷ b ∷ profile ∷ rounds ∷ picks ∷ sym
    (append_assoc (to_le_bytes w16 (from_le_bytes w16 two)) k.0 x.1) i) in
    let good : is_in_grammar (SetUp (record s { master = k.0 })) ≡ true = (λ i. k.3 i && k.4 i) in (
      record { parts = parts ∙ ap (λ (r : Record). spelling r ++ x.1) (sym k.1); rest_fits = k.2.rest_fits },
      ap is_in_grammar k.1 ∙ good,
    )
setup_takes bytes x fits e = absurd cc

setup_again : (s : Setup) (rest : List ℕ) → is_setup s ≡ true → is_master s.master ≡ true →
    setup_at (setup_bytes s ++ rest) ≡ Some (SetUp s, rest)
unfolding setup_at keyed_at
setup_again s rest good key =
    let small : s.tolerance < 2 ^ 16 = grind (arith, nat_tests, good) in
    let len : length s.master ≡ 32 = grind (arith, nat_tests, key) in
    let long : ltb (length (s.master ++ rest)) 32 ≡ false =
    le-ltb _ _ (omega (arith, length-append s.master rest)) in
    rw (
      wide16.again s.tolerance small,
      good,
      long,
      take_at s.master rest 32 len,
      drop-front s.master rest 32 len,
    ) refl

-- ---- the others

-- a record behind its kind
found : {text : List ℕ} (k : ℕ) (rest : List ℕ) (made x : Record × List ℕ) → Some made ≡ Some x →
    spelling made.0 ≡ k ∷ text → Takes rest text made.1 → is_in_grammar made.0 ≡ true → Found (k ∷ rest) x
found {text} k rest made x e spelled took good = subst (Found (k ∷ rest)) (some_is made x e) (
  record {
    parts = ap (λ (l : List ℕ). k ∷ l) took.parts ∙ ap (λ (l : List ℕ). l ++ made.1) (sym spelled);
    rest_fits = took.rest_fits;
  },
  good,
)

-- a number that is read before others
number_first : {B : Type 0} (w : Width) (limit : ℕ) (wide : IsWide w limit) (bytes : List ℕ)
    (f : ℕ × List ℕ → Option B) (y : B) → IsBytes bytes → (number_at w bytes >>= f) ≡ Some y →
    (x : ℕ × List ℕ) × (f x ≡ Some y) × Takes bytes (to_le_bytes w x.0) x.1 × (x.0 < limit)
number_first w limit wide bytes f y fits e =
    let a = bind_some (number_at w bytes) f y e in
    let took = number_takes w limit wide bytes a.0 fits a.1 in (a.0, a.2, took.0, took.1)

put_start_takes : (rest : List ℕ) (x : Record × List ℕ) → IsBytes rest → put_start_at rest ≡ Some x →
    Found (2 ∷ rest) x
unfolding put_start_at spelling
put_start_takes rest x fits e =
    let a = number_first w64 _ wide64 rest _ x fits e in
    let b = bind_some (name_at a.0.1) _ x a.1 in
    let name = name_takes a.0.1 b.0 a.2.rest_fits b.1 in
    found 2 rest _ x b.2 refl (Takes-then _ _ _ _ _ a.2 name.0) (λ i. lt-ltb _ _ a.3 i && name.1 i)

put_done_takes : (rest : List ℕ) (x : Record × List ℕ) → IsBytes rest → put_done_at rest ≡ Some x →
    Found (3 ∷ rest) x
unfolding put_done_at spelling
put_done_takes rest x fits e =
    let a = number_first w64 _ wide64 rest _ x fits e in
    let b = number_first w32 _ wide32 a.0.1 _ x a.2.rest_fits a.1 in
    let g = passed_to (leb b.0.0 4194304) _ x b.1 in
    found 3 rest _ x g.1 refl (Takes-then _ _ _ _ _ a.2 b.2) (λ i. lt-ltb _ _ a.3 i && g.0 i)

drop_takes : (rest : List ℕ) (x : Record × List ℕ) → IsBytes rest → drop_at rest ≡ Some x → Found (4 ∷ rest) x
unfolding drop_at spelling
drop_takes rest x fits e =
    let a = bind_some (name_at rest) _ x e in
    let name = name_takes rest a.0 fits a.1 in found 4 rest _ x a.2 refl name.0 name.1

audit_start_takes : (rest : List ℕ) (x : Record × List ℕ) → IsBytes rest → audit_start_at rest ≡ Some x →
    Found (5 ∷ rest) x
unfolding audit_start_at spelling
audit_start_takes rest x fits e =
    let a = number_first w64 _ wide64 rest _ x fits e in found 5 rest _ x a.1 refl a.2 (lt-ltb _ _ a.3)

audit_done_takes : (rest : List ℕ) (x : Record × List ℕ) → IsBytes rest → audit_done_at rest ≡ Some x →
    Found (6 ∷ rest) x
unfolding audit_done_at spelling
audit_done_takes rest x fits e =
    let a = number_first w64 _ wide64 rest _ x fits e in
    let b = number_first w32 _ wide32 a.0.1 _ x a.2.rest_fits a.1 in
    let d = bind_some (counts_at b.0.1) _ x b.1 in
    let counts = counts_takes b.0.1 d.0 b.2.rest_fits d.1 in
    let front = Takes-then _ _ _ _ _ a.2 b.2 in
    let good : is_in_grammar (AuditDone a.0.0 b.0.0 d.0.0) ≡ true =
    grind (arith, lt-ltb _ _ a.3, lt-ltb _ _ b.3, counts.1, counts.2) in
    found 6 rest _ x d.2 refl (Takes-then _ _ _ _ _ front counts.0) good

repair_done_takes : (rest : List ℕ) (x : Record × List ℕ) → IsBytes rest → repair_done_at rest ≡ Some x →
    Found (7 ∷ rest) x
unfolding repair_done_at spelling
repair_done_takes rest x fits e =
    let a = number_first w64 _ wide64 rest _ x fits e in found 7 rest _ x a.1 refl a.2 (lt-ltb _ _ a.3)

-- the bytes of an object's number, length and profile
abbrev object_bytes : ℕ × ℕ × ℕ → List ℕ
object_bytes o = to_le_bytes w64 o.0 ++ to_le_bytes w32 o.1 ++ o.2 ∷ []

abbrev is_object : ℕ × ℕ × ℕ → Bool
is_object o = ltb o.0 (2 ^ 64) && leb o.1 4194304 && ltb o.2 5

profile_takes : (bytes : List ℕ) (x : ℕ × List ℕ) → IsBytes bytes → profile_at bytes ≡ Some x →
    Takes bytes (x.0 ∷ []) x.1 × (ltb x.0 5 ≡ true)
unfolding profile_at
profile_takes [] x fits e = absurd cc
profile_takes (p ∷ rest) x fits e =
    let g = passed (ltb p 5) (p, rest) x e in
    subst (λ (y : ℕ × List ℕ). Takes (p ∷ rest) (y.0 ∷ []) y.1 × (ltb y.0 5 ≡ true)) g.1
    (record { parts = refl; rest_fits = IsBytes-rest p rest fits }, g.0)

object_takes : (bytes : List ℕ) (x : (ℕ × ℕ × ℕ) × List ℕ) → IsBytes bytes → object_at bytes ≡ Some x →
    Takes bytes (object_bytes x.0) x.1 × (is_object x.0 ≡ true)
unfolding object_at
object_takes bytes x fits e =
    let a = number_first w64 _ wide64 bytes _ x fits e in
    let b = number_first w32 _ wide32 a.0.1 _ x a.2.rest_fits a.1 in
    let d = bind_some (profile_at b.0.1) _ x b.1 in
    let g = passed (leb b.0.0 4194304) ((a.0.0, b.0.0, d.0.0), d.0.1) x d.2 in
    let third = profile_takes b.0.1 d.0 b.2.rest_fits d.1 in
    let all = Takes-then _ _ _ _ _ (Takes-then _ _ _ _ _ a.2 b.2) third.0 in
    let good : is_object (a.0.0, b.0.0, d.0.0) ≡ true = grind (arith, lt-ltb _ _ a.3, g.0, third.1) in
    subst (λ (y : (ℕ × ℕ × ℕ) × List ℕ). Takes bytes (object_bytes y.0) y.1 × (is_object y.0 ≡ true)) g.1
    (all, good)

object_again : (id size profile : ℕ) (rest : List ℕ) → is_object (id, size, profile) ≡ true →
    object_at (object_bytes (id, size, profile) ++ rest) ≡ Some ((id, size, profile), rest)
unfolding object_at profile_at
object_again id size profile rest good =
    let id_fits : id < 2 ^ 64 = grind (arith, nat_tests, good) in
    let short : leb size 4194304 ≡ true = grind (arith, good) in
    let known : ltb profile 5 ≡ true = grind (arith, good) in
    rw (
      number_again w64 (2 ^ 64) wide64 id (to_le_bytes w32 size ++ (profile ∷ rest)) id_fits,
      number_again w32 (2 ^ 32) wide32 size (profile ∷ rest) (omega (arith, leb-true _ _ short)),
      known,
      short,
    ) refl

put_done_in_takes : (rest : List ℕ) (x : Record × List ℕ) → IsBytes rest → put_done_in_at rest ≡ Some x →
    Found (8 ∷ rest) x
unfolding put_done_in_at spelling
put_done_in_takes rest x fits e =
    let a = bind_some (object_at rest) _ x e in
    let object = object_takes rest a.0 fits a.1 in found 8 rest _ x a.2 refl object.0 object.1

version_takes : (rest : List ℕ) (x : Record × List ℕ) → IsBytes rest → version_at rest ≡ Some x →
    Found (9 ∷ rest) x
unfolding version_at spelling
version_takes [] x fits e = absurd cc
version_takes (v ∷ rest) x fits e =
    let made : Record × List ℕ = (Version, rest) in
    let g = passed (eqb v 2) made x e in
    subst (Found (9 ∷ v ∷ rest)) g.1 (
      record {
        parts = ap (λ (n : ℕ). 9 ∷ n ∷ rest) (eqb-true v 2 g.0);
        rest_fits = IsBytes-rest v rest fits;
      },
      refl,
    )

resume_takes : (rest : List ℕ) (x : Record × List ℕ) → IsBytes rest → resume_at rest ≡ Some x →
    Found (10 ∷ rest) x
unfolding resume_at spelling
resume_takes rest x fits e =
    let a = number_first w64 _ wide64 rest _ x fits e in
    let b = number_first w64 _ wide64 a.0.1 _ x a.2.rest_fits a.1 in
    found 10 rest _ x b.1 refl (Takes-then _ _ _ _ _ a.2 b.2) (λ i. lt-ltb _ _ a.3 i && lt-ltb _ _ b.3 i)

in_effect_takes : (rest : List ℕ) (x : Record × List ℕ) → IsBytes rest → in_effect_at rest ≡ Some x →
    Found (11 ∷ rest) x
unfolding in_effect_at spelling
in_effect_takes rest x fits e =
    let a = bind_some (object_at rest) _ x e in
    let b = bind_some (name_at a.0.1) _ x a.2 in
    let object = object_takes rest a.0 fits a.1 in
    let name = name_takes a.0.1 b.0 object.0.rest_fits b.1 in
    found 11 rest _ x b.2 refl (Takes-then _ _ _ _ _ object.0 name.0) (λ i. object.1 i && name.1 i)

repair_due_takes : (rest : List ℕ) (x : Record × List ℕ) → IsBytes rest → repair_due_at rest ≡ Some x →
    Found (12 ∷ rest) x
unfolding repair_due_at spelling
repair_due_takes rest x fits e =
    let a = number_first w64 _ wide64 rest _ x fits e in
    let b = bind_some (counts_at a.0.1) _ x a.1 in
    let counts = counts_takes a.0.1 b.0 a.2.rest_fits b.1 in
    let good : is_in_grammar (RepairDue a.0.0 b.0.0) ≡ true =
    grind (arith, lt-ltb _ _ a.3, counts.1, counts.2) in
    found 12 rest _ x b.2 refl (Takes-then _ _ _ _ _ a.2 counts.0) good

-- one kind after the other
of_kind : (kind k : ℕ) (rest : List ℕ) (found others : Option (Record × List ℕ)) (x : Record × List ℕ)
    → (found ≡ Some x → Found (k ∷ rest) x) → (others ≡ Some x → Found (kind ∷ rest) x) →
    cond (eqb kind k) found others ≡ Some x → Found (kind ∷ rest) x
of_kind kind k rest found others x here on e =
    ⊎_elim (λ p. subst (λ (j : ℕ). Found (j ∷ rest) x) (sym (eqb-true kind k p.0)) (here p.1)) (λ p. on p.1)
    (cond-cases (eqb kind k) found others (Some x) e)

-- a record of any kind that is read stands at the front, and has a spelling
pub record_takes : (bytes : List ℕ) (x : Record × List ℕ) → IsBytes bytes → record_at bytes ≡ Some x →
    Takes bytes (spelling x.0) x.1 × (is_in_grammar x.0 ≡ true)
unfolding record_at
record_takes [] x fits e = absurd cc
record_takes (kind ∷ rest) x fits e =
    let inner = IsBytes-rest kind rest fits in
    of_kind kind 1 rest _ _ x (setup_takes rest x inner)
    (of_kind kind 2 rest _ _ x (put_start_takes rest x inner) (
    of_kind kind 3 rest _ _ x (put_done_takes rest x inner)
    (of_kind kind 4 rest _ _ x (drop_takes rest x inner) (
    of_kind kind 5 rest _ _ x (audit_start_takes rest x inner)
    (of_kind kind 6 rest _ _ x (audit_done_takes rest x inner) (
    of_kind kind 7 rest _ _ x (repair_done_takes rest x inner)
    (of_kind kind 8 rest _ _ x (put_done_in_takes rest x inner) (
    of_kind kind 9 rest _ _ x (version_takes rest x inner)
    (of_kind kind 10 rest _ _ x (resume_takes rest x inner) (
    of_kind kind 11 rest _ _ x (in_effect_takes rest x inner)
    (of_kind kind 12 rest _ _ x (repair_due_takes rest x inner) (
    λ none. absurd (none_is x none))))))))))))) e
  where
    none_is : (y : Record × List ℕ) → None ≡ Some y → ⊥
    none_is y h = cc

-- a record of any kind is read back from its spelling
pub record_again : (r : Record) (rest : List ℕ) → is_in_grammar r ≡ true →
    record_at (spelling r ++ rest) ≡ Some (r, rest)
unfolding record_at put_start_at put_done_at drop_at audit_start_at audit_done_at repair_done_at put_done_in_at version_at resume_at in_effect_at repair_due_at spelling
record_again (SetUp s) rest fits = setup_again s rest (grind (arith, fits)) (grind (arith, fits))
record_again (PutStart id name) rest fits =
    let good : is_name name ≡ true = grind (arith, fits) in
    rw (
      number_again w64 (2 ^ 64) wide64 id (name_bytes name ++ rest) (grind (arith, nat_tests, fits)),
      name_again name rest good,
    ) refl
record_again (PutDone id size) rest fits =
    let short : leb size 4194304 ≡ true = grind (arith, fits) in
    rw (
      number_again w64 (2 ^ 64) wide64 id (to_le_bytes w32 size ++ rest) (grind (arith, nat_tests, fits)),
      number_again w32 (2 ^ 32) wide32 size rest (omega (arith, leb-true _ _ short)),
      short,
    ) refl
record_again (Drop name) rest fits = rw (name_again name rest fits) refl
record_again (AuditStart number) rest fits =
    rw (number_again w64 (2 ^ 64) wide64 number rest (grind (arith, nat_tests, fits))) refl
record_again (AuditDone number undecided counts) rest fits =
    let d = counts_bytes counts ++ rest in
    let number_fits : number < 2 ^ 64 = grind (arith, nat_tests, fits) in
    rw (
      number_again w64 (2 ^ 64) wide64 number (to_le_bytes w32 undecided ++ d) number_fits,
      number_again w32 (2 ^ 32) wide32 undecided d (grind (arith, nat_tests, fits)),
      counts_again counts rest (grind (arith, fits)) (grind (arith, fits)),
    ) refl
record_again (RepairDone number) rest fits =
    rw (number_again w64 (2 ^ 64) wide64 number rest (grind (arith, nat_tests, fits))) refl
record_again (PutDoneIn id size profile) rest fits = rw (object_again id size profile rest fits) refl
record_again Version rest fits = refl
record_again (Resume id audit) rest fits = rw (
  number_again w64 (2 ^ 64) wide64 id (to_le_bytes w64 audit ++ rest) (grind (arith, nat_tests, fits)),
  number_again w64 (2 ^ 64) wide64 audit rest (grind (arith, nat_tests, fits)),
) refl
record_again (InEffect id size profile name) rest fits =
    let object : is_object (id, size, profile) ≡ true = grind (arith, fits) in
    let good : is_name name ≡ true = grind (arith, fits) in
    rw (object_again id size profile (name_bytes name ++ rest) object, name_again name rest good) refl
record_again (RepairDue number counts) rest fits =
    let number_fits : number < 2 ^ 64 = grind (arith, nat_tests, fits) in
    rw (
      number_again w64 (2 ^ 64) wide64 number (counts_bytes counts ++ rest) number_fits,
      counts_again counts rest (grind (arith, fits)) (grind (arith, fits)),
    ) refl

-- no spelling begins another
pub one_front : (a b : Record) (x y : List ℕ) → is_in_grammar a ≡ true → is_in_grammar b ≡ true →
    spelling a ++ x ≡ spelling b ++ y → (a ≡ b) × (x ≡ y)
one_front a b x y fits_a fits_b e =
    let same = some_is (a, x) (b, y) (sym (record_again a x fits_a) ∙ ap record_at e
    ∙ record_again b y fits_b) in
    (ap (λ (p : Record × List ℕ). p.0) same, ap (λ (p : Record × List ℕ). p.1) same)

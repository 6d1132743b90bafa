-- Every file in effect is among those that an audit or a repair works on.
use Rattle.second_half_laws.proofs.Words.{true, cond, refl, sym, subst, ◌∙◌, inl, inr, nat_lt, cases_Bool, false≢true, In, some-not-none, Record, PutDone, Drop, PutDoneIn, InEffect, File, started_as, is_same_name, is_name_before, is_start_of, file_of, files_of, with_put, with_file, without_file, file_as, setup_of, profile_in, same-eq, same-refl, Pinned, State, file_in, machine_pins, pinned_file, pin_by, pin_all, cond_true, cond_false}
use Rattle.std.proofs.Common.{◌≡◌, ℕ, Bool, false, List, [], ◌∷◌, Option, Some, None}

-- a file that a record brings in has the name, or the one before has
named_put : (b : Bool) (name : List ℕ) (k size profile : ℕ) (rest : Option File) (f : File) →
    cond b (Some (file_as name k size profile)) rest ≡ Some f → (rest ≡ Some f → f.name ≡ name) →
    f.name ≡ name
named_put true name k size profile rest f h old = (let same : file_as name k size profile ≡ f = cc in cc)
named_put false name k size profile rest f h old = old h

-- a file in effect has the name
file_named : (rs : List Record) (name : List ℕ) (f : File) → file_of rs name ≡ Some f → f.name ≡ name
file_named [] name f h = absurd (some-not-none None f h refl)
file_named (PutDone k size ∷ rs) name f h = named_put _ name k size _ _ f h (file_named rs name f)
file_named (Drop n ∷ rs) name f h = elim (cases_Bool (is_same_name n name)) [
  | inl t ↦ absurd (some-not-none _ f h (cc))
  | inr o ↦ file_named rs name f (cc)
]
file_named (PutDoneIn k size profile ∷ rs) name f h = named_put _ name k size _ _ f h (file_named rs name f)
file_named (InEffect k size profile kept ∷ rs) name f h =
    named_put _ name k size _ _ f h (file_named rs name f)
file_named (_ ∷ rs) name f h = file_named rs name f h

with_new : (fs : List File) (x : File) → In x (with_file fs x)
with_new [] x = inl refl
with_new (f ∷ fs) x = elim (cases_Bool (is_name_before f.name x.name)) [
  | inl t ↦ subst (λ l. In x l) (sym (cond_true _ _ _ t)) (inr (with_new fs x))
  | inr o ↦ subst (λ l. In x l) (sym (cond_false _ _ _ o)) (inl refl)
]

with_old : (fs : List File) (x g : File) → In g fs → In g (with_file fs x)
with_old [] x g h = absurd h
with_old (f ∷ fs) x g h = elim (cases_Bool (is_name_before f.name x.name)) [
  | inl t ↦ subst (λ l. In g l) (sym (cond_true _ _ _ t)) (elim h [
    | inl e ↦ inl e
    | inr i ↦ inr (with_old fs x g i)
  ])
  | inr o ↦ subst (λ l. In g l) (sym (cond_false _ _ _ o)) (inr h)
]

without_old : (fs : List File) (n : List ℕ) (g : File) → In g fs → is_same_name g.name n ≡ false →
    In g (without_file fs n)
without_old [] n g h other = absurd h
without_old (f ∷ fs) n g h other = elim (cases_Bool (is_same_name f.name n)) [
  | inl t ↦ subst (λ l. In g l) (sym (cond_true _ _ _ t)) (elim h [
    | inl e ↦ absurd (false≢true (cc))
    | inr i ↦ without_old fs n g i other
  ])
  | inr o ↦ subst (λ l. In g l) (sym (cond_false _ _ _ o)) (elim h [
    | inl e ↦ inl e
    | inr i ↦ inr (without_old fs n g i other)
  ])
]

apart : (n name : List ℕ) → is_same_name n name ≡ false → is_same_name name n ≡ false
apart n name o = elim (cases_Bool (is_same_name name n)) [
  | inl t ↦ absurd (false≢true (cc (same-eq name n t, same-refl n)))
  | inr f ↦ f
]

-- a file that a record brings in is among the files, or the one before is
in_put : (fs : List File) (o : Option (List ℕ)) (name : List ℕ) (k size profile : ℕ) (rest : Option File)
    (f : File) → cond (is_start_of name o) (Some (file_as name k size profile)) rest ≡ Some f →
    (rest ≡ Some f → f.name ≡ name) → (rest ≡ Some f → In f fs) → In f (with_put fs o k size profile)
in_put fs None name k size profile rest f h named old = old h
in_put fs (Some n) name k size profile rest f h named old = by_name (is_same_name n name) refl h
  where
    by_name : (b : Bool) → is_same_name n name ≡ b →
        cond b (Some (file_as name k size profile)) rest ≡ Some f →
        In f (with_file (without_file fs n) (file_as n k size profile))
    by_name true t e = (let same : file_as name k size profile ≡ f = cc in
        subst (λ x. In x (with_file (without_file fs n) (file_as n k size profile)))
        (cc (same-eq n name t)) (with_new (without_file fs n) (file_as n k size profile)))
    by_name false o e = with_old _ _ f (without_old fs n f (old e) (cc (named e, apart n name o)))

in_files : (rs : List Record) (name : List ℕ) (f : File) → file_of rs name ≡ Some f → In f (files_of rs)
in_files [] name f h = absurd (some-not-none None f h refl)
in_files (PutDone k size ∷ rs) name f h = in_put (files_of rs) (started_as rs k) name k size
    (profile_in (setup_of rs)) (file_of rs name) f h (file_named rs name f) (in_files rs name f)
in_files (Drop n ∷ rs) name f h = elim (cases_Bool (is_same_name n name)) [
  | inl t ↦ absurd (some-not-none (file_of (Drop n ∷ rs) name) f h (cc))
  | inr o ↦ (let old = sym (cc) ∙ h in
      without_old (files_of rs) n f (in_files rs name f old) (cc (file_named rs name f old, apart n name o)))
]
in_files (PutDoneIn k size profile ∷ rs) name f h = in_put (files_of rs) (started_as rs k) name k size profile
    (file_of rs name) f h (file_named rs name f) (in_files rs name f)
in_files (InEffect k size profile kept ∷ rs) name f h = in_put (files_of rs) (Some kept) name k size profile
    (file_of rs name) f h (file_named rs name f) (in_files rs name f)
in_files (_ ∷ rs) name f h = in_files rs name f h

pin_new : (p : Pinned) (ps : List Pinned) → In p (pin_by machine_pins p ps)
pin_new p [] = inl refl
pin_new p (q ∷ qs) = elim (cases_Bool (nat_lt p.id q.id)) [
  | inl t ↦ subst (λ l. In p l) (sym (cond_true _ _ _ t)) (inl refl)
  | inr o ↦ subst (λ l. In p l) (sym (cond_false _ _ _ o)) (inr (pin_new p qs))
]

pin_old : (p : Pinned) (ps : List Pinned) (g : Pinned) → In g ps → In g (pin_by machine_pins p ps)
pin_old p [] g h = absurd h
pin_old p (q ∷ qs) g h = elim (cases_Bool (nat_lt p.id q.id)) [
  | inl t ↦ subst (λ l. In g l) (sym (cond_true _ _ _ t)) (inr h)
  | inr o ↦ subst (λ l. In g l) (sym (cond_false _ _ _ o)) (elim h [
    | inl e ↦ inl e
    | inr i ↦ inr (pin_old p qs g i)
  ])
]

in_all : (w : State) (fs : List File) (f : File) → In f fs → In (pinned_file w f) (pin_all w fs)
in_all w [] f h = absurd h
in_all w (g ∷ gs) f (inl e) =
    subst (λ x. In (pinned_file w f) (pin_by machine_pins (pinned_file w x) (pin_all w gs))) e
    (pin_new (pinned_file w f) (pin_all w gs))
in_all w (g ∷ gs) f (inr h) = pin_old (pinned_file w g) (pin_all w gs) (pinned_file w f) (in_all w gs f h)

-- a file in effect is among the pins of all files
pub all_pinned : (w : State) (name : List ℕ) (f : File) → file_in w name ≡ Some f →
    In (pinned_file w f) (pin_all w (files_of w.records))
all_pinned w name f h = in_all w (files_of w.records) f (in_files w.records name f h)

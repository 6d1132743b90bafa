-- What holds of records in effect of which each put's start has the number that was next.
use Rattle.machine_defs.proofs.Words.{◌≡◌, ◌≤◌, false, cond, ◌⊎◌, refl, ap, sym, ◌∙◌, inl, inr, arith, eqb-true, eq-eqb, ne_eqb, cases_Bool, false≢true, In, Record, PutStart, PutDone, Drop, PutDoneIn, Resume, InEffect, RepairDue, File, next_id, started_as, is_same_name, is_start_of, file_of, files_of, with_put, with_file, without_file, is_name_before, setup_of, profile_in, same-eq, same-refl}
use Rattle.std.proofs.Common.{ℕ, ◌<◌, ◌==◌, List, [], ◌∷◌, Option, Some, None}
use Rattle.record_defs.proofs.SoundLaws.{start_name}
use Rattle.machine_defs.proofs.JobLists.{cond_true, cond_false, same_value}

-- a put's start has the number that is next, and the kinds that only a packed journal has do not come
abbrev pub IsProper : List Record → Record → Type 0
IsProper rs (PutStart id name) = id ≡ next_id rs
IsProper rs (Resume id audit) = ⊥
IsProper rs (InEffect id size profile name) = ⊥
IsProper rs (RepairDue number counts) = ⊥
IsProper rs r = Unit {0}

-- names that differ are not taken for the same
pub other_name : (xs ys : List ℕ) → (xs ≡ ys → ⊥) → is_same_name xs ys ≡ false
other_name xs ys h = elim (cases_Bool (is_same_name xs ys))
    [ inl t ↦ absurd (h (same-eq xs ys t)) | inr f ↦ f ]

-- what holds of the records
pub record AreSound (rs : List Record) : Type 0 where
  pub file : (q : List ℕ) (f : File) → file_of rs q ≡ Some f →
      (f.id < next_id rs) × (started_as rs f.id ≡ None)
  pub one_name : (q p : List ℕ) (f g : File) → file_of rs q ≡ Some f → file_of rs p ≡ Some g → f.id ≡ g.id →
      q ≡ p
  pub started : (id : ℕ) (name : List ℕ) → started_as rs id ≡ Some name → id < next_id rs

-- a number below the next one that is not started stays so
pub not_started-more : (rs : List Record) (r : Record) (id : ℕ) → IsProper rs r → id < next_id rs →
    started_as rs id ≡ None → started_as (r ∷ rs) id ≡ None
not_started-more rs (PutStart k name) id proper l h =
    cond_false (k == id) (Some name) (started_as rs id) (ne_eqb k id (λ e. omega arith)) ∙ h
not_started-more rs (PutDone k size) id proper l h = elim (cases_Bool (k == id)) [
  | inl t ↦ cond_true (k == id) None (started_as rs id) t
  | inr f ↦ cond_false (k == id) None (started_as rs id) f ∙ h
]
not_started-more rs (PutDoneIn k size profile) id proper l h = elim (cases_Bool (k == id)) [
  | inl t ↦ cond_true (k == id) None (started_as rs id) t
  | inr f ↦ cond_false (k == id) None (started_as rs id) f ∙ h
]
not_started-more rs (Resume next audit) id proper l h = absurd proper
not_started-more rs (InEffect k size profile kept) id proper l h = absurd proper
not_started-more rs (RepairDue number counts) id proper l h = absurd proper
not_started-more rs r id proper l h = h

-- a number below the next one that is started was so before
pub started-less : (rs : List Record) (r : Record) (id : ℕ) (name : List ℕ) → IsProper rs r →
    id < next_id rs → started_as (r ∷ rs) id ≡ Some name → started_as rs id ≡ Some name
started-less rs (PutStart k n) id name proper l h =
    sym (cond_false (k == id) (Some n) (started_as rs id) (ne_eqb k id (λ e. omega arith))) ∙ h
started-less rs (PutDone k size) id name proper l h = elim (cases_Bool (k == id)) [
  | inl t ↦ (let e : None ≡ Some name = sym (cond_true (k == id) None (started_as rs id) t) ∙ h in cc)
  | inr f ↦ sym (cond_false (k == id) None (started_as rs id) f) ∙ h
]
started-less rs (PutDoneIn k size profile) id name proper l h = elim (cases_Bool (k == id)) [
  | inl t ↦ (let e : None ≡ Some name = sym (cond_true (k == id) None (started_as rs id) t) ∙ h in cc)
  | inr f ↦ sym (cond_false (k == id) None (started_as rs id) f) ∙ h
]
started-less rs (Resume next audit) id name proper l h = absurd proper
started-less rs (InEffect k size profile kept) id name proper l h = absurd proper
started-less rs (RepairDue number counts) id name proper l h = absurd proper
started-less rs r id name proper l h = h

-- a file in effect with a put's end on top was so before, or is the put's
put-more : (rs : List Record) (k size profile : ℕ) (q : List ℕ) (f : File) →
    file_of (PutDoneIn k size profile ∷ rs) q ≡ Some f → (file_of rs q ≡ Some f) ⊎ (started_as rs f.id ≡ Some q)
put-more rs k size profile q f h = elim (cases_Bool (is_start_of q (started_as rs k))) [
  | inl t ↦ (let n = start_name q (started_as rs k) t in
      let same : record { name = q; id = k; size = size; profile = profile } ≡ f =
      (let e : Some (record { name = q; id = k; size = size; profile = profile }) ≡ Some f =
      sym (cond_true (is_start_of q (started_as rs k))
      (Some (record { name = q; id = k; size = size; profile = profile })) (file_of rs q) t) ∙ h in
      cc) in
      let id_is : k ≡ f.id = ap (λ (x : File). x.id) same in
      inr (ap (started_as rs) (sym id_is) ∙ (n.1 ∙ ap Some (sym n.2))))
  | inr o ↦ inl (sym (cond_false (is_start_of q (started_as rs k))
      (Some (record { name = q; id = k; size = size; profile = profile })) (file_of rs q) o) ∙ h)
]

-- a file in effect under more records was so before, or is that of a put's end
pub file-more : (rs : List Record) (r : Record) (q : List ℕ) (f : File) → IsProper rs r →
    file_of (r ∷ rs) q ≡ Some f → (file_of rs q ≡ Some f) ⊎ (started_as rs f.id ≡ Some q)
file-more rs (PutDone k size) q f proper h = put-more rs k size (profile_in (setup_of rs)) q f h
file-more rs (Drop name) q f proper h = elim (cases_Bool (is_same_name name q)) [
  | inl t ↦ (let e : None ≡ Some f = sym (cond_true (is_same_name name q) None (file_of rs q) t) ∙ h in cc)
  | inr o ↦ inl (sym (cond_false (is_same_name name q) None (file_of rs q) o) ∙ h)
]
file-more rs (PutDoneIn k size profile) q f proper h = put-more rs k size profile q f h
file-more rs (Resume next audit) q f proper h = absurd proper
file-more rs (InEffect k size profile kept) q f proper h = absurd proper
file-more rs (RepairDue number counts) q f proper h = absurd proper
file-more rs r q f proper h = inl h

-- the file that a put's end brings in is no longer started
put-not_started : (rs : List Record) (k size profile : ℕ) (q : List ℕ) (f : File) →
    file_of (PutDoneIn k size profile ∷ rs) q ≡ Some f → started_as rs f.id ≡ Some q → AreSound rs →
    started_as (PutDoneIn k size profile ∷ rs) f.id ≡ None
put-not_started rs k size profile q f h st S = elim (cases_Bool (k == f.id)) [
  | inl t ↦ cond_true (k == f.id) None (started_as rs f.id) t
  | inr o ↦ absurd (elim (cases_Bool (is_start_of q (started_as rs k))) [
    | inl t ↦ (let same : record { name = q; id = k; size = size; profile = profile } ≡ f =
        (let e : Some (record { name = q; id = k; size = size; profile = profile }) ≡ Some f =
        sym (cond_true (is_start_of q (started_as rs k))
        (Some (record { name = q; id = k; size = size; profile = profile })) (file_of rs q) t) ∙ h in
        cc) in
        false≢true (sym o ∙ eq-eqb k f.id (ap (λ (x : File). x.id) same)))
    | inr n ↦ (let old = sym (cond_false (is_start_of q (started_as rs k))
        (Some (record { name = q; id = k; size = size; profile = profile })) (file_of rs q) n) ∙ h in
        let e = (S.file q f old).1 in let g : None ≡ Some q = sym e ∙ st in cc)
  ])
]

-- nor is one that any record brings in
done-not_started : (rs : List Record) (r : Record) (q : List ℕ) (f : File) → IsProper rs r →
    file_of (r ∷ rs) q ≡ Some f → started_as rs f.id ≡ Some q → AreSound rs → started_as (r ∷ rs) f.id ≡ None
done-not_started rs (PutDone k size) q f proper h st S =
    put-not_started rs k size (profile_in (setup_of rs)) q f h st S
done-not_started rs (Drop name) q f proper h st S = st_none name h
  where
    st_none : (n : List ℕ) → file_of (Drop n ∷ rs) q ≡ Some f → started_as rs f.id ≡ None
    st_none n g = elim (cases_Bool (is_same_name n q)) [
      | inl t ↦ (let e = sym (cond_true (is_same_name n q) None (file_of rs q) t) ∙ g in cc)
      | inr o ↦ (S.file q f (sym (cond_false (is_same_name n q) None (file_of rs q) o) ∙ g)).1
    ]
done-not_started rs (PutDoneIn k size profile) q f proper h st S =
    put-not_started rs k size profile q f h st S
done-not_started rs (Resume next audit) q f proper h st S = absurd proper
done-not_started rs (InEffect k size profile kept) q f proper h st S = absurd proper
done-not_started rs (RepairDue number counts) q f proper h st S = absurd proper
done-not_started rs r q f proper h st S = absurd (let e = (S.file q f h).1 in let g = sym e ∙ st in cc)

next_id-more : (rs : List Record) (r : Record) → IsProper rs r → next_id rs ≤ next_id (r ∷ rs)
next_id-more rs (Resume next audit) proper = absurd proper
next_id-more rs (InEffect id size profile kept) proper = absurd proper
next_id-more rs (RepairDue number counts) proper = absurd proper
next_id-more rs r proper = omega arith

started_below : (rs : List Record) (r : Record) → IsProper rs r → AreSound rs → (id : ℕ) (name : List ℕ) →
    started_as (r ∷ rs) id ≡ Some name → id < next_id (r ∷ rs)
started_below rs (PutStart k n) proper S id name h = elim (cases_Bool (k == id)) [
  | inl t ↦ (let e = eqb-true k id t in omega arith)
  | inr f ↦ (let l = S.started id name (sym (cond_false (k == id) (Some n) (started_as rs id) f) ∙ h) in
      omega arith)
]
started_below rs (PutDone k size) proper S id name h = elim (cases_Bool (k == id)) [
  | inl t ↦ (let e : None ≡ Some name = sym (cond_true (k == id) None (started_as rs id) t) ∙ h in cc)
  | inr f ↦ S.started id name (sym (cond_false (k == id) None (started_as rs id) f) ∙ h)
]
started_below rs (PutDoneIn k size profile) proper S id name h = elim (cases_Bool (k == id)) [
  | inl t ↦ (let e : None ≡ Some name = sym (cond_true (k == id) None (started_as rs id) t) ∙ h in cc)
  | inr f ↦ S.started id name (sym (cond_false (k == id) None (started_as rs id) f) ∙ h)
]
started_below rs (Resume next audit) proper S id name h = absurd proper
started_below rs (InEffect k size profile kept) proper S id name h = absurd proper
started_below rs (RepairDue number counts) proper S id name h = absurd proper
started_below rs r proper S id name h = S.started id name h

-- records stay sound with one more
pub sound-more : (rs : List Record) (r : Record) → IsProper rs r → AreSound rs → AreSound (r ∷ rs)
sound-more rs r proper S = record { file = file_is; one_name = one; started = started_below rs r proper S }
  where
    file_is : (q : List ℕ) (f : File) → file_of (r ∷ rs) q ≡ Some f →
        (f.id < next_id (r ∷ rs)) × (started_as (r ∷ rs) f.id ≡ None)
    file_is q f h = (let g = next_id-more rs r proper in elim (file-more rs r q f proper h) [
      | inl old ↦ (let p = S.file q f old in
          (omega (arith, p.0, g), not_started-more rs r f.id proper p.0 p.1))
      | inr new ↦ (let l = S.started f.id q new in
          (omega (arith, l, g), done-not_started rs r q f proper h new S))
    ])

    one : (q p : List ℕ) (f g : File) → file_of (r ∷ rs) q ≡ Some f → file_of (r ∷ rs) p ≡ Some g →
        f.id ≡ g.id → q ≡ p
    one q p f g hf hg same = elim (file-more rs r q f proper hf) [
      | inl old ↦ elim (file-more rs r p g proper hg) [
        | inl old2 ↦ S.one_name q p f g old old2 same
        | inr new2 ↦ absurd (let e = (S.file q f old).1 in let z : None ≡ Some p = sym e
            ∙ (ap (started_as rs) same ∙ new2) in cc)
      ]
      | inr new ↦ elim (file-more rs r p g proper hg) [
        | inl old2 ↦ absurd (let e = (S.file p g old2).1 in let z : None ≡ Some q = sym e
            ∙ (ap (started_as rs) (sym same) ∙ new) in cc)
        | inr new2 ↦ same_value _ q p new (ap (started_as rs) same ∙ new2)
      ]
    ]

-- a journal without a record is sound
pub sound-none : AreSound []
sound-none = record {
  file = λ q f h. absurd (let e : None ≡ Some f = h in cc);
  one_name = λ q p f g h k s. absurd (let e : None ≡ Some f = h in cc);
  started = λ id name h. absurd (let e : None ≡ Some name = h in cc);
}

-- ---- the ordered list of files

in_without : (fs : List File) (n : List ℕ) (g : File) → In g (without_file fs n) →
    In g fs × (is_same_name g.name n ≡ false)
in_without [] n g h = absurd h
in_without (f ∷ fs) n g h = elim (cases_Bool (is_same_name f.name n)) [
  | inl t ↦ (let p = in_without fs n g
      (rw (cond_true (is_same_name f.name n) (without_file fs n) (f ∷ without_file fs n) t) at h) in
      (inr p.0, p.1))
  | inr o ↦ kept o (in_without fs n g)
      (rw (cond_false (is_same_name f.name n) (without_file fs n) (f ∷ without_file fs n) o) at h)
]
  where
    kept : is_same_name f.name n ≡ false →
        (In g (without_file fs n) → In g fs × (is_same_name g.name n ≡ false)) →
        In g (f ∷ without_file fs n) → In g (f ∷ fs) × (is_same_name g.name n ≡ false)
    kept o rest (inl e) = (inl e, ap (λ x. is_same_name x.name n) e ∙ o)
    kept o rest (inr i) = (let p = rest i in (inr p.0, p.1))

in_with : (fs : List File) (x g : File) → In g (with_file fs x) → (g ≡ x) ⊎ In g fs
in_with [] x g (inl e) = inl e
in_with [] x g (inr i) = absurd i
in_with (f ∷ fs) x g h = elim (cases_Bool (is_name_before f.name x.name)) [
  | inl t ↦ later (in_with fs x g)
      (rw (cond_true (is_name_before f.name x.name) (f ∷ with_file fs x) (x ∷ f ∷ fs) t) at h)
  | inr o ↦ here (rw (cond_false (is_name_before f.name x.name) (f ∷ with_file fs x) (x ∷ f ∷ fs) o) at h)
]
  where
    later : (In g (with_file fs x) → (g ≡ x) ⊎ In g fs) → In g (f ∷ with_file fs x) → (g ≡ x) ⊎ In g (f ∷ fs)
    later rest (inl e) = inr (inl e)
    later rest (inr i) = elim (rest i) [ inl e ↦ inl e | inr k ↦ inr (inr k) ]

    here : In g (x ∷ f ∷ fs) → (g ≡ x) ⊎ In g (f ∷ fs)
    here (inl e) = inl e
    here (inr i) = inr i

-- a file of the list with a put's end on top is in effect, where those of the list before are
put-listed : (rs : List Record) (k size profile : ℕ) (g : File) (o : Option (List ℕ)) → started_as rs k ≡ o →
    In g (with_put (files_of rs) o k size profile) →
    (In g (files_of rs) → file_of rs g.name ≡ Some g) →
    cond (is_start_of g.name (started_as rs k))
    (Some (record { name = g.name; id = k; size = size; profile = profile })) (file_of rs g.name)
    ≡ Some g
put-listed rs k size profile g None is i rest = cond_false (is_start_of g.name (started_as rs k)) _
    (file_of rs g.name) (ap (is_start_of g.name) is) ∙ rest i
put-listed rs k size profile g (Some n) is i rest =
    elim (in_with (without_file (files_of rs) n)
    (record { name = n; id = k; size = size; profile = profile }) g i) [
      | inl e ↦ (let name_is : g.name ≡ n = ap (λ (x : File). x.name) e in
          cond_true (is_start_of g.name (started_as rs k)) _ (file_of rs g.name)
          (ap (is_start_of g.name) is ∙ (ap (λ x. is_same_name n x) name_is ∙ same-refl n))
          ∙ ap Some (ap (λ (x : List ℕ). record { name = x; id = k; size = size; profile = profile })
          name_is
          ∙ sym e))
      | inr j ↦ (let p = in_without (files_of rs) n g j in
          cond_false (is_start_of g.name (started_as rs k)) _ (file_of rs g.name)
          (ap (is_start_of g.name) is
          ∙ other_name n g.name
          (λ e. false≢true (sym p.1 ∙ (ap (λ x. is_same_name g.name x) e ∙ same-refl g.name))))
          ∙ rest p.0)
    ]

-- each file of the list is in effect under its name
pub listed_file : (rs : List Record) (g : File) → In g (files_of rs) → file_of rs g.name ≡ Some g
listed_file [] g h = absurd h
listed_file (PutDone k size ∷ rs) g h =
    put-listed rs k size (profile_in (setup_of rs)) g (started_as rs k) refl h (listed_file rs g)
listed_file (Drop n ∷ rs) g h = (let p = in_without (files_of rs) n g h in
    cond_false (is_same_name n g.name) None (file_of rs g.name)
    (other_name n g.name (λ e. false≢true (sym p.1 ∙ (ap (λ x. is_same_name g.name x) e ∙ same-refl g.name))))
    ∙ listed_file rs g p.0)
listed_file (PutDoneIn k size profile ∷ rs) g h =
    put-listed rs k size profile g (started_as rs k) refl h (listed_file rs g)
listed_file (InEffect k size profile n ∷ rs) g h = kept h (listed_file rs g)
  where
    kept : In g (with_put (files_of rs) (Some n) k size profile) →
        (In g (files_of rs) → file_of rs g.name ≡ Some g) →
        cond (is_same_name n g.name) (Some (record { name = g.name; id = k; size = size; profile = profile }))
        (file_of rs g.name) ≡ Some g
    kept i rest = elim (in_with (without_file (files_of rs) n)
        (record { name = n; id = k; size = size; profile = profile }) g i) [
          | inl e ↦ (let name_is : g.name ≡ n = ap (λ (x : File). x.name) e in
              cond_true (is_same_name n g.name) _ (file_of rs g.name)
              (ap (λ x. is_same_name n x) name_is ∙ same-refl n)
              ∙ ap Some (ap (λ (x : List ℕ). record { name = x; id = k; size = size; profile = profile })
              name_is
              ∙ sym e))
          | inr j ↦ (let p = in_without (files_of rs) n g j in
              cond_false (is_same_name n g.name) _ (file_of rs g.name)
              (other_name n g.name (λ e. false≢true (sym p.1
              ∙ (ap (λ x. is_same_name g.name x) e ∙ same-refl g.name))))
              ∙ rest p.0)
        ]
listed_file (r ∷ rs) g h = listed_file rs g h

-- The files that a job works on from its begin on: each once, in ascending order, and stored.
use Rattle.state_laws.proofs.Words.{◌≡◌, suc, true, false, length, Option, refl, ap, sym, subst, ◌∙◌, inl, inr, arith, is_some, nat_lt, Contains, cases_Bool, cases_eq, false≢true, ltb-true, In, most_files, File, setup_of, version_of, profile_in, file_of, files_of, is_same_name, AreAccepted, same-refl, few-files_of, Kind, PutJob, GetJob, DropJob, UpgradeJob, Pinned, machine_pins, State, file_in, pinned_file, pin_by, pin_all, pin_found, pinned_for, is_name_among, names_in, cond_true, cond_false, Stands, in_all, pinned_stands, AreSound, listed_file, AreAscending, AreHeld, HasPins, IsPin}
use Rattle.std.proofs.Common.{ℕ, ◌+◌, ◌≤◌, List, [], ◌∷◌, Some, None}
use Rattle.machine_defs.proofs.Held.{contains_in}
use Rattle.state_laws.proofs.NamesTaken.{AreOnce, once-files}
use Rattle.state_laws.proofs.Records.{is_some-at, AreInGrammar, sound-accepted, file-spelled, file-plain}

length-pin : (p : Pinned) (qs : List Pinned) → length (pin_by machine_pins p qs) ≡ suc (length qs)
length-pin p [] = refl
length-pin p (q ∷ qs) = elim (cases_Bool (nat_lt p.id q.id)) [
  | inl t ↦ ap length (cond_true (nat_lt p.id q.id) (p ∷ q ∷ qs) (q ∷ pin_by machine_pins p qs) t)
  | inr f ↦ ap length (cond_false (nat_lt p.id q.id) (p ∷ q ∷ qs) (q ∷ pin_by machine_pins p qs) f)
      ∙ ap suc (length-pin p qs)
]

-- there are as many pins as files
pub length-pin_all : (w : State) (fs : List File) → length (pin_all w fs) ≡ length fs
length-pin_all w [] = refl
length-pin_all w (f ∷ fs) = length-pin (pinned_file w f) (pin_all w fs) ∙ ap suc (length-pin_all w fs)

ascending-pin : (low : ℕ) (p : Pinned) (qs : List Pinned) → AreAscending low qs → low ≤ p.id →
    ((q : Pinned) → In q qs → p.id ≡ q.id → ⊥) → AreAscending low (pin_by machine_pins p qs)
ascending-pin low p [] h l n = (l, tt)
ascending-pin low p (q ∷ qs) h l n = elim (cases_Bool (nat_lt p.id q.id)) [
  | inl t ↦ subst (AreAscending low)
      (sym (cond_true (nat_lt p.id q.id) (p ∷ q ∷ qs) (q ∷ pin_by machine_pins p qs) t))
      (l, ((omega (arith, ltb-true p.id q.id t)), h.1))
  | inr f ↦ subst (AreAscending low)
      (sym (cond_false (nat_lt p.id q.id) (p ∷ q ∷ qs) (q ∷ pin_by machine_pins p qs) f))
      (h.0, ascending-pin (q.id + 1) p qs h.1 (above f (n q (inl refl))) (λ r i. n r (inr i)))
]
  where
    above : nat_lt p.id q.id ≡ false → (p.id ≡ q.id → ⊥) → q.id + 1 ≤ p.id
    above f m = elim (cases_eq p.id q.id) [
      | inl e ↦ absurd (m e)
      | inr o ↦ elim (cases_Bool (nat_lt q.id p.id)) [
        | inl t ↦ omega (arith, ltb-true q.id p.id t)
        | inr g ↦ absurd (omega (arith, not-below p.id q.id f, not-below q.id p.id g, o))
      ]
    ]
      where
        not-below : (a b : ℕ) → nat_lt a b ≡ false → b ≤ a
        not-below a b f = grind (arith, f)

unlisted : (fs : List File) (g : File) (name : List ℕ) → is_name_among (names_in fs) name ≡ false → In g fs →
    name ≡ g.name → ⊥
unlisted [] g name f i e = absurd i
unlisted (x ∷ fs) g name f (inl s) e = false≢true (sym f ∙ (let t : is_same_name name x.name ≡ true
    = ap (is_same_name name) (sym (e ∙ ap (λ (z : File). z.name) s)) ∙ same-refl name in grind (arith, t)))
unlisted (x ∷ fs) g name f (inr i) e = unlisted fs g name (grind (arith, f)) i e

ascending-all : (w : State) (fs : List File) → AreSound w.records → AreOnce (names_in fs) →
    ((g : File) → In g fs → file_of w.records g.name ≡ Some g) → AreAscending 0 (pin_all w fs)
ascending-all w [] S once held = tt
ascending-all w (f ∷ fs) S once held = ascending-pin 0 (pinned_file w f) (pin_all w fs)
    (ascending-all w fs S once.1 (λ g i. held g (inr i))) (omega arith) (λ q i e. (let r = in_all w fs q i in
    unlisted fs r.0 f.name once.0 r.1
    (S.one_name f.name r.0.name f r.0 (held f (inl refl)) (held r.0 (inr r.1))
    (e ∙ ap (λ (x : Pinned). x.id) r.2))))

module _ (w : State) (accepted : AreAccepted w.records) (spelled : AreInGrammar w.records)
    (files : AreHeld w.bytes w.records) where
  all-ascending : AreAscending 0 (pin_all w (files_of w.records))
  all-ascending = ascending-all w (files_of w.records) (sound-accepted w.records accepted)
      (once-files w.records) (λ g i. listed_file w.records g i)

  all-few : length (pin_all w (files_of w.records)) ≤ most_files
  all-few = omega (arith, length-pin_all w (files_of w.records), few-files_of w.records accepted)

  -- the files that a job begins with ascend by their numbers
  pub pins-ascend : (kind : Kind) → AreAscending 0 (pinned_for w kind)
  pins-ascend (PutJob name bytes) = tt
  pins-ascend (GetJob name) = one (file_in w name)
    where
      one : (o : Option File) → AreAscending 0 (pin_found (pinned_file w) o)
      one None = tt
      one (Some f) = (omega arith, tt)
  pins-ascend (DropJob name) = tt
  pins-ascend UpgradeJob = tt
  pins-ascend kind = all-ascending

  -- a job begins with no more files than may be in effect
  pub pins-few : (kind : Kind) → length (pinned_for w kind) ≤ most_files
  pins-few (PutJob name bytes) = omega arith
  pins-few (GetJob name) = one (file_in w name)
    where
      one : (o : Option File) → length (pin_found (pinned_file w) o) ≤ most_files
      one None = omega arith
      one (Some f) = omega arith
  pins-few (DropJob name) = omega arith
  pins-few UpgradeJob = omega arith
  pins-few kind = all-few

  -- each file that a job begins with was stored
  pub pins-stored : (kind : Kind) (f : Pinned) → Contains (pinned_for w kind) f → IsPin w.records w.bytes f
  pins-stored kind f i = stored (pinned_stands w kind f (contains_in (pinned_for w kind) f i))
    where
      stored : Stands w f → IsPin w.records w.bytes f
      stored st = subst (IsPin w.records w.bytes) (sym st.is) (record {
        drawn = ((sound-accepted w.records accepted).file st.name st.file st.in_effect).0;
        bytes_are = refl;
        spelled = (files st.name st.file st.in_effect).0;
        size = (let b = (file-spelled w.records st.name st.file spelled st.in_effect).1 in
            omega (arith, (files st.name st.file st.in_effect).1, b));
      })

  -- in the first version they have the setup's profile
  pub pins-plain : version_of w.records ≡ 1 → (kind : Kind) (f : Pinned) → Contains (pinned_for w kind) f →
      f.profile ≡ profile_in (setup_of w.records)
  pins-plain first kind f i = (let st = pinned_stands w kind f (contains_in (pinned_for w kind) f i) in
      ap (λ (x : Pinned). x.profile) st.is ∙ file-plain w.records st.name st.file accepted first st.in_effect)

-- a get begins with one file, and a put and a drop with none
pub has-pins : (w : State) (kind : Kind) →
    ((name : List ℕ) → kind ≡ GetJob name → is_some (file_in w name) ≡ true) →
    HasPins kind (pinned_for w kind)
has-pins w (PutJob name bytes) h = refl
has-pins w (GetJob name) h = (let f = is_some-at (file_in w name) (h name refl) in
    (pinned_file w f.0, ap (pin_found (pinned_file w)) f.1))
has-pins w (DropJob name) h = refl
has-pins w kind h = tt

-- What holds of records that were accepted one after the other.
use Rattle.record_defs.proofs.Words.{◌≡◌, suc, ◌<◌, ◌≤◌, ◌==◌, true, false, ◌⊎◌, List, [], ◌∷◌, length, Option, Some, None, refl, sym, ap, subst, ◌∙◌, arith, inl, inr, nat_tests, cases_Bool, Record, SetUp, PutStart, PutDone, Drop, AuditStart, AuditDone, RepairDone, PutDoneIn, Version, Resume, InEffect, RepairDue, File, Due, file_as, profile_in, setup_of, next_id, next_audit, started_as, is_same_name, is_start_of, file_of, files_of, find_file, running_audit, due_of, exceeds, refused, AreAccepted, is_file_id, is_running, is_count_each}
use Rattle.std.specs.Prelude.{ℕ}
use Rattle.record_defs.proofs.FilesLaws.{same-eq, find-files_of}

-- an audit whose repair is due
pub record IsDueOf (rs : List Record) (d : Due) : Type 0 where
  pub above : 1 ≤ d.number
  pub below : d.number < next_audit rs
  pub counts : is_count_each (length d.counts) (setup_of rs) ≡ true
  pub flags : exceeds (setup_of rs) d.counts ≡ true

-- the number of a file in effect
pub record IsFileOf (rs : List Record) (id : ℕ) : Type 0 where
  pub above : 1 ≤ id
  pub below : id < next_id rs
  pub done : started_as rs id ≡ None

-- what holds of the records
pub record AreSound (rs : List Record) : Type 0 where
  pub ids : 1 ≤ next_id rs
  pub audits : 1 ≤ next_audit rs
  pub file : (q : List ℕ) (f : File) → file_of rs q ≡ Some f → IsFileOf rs f.id
  pub one_name : (q p : List ℕ) (f g : File) → file_of rs q ≡ Some f → file_of rs p ≡ Some g → f.id ≡ g.id →
      q ≡ p
  pub started : (id : ℕ) (name : List ℕ) → started_as rs id ≡ Some name → (1 ≤ id) × (id < next_id rs)
  pub running : (k : ℕ) → running_audit rs ≡ Some k → (1 ≤ k) × (k < next_audit rs)
  pub due : (d : Due) → due_of rs ≡ Some d → IsDueOf rs d

-- the next numbers never fall
pub next_id-more : (rs : List Record) (r : Record) → AreSound rs → refused rs r ≡ None →
    next_id rs ≤ next_id (r ∷ rs)
next_id-more rs (SetUp s) S a = omega arith
next_id-more rs (PutStart k name) S a = omega arith
next_id-more rs (PutDone k size) S a = omega arith
next_id-more rs (Drop name) S a = omega arith
next_id-more rs (AuditStart number) S a = omega arith
next_id-more rs (AuditDone number undecided counts) S a = omega arith
next_id-more rs (RepairDone number) S a = omega arith
next_id-more rs (PutDoneIn k size profile) S a = omega arith
next_id-more rs Version S a = omega arith
next_id-more rs (Resume next audit) S a = grind (arith, nat_tests, a, S.ids)
next_id-more rs (InEffect k size profile name) S a = omega arith
next_id-more rs (RepairDue number counts) S a = omega arith

next_audit-more : (rs : List Record) (r : Record) → AreSound rs → refused rs r ≡ None →
    next_audit rs ≤ next_audit (r ∷ rs)
next_audit-more rs (SetUp s) S a = omega arith
next_audit-more rs (PutStart k name) S a = omega arith
next_audit-more rs (PutDone k size) S a = omega arith
next_audit-more rs (Drop name) S a = omega arith
next_audit-more rs (AuditStart number) S a = omega arith
next_audit-more rs (AuditDone number undecided counts) S a = omega arith
next_audit-more rs (RepairDone number) S a = omega arith
next_audit-more rs (PutDoneIn k size profile) S a = omega arith
next_audit-more rs Version S a = omega arith
next_audit-more rs (Resume next audit) S a = grind (arith, nat_tests, a, S.audits)
next_audit-more rs (InEffect k size profile name) S a = omega arith
next_audit-more rs (RepairDue number counts) S a = omega arith

-- the name of the start that a put's end is of
pub start_name : (q : List ℕ) (o : Option (List ℕ)) → is_start_of q o ≡ true →
    (name : List ℕ) × (o ≡ Some name) × (q ≡ name)
start_name q None h = absurd cc
start_name q (Some name) h = (name, refl, sym (same-eq name q h))

-- the name under which a record of a packed journal keeps a file
abbrev pub kept_name : Record → Option (List ℕ)
kept_name (InEffect id size profile name) = Some name
kept_name r = None

-- a file in effect under more records was so before, or is new: its number was that of a start under the
-- name, or was not in use
pub data Came_from (rs : List Record) (r : Record) (q : List ℕ) (f : File) : Type 0 where
  before : file_of rs q ≡ Some f → Came_from rs r q f
  put : started_as rs f.id ≡ Some q → started_as (r ∷ rs) f.id ≡ None → Came_from rs r q f
  packed : kept_name r ≡ Some q → is_file_id (files_of rs) f.id ≡ false → 1 ≤ f.id → f.id < next_id rs →
      started_as rs f.id ≡ None → Came_from rs r q f

id_of : (a b : File) → Some a ≡ Some b → a.id ≡ b.id
id_of a b e = cc

came_from : (rs : List Record) (r : Record) (q : List ℕ) (f : File) → refused rs r ≡ None →
    file_of (r ∷ rs) q ≡ Some f → Came_from rs r q f
came_from rs (SetUp s) q f a h = Came_from.before h
came_from rs (PutStart k name) q f a h = Came_from.before h
came_from rs (PutDone k size) q f a h = put_came (cases_Bool (is_start_of q (started_as rs k)))
  where
    put_came : (is_start_of q (started_as rs k) ≡ true) ⊎ (is_start_of q (started_as rs k) ≡ false) →
        Came_from rs (PutDone k size) q f
    put_came (inl t) = (let n = start_name q (started_as rs k) t in
        let same : k ≡ f.id = id_of (file_as q k size (profile_in (setup_of rs))) f (grind (arith, t, h)) in
        Came_from.put (ap (started_as rs) (sym same) ∙ (n.1 ∙ ap Some (sym n.2)))
        (grind (arith, nat_tests, same)))
    put_came (inr o) = Came_from.before (grind (arith, o, h))
came_from rs (Drop name) q f a h = Came_from.before (grind (arith, h))
came_from rs (AuditStart number) q f a h = Came_from.before h
came_from rs (AuditDone number undecided counts) q f a h = Came_from.before h
came_from rs (RepairDone number) q f a h = Came_from.before h
came_from rs (PutDoneIn k size profile) q f a h = put_came (cases_Bool (is_start_of q (started_as rs k)))
  where
    put_came : (is_start_of q (started_as rs k) ≡ true) ⊎ (is_start_of q (started_as rs k) ≡ false) →
        Came_from rs (PutDoneIn k size profile) q f
    put_came (inl t) = (let n = start_name q (started_as rs k) t in
        let same : k ≡ f.id = id_of (file_as q k size profile) f (grind (arith, t, h)) in
        Came_from.put (ap (started_as rs) (sym same) ∙ (n.1 ∙ ap Some (sym n.2)))
        (grind (arith, nat_tests, same)))
    put_came (inr o) = Came_from.before (grind (arith, o, h))
came_from rs Version q f a h = Came_from.before h
came_from rs (Resume next audit) q f a h = Came_from.before h
came_from rs (InEffect k size profile name) q f a h = kept_came (cases_Bool (is_same_name name q))
  where
    kept_came : (is_same_name name q ≡ true) ⊎ (is_same_name name q ≡ false) →
        Came_from rs (InEffect k size profile name) q f
    kept_came (inl t) = (let same : k ≡ f.id = id_of (file_as q k size profile) f (grind (arith, t, h)) in
        let free : is_file_id (files_of rs) k ≡ false = grind (arith, nat_tests, a) in
        let above : 1 ≤ k = grind (arith, nat_tests, a) in
        let below : k < next_id rs = grind (arith, nat_tests, a) in
        let unstarted : started_as rs k ≡ None = grind (arith, nat_tests, a) in
        Came_from.packed (ap Some (same-eq name q t)) (ap (is_file_id (files_of rs)) (sym same) ∙ free)
        (omega (arith, same, above)) (omega (arith, same, below)) (ap (started_as rs) (sym same) ∙ unstarted))
    kept_came (inr o) = Came_from.before (grind (arith, o, h))
came_from rs (RepairDue number counts) q f a h = Came_from.before h

-- a number below the next one that is not started stays so
unstarted-more : (rs : List Record) (r : Record) (id : ℕ) → refused rs r ≡ None → id < next_id rs →
    started_as rs id ≡ None → started_as (r ∷ rs) id ≡ None
unstarted-more rs (SetUp s) id a l h = h
unstarted-more rs (PutStart k name) id a l h = grind (arith, nat_tests, a, l, h)
unstarted-more rs (PutDone k size) id a l h = grind (arith, nat_tests, a, l, h)
unstarted-more rs (Drop name) id a l h = h
unstarted-more rs (AuditStart number) id a l h = h
unstarted-more rs (AuditDone number undecided counts) id a l h = h
unstarted-more rs (RepairDone number) id a l h = h
unstarted-more rs (PutDoneIn k size profile) id a l h = grind (arith, nat_tests, a, l, h)
unstarted-more rs Version id a l h = h
unstarted-more rs (Resume next audit) id a l h = h
unstarted-more rs (InEffect k size profile name) id a l h = h
unstarted-more rs (RepairDue number counts) id a l h = h

-- a number that is started is drawn
started-more : (rs : List Record) (r : Record) → AreSound rs → refused rs r ≡ None →
    (id : ℕ) (name : List ℕ) → started_as (r ∷ rs) id ≡ Some name → (1 ≤ id) × (id < next_id (r ∷ rs))
started-more rs (SetUp s) S a id name h = S.started id name h
started-more rs (PutStart k n) S a id name h = drew (cases_Bool (k == id))
  where
    drew : ((k == id) ≡ true) ⊎ ((k == id) ≡ false) → (1 ≤ id) × (id < suc (next_id rs))
    drew (inl t) = (let e : id ≡ next_id rs = grind (arith, nat_tests, a, t) in
        (omega (arith, e, S.ids), omega (arith, e)))
    drew (inr f) = (let p = S.started id name (grind (arith, f, h)) in (p.0, omega (arith, p.1)))
started-more rs (PutDone k size) S a id name h =
    (let e : started_as rs id ≡ Some name = grind (arith, h) in S.started id name e)
started-more rs (Drop n) S a id name h = S.started id name h
started-more rs (AuditStart number) S a id name h = S.started id name h
started-more rs (AuditDone number undecided counts) S a id name h = S.started id name h
started-more rs (RepairDone number) S a id name h = S.started id name h
started-more rs (PutDoneIn k size profile) S a id name h =
    (let e : started_as rs id ≡ Some name = grind (arith, h) in S.started id name e)
started-more rs Version S a id name h = S.started id name h
started-more rs (Resume next audit) S a id name h =
    (let p = S.started id name h in let one : next_id rs ≡ 1 = grind (arith, nat_tests, a) in
    absurd (omega (arith, p.0, p.1, one)))
started-more rs (InEffect k size profile n) S a id name h = S.started id name h
started-more rs (RepairDue number counts) S a id name h = S.started id name h

-- an audit that runs is drawn
running-more : (rs : List Record) (r : Record) → AreSound rs → refused rs r ≡ None → (k : ℕ) →
    running_audit (r ∷ rs) ≡ Some k → (1 ≤ k) × (k < next_audit (r ∷ rs))
running-more rs (SetUp s) S a k h = S.running k h
running-more rs (PutStart id name) S a k h = S.running k h
running-more rs (PutDone id size) S a k h = S.running k h
running-more rs (Drop name) S a k h = S.running k h
running-more rs (AuditStart number) S a k h =
    (let e : number ≡ next_audit rs = grind (arith, nat_tests, a) in let f : number ≡ k = cc in
    (omega (arith, e, f, S.audits), omega (arith, e, f)))
running-more rs (AuditDone number undecided counts) S a k h = absurd cc
running-more rs (RepairDone number) S a k h = S.running k h
running-more rs (PutDoneIn id size profile) S a k h = S.running k h
running-more rs Version S a k h = S.running k h
running-more rs (Resume next audit) S a k h =
    (let p = S.running k h in let one : next_audit rs ≡ 1 = grind (arith, nat_tests, a) in
    absurd (omega (arith, p.0, p.1, one)))
running-more rs (InEffect id size profile name) S a k h = S.running k h
running-more rs (RepairDue number counts) S a k h = S.running k h

running_is : (number : ℕ) (o : Option ℕ) → is_running number o ≡ true → o ≡ Some number
running_is number None p = absurd cc
running_is number (Some k) p = grind (arith, nat_tests, p)

due_still : (rs qs : List Record) (d : Due) → setup_of qs ≡ setup_of rs → next_audit rs ≤ next_audit qs →
    IsDueOf rs d → IsDueOf qs d
due_still rs qs d same le is = record {
  above = is.above;
  below = omega (arith, is.below, le);
  counts = ap (is_count_each (length d.counts)) same ∙ is.counts;
  flags = ap (λ s. exceeds s d.counts) same ∙ is.flags;
}

-- a due audit is drawn, has a count for each provider, and flags one
due-more : (rs : List Record) (r : Record) → AreSound rs → refused rs r ≡ None → (d : Due) →
    due_of (r ∷ rs) ≡ Some d → IsDueOf (r ∷ rs) d
due-more rs (SetUp s) S a d h =
    absurd (let e : setup_of rs ≡ None = grind (arith, a) in let p = (S.due d h).counts in
    grind (arith, e, p))
due-more rs (PutStart k name) S a d h =
    due_still rs (PutStart k name ∷ rs) d refl (next_audit-more rs (PutStart k name) S a) (S.due d h)
due-more rs (PutDone k size) S a d h =
    due_still rs (PutDone k size ∷ rs) d refl (next_audit-more rs (PutDone k size) S a) (S.due d h)
due-more rs (Drop name) S a d h =
    due_still rs (Drop name ∷ rs) d refl (next_audit-more rs (Drop name) S a) (S.due d h)
due-more rs (AuditStart number) S a d h =
    due_still rs (AuditStart number ∷ rs) d refl (next_audit-more rs (AuditStart number) S a) (S.due d h)
due-more rs (AuditDone number undecided counts) S a d h = ended (cases_Bool (exceeds (setup_of rs) counts))
  where
    ended : (exceeds (setup_of rs) counts ≡ true) ⊎ (exceeds (setup_of rs) counts ≡ false) →
        IsDueOf (AuditDone number undecided counts ∷ rs) d
    ended (inl t) = (let runs : is_running number (running_audit rs) ≡ true = grind (arith, a) in
        let p = S.running number (running_is number (running_audit rs) runs) in
        let each : is_count_each (length counts) (setup_of rs) ≡ true = grind (arith, a) in
        let same : record { number = number; counts = counts } ≡ d =
        (let e : Some (record { number = number; counts = counts }) ≡ Some d = grind (arith, t, h) in cc) in
        subst (λ (x : Due). IsDueOf (AuditDone number undecided counts ∷ rs) x) same
        (record { above = p.0; below = p.1; counts = each; flags = t }))
    ended (inr o) = due_still rs (AuditDone number undecided counts ∷ rs) d refl (omega arith)
        (S.due d (grind (arith, o, h)))
due-more rs (RepairDone number) S a d h = absurd cc
due-more rs (PutDoneIn k size profile) S a d h = due_still rs (PutDoneIn k size profile ∷ rs) d refl
    (next_audit-more rs (PutDoneIn k size profile) S a) (S.due d h)
due-more rs Version S a d h = due_still rs (Version ∷ rs) d refl (next_audit-more rs Version S a) (S.due d h)
due-more rs (Resume next audit) S a d h =
    (let p = S.due d h in let one : next_audit rs ≡ 1 = grind (arith, nat_tests, a) in
    absurd (omega (arith, p.above, p.below, one)))
due-more rs (InEffect k size profile name) S a d h = due_still rs (InEffect k size profile name ∷ rs) d refl
    (next_audit-more rs (InEffect k size profile name) S a) (S.due d h)
due-more rs (RepairDue number counts) S a d h = (let same : record { number = number; counts = counts } ≡ d
    = (let e : Some (record { number = number; counts = counts }) ≡ Some d = h in cc) in
    subst (λ (x : Due). IsDueOf (RepairDue number counts ∷ rs) x) same
    (record {
      above = grind (arith, nat_tests, a);
      below = grind (arith, nat_tests, a);
      counts = grind (arith, nat_tests, a);
      flags = grind (arith, nat_tests, a);
    }))

-- the number of a file that is found is one of theirs
found_id : (fs : List File) (q : List ℕ) (f : File) → find_file fs q ≡ Some f → is_file_id fs f.id ≡ true
found_id [] q f h = absurd cc
found_id (g ∷ fs) q f h = at (cases_Bool (is_same_name g.name q)) (found_id fs q f)
  where
    at : (is_same_name g.name q ≡ true) ⊎ (is_same_name g.name q ≡ false) →
        (find_file fs q ≡ Some f → is_file_id fs f.id ≡ true) → is_file_id (g ∷ fs) f.id ≡ true
    at (inl t) more = (let e : g.id ≡ f.id = id_of g f (grind (arith, t, h)) in grind (arith, nat_tests, e))
    at (inr o) more = (let e : is_file_id fs f.id ≡ true = more (grind (arith, o, h)) in grind (arith, e))

file_id : (rs : List Record) (q : List ℕ) (f : File) → file_of rs q ≡ Some f →
    is_file_id (files_of rs) f.id ≡ true
file_id rs q f h = found_id (files_of rs) q f (find-files_of rs q ∙ h)

same_some : (a b : List ℕ) (o : Option (List ℕ)) → o ≡ Some a → o ≡ Some b → a ≡ b
same_some a b o p q = (let e : Some a ≡ Some b = sym p ∙ q in cc)

none_some : (a : List ℕ) (o : Option (List ℕ)) → o ≡ None → o ≡ Some a → ⊥
none_some a o p q = (let e : None ≡ Some a = sym p ∙ q in cc)

no_id : (rs : List Record) (n : ℕ) → is_file_id (files_of rs) n ≡ false → is_file_id (files_of rs) n ≡ true →
    ⊥
no_id rs n p q = grind (arith, p, q)

-- records stay sound with one more
pub sound-more : (rs : List Record) (r : Record) → refused rs r ≡ None → AreSound rs → AreSound (r ∷ rs)
sound-more rs r a S = record {
  ids = omega (arith, S.ids, next_id-more rs r S a);
  audits = omega (arith, S.audits, next_audit-more rs r S a);
  file = λ q f h. file_is q f (came_from rs r q f a h);
  one_name = λ q p f g hf hg same. one q p f g (came_from rs r q f a hf) (came_from rs r p g a hg) same;
  started = started-more rs r S a;
  running = running-more rs r S a;
  due = due-more rs r S a;
}
  where
    grows : next_id rs ≤ next_id (r ∷ rs)
    grows = next_id-more rs r S a

    file_is : (q : List ℕ) (f : File) → Came_from rs r q f → IsFileOf (r ∷ rs) f.id
    file_is q f (Came_from.before h) = (let p = S.file q f h in
        record {
          above = p.above;
          below = omega (arith, p.below, grows);
          done = unstarted-more rs r f.id a p.below p.done;
        })
    file_is q f (Came_from.put was gone) = (let p = S.started f.id q was in
        record { above = p.0; below = omega (arith, p.1, grows); done = gone })
    file_is q f (Came_from.packed named free above below unstarted) =
        record {
          above = above;
          below = omega (arith, below, grows);
          done = unstarted-more rs r f.id a below unstarted;
        }

    clash : (q p : List ℕ) (f g : File) → file_of rs q ≡ Some f → started_as rs g.id ≡ Some p → f.id ≡ g.id →
        ⊥
    clash q p f g h st same =
        none_some p (started_as rs f.id) (S.file q f h).done (ap (started_as rs) same ∙ st)

    one : (q p : List ℕ) (f g : File) → Came_from rs r q f → Came_from rs r p g → f.id ≡ g.id → q ≡ p
    one q p f g (Came_from.before h) (Came_from.before k) same = S.one_name q p f g h k same
    one q p f g (Came_from.before h) (Came_from.put st gone) same = absurd (clash q p f g h st same)
    one q p f g (Came_from.before h) (Came_from.packed named free above below un) same =
        absurd (no_id rs g.id free (ap (is_file_id (files_of rs)) (sym same) ∙ file_id rs q f h))
    one q p f g (Came_from.put st gone) (Came_from.before k) same = absurd (clash p q g f k st (sym same))
    one q p f g (Came_from.put st gone) (Came_from.put st2 gone2) same =
        same_some q p (started_as rs f.id) st (ap (started_as rs) same ∙ st2)
    one q p f g (Came_from.put st gone) (Came_from.packed named free above below un) same =
        absurd (none_some q (started_as rs f.id) (ap (started_as rs) same ∙ un) st)
    one q p f g (Came_from.packed named free above below un) (Came_from.before k) same =
        absurd (no_id rs f.id free (ap (is_file_id (files_of rs)) same ∙ file_id rs p g k))
    one q p f g (Came_from.packed named free above below un) (Came_from.put st gone) same =
        absurd (none_some p (started_as rs g.id) (ap (started_as rs) (sym same) ∙ un) st)
    one q p f g (Came_from.packed named free above below un) (Came_from.packed named2 free2 above2 below2 un2) same =
        same_some q p (kept_name r) named named2

-- a journal without a record is sound
pub sound-none : AreSound []
sound-none = record {
  ids = omega arith;
  audits = omega arith;
  file = λ q f h. absurd (let e : None ≡ Some f = h in cc);
  one_name = λ q p f g h k same. absurd (let e : None ≡ Some f = h in cc);
  started = λ id name h. absurd (let e : None ≡ Some name = h in cc);
  running = λ k h. absurd (let e : None ≡ Some k = h in cc);
  due = λ d h. absurd (let e : None ≡ Some d = h in cc);
}

-- accepted records are sound
pub are_sound : (rs : List Record) → AreAccepted rs → AreSound rs
are_sound [] a = sound-none
are_sound (r ∷ rs) a = sound-more rs r a.0 (are_sound rs a.1)

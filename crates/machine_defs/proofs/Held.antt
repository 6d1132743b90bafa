-- What an audit pinned changes only by replacements while it runs, and what a put has stored is its columns.
use Rattle.machine_defs.proofs.Words.{◌≡◌, zero, suc, ◌≤◌, false, ◌⊎◌, ◌&&◌, refl, ap, sym, subst, ◌∙◌, inl, inr, arith, slice_get, slice_index_or, nat_le, Contains, flat_map, eq-eqb, cases_lt, or_parts, and_from, le-leb, lt-leb, false≢true, Record, Setup, started_as, setup_of, Kind, PutJob, AuditJob, RepairJob, aim_of, Pinned, Job, job_of, Action, WriteBody, SyncBody, WriteGate, SyncGate, Store, Remove, End, append_actions, on_each_provider, on_each_stripe, actions_by, actions_of, object_of, profiled, State, Append, IsStart, setup_in, object_in, Scrub, Scrubbing, is_check, next_action, block_to_store, Moment, now, first_moments, is_replacement, is_replaced_since, IsRun, told_block, HasMadeStore, each_get, In}
use Rattle.std.proofs.Common.{ℕ, ◌+◌, ◌<◌, ◌==◌, true, List, [], ◌∷◌, ◌++◌, length, Option, Some, None}
use Rattle.column_defs.specs.Columns.{columns}
use Rattle.machine_defs.proofs.JobLists.{cond_true, same_value, found_none}
use Rattle.machine_defs.proofs.Changes.{Grown, Job_is, Block_is, Changes}
use Rattle.machine_defs.proofs.Events.{some_told, changes}
use Rattle.machine_defs.proofs.Numbers.{objects, Draws, next_is_by, first_above, drawn_later}
use Rattle.machine_defs.proofs.RecordFacts.{started-less}
use Rattle.machine_defs.proofs.Refused.{none_lone}
use Rattle.machine_defs.proofs.Done.{done-started}
use Rattle.machine_defs.proofs.Fair.{HasPin, IsFair, fair, is_fair, PutAt, put_at, store_place}
use Rattle.machine_defs.proofs.Pins.{pinned_stands, check_alone, Wrote}
use Rattle.machine_defs.proofs.PinFacts.{Pins_is, pins_is, stands_quiet, setup_same, setup_one}
use Rattle.machine_defs.proofs.Numbers as num
use Rattle.machine_defs.proofs.PinFacts as pin

-- what a list contains at some place is in it
pub contains_in : {X : Type 0} (xs : List X) (x : X) → Contains xs x → In x xs
contains_in xs x h = go xs x h.0 h.1 h.2
  where
    go : {X : Type 0} (xs : List X) (x : X) (k : ℕ) → k < length xs → slice_index_or xs k x ≡ x → In x xs
    go [] x k l e = absurd (omega arith)
    go (y ∷ ys) x zero l e = inl (sym e)
    go (y ∷ ys) x (suc k) l e = inr (go ys x k (omega arith) e)

-- one moment more does not change the first ones
pub first_more : (k : ℕ) (m : Moment) (ms : List Moment) → k ≤ length ms →
    first_moments k (m ∷ ms) ≡ first_moments k ms
first_more k m ms l = (rw (lt-leb (suc (length ms)) k (omega arith)) refl)

-- of all moments, as many as there are, are all
pub first_all : (ms : List Moment) → first_moments (length ms) ms ≡ ms
first_all [] = refl
first_all (m ∷ ms) = rw (le-leb (suc (length ms)) (suc (length ms)) (omega arith)) refl

replaced_now : (from j : ℕ) (m : Moment) (ms : List Moment) → from ≤ length ms →
    is_replacement m.event m.outcome j ≡ true → is_replaced_since from j (m ∷ ms) ≡ false → ⊥
replaced_now from j m ms l h none =
    false≢true (sym (or_parts (is_replacement m.event m.outcome j && nat_le from (length ms))
    (is_replaced_since from j ms) none).0 ∙ and_from _ _ h (le-leb from (length ms) l))

-- a provider that is not replaced up to an event was not replaced before it
pub replaced_before : (from j : ℕ) (m : Moment) (ms : List Moment) →
    is_replaced_since from j (m ∷ ms) ≡ false → is_replaced_since from j ms ≡ false
replaced_before from j m ms none = (or_parts (is_replacement m.event m.outcome j && nat_le from (length ms))
    (is_replaced_since from j ms) none).1

-- a store of another kind of job than a put or a repair there is not
pub store_kinds : (job : Job) (kind : Kind) (i o s : ℕ) → job.kind ≡ kind → IsFair job kind (Store i o s) →
    ((name : List ℕ) × (bytes : List ℕ) × (job.kind ≡ PutJob name bytes) × (o ≡ job.subject)) ⊎
    ((job.kind ≡ RepairJob) × HasPin job o)
store_kinds job (PutJob name bytes) i o s is h = inl (name, bytes, is, h)
store_kinds job RepairJob i o s is h = inr (is, h)
store_kinds job kind i o s is h = absurd h

-- a job of any kind removes only the object that it takes away
pub remove_kinds : (job : Job) (kind : Kind) (i o : ℕ) → job.kind ≡ kind → IsFair job kind (Remove i o) →
    In o job.older
remove_kinds job (PutJob name bytes) i o is h = h
remove_kinds job kind i o is h = h

-- ---- the actions of a put

-- the actions of a job, by its kind
pub actions_are : (s : Setup) (job : Job) (kind : Kind) → job.kind ≡ kind →
    actions_of s job ≡ actions_by s job kind
unfolding actions_of
actions_are s job kind is = ap (actions_by s job) is

-- what a put has stored is under its own number, and is not among its first four actions
made_own : (s : Setup) (w : State) (job : Job) (name bytes : List ℕ) (i o st p : ℕ) → s ≡ setup_in w →
    job.kind ≡ PutJob name bytes → slice_get (actions_of s job) p ≡ Some (Store i o st) →
    (4 ≤ p) × (o ≡ job.subject)
made_own s w job name bytes i o st p same kind h =
    (let h2 : slice_get (actions_by s job (PutJob name bytes)) p ≡ Some (Store i o st) =
    ap (λ l. slice_get l p) (sym (actions_are s job (PutJob name bytes) kind)) ∙ h in (
      late (put_at w job name bytes p (Store i o st)
          (subst (λ x. slice_get (actions_by x job (PutJob name bytes)) p ≡ Some (Store i o st)) same h2)),
      each_get (IsFair job (PutJob name bytes)) (actions_by s job (PutJob name bytes)) p (Store i o st)
          (fair s job (PutJob name bytes)) h2,
    ))
  where
    late : PutAt w job bytes p (Store i o st) → 4 ≤ p
    late (PutAt.first l e) = elim (cases_lt p 4) [ inl k ↦ absurd (no_first p l e) | inr k ↦ k ]
      where
        no_first : (q : ℕ) → q < 4 → slice_get append_actions q ≡ Some (Store i o st) → ⊥
        no_first zero l e = (let f : Some WriteBody ≡ Some (Store i o st) = e in cc)
        no_first (suc zero) l e = (let f : Some SyncBody ≡ Some (Store i o st) = e in cc)
        no_first (suc (suc zero)) l e = (let f : Some WriteGate ≡ Some (Store i o st) = e in cc)
        no_first (suc (suc (suc zero))) l e = (let f : Some SyncGate ≡ Some (Store i o st) = e in cc)
        no_first (suc (suc (suc (suc q)))) l e = absurd (omega arith)
    late (PutAt.store l k is) = l
    late (PutAt.second q is l e) = omega arith
    late (PutAt.after l is) = omega arith

-- the actions of a put hang on its number and on the object that it takes away
abbrev put_parts : Setup → ℕ → ℕ → List ℕ → List ℕ → List Action
put_parts t p n l b = append_actions ++ (on_each_stripe (profiled t p) (length b)
    (λ stripe. on_each_provider t (λ j. Store j n stripe)) ++
    (append_actions ++ (flat_map (λ object. on_each_provider t (λ j. Remove j object)) l ++ End ∷ [])))

parts_are : (t : Setup) (x : Job) (b n : List ℕ) →
    actions_by t x (PutJob n b) ≡ put_parts t x.profile x.subject x.older b
parts_are t x b n = refl

put_actions : (s : Setup) (i j : Job) (name bytes : List ℕ) → i.kind ≡ PutJob name bytes →
    j.kind ≡ PutJob name bytes → j.subject ≡ i.subject → j.profile ≡ i.profile → j.older ≡ i.older →
    actions_of s j ≡ actions_of s i
put_actions s i j name bytes ki kj subject profile older = actions_are s j (PutJob name bytes) kj
    ∙ (parts_are s j bytes name
    ∙ (ap (λ p. put_parts s p j.subject j.older bytes) profile
    ∙ (ap (λ n. put_parts s i.profile n j.older bytes) subject
    ∙ (ap (λ l. put_parts s i.profile i.subject l bytes) older
    ∙ sym (actions_are s i (PutJob name bytes) ki ∙ parts_are s i bytes name)))))

-- ---- facts

-- what holds at each moment: begins lie behind, audited blocks stay, and stored ones are the columns
pub record Facts (start : State) (ms : List Moment) : Type 0 where
  pub begun : (k : ℕ) (j : Job) → job_of (now start ms).jobs k ≡ Some j → j.begun ≤ length ms
  pub audited : (k : ℕ) (j : Job) (f : Pinned) (i s : ℕ) → job_of (now start ms).jobs k ≡ Some j →
      j.kind ≡ AuditJob → In f j.pinned → is_replaced_since j.begun i ms ≡ false →
      told_block (now start ms) i f.id s ≡ told_block (now start (first_moments j.begun ms)) i f.id s
  pub stored : (k : ℕ) (j : Job) (name bytes : List ℕ) (i o s : ℕ) (b : Option (List ℕ)) →
      job_of (now start ms).jobs k ≡ Some j → j.kind ≡ PutJob name bytes →
      started_as (now start ms).records j.subject ≡ Some name →
      HasMadeStore (setup_in (now start ms)) j i o s → is_replaced_since j.begun i ms ≡ false →
      told_block (now start ms) i o s ≡ Some b →
      b ≡ Some (columns (object_in (now start ms) j.profile o) bytes i s)

module _ (limit : ℕ) (start : State) (m : Moment) (ms : List Moment) (N : num.Facts objects start ms)
    (P : pin.Facts start ms) (F : Facts start ms)
    (X : Changes limit (length ms) (now start ms) m.event m.outcome m.state) where
  abbrev old : State
  old = now start ms

  begun_step : (k : ℕ) (j : Job) → job_of m.state.jobs k ≡ Some j → j.begun ≤ suc (length ms)
  begun_step k j h = elim (pins_is limit start m ms N P X k j h) [
    | Pins_is.had x runs pinned kind begun g ↦ (omega (arith, F.begun k x runs))
    | Pins_is.new_one kind wish is k_is allowed rec ↦ (omega (arith, ap (λ (x : Job). x.begun) is))
  ]

  -- a block of an object that no put stores, no repair works on and no job takes away stays, unless its
  -- provider is replaced
  safe_block : (i o s : ℕ) → ((scrub : Scrub) → old.alone ≡ Some (Scrubbing scrub) → ⊥) →
      started_as old.records o ≡ None →
      ((x : Job) → job_of old.jobs x.number ≡ Some x → x.kind ≡ RepairJob → HasPin x o → ⊥) →
      ((x : Job) → job_of old.jobs x.number ≡ Some x → In o x.older → ⊥) →
      (told_block m.state i o s ≡ told_block old i o s) ⊎ (is_replacement m.event m.outcome i ≡ true)
  safe_block i o s no_scrub quiet no_repair no_older = elim (X.block i o s) [
    | Block_is.same e ↦ inl e
    | Block_is.replaced r ↦ inr r
    | Block_is.stored x runs next_is is ↦
        absurd (elim (store_kinds x x.kind i o s refl (is_fair old x (Store i o s) next_is)) [
          | inl p ↦ (let place = store_place old x p.0 p.1 i o s p.2 next_is in
              let st = P.started x.number x p.0 p.1 runs p.2 place.0 (let l = place.1 in omega arith) in
              let z : None ≡ Some p.0 = sym quiet ∙ (ap (started_as old.records) p.3 ∙ st) in cc)
          | inr q ↦ no_repair x runs q.0 q.1
        ])
    | Block_is.scrubbed scrub rest alone next_is is ↦ absurd (no_scrub scrub alone)
    | Block_is.removed x runs next_is ↦ absurd
        (no_older x runs (remove_kinds x x.kind i o refl (is_fair old x (Remove i o) next_is)))
  ]

  audited_step : (k : ℕ) (j : Job) (f : Pinned) (i s : ℕ) → job_of m.state.jobs k ≡ Some j →
      j.kind ≡ AuditJob → In f j.pinned → is_replaced_since j.begun i (m ∷ ms) ≡ false →
      told_block m.state i f.id s ≡ told_block (now start (first_moments j.begun (m ∷ ms))) i f.id s
  audited_step k j f i s h kind in_f none = elim (pins_is limit start m ms N P X k j h) [
    | Pins_is.had x runs pinned kind_x begun g ↦ (let in_x : In f x.pinned = subst (In f) pinned in_f in
        let kx : x.kind ≡ AuditJob = sym kind_x ∙ kind in
        let none_x : is_replaced_since x.begun i (m ∷ ms) ≡ false =
        subst (λ n. is_replaced_since n i (m ∷ ms) ≡ false) begun none in
        let back : told_block old i f.id s
        ≡ told_block (now start (first_moments j.begun (m ∷ ms))) i f.id s =
        F.audited k x f i s runs kx in_x (replaced_before x.begun i m ms none_x)
        ∙ ap (λ hs. told_block (now start hs) i f.id s)
        (sym (ap (λ n. first_moments n (m ∷ ms)) begun ∙ first_more x.begun m ms (F.begun k x runs))) in
        elim (safe_block i f.id s
        (λ scrub alone. found_none old.jobs k x (N.idle.lone (Scrubbing scrub) alone) runs)
        (P.pins k x f runs in_x).1
        (λ y runs_y ky pin_y. (let same : y.number ≡ k =
        P.checks y.number k y x runs_y runs (ap (λ kd. is_check (aim_of kd)) ky)
        (ap (λ kd. is_check (aim_of kd)) kx) in
        let e : y ≡ x = same_value _ y x (subst (λ n. job_of old.jobs n ≡ Some y) same runs_y)
        runs in
        let z : RepairJob ≡ AuditJob = sym ky ∙ (ap (λ (q : Job). q.kind) e ∙ kx) in cc))
        (λ y runs_y in_y. P.older_free y.number k y x f.id f runs_y in_y runs in_x refl)) [
          | inl e ↦ e ∙ back
          | inr r ↦ absurd (replaced_now x.begun i m ms (F.begun k x runs) r none_x)
        ])
    | Pins_is.new_one kd wish is k_is allowed rec ↦
        (let st = pinned_stands old kd f (subst (λ (x : Job). In f x.pinned) is in_f) in
        let begun : j.begun ≡ length ms = ap (λ (x : Job). x.begun) is in
        let kind_is : kd ≡ AuditJob = sym (ap (λ (x : Job). x.kind) is) ∙ kind in
        elim (safe_block i f.id s
        (λ scrub alone. (let z : None ≡ Some (Scrubbing scrub) =
        sym (none_lone limit old kd wish allowed) ∙ alone in cc)) (stands_quiet limit start m ms N P X f st).1
        (λ y runs_y ky pin_y. false≢true (sym (check_alone limit old kd wish allowed
        (ap (λ kd. is_check (aim_of kd)) kind_is) y.number y runs_y)
        ∙ ap (λ kd. is_check (aim_of kd)) ky))
        (λ y runs_y in_y. P.older_out y.number y f.id st.name st.file runs_y in_y st.in_effect
        (sym (ap (λ (x : Pinned). x.id) st.is)))) [
          | inl e ↦ e ∙ ap (λ hs. told_block (now start hs) i f.id s)
              (sym (ap (λ n. first_moments n (m ∷ ms)) begun
              ∙ (first_more (length ms) m ms (omega arith) ∙ first_all ms)))
          | inr r ↦ absurd (replaced_now j.begun i m ms (omega arith) r none)
        ])
  ]

  -- a block that a put had stored is still its column
  carry : (k : ℕ) (x : Job) (name bytes : List ℕ) (i o s : ℕ) (b : Option (List ℕ)) →
      job_of old.jobs k ≡ Some x → x.kind ≡ PutJob name bytes → started_as old.records x.subject ≡ Some name →
      HasMadeStore (setup_in old) x i o s → is_replaced_since x.begun i (m ∷ ms) ≡ false →
      told_block m.state i o s ≡ Some b → b ≡ Some (columns (object_in old x.profile o) bytes i s)
  carry k x name bytes i o s b runs kind st made none told = (let own = made_own (setup_in old) old x name
      bytes i o s made.place refl kind made.action in
      let late : 4 ≤ x.place = (let l = made.made in let g = own.0 in omega arith) in
      let st_o : started_as old.records o ≡ Some name =
      ap (started_as old.records) own.1 ∙ st in elim (X.block i o s) [
        | Block_is.same e ↦ F.stored k x name bytes i o s b runs kind st made
            (replaced_before x.begun i m ms none) (sym e ∙ told)
        | Block_is.replaced r ↦ absurd (replaced_now x.begun i m ms (F.begun k x runs) r none)
        | Block_is.stored y runs_y next_is is ↦
            elim (store_kinds y y.kind i o s refl (is_fair old y (Store i o s) next_is)) [
              | inl p ↦ (let place = store_place old y p.0 p.1 i o s p.2 next_is in
                  let same : y.number ≡ k = N.apart y.number k y x runs_y runs
                  (subst (Draws objects) (sym p.2) tt, place.0) (subst (Draws objects) (sym kind) tt, late)
                  (sym p.3 ∙ own.1) in
                  let e : y ≡ x = same_value _ y x
                  (subst (λ n. job_of old.jobs n ≡ Some y) same runs_y) runs in
                  some_told (block_to_store old y y.kind i o s) (old.providers i).held b (sym is ∙ told)
                  ∙ ap Some (ap (λ kd. block_to_store old y kd i o s) (ap (λ (q : Job). q.kind) e ∙ kind)
                  ∙ ap (λ p. columns (object_in old p o) bytes i s) (ap (λ (q : Job). q.profile) e)))
              | inr q ↦ absurd (let z = (P.pins y.number y q.1.file runs_y q.1.pinned).1 in
                  let f : None ≡ Some name = sym z ∙ (ap (started_as old.records) q.1.id_is ∙ st_o) in cc)
            ]
        | Block_is.scrubbed scrub rest alone next_is is ↦
            absurd (found_none old.jobs k x (N.idle.lone (Scrubbing scrub) alone) runs)
        | Block_is.removed y runs_y next_is ↦
            absurd (let z = (P.older y.number y o runs_y
            (remove_kinds y y.kind i o refl (is_fair old y (Remove i o) next_is))).1 in
            let f : None ≡ Some name = sym z ∙ st_o in cc)
      ])

  columns_now : (p q o i s : ℕ) (bytes : List ℕ) (b : Option (List ℕ)) → p ≡ q →
      setup_of m.state.records ≡ setup_of old.records → b ≡ Some (columns (object_in old p o) bytes i s) →
      b ≡ Some (columns (object_in m.state q o) bytes i s)
  columns_now p q o i s bytes b same e h = h
      ∙ (ap (λ t. Some (columns (object_of (profiled t p) o) bytes i s)) (sym (setup_same m.state old e))
      ∙ ap (λ x. Some (columns (object_of (profiled (setup_in m.state) x) o) bytes i s)) same)

  made_back : (x j : Job) (name bytes : List ℕ) (i o s : ℕ) →
      setup_of m.state.records ≡ setup_of old.records → x.kind ≡ PutJob name bytes →
      j.kind ≡ PutJob name bytes → j.subject ≡ x.subject → j.profile ≡ x.profile → j.older ≡ x.older →
      (h : HasMadeStore (setup_in m.state) j i o s) →
      slice_get (actions_of (setup_in old) x) h.place ≡ Some (Store i o s)
  made_back x j name bytes i o s e kx kj subject profile older h = ap (λ l. slice_get l h.place)
      (sym (put_actions (setup_in old) x j name bytes kx kj subject profile older)
      ∙ ap (λ t. actions_of t j) (sym (setup_same m.state old e))) ∙ h.action

  -- a job of a put, and a store of it that was made and not replaced
  module _ (k : ℕ) (j : Job) (name bytes : List ℕ) (i o s : ℕ) (b : Option (List ℕ))
      (h : job_of m.state.jobs k ≡ Some j) (kind : j.kind ≡ PutJob name bytes)
      (st : started_as m.state.records j.subject ≡ Some name)
      (made : HasMadeStore (setup_in m.state) j i o s) (none : is_replaced_since j.begun i (m ∷ ms) ≡ false)
      (told : told_block m.state i o s ≡ Some b) where
    next_of : (x : Job) → x.kind ≡ PutJob name bytes → slice_get (actions_of (setup_in old) x) x.place ≡ Some
        (Store i o s) → next_action old x ≡ Some (Store i o s)
    next_of x kx h = next_is_by old x ∙ (ap (λ kd. num.next_by old x kd x.place) kx
        ∙ (ap (λ l. slice_get l x.place) (sym (actions_are (setup_in old) x (PutJob name bytes) kx)) ∙ h))

    done_now : (x : Job) (a : Append) → 4 ≤ x.place → j.subject ≡ x.subject →
        m.state.records ≡ a.entry ∷ old.records → Wrote x (PutJob name bytes) a.entry → ⊥
    done_now x a late subject rec (inl w) = omega (arith, w.0)
    done_now x a late subject rec (inr w) =
        (let z = sym (ap (λ rs. started_as rs j.subject) (rec ∙ ap (λ (r : Record). r ∷
        old.records) w.1.1) ∙ done-started w.1.0 x.subject (length bytes) x.profile old.records j.subject
        ∙ cond_true (x.subject == j.subject) None (started_as old.records j.subject)
        (eq-eqb x.subject j.subject (sym subject))) ∙ st in cc)

    stored_step : b ≡ Some (columns (object_in m.state j.profile o) bytes i s)
    stored_step = elim (X.job k j h) [
      | Job_is.kept r (Grown.as_before rec) ↦ columns_now j.profile j.profile o i s bytes b refl
          (ap setup_of rec) (carry k j name bytes i o s b r kind
          (ap (λ rs. started_as rs j.subject) (sym rec) ∙ st) (record {
            place = made.place;
            made = made.made;
            action = made_back j j name bytes i o s (ap setup_of rec) kind kind refl refl refl made;
          }) none
          told)
      | Job_is.kept r (Grown.by_other x a runs next_is flight mine other rec) ↦
          (let e = setup_one limit start m ms N P X a x flight runs mine rec in
          let own = made_own (setup_in m.state) m.state j name bytes i o s made.place refl kind made.action in
          let below = N.below k j r
          (subst (Draws objects) (sym kind) tt, (let l = made.made in let g = own.0 in omega arith)) in
          columns_now j.profile j.profile o i s bytes b refl e (carry k j name bytes i o s b r kind
          (started-less old.records a.entry j.subject name (P.append_proper a flight) below
          (ap (λ rs. started_as rs j.subject) (sym rec) ∙ st))
          (record {
            place = made.place;
            made = made.made;
            action = made_back j j name bytes i o s e kind kind refl refl refl made;
          }) none told))
      | Job_is.begun kd profile is k_is allowed rec ↦
          absurd (let e : j.place ≡ 0 = ap (λ (x : Job). x.place) is in let l = made.made in omega arith)
      | Job_is.plain x action runs next_is is_plain goes rec stores_it ↦
          (let kx : x.kind ≡ PutJob name bytes = sym goes.kind ∙ kind in
          let act = made_back x j name bytes i o s (ap setup_of rec) kx kind goes.subject goes.profile
          goes.older made in
          columns_now x.profile j.profile o i s bytes b (sym goes.profile) (ap setup_of rec)
          (elim (cases_lt made.place x.place) [
            | inl l ↦ carry k x name bytes i o s b runs kx (ap (λ rs. started_as rs x.subject) (sym rec)
                ∙ (ap (started_as m.state.records) (sym goes.subject) ∙ st))
                (record { place = made.place; made = l; action = act })
                (subst (λ n. is_replaced_since n i (m ∷ ms) ≡ false) goes.begun none) told
            | inr l ↦
                (let at : made.place ≡ x.place = (let g = made.made in let e = goes.place in omega arith) in
                let next_store : next_action old x ≡ Some (Store i o s) =
                next_of x kx (subst (λ n. slice_get (actions_of (setup_in old) x) n
                ≡ Some (Store i o s)) at act) in
                stores_it i o s b (same_value _ action (Store i o s) next_is next_store) told
                ∙ ap Some (ap (λ kd. block_to_store old x kd i o s) kx))
          ]))
      | Job_is.drew x runs next_is none_ is rec ↦
          (let kx : x.kind ≡ PutJob name bytes = sym (ap (λ (y : Job). y.kind) is) ∙ kind in
          let place : j.place ≡ x.place + 1 = ap (λ (y : Job). y.place) is in
          let own = made_own (setup_in m.state) m.state j name bytes i o s made.place refl kind made.action in
          let late : 4 ≤ x.place = (let g = made.made in let l = own.0 in omega arith) in
          let subject : j.subject ≡ x.subject = ap (λ (y : Job). y.subject) is
          ∙ drawn_later old x x.kind (first_above x late) in
          let act = made_back x j name bytes i o s (ap setup_of rec) kx kind subject
          (ap (λ (y : Job). y.profile) is) (ap (λ (y : Job). y.older) is) made in
          columns_now x.profile j.profile o i s bytes b (sym (ap (λ (y : Job). y.profile) is))
          (ap setup_of rec)
          (elim (cases_lt made.place x.place) [
            | inl l ↦ carry k x name bytes i o s b runs kx (ap (λ rs. started_as rs x.subject) (sym rec)
                ∙ (ap (started_as m.state.records) (sym subject) ∙ st))
                (record { place = made.place; made = l; action = act })
                (subst (λ n. is_replaced_since n i (m ∷ ms) ≡ false) (ap (λ (y : Job). y.begun) is) none) told
            | inr l ↦ absurd (let at : made.place ≡ x.place = (let g = made.made in omega arith) in
                let next_store = next_of x kx (subst (λ n. slice_get (actions_of (setup_in old) x) n
                ≡ Some (Store i o s)) at act) in
                let z : WriteBody ≡ Store i o s = same_value _ WriteBody (Store i o s) next_is next_store in
                cc)
          ]))
      | Job_is.finished x a runs next_is flight mine is rec none_ ↦
          absurd (let kx : x.kind ≡ PutJob name bytes = sym (ap (λ (y : Job). y.kind) is) ∙ kind in
          let place : j.place ≡ x.place + 1 = ap (λ (y : Job). y.place) is in
          let own = made_own (setup_in m.state) m.state j name bytes i o s made.place refl kind made.action in
          let late : 4 ≤ x.place = (let g = made.made in let l = own.0 in omega arith) in
          let wx : Wrote x (PutJob name bytes) a.entry =
          subst (λ kd. Wrote x kd a.entry) kx
          (P.wrote a x flight (subst (λ n. job_of old.jobs n ≡ Some x) (sym mine) runs)) in
          done_now x a late (ap (λ (y : Job). y.subject) is) rec wx)
    ]

  -- these facts hold after one more event
  pub step_facts : Facts start (m ∷ ms)
  step_facts = record { begun = begun_step; audited = audited_step; stored = stored_step }

start_facts : (start : State) → IsStart start → Facts start []
start_facts start clean = record {
  begun = λ k j h. absurd (found_none start.jobs k j clean.jobs h);
  audited = λ k j f i s h kind in_f none. absurd (found_none start.jobs k j clean.jobs h);
  stored = λ k j name bytes i o s b h kind st made none told. absurd (found_none start.jobs k j clean.jobs h);
}

-- all facts together
pub record All (start : State) (ms : List Moment) : Type 0 where
  pub numbers : num.Facts objects start ms
  pub pins : pin.Facts start ms
  pub held : Facts start ms

-- at each moment of a run all facts hold
pub all : (limit : ℕ) (start : State) → IsStart start → (ms : List Moment) → IsRun limit start ms →
    All start ms
all limit start clean [] run =
    record {
      numbers = num.facts objects limit start clean [] run;
      pins = pin.start_facts start clean;
      held = start_facts start clean;
    }
all limit start clean (m ∷ ms) run = (let A = all limit start clean ms run.2 in
    let X = changes limit (length ms) (now start ms) m.event m.outcome m.state A.numbers.idle run.1 in
    record {
      numbers = num.step_facts objects limit start m ms A.numbers X;
      pins = pin.step_facts limit start m ms A.numbers A.pins X;
      held = step_facts limit start m ms A.numbers A.pins A.held X;
    })

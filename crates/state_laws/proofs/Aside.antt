-- Sound states after a begin and after each step of what runs alone: a scrub and a pack.
use Rattle.state_laws.proofs.Words.{◌≡◌, zero, suc, ◌==◌, true, false, ◌||◌, length, Option, refl, ap, sym, subst, ◌∙◌, inl, inr, arith, sum_by, is_some, nat_lt, cases_Bool, false≢true, eq-eqb, some-not-none, Setup, largest_journal, setup_of, version_of, files_of, AreAccepted, other_area, end_in, few-files_of, Job, Action, Store, Fetch, Work, End, Outcome, Closed, Refused, Begun, More, Ended, State, Append, Scrub, Pack, Alone, Scrubbing, Packing, setup_in, journal_end, reserved, alone_refusal, Scrubs, StepsScrub, Packs, StepsAlone, new_scrub, new_pack, pack_causes, BeginsAlone, BeginsScrub, BeginsPack, Cause, same_value, found_none, setup_same, none-is, left_false, right_false, AreNumbered, AreHeld, IsDoubtOf, starts_left, IsSoundJournal, IsSwitchable, IsSound}
use Rattle.std.proofs.Common.{ℕ, ◌+◌, ◌≤◌, List, [], ◌∷◌, Some, None}
use Rattle.machine_defs.specs.Answers as answer
use Rattle.machine_defs.specs.Refusals as refusal
use Rattle.machine_defs.proofs.Asides.{IsAside, steps_aside}
use Rattle.state_laws.proofs.NamesTaken.{taken_by, length-names_in}
use Rattle.state_laws.proofs.Records.{AreInGrammar, version-either}
use Rattle.state_laws.proofs.Packs.{journal-same, journal-packed, switched-room}
use Rattle.state_laws.proofs.Begun.{none-applies}

-- what a begin and a step of what runs alone leave
record IsBeside (old new : State) : Type 0 where
  jobs : new.jobs ≡ old.jobs
  append : new.append ≡ old.append
  records : new.records ≡ old.records
  doubt : new.doubt ≡ old.doubt
  bytes : new.bytes ≡ old.bytes
  is_open : new.is_open ≡ old.is_open
  handed : new.handed ≡ old.handed

module _ (limit : ℕ) (old : State) (S : IsSound limit old) (opened : old.is_open ≡ true)
    (unbarred : old.is_barred ≡ false) (lone : old.jobs ≡ []) where
  no-append : old.append ≡ None
  no-append = by old.append refl
    where
      by : (o : Option Append) → old.append ≡ o → o ≡ None
      by None e = refl
      by (Some a) e = absurd (let A = S.append a e in found_none old.jobs a.job A.job lone A.runs)

  no-doubt : old.doubt ≡ None
  no-doubt = subst (λ f. IsDoubtOf f old.doubt) no-append (S.undoubted opened unbarred)

  beside-sound : (new : State) → IsBeside old new → IsSoundJournal new → journal_end new ≤ largest_journal →
      ((p : Pack) → new.alone ≡ Some (Packing p) → version_of old.records ≡ 2) →
      (new.is_switching ≡ true → IsSwitchable new) → IsSound limit new
  beside-sound new B J room packing switching = (let none : new.jobs ≡ [] = B.jobs ∙ lone in
      let clear : new.append ≡ None = B.append ∙ no-append in
      let undoubted : new.doubt ≡ None = B.doubt ∙ no-doubt in
      record {
        accepted = subst AreAccepted (sym B.records) S.accepted;
        spelled = subst AreInGrammar (sym B.records) S.spelled;
        journal = J;
        room = omega (arith, ap (sum_by (reserved (version_of new.records) (setup_in new))) none, room);
        files = subst (λ b. AreHeld b new.records) (sym B.bytes)
            (subst (AreHeld old.bytes) (sym B.records) S.files);
        names = (let a = ap (λ js. length (taken_by new.records js)) none in let c = few-files_of new.records
            (subst AreAccepted (sym B.records) S.accepted) in
            omega (arith, a, length-names_in (files_of new.records), c));
        ids = λ l. absurd (omega (arith, l, ap (sum_by starts_left) none));
        audits = λ k j h is_audit l. absurd (found_none new.jobs k j none h);
        closed = λ c. absurd (false≢true (sym c ∙ (B.is_open ∙ opened)));
        set_up = λ o. ap (λ rs. is_some (setup_of rs)) B.records ∙ S.set_up opened;
        handed = λ o. (let b = ap (λ (s : Setup). s.n) (setup_same new old (ap setup_of B.records)) in
            omega (arith, S.handed opened, b, B.handed));
        few = omega (arith, ap length none);
        numbered = subst (λ js. AreNumbered 0 js new.next_job) (sym none) (omega arith);
        jobs = λ k j h. absurd (found_none new.jobs k j none h);
        in_journal = λ k j h. absurd (found_none new.jobs k j none h);
        lone = λ x e. none;
        packing = λ p e. ap version_of B.records ∙ packing p e;
        switching = switching;
        upgrade = λ k j h u. absurd (found_none new.jobs k j none h);
        one_check = λ k l i j hi hj ci cj. absurd (found_none new.jobs k i none hi);
        apart = λ k l i j hi hj ui uj same. absurd (found_none new.jobs k i none hi);
        append = λ a h. absurd (some-not-none new.append a h clear);
        barred = λ b. clear;
        undoubted = λ o u. subst (λ f. IsDoubtOf f new.doubt) (sym clear) undoubted;
        doubt = λ d h. absurd (some-not-none new.doubt d h undoubted);
      })

  old-room : journal_end old ≤ largest_journal
  old-room = omega (arith, S.room)

  same-room : (new : State) → new.journal ≡ old.journal → new.area ≡ old.area →
      journal_end new ≤ largest_journal
  same-room new ej ea =
      (omega (arith, ap (λ area. end_in area new.journal) ea ∙ ap (end_in old.area) ej, old-room))

  -- the journal stays where it is
  calm : (new : State) → IsBeside old new → new.journal ≡ old.journal → new.area ≡ old.area →
      new.is_switching ≡ old.is_switching → old.is_switching ≡ false →
      ((p : Pack) → new.alone ≡ Some (Packing p) → version_of old.records ≡ 2) → IsSound limit new
  calm new B ej ea es still packing = beside-sound new B (journal-same old new B.records ej ea S.journal)
      (same-room new ej ea) packing (λ e. absurd (false≢true (sym (es ∙ still) ∙ e)))

  -- the byte that names the area is in doubt only after the third move of a pack
  still-where : ((p : Pack) → old.alone ≡ Some (Packing p) → p.moves ≡ 3 → ⊥) → old.is_switching ≡ false
  still-where other = elim (cases_Bool old.is_switching) [
    | inl t ↦ absurd (let p = (S.switching t).packing opened unbarred in other p.0 p.1 p.2)
    | inr f ↦ f
  ]

  beside : (new : State) → IsAside old new → IsBeside old new
  beside new a = record {
    jobs = a.jobs;
    append = a.append;
    records = a.records;
    doubt = a.doubt;
    bytes = a.bytes;
    is_open = a.is_open;
    handed = a.handed;
  }

  -- ---- a scrub

  -- a step of a scrub leaves the journal
  record IsScrubbed (new : State) : Type 0 where
    journal : new.journal ≡ old.journal
    area : new.area ≡ old.area
    switching : new.is_switching ≡ old.is_switching
    alone : (p : Pack) → new.alone ≡ Some (Packing p) → ⊥

  scrubs : (scrub : Scrub) (action : Action) (rest : List Action) (r : Outcome) (new : State) →
      Scrubs old scrub action rest r new → IsScrubbed new
  scrubs scrub (Fetch j object stripe) rest More new (block, (p, call, is)) = subst IsScrubbed (sym is)
      (record { journal = refl; area = refl; switching = refl; alone = λ q e. cc })
  scrubs scrub (Work object stripe) rest More new (symbols, gives, is) = subst IsScrubbed (sym is)
      (record { journal = refl; area = refl; switching = refl; alone = λ q e. cc })
  scrubs scrub (Work object stripe) rest (Ended (answer.Lost s row)) new (s_is, lost, is) =
      subst IsScrubbed (sym is) (record { journal = refl; area = refl; switching = refl; alone = λ q e. cc })
  scrubs scrub (Store j object stripe) rest More new (p, call, is) = subst IsScrubbed (sym is)
      (record { journal = refl; area = refl; switching = refl; alone = λ q e. cc })
  scrubs scrub (Store j object stripe) rest (Ended (answer.ProviderFault k)) new (k_is, (p, call, is)) =
      subst IsScrubbed (sym is) (record { journal = refl; area = refl; switching = refl; alone = λ q e. cc })
  scrubs scrub (Store j object stripe) rest (Ended answer.Memory) new (p, call, is) =
      subst IsScrubbed (sym is) (record { journal = refl; area = refl; switching = refl; alone = λ q e. cc })
  scrubs scrub End rest (Ended (answer.Scrubbed stripes symbols blocks)) new (a, b, c, is) =
      subst IsScrubbed (sym is) (record { journal = refl; area = refl; switching = refl; alone = λ q e. cc })
  scrubs scrub action rest r new h = absurd h

  steps_scrub : (scrub : Scrub) (todo : List Action) (r : Outcome) (new : State) →
      StepsScrub old scrub todo r new → IsScrubbed new
  steps_scrub scrub [] r new h = absurd h
  steps_scrub scrub (action ∷ rest) r new h = scrubs scrub action rest r new h

  -- ---- a pack

  module _ (pack : Pack) (runs : old.alone ≡ Some (Packing pack)) where
    second : version_of old.records ≡ 2
    second = S.packing pack runs

    -- before its third move and after its fourth no switch is under way
    still-at : (pack.moves ≡ 3 → ⊥) → old.is_switching ≡ false
    still-at n = still-where
        (λ p e three. n (sym (ap moves-of (same_value old.alone (Packing p) (Packing pack) e runs)) ∙ three))
      where
        moves-of : Alone → ℕ
        moves-of (Packing q) = q.moves
        moves-of (Scrubbing s) = 0

    -- the journal stays, and a switch is under way where it says so
    switches : (new : State) → IsBeside old new → new.journal ≡ old.journal → new.area ≡ old.area →
        (new.is_open ≡ true → new.is_barred ≡ false →
        (p : Pack) × (new.alone ≡ Some (Packing p)) × (p.moves ≡ 3)) → IsSound limit new
    switches new B ej ea packing = beside-sound new B (journal-same old new B.records ej ea S.journal)
        (same-room new ej ea) (λ p e. second) (λ e. record {
          version = ap version_of B.records ∙ second;
          undoubted = B.doubt ∙ no-doubt;
          jobs = B.jobs ∙ lone;
          packing = packing;
        })

    -- the journal stays, and no switch is under way
    quiet : {new w : State} → IsBeside old new → (pack.moves ≡ 3 → ⊥) → new ≡ w → w.journal ≡ old.journal →
        w.area ≡ old.area → w.is_switching ≡ old.is_switching → IsSound limit new
    quiet {new} B n is ej ea es = calm new B (ap (λ v. v.journal) is ∙ ej) (ap (λ v. v.area) is ∙ ea)
        (ap (λ v. v.is_switching) is ∙ es) (still-at n) (λ p e. second)

    packs : (moves : ℕ) (r : Outcome) (new : State) → pack.moves ≡ moves → IsBeside old new →
        Packs old pack moves r new → IsSound limit new
    packs zero More new at B (faults, low, is) = quiet B (λ e. omega arith) is refl refl refl
    packs zero (Ended answer.DiskFault) new at B (faults, low, rose, is) =
        quiet B (λ e. omega arith) is refl refl refl
    packs zero (Ended answer.Memory) new at B is = quiet B (λ e. omega arith) is refl refl refl
    packs (suc zero) More new at B (faults, low, is) = quiet B (λ e. omega arith) is refl refl refl
    packs (suc zero) (Ended answer.DiskFault) new at B (faults, low, rose, is) =
        quiet B (λ e. omega arith) is refl refl refl
    packs (suc (suc zero)) More new at B (faults, low, is) =
        switches new B (ap (λ w. w.journal) is) (ap (λ w. w.area) is)
        (λ o b. (record pack { moves = pack.moves + 1 }, ap (λ w. w.alone) is, omega arith))
    packs (suc (suc zero)) (Ended answer.DiskFault) new at B (faults, low, rose, is) =
        switches new B (ap (λ w. w.journal) is) (ap (λ w. w.area) is)
        (λ o b. absurd (false≢true (sym b ∙ ap (λ w. w.is_barred) is)))
    packs (suc (suc zero)) (Ended answer.Memory) new at B is = quiet B (λ e. omega arith) is refl refl refl
    packs (suc (suc (suc zero))) More new at B (faults, low, is) = (let ej = ap (λ w. w.journal) is in
        beside-sound new B (journal-packed old new B.records ej second S.journal)
        (let e = ap (λ area. end_in area new.journal) (ap (λ (w : State). w.area) is) ∙
        ap (end_in (other_area old.area)) ej in
        omega (arith, e, switched-room old.journal old.area S.journal.accepted S.journal.spelled))
        (λ p e. second) (λ e. absurd (false≢true (sym (ap (λ w. w.is_switching) is) ∙ e))))
    packs (suc (suc (suc zero))) (Ended answer.DiskFault) new at B (faults, low, rose, is) =
        switches new B (ap (λ w. w.journal) is) (ap (λ w. w.area) is)
        (λ o b. absurd (false≢true (sym b ∙ ap (λ w. w.is_barred) is)))
    packs (suc (suc (suc (suc zero)))) (Ended (answer.Packed before after)) new at B (b, a, is) =
        quiet B (λ e. omega arith) is refl refl refl
    packs moves r new at B h = absurd h

  -- each step of what runs alone
  pub alone-sound : (x : Alone) (r : Outcome) (new : State) → old.alone ≡ Some x → StepsAlone old x r new →
      IsSound limit new
  alone-sound (Scrubbing scrub) r new runs h = (let s = steps_scrub scrub scrub.todo r new h in
      let still = still-where (λ p e three. cc) in
      calm new (beside new (steps_aside old (Scrubbing scrub) r new h)) s.journal s.area s.switching still
      (λ p e. absurd (s.alone p e)))
  alone-sound (Packing pack) r new runs h =
      packs pack runs pack.moves r new refl (beside new (steps_aside old (Packing pack) r new h)) h

-- ---- begins

not-more : (js : List Job) → nat_lt 0 (length js) ≡ false → js ≡ []
not-more [] h = refl
not-more (j ∷ js) h = absurd (omega (arith, at-most 0 (length (j ∷ js)) h))
  where
    at-most : (a b : ℕ) → nat_lt a b ≡ false → b ≤ a
    at-most a b h = grind (arith, h)

-- the causes for which a begin of what runs alone is refused
abbrev causes_alone : State → List Cause → List Cause
causes_alone w more =
    record { applies = w.is_barred; refusal = refusal.MustReopen }
    ∷ record { applies = nat_lt 0 (length w.jobs) || is_some w.alone; refusal = refusal.Busy } ∷ more

abbrev causes_pack : State → List Cause
causes_pack w = pack_causes (version_of w.records) w.area w.journal

module _ (limit : ℕ) (old : State) (S : IsSound limit old) where
  begins : (more : List Cause) (x : Alone) (r : Outcome) (new : State) →
      (alone_refusal old more ≡ None → (p : Pack) → x ≡ Packing p → version_of old.records ≡ 2) →
      BeginsAlone old (alone_refusal old more) x r new → IsSound limit new
  begins more x Closed new packing h = subst (IsSound limit) (sym h.1) S
  begins more x (Refused why) new packing h = subst (IsSound limit) (sym h.2) S
  begins more x (Begun number) new packing (opened, allowed, number_is, is) =
      (let a = none-applies (causes_alone old more) allowed in
      let lone : old.jobs ≡ [] =
      not-more old.jobs (left_false (nat_lt 0 (length old.jobs)) (is_some old.alone) a.1.0) in
      let none : old.alone ≡ None = none-is old.alone
      (right_false (nat_lt 0 (length old.jobs)) (is_some old.alone) a.1.0) in
      let still = still-where limit old S opened a.0 lone
      (λ p e three. some-not-none old.alone (Packing p) e none) in
      subst (IsSound limit) (sym is)
      (calm limit old S opened a.0 lone (record old { alone = Some x; next_job = old.next_job + 1 })
      (record {
        jobs = refl;
        append = refl;
        records = refl;
        doubt = refl;
        bytes = refl;
        is_open = refl;
        handed = refl;
      }) refl refl refl still
      (λ p e. packing allowed p (same_value (Some x) x (Packing p) refl e))))
  begins more x r new packing h = absurd h

  -- a begin of a scrub, refused or not, leaves a sound state
  pub scrub-begins : (moment : ℕ) (r : Outcome) (new : State) → BeginsScrub moment old r new →
      IsSound limit new
  scrub-begins moment r new h = begins [] (Scrubbing (new_scrub old moment)) r new
      (λ a p e. absurd (cc (ap Some e))) h

  -- a begin of a pack, refused or not, leaves a sound state
  pub pack-begins : (r : Outcome) (new : State) → BeginsPack old r new → IsSound limit new
  pack-begins r new h = begins (causes_pack old) (Packing (new_pack old)) r new
      (λ a p e. second (none-applies (causes_alone old (causes_pack old)) a).1.1.0) h
    where
      second : (version_of old.records == 1) ≡ false → version_of old.records ≡ 2
      second f = elim (version-either old.records) [
        | inl one ↦ absurd (false≢true (sym f ∙ eq-eqb (version_of old.records) 1 one))
        | inr two ↦ two
      ]

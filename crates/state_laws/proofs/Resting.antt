-- Sound states in which no job runs: at a start, at rest, and after stops, reopenings, inits and later calls
-- of the program.
use Rattle.state_laws.proofs.Words.{◌≡◌, Bool, true, false, length, Option, refl, ap, sym, subst, ◌∙◌, inl, inr, arith, sum_by, is_some, IsTrue, false≢true, and_from, some-not-none, Setup, Record, SetUp, is_setup, is_master, is_in_grammar, largest_journal, setup_of, version_of, files_of, AreAccepted, Area, A, other_area, end_in, few-files_of, Outcome, Ready, Refused, Opened, Stopped, Continued, State, Doubt, Packing, AreFirst, IsStart, setup_in, journal_end, brought, given_up, continued, Settles, reserved, cond_false, same_value, found_none, setup_same, AreNumbered, AreHeld, MayFollow, MayFollowIn, IsDoubtOf, IsIdle, starts_left, IsSoundJournal, IsSwitchable, IsSound, IsAtRest}
use Rattle.std.proofs.Common.{ℕ, ◌≤◌, List, [], ◌∷◌, Some, None}
use Rattle.machine_defs.specs.Refusals as refusal
use Rattle.machine_defs.specs.Openings.{IsSetUp, MayHold, reread, Rereads, LeavesDoubt, Stops, Reopens, InitsClosed, InitsBy, Inits, Continues}
use Rattle.state_laws.proofs.NamesTaken.{taken_by, length-names_in}
use Rattle.state_laws.proofs.Records.{AreInGrammar, none-set_up, second-set_up, grammar-more, held-more}
use Rattle.state_laws.proofs.Packs.{journal-same, journal-brought, journal-packed, journal-whole, switched-room}

-- what is kept of a state whatever runs: its records and its journal, with what may be in doubt
pub record IsKept (w : State) : Type 0 where
  pub accepted : AreAccepted w.records
  pub spelled : AreInGrammar w.records
  pub files : AreHeld w.bytes w.records
  pub journal : IsSoundJournal w
  pub room : journal_end w ≤ largest_journal
  pub switching : w.is_switching ≡ true → IsSwitchable w
  pub doubt : (d : Doubt) → w.doubt ≡ Some d → MayFollowIn w d.entry

-- a record comes into effect
kept-brought : (w v : State) (r : Record) → v.records ≡ r ∷ w.records → v.journal ≡ r ∷ w.journal →
    v.area ≡ w.area → v.is_switching ≡ w.is_switching → v.bytes ≡ w.bytes → v.doubt ≡ None →
    (w.is_switching ≡ true → ⊥) → MayFollowIn w r → IsKept w → IsKept v
kept-brought w v r er ej ea es eb none still m K = record {
  accepted = subst AreAccepted (sym er) (m.accepted, K.accepted);
  spelled = subst AreInGrammar (sym er) (grammar-more r w.records m.spelled K.spelled);
  files = subst (λ b. AreHeld b v.records) (sym eb)
      (subst (AreHeld w.bytes) (sym er) (held-more w.bytes r w.records m.held K.files));
  journal = journal-brought w v r er ej m.spelled m.in_journal K.journal;
  room = omega (arith, m.room, ap (λ area. end_in area v.journal) ea ∙ ap (end_in w.area) ej);
  switching = λ e. absurd (still (sym es ∙ e));
  doubt = λ d h. absurd (some-not-none v.doubt d h none);
}

-- what may follow a state may follow one of the same records, journal, area and bytes
follows-in : (w u : State) (r : Record) → u.records ≡ w.records → u.journal ≡ w.journal →
    u.area ≡ w.area → u.bytes ≡ w.bytes → MayFollowIn w r → MayFollowIn u r
follows-in w u r er ej ea eb m = subst (λ rs. MayFollow rs u.journal (end_in u.area u.journal) u.bytes r)
    (sym er) (subst (λ js. MayFollow w.records js (end_in u.area js) u.bytes r) (sym ej)
    (rw (← ea) at (subst (λ b. MayFollow w.records w.journal (journal_end w) b r) (sym eb) m)))

-- such a state is kept, with a switch and a doubt of its own
kept-as : (w v : State) → v.records ≡ w.records → v.journal ≡ w.journal → v.area ≡ w.area →
    v.bytes ≡ w.bytes → (v.is_switching ≡ true → IsSwitchable v) →
    ((d : Doubt) → v.doubt ≡ Some d → MayFollowIn w d.entry) → IsKept w → IsKept v
kept-as w v er ej ea eb switching doubt K = record {
  accepted = rw (← er) at K.accepted;
  spelled = rw (← er) at K.spelled;
  files = rw (← eb) at (subst (AreHeld w.bytes) (sym er) K.files);
  journal = journal-same w v er ej ea K.journal;
  room = omega (arith, K.room, ap (λ area. end_in area v.journal) ea ∙ ap (end_in w.area) ej);
  switching = switching;
  doubt = λ d h. follows-in w v d.entry er ej ea eb (doubt d h);
}

-- a setup may follow where there is none
setup-follows : (w : State) (s : Setup) → IsKept w → is_some (setup_of w.records) ≡ false →
    IsTrue (is_in_grammar (SetUp s)) → MayFollowIn w (SetUp s)
setup-follows w s K none valid = record {
  spelled = valid;
  accepted = cond_false (is_some (setup_of w.records)) _ _ none;
  in_journal = cond_false (is_some (setup_of w.journal)) _ _ (ap is_some K.journal.alike.setup ∙ none);
  room = let empty = none-set_up w.journal K.journal.accepted (ap is_some K.journal.alike.setup ∙ none) in
      omega (arith, ap (λ area. end_in area w.journal) (K.journal.first empty) ∙ ap (end_in A) empty);
  held = tt;
}

-- while the byte that names the area is in doubt there is a setup
not-switching : (w : State) → IsKept w → is_some (setup_of w.records) ≡ false → w.is_switching ≡ true → ⊥
not-switching w K none e = false≢true (sym none ∙ second-set_up w.records K.accepted (K.switching e).version)

module _ (limit : ℕ) where
  idle-sound : (w : State) → IsIdle w → IsKept w → (w.is_open ≡ true → IsSetUp w) →
      (w.is_open ≡ true → (setup_in w).n ≤ w.handed) → (w.is_open ≡ true → w.doubt ≡ None) → IsSound limit w
  idle-sound w idle K set_up handed undoubted = record {
    accepted = K.accepted;
    spelled = K.spelled;
    journal = K.journal;
    room = omega (arith, ap (sum_by (reserved (version_of w.records) (setup_in w))) idle.0, K.room);
    files = K.files;
    names = (let a = ap (λ js. length (taken_by w.records js)) idle.0 in
        omega (arith, a, length-names_in (files_of w.records), few-files_of w.records K.accepted));
    ids = λ l. absurd (omega (arith, l, ap (sum_by starts_left) idle.0));
    audits = λ k j h is_audit l. absurd (found_none w.jobs k j idle.0 h);
    closed = λ c. idle;
    set_up = set_up;
    handed = handed;
    few = omega (arith, ap length idle.0);
    numbered = subst (λ js. AreNumbered 0 js w.next_job) (sym idle.0) (omega arith);
    jobs = λ k j h. absurd (found_none w.jobs k j idle.0 h);
    in_journal = λ k j h. absurd (found_none w.jobs k j idle.0 h);
    lone = λ x e. idle.0;
    packing = λ p e. absurd (some-not-none w.alone (Packing p) e idle.3);
    switching = K.switching;
    upgrade = λ k j h u. absurd (found_none w.jobs k j idle.0 h);
    one_check = λ k l i j hi hj ci cj. absurd (found_none w.jobs k i idle.0 hi);
    apart = λ k l i j hi hj ui uj same. absurd (found_none w.jobs k i idle.0 hi);
    append = λ a h. absurd (some-not-none w.append a h idle.1);
    barred = λ b. idle.1;
    undoubted = λ o u. subst (λ f. IsDoubtOf f w.doubt) (sym idle.1) (undoubted o);
    doubt = K.doubt;
  }

  -- a state at rest is sound
  pub rest-sound : (w : State) → IsAtRest w → IsSound limit w
  rest-sound w r = idle-sound w r.idle (record {
    accepted = r.accepted;
    spelled = r.in_grammar;
    files = r.files;
    journal = r.journal;
    room = r.room;
    switching = λ e. absurd (false≢true (sym r.unswitched ∙ e));
    doubt = λ d h. absurd (some-not-none w.doubt d h r.undoubted);
  }) r.set_up r.handed (λ o. r.undoubted)

  -- what the records of a start are
  abbrev AreFit : State → List Record → Type 0
  AreFit w rs = AreAccepted rs × AreInGrammar rs × AreHeld w.bytes rs × (end_in A rs ≤ largest_journal)

  first-kept : (w : State) → IsStart w → IsKept w
  first-kept w r = record {
    accepted = first.0;
    spelled = first.1;
    files = first.2;
    journal = journal-whole w r.journal (λ e. r.first_area) first.0 first.1;
    room = omega (arith, ap (λ area. end_in area w.journal) r.first_area ∙ ap (end_in A) r.journal, first.3);
    switching = λ e. absurd (false≢true (sym r.unswitched ∙ e));
    doubt = λ d h. absurd (some-not-none w.doubt d h r.doubt);
  }
    where
      fit : AreFirst w.records → AreFit w w.records
      fit (inl e) = subst (AreFit w) (sym e)
          (tt, refl, λ name file h. absurd (some-not-none _ file h refl), omega arith)
      fit (inr (s, valid, e)) = subst (AreFit w) (sym e) (
        (refl, tt),
        grammar-more (SetUp s) [] valid refl,
        λ name file h. absurd (some-not-none _ file h refl),
        omega arith,
      )

      first : AreFit w w.records
      first = fit r.records

  -- a start is sound
  pub start-sound : (w : State) → IsStart w → IsSound limit w
  start-sound w r = idle-sound w (r.jobs, r.append, r.unbarred, r.none_alone) (first-kept w r)
      (λ o. absurd (false≢true (sym r.closed ∙ o))) (λ o. absurd (false≢true (sym r.closed ∙ o)))
      (λ o. r.doubt)

  -- ---- after stops, reopenings, inits and later calls

  module _ (old : State) (S : IsSound limit old) where
    kept : IsKept old
    kept = record {
      accepted = S.accepted;
      spelled = S.spelled;
      files = S.files;
      journal = S.journal;
      room = omega (arith, S.room);
      switching = S.switching;
      doubt = S.doubt;
    }

    -- a closed state of the same records, journal and doubt
    kept-closed : (v : State) → v.records ≡ old.records → v.journal ≡ old.journal → v.area ≡ old.area →
        v.is_switching ≡ old.is_switching → v.bytes ≡ old.bytes → v.doubt ≡ old.doubt → v.jobs ≡ [] →
        v.is_open ≡ false → IsKept v
    kept-closed v er ej ea es eb ed none closed = kept-as old v er ej ea eb
        (λ e. (let s = S.switching (sym es ∙ e) in
        record {
          version = ap version_of er ∙ s.version;
          undoubted = ed ∙ s.undoubted;
          jobs = none;
          packing = λ o. absurd (false≢true (sym closed ∙ o));
        }))
        (λ d h. S.doubt d (sym ed ∙ h)) kept

    -- what a disk holds that is read again
    reread-kept : (journal : List Record) (area : Area) → MayHold old journal area →
        IsKept (reread old journal area)
    reread-kept journal area (inl (ej, ea)) =
        kept-as old (reread old journal area) refl ej ea refl (λ e. absurd (false≢true e)) S.doubt kept
    reread-kept journal area (inr (switching, ej, ea)) = (let W = S.switching switching in record {
      accepted = S.accepted;
      spelled = S.spelled;
      files = S.files;
      journal = journal-packed old (reread old journal area) refl ej W.version S.journal;
      room = (let r = switched-room old.journal old.area S.journal.accepted S.journal.spelled in
          omega (arith, ap (λ a. end_in a journal) ea ∙ ap (end_in (other_area old.area)) ej, r));
      switching = λ e. absurd (false≢true e);
      doubt = λ d h. absurd (some-not-none old.doubt d h W.undoubted);
    })

    -- what a settled state is
    record IsSettled (left mid : State) : Type 0 where
      jobs : mid.jobs ≡ left.jobs
      append : mid.append ≡ left.append
      barred : mid.is_barred ≡ left.is_barred
      is_open : mid.is_open ≡ left.is_open
      alone : mid.alone ≡ left.alone
      doubt : mid.doubt ≡ None
      kept : IsKept mid

    settled : (left mid : State) → IsKept left → Settles left mid → IsSettled left mid
    settled left mid K (inl is) = subst (IsSettled left) (sym is) (record {
      jobs = refl;
      append = refl;
      barred = refl;
      is_open = refl;
      alone = refl;
      doubt = refl;
      kept = kept-as left (record left { doubt = None }) refl refl refl refl (λ e. (let s = K.switching e in
          record { version = s.version; undoubted = refl; jobs = s.jobs; packing = s.packing }))
          (λ d h. absurd (let e : None ≡ Some d = h in cc)) K;
    })
    settled left mid K (inr (d, in_doubt, is)) = subst (IsSettled left) (sym is) (record {
      jobs = refl;
      append = refl;
      barred = refl;
      is_open = refl;
      alone = refl;
      doubt = refl;
      kept = kept-brought left (record (brought left d.entry) { doubt = None }) d.entry refl refl refl refl
          refl refl
          (λ e. some-not-none left.doubt d in_doubt (K.switching e).undoubted) (K.doubt d in_doubt) K;
    })

    -- other devices
    kept-devices : (w : State) (faults : ℕ) → IsKept w → IsKept (record w { disk_faults = faults })
    kept-devices w faults K = kept-as w (record w { disk_faults = faults }) refl refl refl refl
        (λ e. (let s = K.switching e in
        record { version = s.version; undoubted = s.undoubted; jobs = s.jobs; packing = s.packing })) K.doubt K

    -- a state that is not open, in which nothing is under way
    shut : (w : State) → IsIdle w → IsKept w → w.is_open ≡ false → IsSound limit w
    shut w idle K closed = idle-sound w idle K (λ o. absurd (false≢true (sym closed ∙ o)))
        (λ o. absurd (false≢true (sym closed ∙ o))) (λ o. absurd (false≢true (sym closed ∙ o)))

    -- the disk is read again
    again : (mid : State) → Rereads old mid →
        IsKept mid × IsIdle mid × (mid.is_open ≡ false) × (mid.doubt ≡ None)
    again mid (journal, area, holds, h) =
        (let s = settled (reread old journal area) mid (reread-kept journal area holds) h in
        (s.kept, (s.jobs, s.append, s.barred, s.alone), s.is_open, s.doubt))

    -- a stop leaves a sound state
    pub stops-sound : (r : Outcome) (new : State) → Stops old r new → IsSound limit new
    stops-sound Stopped new h = (let g = again new h in shut new g.1 g.0 g.2)
    stops-sound r new h = absurd h

    -- a later call of the program begins with a sound state
    pub continues-sound : (r : Outcome) (new : State) → Continues old r new → IsSound limit new
    continues-sound Continued new is = (rw (← is) at (shut (continued old) (refl, refl, refl, refl)
        (kept-closed (continued old) refl refl refl refl refl refl refl refl) refl))
    continues-sound r new h = absurd h

    -- the vault is open again
    opened : (mid : State) (faults : ℕ) → IsKept mid → mid.is_open ≡ false → mid.jobs ≡ [] →
        mid.is_switching ≡ false → IsKept (record mid { is_open = true; disk_faults = faults })
    opened mid faults K closed none still = kept-as mid (record mid { is_open = true; disk_faults = faults })
        refl refl refl refl (λ e. absurd (false≢true (sym still ∙ e))) K.doubt K

    still-mid : (mid : State) → Rereads old mid → mid.is_switching ≡ false
    still-mid mid (journal, area, holds, inl is) = ap (λ (w : State). w.is_switching) is
    still-mid mid (journal, area, holds, inr (d, in_doubt, is)) = ap (λ (w : State). w.is_switching) is

    -- a vault that was not opened over what was read again
    read-closed : (mid new : State) (faults : ℕ) → Rereads old mid → new ≡ record mid { disk_faults = faults } →
        IsSound limit new
    read-closed mid new faults h is = (let g = again mid h in subst (IsSound limit) (sym is)
        (shut (record mid { disk_faults = faults }) g.1 (kept-devices mid faults g.0) g.2))

    -- or over what was not read
    unread : (new : State) (faults : ℕ) → new ≡ record (given_up old) { disk_faults = faults } → IsSound limit new
    unread new faults is =
        subst (IsSound limit) (sym is) (shut (record (given_up old) { disk_faults = faults })
        (refl, refl, refl, refl) (kept-closed (record (given_up old) { disk_faults = faults }) refl refl refl
        refl refl refl refl refl) refl)

    -- a reopening, refused or not, leaves a sound state
    pub reopens-sound : (r : Outcome) (new : State) → Reopens old r new → IsSound limit new
    reopens-sound Opened new (mid, h, up, enough, (faults, low, is)) = (let g = again mid h in
        let w : State = record mid { is_open = true; disk_faults = faults } in
        subst (IsSound limit) (sym is)
        (idle-sound w g.1 (opened mid faults g.0 g.2 g.1.0 (still-mid mid h))
        (λ o. up) (λ o. subst (λ (t : Setup). t.n ≤ mid.handed) (sym (setup_same w mid refl)) enough)
        (λ o. g.3)))
    reopens-sound (Refused refusal.NotSetUp) new (mid, h, none, (faults, low, is)) =
        read-closed mid new faults h is
    reopens-sound (Refused refusal.TooFewProviders) new (mid, h, up, few, (faults, low, is)) =
        read-closed mid new faults h is
    reopens-sound (Refused refusal.DiskFault) new (faults, low, rose, is) = unread new faults is
    reopens-sound (Refused refusal.Memory) new is = unread new old.disk_faults is
    reopens-sound r new h = absurd h

    -- what is in doubt after an init that failed
    left-kept : (s : Setup) (doubt : Option Doubt) (faults : ℕ) → IsTrue (is_in_grammar (SetUp s)) →
        LeavesDoubt old s doubt → IsKept (record old { doubt = doubt; disk_faults = faults })
    left-kept s doubt faults valid leaves = kept-as old (record old { doubt = doubt; disk_faults = faults })
        refl refl refl refl (λ e. (let s = S.switching e in
        record { version = s.version; undoubted = none e leaves; jobs = s.jobs; packing = s.packing }))
        (follows leaves) kept
      where
        none : old.is_switching ≡ true → LeavesDoubt old s doubt → doubt ≡ None
        none e (inl is) = is ∙ (S.switching e).undoubted
        none e (inr (unset, is)) = absurd (not-switching old kept unset e)

        follows : LeavesDoubt old s doubt → (d : Doubt) → doubt ≡ Some d → MayFollowIn old d.entry
        follows (inl is) d h = S.doubt d (sym is ∙ h)
        follows (inr (unset, is)) d h =
            (subst (λ x. MayFollowIn old x.entry) (same_value doubt (record { entry = SetUp s; maker = None })
            d is h) (setup-follows old s kept unset valid))

    inits-closed : (s : Setup) (r : Outcome) (new : State) → IsIdle old → old.is_open ≡ false →
        IsTrue (is_in_grammar (SetUp s)) → InitsClosed old s r new → IsSound limit new
    inits-closed s (Refused refusal.DiskFault) new idle closed valid (doubt, leaves, (faults, low, rose, is)) =
        (rw (← is) at (shut (record old { doubt = doubt; disk_faults = faults }) idle
        (left-kept s doubt faults valid leaves) closed))
    inits-closed s (Refused refusal.Memory) new idle closed valid (doubt, leaves, is) =
        (rw (← is) at (shut (record old { doubt = doubt }) idle (left-kept s doubt old.disk_faults valid
        leaves) closed))
    inits-closed s (Refused refusal.Already) new idle closed valid (mid, h, up, (faults, low, is)) =
        (let t = settled old mid kept h in
        (rw (← is) at (shut (record mid { disk_faults = faults }) (
          t.jobs ∙ idle.0,
          t.append ∙ idle.1,
          t.barred
              ∙ idle.2,
          t.alone ∙ idle.3,
        ) (kept-devices mid faults t.kept) (t.is_open ∙ closed))))
    inits-closed s Ready new idle closed valid (mid, h, none, (faults, low, is)) =
        (let t = settled old mid kept h in
        let w = record (brought mid (SetUp s)) { disk_faults = faults } in
        (rw (← is) at (shut w (t.jobs ∙ idle.0, t.append ∙ idle.1, t.barred ∙ idle.2, t.alone ∙ idle.3)
        (kept-brought mid w (SetUp s) refl refl refl refl refl t.doubt (not-switching mid t.kept none)
        (setup-follows mid s t.kept none valid) t.kept) (t.is_open ∙ closed))))
    inits-closed s r new idle closed valid h = absurd h

    inits-by : (s : Setup) (checked : Bool) (r : Outcome) (new : State) → is_setup s ≡ checked →
        IsTrue (is_master s.master) → IsIdle old → old.is_open ≡ false → InitsBy old s checked r new →
        IsSound limit new
    inits-by s false (Refused refusal.BadSetup) new e master idle closed is = subst (IsSound limit) (sym is) S
    inits-by s true r new e master idle closed h =
        inits-closed s r new idle closed (and_from (is_setup s) (is_master s.master) e master) h
    inits-by s false r new e master idle closed h = absurd h

    -- an init, refused or not, leaves a sound state
    pub inits-sound : (s : Setup) (is_open : Bool) (r : Outcome) (new : State) → old.is_open ≡ is_open →
        IsTrue (is_master s.master) → Inits old s is_open r new → IsSound limit new
    inits-sound s true (Refused refusal.Already) new e master is = subst (IsSound limit) (sym is) S
    inits-sound s false r new e master h = inits-by s (is_setup s) r new refl master (S.closed e) e h
    inits-sound s true r new e master h = absurd h

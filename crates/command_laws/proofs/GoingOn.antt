-- Commands over devices that a run left go on with that run.
use Rattle.command_laws.proofs.Words.{◌≡◌, ℕ, ◌+◌, ◌<◌, ◌≤◌, ◌⊎◌, true, false, List, [], ◌∷◌, ◌++◌, length, Option, None, Some, refl, ap, sym, subst, ◌∙◌, inl, inr, arith, append_assoc, length-take, lit≤, is_some, IfSome, option_map, cases_Bool, false≢true, append-nil, is_some-option_map, Cells, reads, synced, EachImage, Provider, Entry, Record, Setup, largest_file, largest_journal, HasNoSetup, setup_of, files_of, Area, other_area, end_in, StandsActive, packed, Answer, Event, BeginScrub, BeginPack, Step, Reopen, Names, Continue, Outcome, Refused, Opened, More, Begun, Ended, Listed, Continued, AreBytes, IsSpelled, IsSpelledKind, Kind, PutJob, Happens, BeginsAt, refusal_of_begin, Refusal, Moment, now, IsRun, setup_or_none, StandsPlain, StandsForState, State, Doubt, given_up, continued, setup_in, IsSound, Command, PutUnder, PutAt, ListAll, ScrubAll, PackJournal, Seen, Ending, NoCountFalls, IsRefused, IsSynced, ReadsFront, journal_read, IsRead, IsBadStart, IsResynced, IsOpened, Unstarted, setup_in_effect, AreHanded, IsJustOpened, MayName, AreSteps, GoesOnTo, PutLeaves, put_stripe, after_begin, StopsReading, PartRuns, PartLeft, AnswersJob, EndsByAnswer, outside, text_of, scrub_text, pack_text, status_of, ScrubsAlone, AnswersScrub, PacksAlone, AnswersPack, MayBeWhole, AnswersPut, AnswersAlone, AnswersList, Answers, profile_named, RunsKind, ReadsWhole, opens_store, IsStore, IsSpelledCommand, IsCall, begin_of, moment, unopened_status, image-firm, each_image-mono, IsImage-reads, active-take, same_value, events-sound, is_some-at, none-set_up, second-set_up, setup-more, switched-room, packed_are, read-once, read-set_up, read-never-bad, fresh-good, RowOf, InitWith}
use Rattle.machine_defs.specs.Openings.{Rereads}
use Rattle.machine_defs.specs.Transcripts.{GoOn}
use Rattle.device_defs.specs.Told.{Goes}
use Rattle.record_defs.specs.Areas as areas
use Rattle.machine_defs.specs.Answers as answer
use Rattle.machine_defs.specs.Refusals as refusal
use Rattle.command_laws.proofs.GetEnds.{ran_left}
use Rattle.command_laws.proofs.JobEnds.{given-status, given-front}
use Rattle.command_laws.proofs.Images.{refused-keeps}
use Rattle.command_laws.proofs.Knowing.{IsGood, read-good, none-up, StandsInState}
use Rattle.command_laws.proofs.Afterwards.{images-kept}
use Rattle.command_laws.proofs.DoneStores.{tells-outside}
use Rattle.job_laws.proofs.BeginRefusals.{refusal-of, pack-refusal-of}

-- ---- runs

-- the state after more moments is that after them from the state before
pub now-more : (start : State) (own base : List Moment) → now start (own ++ base) ≡ now (now start base) own
now-more start [] base = refl
now-more start (m ∷ own) base = refl

-- a run from a sound state leaves a sound state
pub run-sound : (start : State) (own base : List Moment) → IsSound 8 (now start base) →
    IsRun 8 start (own ++ base) → IsSound 8 (now start (own ++ base))
run-sound start [] base S r = S
run-sound start (m ∷ own) base S (spelled, happens, rest) =
    events-sound 8 (length (own ++ base)) (now start (own ++ base)) (run-sound start own base S rest)
    (omega arith, omega arith) m.event m.outcome m.state spelled happens

steps-go : (c : State) (n : ℕ) (steps : List Moment) → AreSteps c n 1 steps → GoOn 1 steps
steps-go c n [] h = tt
steps-go c n (m ∷ ms) (event, outcome, happens, rest) = (event, outcome, steps-go c n ms rest)

length-more : (own base : List Moment) → length base + length own ≡ length (own ++ base)
length-more [] base = omega arith
length-more (m ∷ own) base = omega (arith, length-more own base)

module _ (start : State) (base : List Moment) where
  happens-at : (steps : List Moment) (event : Event) (outcome : Outcome) (new : State) →
      Happens 8 (length base + length steps) (now (now start base) steps) event outcome new →
      Happens 8 (length (steps ++ base)) (now start (steps ++ base)) event outcome new
  happens-at steps event outcome new h = rw (now-more start steps base, ← (length-more steps base)) h

  steps-run : (steps : List Moment) → AreSteps (now start base) (length base) 1 steps → IsRun 8 start base →
      IsRun 8 start (steps ++ base)
  steps-run [] h r = r
  steps-run (m ∷ ms) (event, outcome, happens, rest) r =
      rw (event, outcome) (omega arith, happens-at ms (Step 1) More m.state happens, steps-run ms rest r)

-- ---- begins

-- only a put names a profile
unnamed : (kind : Kind) (own : Option ℕ) → MayName kind own →
    ((name bytes : List ℕ) → kind ≡ PutJob name bytes → ⊥) → own ≡ None
unnamed kind own (MayName.none e) other = e
unnamed kind own (MayName.put name bytes e) other = absurd (other name bytes e)

-- a begin is the event of a job, of a put also with a profile of its own
begin-happens : (kind : Kind) (own : Option ℕ) → MayName kind own → (n : ℕ) (v : State) (outcome : Outcome)
    (c : State) → BeginsAt 8 n v kind own outcome c → Happens 8 n v (begin_of kind own) outcome c
begin-happens (PutJob name bytes) None may n v outcome c h = h
begin-happens (PutJob name bytes) (Some p) may n v outcome c h = h
begin-happens kind own may n v outcome c h = rw (unnamed kind own may (λ m b e. cc)) at h

-- its words are bytes where those of the job are
begin-spelled : (kind : Kind) (own : Option ℕ) → IsSpelledKind kind →
    ((p : ℕ) → own ≡ Some p → p < 256) → IsSpelled (begin_of kind own)
begin-spelled (PutJob name bytes) (Some p) spelled byte = (byte p refl, spelled)
begin-spelled kind own spelled byte = spelled

-- ---- what a put has read

module _ {kind : Kind} {own : Option ℕ} {area : Area} {rs : List Record} {old new : Seen} {end : Ending} where
  -- a put that is stored is one of its whole source
  abbrev PutsWhole : AnswersJob kind own area rs old new end → Type 0
  PutsWhole (AnswersJob.ended how begins runs left by) = how ≡ answer.Put → ReadsWhole kind old new
  PutsWhole h = Unit {0}

  puts-all : ReadsWhole kind old new → (A : AnswersJob kind own area rs old new end) → PutsWhole A
  puts-all whole (AnswersJob.ended how begins runs left by) = λ e. whole
  puts-all whole A = tt

puts-whole : {name bytes : List ℕ} {own : Option ℕ} {area : Area} {rs : List Record} {old new : Seen}
    {end : Ending} →
    ReadsFront old.source new.source bytes → (A : AnswersJob (PutJob name bytes) own area rs old new end) →
    (MayBeWhole name bytes own area rs A → IfSome new.source (λ left. left ≡ [])) → PutsWhole A
puts-whole {name = name} {bytes = bytes} {own = own} {rs = rs} {old = old} {new = new} {end = end} read (AnswersJob.ended how begins runs left by) whole =
    λ put. ((
      read,
      whole (inl (subst (PutLeaves (ran_left rs (PutJob name bytes) how old new end.heard left) own name bytes)
          put left.leaves.by_kind.0).0.after),
    ))
puts-whole read A whole = tt

-- ---- a store that a run left

-- the state in which jobs are given up and this history is settled, with this journal in this area
abbrev pub settled : State → List Record → List Record → Area → State
settled w records journal area = record (given_up w) {
  doubt = None;
  records = records;
  journal = journal;
  area = area;
  is_switching = false;
}

-- so they may be settled
abbrev pub SettlesOn : State → List Record → List Record → Area → Type 0
SettlesOn w records journal area =
    (v : State) → v.doubt ≡ w.doubt → v.records ≡ w.records → v.journal ≡ w.journal → v.area ≡ w.area →
    v.is_switching ≡ w.is_switching → Rereads v (settled v records journal area)

-- the journal that an image of a store stands for may be settled, with a history that has the same setup
pub record Settled (w : State) (image : List ℕ) (records journal : List Record) (area : Area) : Type 0 where
  pub settles : SettlesOn w records journal area
  pub good : IsGood (setup_in_effect journal) image area journal
  pub up : is_some (setup_of records) ≡ true
  pub same : setup_of journal ≡ setup_of records

-- that there is none may be settled, and an image stands for none
pub record SettledNone (w : State) (image : List ℕ) : Type 0 where
  pub settles : SettlesOn w w.records w.journal w.area
  pub down : is_some (setup_of w.records) ≡ false
  pub empty : w.journal ≡ []
  pub plain : StandsPlain w image

-- what an image of a store may be settled to: some records with a setup, or none
pub data MaySettle (w : State) (image : List ℕ) : Type 0 where
  some : (records journal : List Record) (area : Area) → Settled w image records journal area →
      MaySettle w image
  none : SettledNone w image → MaySettle w image

module _ (w : State) (S : IsSound 8 w) (image : List ℕ) where
  -- the history is settled on, with the journal as it is
  on-history : SettlesOn w w.records w.journal w.area
  on-history v doubt records journal area switching = (
    v.journal,
    v.area,
    inl (refl, refl),
    inl (rw (← records, ← journal, ← area)),
  )

  -- or the record in doubt comes into effect
  on-doubt : (d : Doubt) → w.doubt ≡ Some d → SettlesOn w (d.entry ∷ w.records) (d.entry ∷ w.journal) w.area
  on-doubt d in_doubt v doubt records journal area switching = (
    v.journal,
    v.area,
    inl (refl, refl),
    inr (d, doubt ∙ in_doubt, rw (← records, ← journal, ← area)),
  )

  -- or the switch has been made
  on-switch : w.is_switching ≡ true → SettlesOn w w.records (packed w.journal) (other_area w.area)
  on-switch under_way v doubt records journal area switching = (
    packed v.journal,
    other_area v.area,
    inr (switching ∙ under_way, refl, refl),
    inl (rw (← records, ← journal, ← area)),
  )

  -- the tables of history and journal have one setup
  same-setup : setup_of w.journal ≡ setup_of w.records
  same-setup = S.journal.alike.setup

  settled-plain : StandsPlain w image → MaySettle w image
  settled-plain stands = elim (cases_Bool (is_some (setup_of w.records))) [
    | inl up ↦ with_setup up stands
    | inr down ↦ MaySettle.none (record {
      settles = on-history;
      down = down;
      empty = none-set_up w.journal S.journal.accepted (ap is_some same-setup ∙ down);
      plain = stands;
    })
  ]
    where
      with_setup : is_some (setup_of w.records) ≡ true → StandsPlain w image → MaySettle w image
      with_setup up (inl stands) = MaySettle.some w.records w.journal w.area (record {
        settles = on-history;
        good = record {
          some = none-up w.journal (ap is_some same-setup ∙ up);
          accepted = S.journal.accepted;
          room = omega (arith, S.room);
          setup = refl;
          stands = stands;
        };
        up = up;
        same = same-setup;
      })
      with_setup up (inr empty) = absurd (none-up w.journal (ap is_some same-setup ∙ up) empty.0)

  settled-doubt : (d : Doubt) → w.doubt ≡ Some d → StandsActive image w.area (d.entry ∷ w.journal) →
      MaySettle w image
  settled-doubt d in_doubt stands = (let F = S.doubt d in_doubt in
      elim (cases_Bool (is_some (setup_of (d.entry ∷ w.records)))) [
        | inl up ↦ MaySettle.some (d.entry ∷ w.records) (d.entry ∷ w.journal) w.area (record {
          settles = on-doubt d in_doubt;
          good = record {
            some = λ e. cc;
            accepted = (F.in_journal, S.journal.accepted);
            room = omega (arith, F.room);
            setup = refl;
            stands = stands;
          };
          up = up;
          same = one-setup;
        })
        | inr f ↦ absurd (cc (none-set_up (d.entry ∷ w.records) (F.accepted, S.accepted) f))
      ])
    where
      one-setup : setup_of (d.entry ∷ w.journal) ≡ setup_of (d.entry ∷ w.records)
      one-setup = (let F = S.doubt d in_doubt in
          elim (cases_Bool (is_some (setup_of w.records))) [
            | inl up ↦ setup-more d.entry w.journal (ap is_some same-setup ∙ up) F.in_journal
                ∙ (same-setup ∙ sym (setup-more d.entry w.records up F.accepted))
            | inr down ↦ ap (λ l. setup_of (d.entry ∷ l))
                (none-set_up w.journal S.journal.accepted (ap is_some same-setup ∙ down)
                ∙ sym (none-set_up w.records S.accepted down))
          ])

  settled-switch : w.is_switching ≡ true → StandsActive image (other_area w.area) (packed w.journal) →
      MaySettle w image
  settled-switch under_way stands = (let two = S.journal.alike.version ∙ (S.switching under_way).version in
      let up = second-set_up w.journal S.journal.accepted two in
      let at = is_some-at (setup_of w.journal) up in
      let P = packed_are w.journal S.journal.accepted at.0 at.1 two in
      MaySettle.some w.records (packed w.journal) (other_area w.area) (record {
        settles = on-switch under_way;
        good = record {
          some = none-up (packed w.journal) (ap is_some P.1.setup ∙ up);
          accepted = P.0;
          room = switched-room w.journal w.area S.journal.accepted S.journal.spelled;
          setup = refl;
          stands = stands;
        };
        up = sym (ap is_some same-setup) ∙ up;
        same = P.1.setup ∙ same-setup;
      }))

-- what an image of a sound state stands for may be settled
pub settled-by : (w : State) → IsSound 8 w → (image : List ℕ) → StandsInState w image → MaySettle w image
settled-by w S image (inl h) = settled-plain w S image h
settled-by w S image (inr (inl D)) = settled-doubt w S image D.doubt D.in_doubt D.stands
settled-by w S image (inr (inr X)) = settled-switch w S image X.switching X.stands

-- an image of a store on which nothing is set up
pub none-there : (w : State) (image : List ℕ) → SettledNone w image → HasNoSetup image
none-there w image N = by_plain N.plain
  where
    by_plain : StandsPlain w image → HasNoSetup image
    by_plain (inl stands) = inr (w.area, (rw N.empty at stands))
    by_plain (inr short) = inl short.1

-- a disk that was synced, or left as it was, tells as before
resynced-tells : (a b : Option Cells) → Goes IsResynced a b → is_some a ≡ true → is_some b ≡ true
resynced-tells None b goes tells = absurd (false≢true tells)
resynced-tells (Some a) None goes tells = absurd goes
resynced-tells (Some a) (Some b) goes tells = refl

-- so does what is looked at of it
none-looked_at : (cells : Cells) → HasNoSetup (reads cells) → HasNoSetup (journal_read cells)
none-looked_at cells (inl short) =
    inl (let e = length-take largest_journal (reads cells) in omega (arith, short, e))
none-looked_at cells (inr stands) =
    inr (stands.0, active-take largest_journal (reads cells) stands.0 [] stands.1 (fits stands.0))
  where
    fits : (area : Area) → end_in area [] ≤ largest_journal
    fits areas.A = lit≤ tt
    fits areas.B = lit≤ tt

module _ (start : State) (ms : List Moment) (R : IsRun 8 start ms) (old : Seen)
    (S : IsStore (now start ms) old) where
  abbrev w : State
  w = now start ms

  told : (c : Cells) × (old.disk ≡ Some c)
  told = is_some-at old.disk S.tells

  -- what the disk reads may be settled
  found : MaySettle w (reads told.0)
  found = settled-by w S.sound (reads told.0) ((rw told.1 at S.images) (reads told.0) (IsImage-reads told.0))

  -- where nothing is set up nothing is seen
  looked : SettledNone w (reads told.0) → HasNoSetup (journal_read told.0)
  looked N = none-looked_at told.0 (none-there w (reads told.0) N)

  -- where records may be settled they are read
  read-of : (records rs : List Record) (area : Area) → Settled w (reads told.0) records rs area →
      IsRead (Some told.0) area rs
  read-of records rs area F = read-good (setup_in_effect rs) (Some told.0) told.0 area rs refl F.good

  -- records that are read may be settled
  settled-of : (rs : List Record) (area : Area) → IsRead old.disk area rs →
      (records : List Record) × Settled w (reads told.0) records rs area
  settled-of rs area read = by found
    where
      is : IsRead (Some told.0) area rs
      is = rw told.1 at read

      by : MaySettle w (reads told.0) → (records : List Record) × Settled w (reads told.0) records rs area
      by (MaySettle.some records journal place F) =
          (let e = read-once told.0 place area journal rs (read-of records journal place F) is in
          (records, rw (e.0, e.1) at F))
      by (MaySettle.none N) = absurd (read-set_up told.0 area rs is (looked N))

  -- nothing is set up where nothing is seen
  none-of : IfSome old.disk (λ cells. HasNoSetup (journal_read cells)) → SettledNone w (reads told.0)
  none-of is = by found
    where
      by : MaySettle w (reads told.0) → SettledNone w (reads told.0)
      by (MaySettle.some records rs area F) =
          absurd (read-set_up told.0 area rs (read-of records rs area F) (rw told.1 at is))
      by (MaySettle.none N) = N

  -- no journal is bad
  never-bad : (place : ℕ) → (9 < length (journal_read told.0)) × IsBadStart (journal_read told.0) place → ⊥
  never-bad place bad = by found
    where
      by : MaySettle w (reads told.0) → ⊥
      by (MaySettle.some records rs area F) =
          read-never-bad told.0 place area rs (read-of records rs area F) bad.1
      by (MaySettle.none N) = fresh-good (journal_read told.0) place bad.0 (looked N) bad.1

  -- the first moment
  abbrev later : Moment
  later = moment Continue Continued (continued w)

  run-later : IsRun 8 start (later ∷ ms)
  run-later = (tt, refl, R)

  faults-at : (n : ℕ) → old.disk_faults ≤ n → w.disk_faults ≤ n
  faults-at n l = omega (arith, S.faults_are, l)

  handed-by : (v : State) (ps : List Provider) → v.handed ≡ w.handed → v.providers ≡ w.providers →
      ps ≡ old.providers → AreHanded ps v
  handed-by v ps count same is = subst (λ qs. AreHanded qs v) (sym is) (record {
    count = count ∙ S.handed.count;
    each = λ j below. S.handed.each j below ∙ ap (λ f. Some (f j)) (sym same);
  })

  -- ---- a command

  module _ (command : Command) (new : Seen) (end : Ending) (counts : NoCountFalls old new) where
    -- the moments of the command go on with the run
    abbrev GoesOn : Type 0
    GoesOn = (own : List Moment) × IsCall command old new end w own × IsRun 8 start (own ++ ms) ×
        IsStore (now start (own ++ ms)) new

    goes-by : (own : List Moment) → IsCall command old new end w own → IsRun 8 start (own ++ ms) →
        is_some new.disk ≡ true → StandsForState new.disk (now start (own ++ ms)) →
        (now start (own ++ ms)).disk_faults ≡ new.disk_faults →
        AreHanded new.providers (now start (own ++ ms)) → GoesOn
    goes-by own call run tells images faults_are handed = (
      own,
      call,
      run,
      record {
        sound = run-sound start own ms S.sound run;
        tells = tells;
        images = images;
        faults_are = faults_are;
        handed = handed;
      },
    )

    refused-tells : {status at : ℕ} → IsRefused status at old new end → is_some new.disk ≡ true
    refused-tells r = resynced-tells old.disk new.disk r.disk S.tells

    synced-tells : IsSynced old new → is_some new.disk ≡ true
    synced-tells sync = ap is_some sync ∙ (is_some-option_map synced old.disk ∙ S.tells)

    -- a disk that was synced has one image, what it reads
    stands-synced : (v : State) → IsSynced old new → StandsInState v (reads told.0) →
        StandsForState new.disk v
    stands-synced v sync stands =
        subst (λ d. EachImage d (StandsInState v)) (sym (sync ∙ ap (option_map synced) told.1))
        (λ image of. subst (StandsInState v) (sym (image-firm (reads told.0) image of)) stands)

    -- the vault was not opened
    closed-on : (mid : State) → mid.handed ≡ w.handed → mid.providers ≡ w.providers → (at : ℕ)
        (why : Refusal) → IsRefused (unopened_status why) at old new end →
        Happens 8 (length (later ∷ ms)) (continued w) Reopen (Refused why)
        (record mid { disk_faults = new.disk_faults }) →
        StandsForState new.disk (record mid { disk_faults = new.disk_faults }) → GoesOn
    closed-on mid handed same at why r happens images =
        (let v : State = record mid { disk_faults = new.disk_faults } in
        goes-by (moment Reopen (Refused why) v ∷ later ∷ [])
        (IsCall.unopened (continued w) v why refl r.status_is r.heard) (tt, happens, run-later)
        (refused-tells r) images refl (handed-by v new.providers handed same r.providers))

    -- what is in doubt stays so
    abbrev closed_at : ℕ → State
    closed_at faults = record (given_up (continued w)) { disk_faults = faults }

    stands-kept : {status at : ℕ} → IsRefused status at old new end →
        StandsForState new.disk (closed_at new.disk_faults)
    stands-kept r = images-kept old.disk new.disk _ (refused-keeps _ _ old new end r) S.tells
        (each_image-mono old.disk _ _ again S.images)
      where
        again : (image : List ℕ) → StandsInState w image → StandsInState (closed_at new.disk_faults) image
        again image (inl h) = inl h
        again image (inr (inl D)) =
            inr (inl (record { doubt = D.doubt; in_doubt = D.in_doubt; stands = D.stands }))
        again image (inr (inr X)) = inr (inr (record { switching = X.switching; stands = X.stands }))

    memory-on : IsRefused 70 0 old new end → GoesOn
    memory-on r = closed-on (given_up (continued w)) refl refl 0 refusal.Memory r
        (ap closed_at (r.no_fault refl ∙ sym S.faults_are)) (stands-kept r)

    unset-on : SettledNone w (reads told.0) → IsSynced old new → IsRefused 9 0 old new end → GoesOn
    unset-on N sync r = closed-on (settled (continued w) w.records w.journal w.area) refl refl 0
        refusal.NotSetUp r (
          settled (continued w) w.records w.journal w.area,
          N.settles (continued w) refl refl refl refl refl,
          N.down,
          (new.disk_faults, faults-at new.disk_faults counts.disk, refl),
        ) (stands-synced _ sync (inl N.plain))

    -- too few providers are handed in
    few-on : (rs : List Record) (area : Area) → IsRead old.disk area rs →
        length old.providers < (setup_in_effect rs).n → IsSynced old new → IsRefused 22 0 old new end → GoesOn
    unfolding setup_in
    few-on rs area read few sync r = (let (records, F) = settled-of rs area read in
        closed-on (settled (continued w) records rs area) refl refl 0 refusal.TooFewProviders r (
          settled (continued w) records rs area,
          F.settles (continued w) refl refl refl refl refl,
          F.up,
          (omega (arith, S.handed.count, few, ap (λ o. (setup_or_none o).n) F.same)),
          (new.disk_faults, faults-at new.disk_faults counts.disk, refl),
        ) (stands-synced _ sync (inl (inl F.good.stands))))

    unstarted-on : Unstarted old new end → GoesOn
    unstarted-on (Unstarted.disk_fault rose r) =
        closed-on (given_up (continued w)) refl refl 0 refusal.DiskFault r (
          new.disk_faults,
          faults-at new.disk_faults counts.disk,
          (rw (← S.faults_are) at rose),
          refl,
        ) (stands-kept r)
    unstarted-on (Unstarted.not_set_up is sync r) = unset-on (none-of is) sync r
    unstarted-on (Unstarted.bad_journal place is r) = absurd (never-bad place (rw told.1 at is))
    unstarted-on (Unstarted.too_few_providers area rs read few sync r) = few-on rs area read few sync r
    unstarted-on (Unstarted.no_memory r) = memory-on r

    -- ---- a vault that was opened

    module _ (rs : List Record) (O : IsOpened old rs) where
      abbrev records : List Record
      records = (settled-of rs O.area O.read).0

      F : Settled w (reads told.0) records rs O.area
      F = (settled-of rs O.area O.read).1

      -- the history has the setup of these records
      same-setup-in : setup_in_effect rs ≡ setup_or_none (setup_of records)
      same-setup-in = ap setup_or_none F.same

      -- the store in which the vault is opened over the records that were read
      abbrev opened_at : ℕ → State
      opened_at faults =
          record (settled (continued w) records rs O.area) { is_open = true; disk_faults = faults }

      run-opened : (faults : ℕ) → old.disk_faults ≤ faults →
          IsRun 8 start (moment Reopen Opened (opened_at faults) ∷ later ∷ ms)
      unfolding setup_in
      run-opened faults l = (
        tt,
        (
          settled (continued w) records rs O.area,
          F.settles (continued w) refl refl refl refl refl,
          F.up,
          (omega (arith, S.handed.count, O.enough, ap (λ (t : Setup). t.n) same-setup-in)),
          (faults, faults-at faults l, refl),
        ),
        run-later,
      )

      sound-opened : (faults : ℕ) → old.disk_faults ≤ faults → IsSound 8 (opened_at faults)
      sound-opened faults l = run-sound start (moment Reopen Opened (opened_at faults) ∷ later ∷ []) ms
          S.sound (run-opened faults l)

      over : (faults : ℕ) → old.disk_faults ≤ faults →
          IsJustOpened (opened_at faults) O.area rs 1 faults old.providers
      over faults l = (let T = sound-opened faults l in record {
        at_rest = record {
          rest = record {
            idle = (refl, refl, refl, refl);
            undoubted = refl;
            unswitched = refl;
            journal = T.journal;
            accepted = T.accepted;
            in_grammar = T.spelled;
            room = (let r = T.room in omega (arith, r));
            files = T.files;
            set_up = T.set_up;
            handed = T.handed;
          };
          opened = refl;
          next = refl;
        };
        journal = refl;
        area_is = refl;
        faults_are = refl;
        handed = handed-by (opened_at faults) old.providers refl refl refl;
      })

      abbrev opened : State
      opened = opened_at new.disk_faults

      abbrev reopened : Moment
      reopened = moment Reopen Opened opened

      -- moments of the opened vault that leave its state
      stays-on : (own : List Moment) → now start (own ++ ms) ≡ opened → IsCall command old new end w own →
          IsRun 8 start (own ++ ms) → IsSynced old new → new.providers ≡ old.providers → GoesOn
      stays-on own is call run sync same = (
        own,
        call,
        run,
        rw is (record {
          sound = sound-opened new.disk_faults counts.disk;
          tells = synced-tells sync;
          images = stands-synced opened sync (inl (inl F.good.stands));
          faults_are = refl;
          handed = handed-by opened new.providers refl refl same;
        }),
      )

      opened-on : {status at : ℕ} → (end.status ≡ 14) ⊎ (end.status ≡ 70) → IsSynced old new →
          IsRefused status at old new end → GoesOn
      opened-on why sync r = stays-on (reopened ∷ later ∷ []) refl
          (IsCall.opened (continued w) opened refl why r.heard) (run-opened new.disk_faults counts.disk) sync
          r.providers

      -- a job that begins in the vault that was opened goes on with the run
      module _ (faults : ℕ) (before : old.disk_faults ≤ faults) (begin : Event) (spelled : IsSpelled begin)
          (c : State) (begins : Happens 8 (length (moment Reopen Opened (opened_at faults) ∷ later ∷ ms))
          (opened_at faults) begin (Begun 1) c) where
        abbrev before-it : ℕ
        before-it = length (moment Reopen Opened (opened_at faults) ∷ later ∷ ms)

        abbrev begun-moments : List Moment
        begun-moments = moment begin (Begun 1) c ∷ moment Reopen Opened (opened_at faults) ∷ later ∷ []

        at : before-it + 1 ≡ length (begun-moments ++ ms)
        at = omega arith

        -- with its steps
        stepped : (steps : List Moment) → AreSteps c (before-it + 1) 1 steps →
            IsRun 8 start (steps ++ (begun-moments ++ ms))
        stepped steps are = steps-run start (begun-moments ++ ms) steps
            (subst (λ k. AreSteps c k 1 steps) at are) (spelled, begins, run-opened faults before)

        -- and with its end
        ended-so : (how : Answer) (heard : List Entry) (last : State)
            (g : GoesOnTo c (before-it + 1) 1 how heard last) →
            (GoOn 1 g.steps →
            IsCall command old new end w (moment (Step 1) (Ended how) last ∷ (g.steps ++ begun-moments))) →
            is_some new.disk ≡ true → StandsForState new.disk last → last.disk_faults ≡ new.disk_faults →
            AreHanded new.providers last → GoesOn
        ended-so how heard last g call = goes-by (moment (Step 1) (Ended how) last ∷
            (g.steps ++ begun-moments)) (call (steps-go c (before-it + 1) g.steps g.are_steps))
            (subst (λ l. IsRun 8 start (moment (Step 1) (Ended how) last ∷ l))
            (sym (append_assoc g.steps begun-moments ms)) (
              omega arith,
              happens-at start (begun-moments ++ ms) g.steps (Step 1) (Ended how) last
                  (subst (λ k. Happens 8 (k + length g.steps) (now c g.steps) (Step 1) (Ended how) last)
                  at g.ends),
              stepped g.steps g.are_steps,
            ))

      scrubbed-on : command ≡ ScrubAll → (how : Answer) → end.heard ≡ [] → IsSynced old new →
          ScrubsAlone O.area rs how old new → EndsByAnswer (scrub_text how) how old new end → GoesOn
      scrubbed-on is how heard sync A by = (let v = opened_at A.faults in
          let n = length (moment Reopen Opened v ∷ later ∷ ms) in
          let ran = A.ran v n (over A.faults A.before) in
          let c = ran.runs.begun in
          let begun = rw ran.runs.begins.2 at ran.runs.begins in
          let g = rw ran.runs.begins.2 at ran.runs.goes_on in
          ended-so A.faults A.before BeginScrub tt c begun how [] ran.last g
          (λ go. IsCall.scrubbed (continued w) v c ran.last g.steps how is go refl by heard)
          (synced-tells sync) ran.images ran.faults_are ran.handed)

      packed-on : command ≡ PackJournal → (how : Answer) → end.heard ≡ [] →
          PacksAlone O.area rs how old new → EndsByAnswer (pack_text how) how old new end → GoesOn
      packed-on is how heard A by = (let v = opened_at A.faults in
          let n = length (moment Reopen Opened v ∷ later ∷ ms) in
          let ran = A.ran v n (over A.faults A.before) in
          let c = ran.runs.begun in
          let begun = rw ran.runs.begins.2 at ran.runs.begins in
          let g = rw ran.runs.begins.2 at ran.runs.goes_on in
          ended-so A.faults A.before BeginPack tt c begun how [] ran.last g
          (λ go. IsCall.packed (continued w) v c ran.last g.steps how is go refl by heard)
          (A.tells ∙ S.tells) ran.images ran.faults_are ran.handed)

      module _ (kind : Kind) (own : Option ℕ) (is_job : RunsKind command old new kind)
          (named : profile_named command ≡ own) (may : MayName kind own)
          (byte : (p : ℕ) → own ≡ Some p → p < 256) (spelled : IsSpelledKind kind) where
        refused-on : (why : Refusal) →
            (refusal_of_begin 8 opened kind own ≡ Some why) ⊎ (why ≡ refusal.Memory) →
            IsSynced old new → IsRefused (status_of why) 0 old new end → GoesOn
        refused-on why cause sync r = stays-on (moment (begin_of kind own) (Refused why) opened ∷ reopened ∷
            later ∷ []) refl (IsCall.refused kind (continued w) opened opened why is_job
            (ap (λ o. moment (begin_of kind o) (Refused why) opened ∷ reopened ∷ later ∷ []) (sym named))
            r.status_is r.heard) (
              begin-spelled kind own spelled byte,
              begin-happens kind own may (length (reopened ∷ later ∷ ms)) opened (Refused why) opened
                  (refl, cause, refl),
              run-opened new.disk_faults counts.disk,
            ) sync r.providers

        -- the words of a begin are bytes, also where it is refused
        job-on : (A : AnswersJob kind own O.area rs old new end) → PutsWhole A → GoesOn
        unfolding setup_in
        job-on (AnswersJob.refused why is sync r) whole = refused-on why
            (inl (refusal-of opened (over new.disk_faults counts.disk).at_rest kind own ∙ is)) sync r
        job-on (AnswersJob.no_memory sync r) whole = refused-on refusal.Memory (inr refl) sync r
        job-on (AnswersJob.ended how _ A left by) whole = (let v = opened_at A.faults in
            let n = length (moment Reopen Opened v ∷ later ∷ ms) in
            let ran = A.ran v n (over A.faults A.before) in
            let c = ran.runs.begun in
            let begun = begin-happens kind own may n v (Begun 1) c
            (rw ran.runs.begins.2 at ran.runs.begins) in
            let g = rw ran.runs.begins.2 at ran.runs.goes_on in
            ended-so A.faults A.before (begin_of kind own) (begin-spelled kind own spelled byte) c begun how
            end.heard ran.last g
            (λ go. IsCall.ended kind (continued w) v c ran.last g.steps how is_job whole go
            (ap (λ o. moment (Step 1) (Ended how) ran.last ∷
            (g.steps ++ moment (begin_of kind o) (Begun 1) c ∷ moment Reopen Opened v ∷ later ∷ []))
            (sym named)) (subst (λ (t : Setup). EndsByAnswer (text_of t.tolerance kind how) how old
            new end) same-setup-in by) g.heard_is)
            (tells-outside O.area kind own how rs ran.last.journal old.disk new.disk ran.outside_text
            ∙ S.tells)
            ran.images ran.faults_are ran.handed)

      -- a put that was given up has made some steps and no end
      given-on : (name bytes : List ℕ) (own : Option ℕ) → RunsKind command old new (PutJob name bytes) →
          profile_named command ≡ own → ((p : ℕ) → own ≡ Some p → p < 256) →
          IsSpelledKind (PutJob name bytes) → StopsReading (put_stripe rs own) bytes old new end →
          PartRuns O.area rs name bytes own old new → PartLeft O.area rs name bytes own old new → GoesOn
      given-on name bytes own is_job named byte spelled stops A left = (let v = opened_at A.faults in
          let n = length (moment Reopen Opened v ∷ later ∷ ms) in
          let ran = A.ran v n (over A.faults A.before) in
          let c = ran.runs.begun in
          let steps = ran.runs.steps in
          let begin = begin_of (PutJob name bytes) own in
          let words = begin-spelled (PutJob name bytes) own spelled byte in
          let begun = begin-happens (PutJob name bytes) own (MayName.put name bytes refl) n v (Begun 1) c
          (rw ran.runs.begins.2 at ran.runs.begins) in
          let are = rw ran.runs.begins.2 at ran.runs.are_steps in
          let first = begun-moments A.faults A.before begin words c begun in
          let whole_is = append_assoc steps first ms in
          let last : ran.last ≡ now start ((steps ++ first) ++ ms) =
          ran.runs.last ∙ (sym (now-more start steps (first ++ ms)) ∙ ap (now start) (sym whole_is)) in
          goes-by (steps ++ first) (IsCall.given_up name bytes (continued w) v c steps is_job
          (steps-go c (n + 1) steps are) (ap (λ o. steps ++ moment (begin_of (PutJob name bytes) o) (Begun 1) c
          ∷ moment Reopen Opened v ∷ later ∷ []) (sym named)) (given-status _ bytes old new end stops)
          stops.heard)
          (rw (← whole_is) at (stepped A.faults A.before begin words c begun steps are))
          (sym (is_some-option_map (outside O.area (after_begin rs name)) new.disk)
          ∙ (ap is_some left.outside_text
          ∙ (is_some-option_map (outside O.area (after_begin rs name)) old.disk ∙ S.tells)))
          (subst (StandsForState new.disk) last ran.images)
          (ap (λ s. s.disk_faults) (sym last) ∙ ran.faults_are)
          (subst (AreHanded new.providers) last ran.handed))

    alone-on : (kind : Kind) → ReadsWhole kind old new → RunsKind command old new kind →
        profile_named command ≡ None → IsSpelledKind kind → AnswersAlone kind old new end → GoesOn
    alone-on kind whole is named spelled (AnswersAlone.unstarted u) = unstarted-on u
    alone-on kind whole is named spelled (AnswersAlone.begun rs O A) =
        job-on rs O kind None is named (MayName.none refl) (λ p e. absurd (cc e)) spelled A (puts-all whole A)

    list-on : command ≡ ListAll → AnswersList old new end → GoesOn
    list-on is (AnswersList.unstarted u) = unstarted-on u
    list-on is (AnswersList.no_memory r) = memory-on r
    list-on is (AnswersList.listed rs O L) = stays-on rs O
        (moment Names (Listed (files_of (records rs O))) (opened rs O) ∷ reopened rs O ∷ later ∷ []) refl
        (IsCall.listed (continued w) (opened rs O) (opened rs O) is refl
        (rw (sound-opened rs O new.disk_faults counts.disk).journal.alike.files at L.written) L.heard)
        (tt, (refl, refl), run-opened rs O new.disk_faults counts.disk) L.disk L.providers

    scrub-on : command ≡ ScrubAll → AnswersScrub old new end → GoesOn
    scrub-on is (AnswersScrub.unstarted u) = unstarted-on u
    scrub-on is (AnswersScrub.no_memory rs O sync r) = opened-on rs O (inr r.status_is) sync r
    scrub-on is (AnswersScrub.ended rs how O sync heard runs left by) =
        scrubbed-on rs O is how heard sync runs by

    pack-on : command ≡ PackJournal → AnswersPack old new end → GoesOn
    pack-on is (AnswersPack.unstarted u) = unstarted-on u
    pack-on is (AnswersPack.refused rs why O cause sync r) = stays-on rs O
        (moment BeginPack (Refused why) (opened rs O) ∷ reopened rs O ∷ later ∷ []) refl
        (IsCall.pack_refused (continued w) (opened rs O) (opened rs O) why is refl r.status_is r.heard) (
          tt,
          (
            refl,
            inl (pack-refusal-of (opened rs O) (over rs O new.disk_faults counts.disk).at_rest ∙ cause),
            refl,
          ),
          run-opened rs O new.disk_faults counts.disk,
        ) sync r.providers
    pack-on is (AnswersPack.no_memory rs O sync r) = opened-on rs O (inr r.status_is) sync r
    pack-on is (AnswersPack.ended rs how O begins heard runs left by) = packed-on rs O is how heard runs by

    put-on : (name : List ℕ) (own : Option ℕ) →
        ((bytes rest : List ℕ) → ReadsFront old.source new.source (bytes ++ rest) →
        length bytes ≤ largest_file → RunsKind command old new (PutJob name bytes)) →
        profile_named command ≡ own → AreBytes name → ((p : ℕ) → own ≡ Some p → p < 256) →
        AnswersPut name own old new end → GoesOn
    put-on name own is named spelled byte (AnswersPut.unstarted u same) = unstarted-on u
    put-on name own is named spelled byte (AnswersPut.bad_profile rs O unknown sync same r) =
        stays-on rs O (reopened rs O ∷ later ∷ []) refl
        (IsCall.bad_profile (continued w) (opened rs O) refl (rw (← named) at unknown) r.status_is r.heard)
        (run-opened rs O new.disk_faults counts.disk) sync r.providers
    put-on name own is named spelled byte (AnswersPut.source_fault rs O known rose sync taken r) =
        opened-on rs O (inl r.status_is) sync r
    put-on name own is named spelled byte (AnswersPut.no_memory taken r) = memory-on r
    put-on name own is named spelled byte (AnswersPut.begun rs bytes O known read few A whole one) =
        job-on rs O (PutJob name bytes) own (is bytes [] (rw (← (append-nil bytes)) at read) few) named
        (MayName.put name bytes refl) byte (spelled, read.are_bytes) A (puts-whole read A whole)
    put-on name own is named spelled byte (AnswersPut.given_up rs bytes O known begins stops runs left) =
        (let G = given-front O.area name bytes own rs old new end begins stops in
        given-on rs O name bytes own (is bytes G.0 G.2 G.3) named byte (spelled, G.1) stops runs left)

  -- a command over a store that a run left goes on with that run
  pub command-on : (command : Command) (new : Seen) (end : Ending) (counts : NoCountFalls old new) →
      opens_store command ≡ true → IsSpelledCommand command → Answers command old new end →
      GoesOn command new end counts
  command-on (PutUnder name) new end counts opens spelled A = put-on (PutUnder name) new end counts name None
      (λ bytes rest read few. (bytes, rest, read, few, refl)) refl spelled (λ p e. absurd (cc e)) A
  command-on (PutAt name profile) new end counts opens spelled A = put-on (PutAt name profile) new end counts
      name (Some profile) (λ bytes rest read few. (bytes, rest, read, few, refl)) refl spelled.0
      (λ p e. (rw (same_value (Some profile) profile p refl e) at spelled.1)) A
  command-on ListAll new end counts opens spelled A = list-on ListAll new end counts refl A.0
  command-on ScrubAll new end counts opens spelled A = scrub-on ScrubAll new end counts refl A.0
  command-on PackJournal new end counts opens spelled A = pack-on PackJournal new end counts refl A.0
  command-on (RowOf n l b seen) new end counts opens spelled A = absurd (false≢true opens)
  command-on (InitWith numbers) new end counts opens spelled A = absurd (false≢true opens)
  command-on command new end counts opens spelled A =
      alone-on command new end counts _ tt refl refl spelled A.0

-- A pack of the journal is one of the machine.
use Rattle.vault.proofs.Words.{◌≡◌, ◌⊎◌, ℕ, zero, suc, ◌+◌, ◌<◌, ◌≤◌, Bool, true, false, List, Option, Some, None, refl, sym, ap, ◌∙◌, subst, inl, inr, arith, IfSome, ∥∥₁_map, false≢true, eq-eqb, some-not-none, Cells, Rose, Provider, Area, other_area, text_length, packed, packing, switched, unalone, barred_pack, Outcome, Step, More, Ended, Happens, State, StandsForState, Alone, Packing, setup_in, StepsMine, StepsOne, StepsOpen, Steps, IsSound, alone-sound, journal-same, StandsFirm, Pack, Packs, AreHanded, IsCoreFlight, CoreView, Devices, devices, AreDevices, all-shown, switched-shown, firm-shown, shown-again, Desk, Flight, PackJob, Vault, DeskStands, IsAtWork, IsFlight, cells_by, plain, IsQuiet, IsPackOf, StandsPacking, MakesPackStep, found_none, handed_same}
use Rattle.std.proofs.Common.{◌==◌}
use Rattle.record_defs.specs.Records.{Record}
use Rattle.machine_defs.specs.Alone as machine
use Rattle.machine_defs.specs.Answers as answers
use Rattle.machine_defs.specs.States as states
use Rattle.std.specs.Prelude.{Result, Ok, Err}
use Rattle.stream_model.specs.declared.fault.WriteFault.{WriteFault}
use Rattle.stream_model.specs.declared.fault.WriteFault.TheVariants as write_fault
use Rattle.journal_pack.specs.Packs.{moves_of, text_of, to_of, TurnsPack, PacksDisk, KeepsJournal}
use Rattle.journal_pack.proofs.Packs.{keeps-journal}
use Rattle.vault.specs.declared.packing.PackAnswer.{PackAnswer}
use Rattle.vault.specs.declared.packing.PackAnswer.TheVariants as answer
use Rattle.vault.specs.declared.packing.PackTurn.TheVariants as turn
use Rattle.vault.specs.Packing.{pack_answer}
use Rattle.vault.proofs.Aside.{aside, unalone-is, plain-sound, again, none-flies}
use Rattle.vault.proofs.Switching.{idle, clear}
use Rattle.vault.proofs.Untold.{leaves_by}

-- ---- the moves

-- one turn of a pack and of its disk
pub record IsTurned (p : Pack) (result : Result Bool WriteFault) (q : Pack) (old new : Option Cells) : Type 0 where
  pub turns : TurnsPack p result q
  pub disk : PacksDisk p result old new

-- it is one of a disk that tells nothing
pub turned_by : (is_told : Bool) (p : Pack) (result : Result Bool WriteFault) (q : Pack) (old new : Option Cells)
    → IsTurned p result q old new → IsTurned p result q (cells_by is_told old) (cells_by is_told new)
turned_by is_told p result q old new t =
    record { turns = t.turns; disk = leaves_by is_told _ _ _ result old new t.disk }

-- ---- a core that is barred

barred_flight : (c : CoreView) (o : Option states.Append) → IsCoreFlight c o →
    IsCoreFlight (record c { barred = true }) o
barred_flight c _ is = is

-- a desk that is barred stands for the barred state
again_barred : (v v' : Desk) (w : State) (d e : Devices) (before now : Bool) (old faults : ℕ)
    → DeskStands v d (aside w before old) → v' ≡ record v { core = record v.core { barred = true } }
    → IsSound 8 (record (aside w now faults) { is_barred = true })
    → AreDevices e (record (aside w now faults) { is_barred = true })
    → DeskStands v' e (record (aside w now faults) { is_barred = true })
unfolding setup_in
again_barred v v' w d e before now old faults S is sound devices =
    subst (λ (x : Desk). DeskStands x e (record (aside w now faults) { is_barred = true })) (sym is) (record {
      devices = devices;
      core = record {
        sound = sound;
        is_open = S.core.is_open;
        none_alone = refl;
        table = S.core.table;
        setup = S.core.setup;
        end = S.core.end;
        jobs = S.core.jobs;
        next_job = S.core.next_job;
        append = barred_flight v.core w.append S.core.append;
        barred = refl;
      };
      base = S.base;
      setup = S.setup;
      shaped = record { n = S.shaped.n; l = S.shaped.l; b = S.shaped.b };
      jobs = S.jobs;
      streams = S.streams;
      flight = λ free. absurd (false≢true (sym free));
    })

-- a sound state with no append in flight is sound where no job goes on
barred-sound : (w : State) → w.is_open ≡ true → w.append ≡ None → IsSound 8 w
    → IsSound 8 (record w { is_barred = true })
unfolding setup_in
barred-sound w opened clear S = record {
  accepted = S.accepted;
  spelled = S.spelled;
  journal = journal-same w (record w { is_barred = true }) refl refl refl S.journal;
  room = S.room;
  files = S.files;
  names = S.names;
  ids = S.ids;
  audits = S.audits;
  closed = λ closed. absurd (false≢true (sym closed ∙ opened));
  set_up = S.set_up;
  handed = S.handed;
  few = S.few;
  numbered = S.numbered;
  jobs = S.jobs;
  in_journal = S.in_journal;
  lone = S.lone;
  packing = S.packing;
  switching = λ e. (let s = S.switching e in record {
    version = s.version;
    undoubted = s.undoubted;
    jobs = s.jobs;
    packing = λ o free. absurd (false≢true (sym free));
  });
  upgrade = S.upgrade;
  one_check = S.one_check;
  apart = S.apart;
  append = λ a h. absurd (some-not-none w.append a h clear);
  barred = λ b. clear;
  undoubted = λ o free. absurd (false≢true (sym free));
  doubt = S.doubt;
}

-- a quiet desk that is barred goes on to be at work
pub barred-works : (v v' : Desk) → IsQuiet v → v' ≡ record v { core = record v.core { barred = true } }
    → IsAtWork v → IsAtWork v'
barred-works v v' quiet is at = λ rest bytes. ∥∥₁_map (at rest bytes) (λ x.
    let w = x.0 in
    let d = devices None x.1 x.2 in
    let S = x.3 in
    let none = idle v quiet w d S in (
      record (aside w w.is_switching w.disk_faults) { is_barred = true },
      x.1,
      x.2,
      again_barred v v' w d d w.is_switching w.is_switching w.disk_faults w.disk_faults
          (subst (λ (y : State). DeskStands v d y) (unalone-is w S.core.none_alone) S) is
          (barred-sound (aside w w.is_switching w.disk_faults) S.core.is_open (clear v quiet w d S)
          (subst (IsSound 8) (unalone-is w S.core.none_alone) S.core.sound)) (record {
            images = tt;
            faults = S.devices.faults;
            providers = handed_same x.2 w (record (aside w w.is_switching w.disk_faults) { is_barred = true })
                S.devices.providers refl (λ j. refl);
          }),
      λ number stripes job told runs. absurd (found_none w.jobs number job none runs),
    ))

-- where nothing is in flight and no append is, the disk has the journal
pub lies : (f : Option Flight) (o : Option states.Append) (area : Area)
    (rs : List Record) (told : Option Cells) → f ≡ None → o ≡ None → IfSome told (StandsFirm area rs)
    → IsFlight f o area rs told
lies f o area rs told none clear firm = rw (none, clear) firm

-- a pack that made a move, not the fourth, is one of the vault as before
pub pack-on : (v : Vault) (job next : PackJob) → IsPackOf v job → next.number ≡ job.number
    → to_of next.pack ≡ to_of job.pack → text_of next.pack ≡ text_of job.pack → moves_of job.pack < 4
    → IsPackOf v next
pack-on v job next is number to text few = record {
  held = is.held ∙ ap Some (sym number);
  quiet = is.quiet;
  text = λ l. record {
    writes = λ area base. (let on = (is.text few).writes area base in
        record { to = to ∙ on.to; text = text ∙ on.text });
    version = (is.text few).version;
  };
}

-- ---- steps

-- how many moves are made
few_moves : (n : ℕ) → n < 4 → (n < 2) ⊎ ((n ≡ 2) ⊎ (n ≡ 3))
few_moves (suc (suc zero)) l = inr (inl refl)
few_moves (suc (suc (suc zero))) l = inr (inr refl)
few_moves (suc (suc (suc (suc n)))) l = absurd (omega arith)
few_moves _ l = inl (omega arith)

module _ (v : Vault) (job : PackJob) (w : State) (told : Option Cells) (faults : ℕ) (ps : List Provider)
    (S : StandsPacking v job (devices told faults ps) w) where
  opened : w.is_open ≡ true
  opened = S.beside.desk.core.is_open

  mine : (S.pack.number == job.number) ≡ true
  mine = eq-eqb S.pack.number job.number (sym S.number_is)

  -- a step of the pack is one of the machine
  happens : (outcome : Outcome) (new : State) → machine.Packs w S.pack S.pack.moves outcome new
      → (limit moment : ℕ) → Happens limit moment w (Step job.number) outcome new
  happens outcome new packs limit moment = subst (λ (b : Bool). Steps w job.number b outcome new) (sym opened)
      (subst (λ (b : Bool). StepsOpen w job.number b outcome new) (sym S.beside.unbarred)
      (subst (λ (o : Option Alone). StepsOne w job.number o outcome new) (sym S.alone)
      (subst (λ (b : Bool). StepsMine w job.number (Packing S.pack) b outcome new) (sym mine) packs)))

  sound : (outcome : Outcome) (new : State) → machine.Packs w S.pack S.pack.moves outcome new → IsSound 8 new
  sound outcome new packs = alone-sound 8 w S.sound opened S.beside.unbarred S.beside.idle (Packing S.pack)
      outcome new S.alone packs

  handed : (new : State) → new.handed ≡ w.handed → ((j : ℕ) → new.providers j ≡ w.providers j)
      → AreHanded ps new
  handed new same each = handed_same ps w new S.devices.providers same each

  none : w.append ≡ None
  none = none-flies w S.beside.idle S.sound

  on_way : moves_of job.pack < 4 → Packs w.area w.journal (packed w.journal) job.pack told
  on_way few = S.on_way few

  -- the desk stands for the state without the pack, with another count of faults
  beside : (faults' : ℕ) → IsSound 8 (aside w false faults')
      → DeskStands v.desk (devices None faults' ps) (aside w false faults')
  beside faults' fine = again v.desk w (devices None faults ps) (devices None faults' ps) false false
      w.disk_faults faults' S.beside.desk fine
      (record { images = tt; faults = refl; providers = handed (aside w false faults') refl (λ j. refl) })
      S.beside.desk.flight

  -- ---- a move is made

  -- a turn keeps the journal
  kept : (result : Result Bool WriteFault) (q : Pack) (told' : Option Cells)
      → IsTurned job.pack result q told told' → moves_of job.pack < 4
      → KeepsJournal w.area w.journal (packed w.journal) job.pack result q told'
  kept result q told' t few = keeps-journal w.area w.journal (packed w.journal) job.pack q result told told'
      (on_way few) few t.turns t.disk

  module _ (next : PackJob) (told' : Option Cells) (faults' : ℕ) (number_is : next.number ≡ job.number)
      (before_is : next.before ≡ job.before) (ended : Bool) (t : IsTurned job.pack (Ok ended) next.pack told told')
      (falls_not : faults ≤ faults') where
    low : w.disk_faults ≤ faults'
    low = subst (λ (n : ℕ). n ≤ faults') (sym S.devices.faults) falls_not

    moves : moves_of next.pack ≡ S.pack.moves + 1
    moves = t.turns.count.next ∙ ap (λ (k : ℕ). k + 1) S.moves_are

    on : moves_of job.pack < 4
        → KeepsJournal w.area w.journal (packed w.journal) job.pack (Ok ended) next.pack told'
    on few = kept (Ok ended) next.pack told' t few

    -- a move before the fourth leaves the area being switched or not
    abbrev gone : Bool → State
    gone switches = record (packing w S.pack) { disk_faults = faults'; is_switching = switches }

    goes_by : (switches : Bool) → machine.Packs w S.pack S.pack.moves More (gone switches)
        → StandsForState told' (gone switches) → moves_of job.pack < 3
        → (moves_of job.pack ≡ 2 → switches ≡ true) → IsPackOf v next
        → MakesPackStep w job.number (turn.More next) v (devices told' faults' ps)
    goes_by switches made images few third is_of =
        let new = gone switches in
        let fine = sound More new made in
        record {
          state = new;
          happens = happens More new made;
          stands = record {
            pack = record S.pack { moves = S.pack.moves + 1 };
            alone = refl;
            number_is = number_is ∙ S.number_is;
            before_is = before_is ∙ S.before_is;
            moves_are = moves;
            is_of = is_of;
            sound = fine;
            devices = record { images = images; faults = refl; providers = handed new refl (λ j. refl) };
            beside = record {
              held = is_of.held;
              desk = beside faults' (plain-sound new fine);
              idle = S.beside.idle;
              unbarred = S.beside.unbarred;
            };
            on_way = λ l. (on (omega (arith, few))).moved;
            switching = λ three. third (let n = t.turns.count.next in omega (arith, three, n));
            made = λ four. absurd (let n = t.turns.count.next in omega (arith, four, n, few));
          };
        }

    -- such a move
    pub goes : moves_of job.pack < 3 → IsPackOf v next
        → MakesPackStep w job.number (turn.More next) v (devices told' faults' ps)
    goes few is_of = elim (few_moves (moves_of job.pack) (omega (arith, few))) [
      | inl first ↦ goes_by w.is_switching (by S.pack.moves (rw S.moves_are at first))
          (all-shown told' (gone w.is_switching) w.area w.journal refl refl
          ((on (omega (arith, first))).before first)) few (λ two. absurd (omega (arith, two, first))) is_of
      | inr (inl two) ↦ goes_by true (subst (λ (k : ℕ). machine.Packs w S.pack k More (gone true))
          (sym two ∙ S.moves_are) (faults', low, refl)) (switched-shown told' (gone true) w.area w.journal
          refl refl refl ((on (omega (arith, two))).between)) few (λ e. refl) is_of
      | inr (inr three) ↦ absurd (omega (arith, few, three))
    ]
      where
        by : (k : ℕ) → k < 2 → machine.Packs w S.pack k More (gone w.is_switching)
        by (suc (suc k)) l = absurd (omega (arith, l))
        by _ l = (faults', low, refl)

    -- the fourth, with which the packed journal is that of the vault
    pub goes_fourth : moves_of job.pack ≡ 3 → (v' : Vault) → IsPackOf v' next
        → DeskStands v'.desk (devices None faults ps) (switched (plain w))
        → MakesPackStep w job.number (turn.More next) v' (devices told' faults' ps)
    goes_fourth three v' is_of desk =
        let new : State = record (switched (packing w S.pack)) { disk_faults = faults' } in
        let made : machine.Packs w S.pack S.pack.moves More new =
        subst (λ (k : ℕ). machine.Packs w S.pack k More new) (sym three ∙ S.moves_are) (faults', low, refl) in
        let fine = sound More new made in
        let kept = on (omega (arith, three)) in
        let writes = (on_way (omega (arith, three))).writes in
        let four : moves_of next.pack ≡ 4 = (let n = t.turns.count.next in omega (arith, n, three)) in
        record {
          state = new;
          happens = happens More new made;
          stands = record {
            pack = record S.pack { moves = S.pack.moves + 1 };
            alone = refl;
            number_is = number_is ∙ S.number_is;
            before_is = before_is ∙ S.before_is;
            moves_are = moves;
            is_of = is_of;
            sound = fine;
            devices = record {
              images = all-shown told' new (other_area w.area) (packed w.journal) refl refl (kept.after four);
              faults = refl;
              providers = handed new refl (λ j. refl);
            };
            beside = record {
              held = is_of.held;
              desk = again v'.desk (switched w) (devices None faults ps) (devices None faults' ps) false false
                  w.disk_faults faults' desk (plain-sound new fine)
                  (record { images = tt; faults = refl; providers = handed (plain new) refl (λ j. refl) })
                  desk.flight;
              idle = S.beside.idle;
              unbarred = S.beside.unbarred;
            };
            on_way = λ l. absurd (omega (arith, l, four));
            switching = λ so. absurd (omega (arith, so, four));
            made = λ so. (
              kept.ready four,
              record { to = t.turns.to ∙ writes.to; text = t.turns.text ∙ writes.text },
            );
          };
        }

  -- ---- its end

  ends_by : (how : PackAnswer) (told' : Option Cells) (faults' : ℕ) (v' : Vault) → v'.held ≡ None
      → v'.desk ≡ v.desk → faults' ≡ faults
      → machine.Packs w S.pack S.pack.moves (Ended (pack_answer how)) (unalone w)
      → StandsForState told' (unalone w) → IfSome told' (StandsFirm w.area w.journal)
      → MakesPackStep w job.number (turn.Done how) v' (devices told' faults' ps)
  ends_by how told' faults' v' free same still made images left = record {
    state = unalone w;
    happens = happens (Ended (pack_answer how)) (unalone w) made;
    stands = record {
      free = free;
      desk = subst (λ (x : Desk). DeskStands x (devices told' faults' ps) (unalone w)) (sym same)
          (again v.desk w (devices None faults ps) (devices told' faults' ps) false w.is_switching w.disk_faults
          w.disk_faults S.beside.desk (sound (Ended (pack_answer how)) (unalone w) made)
          (record {
            images = images;
            faults = S.devices.faults ∙ sym still;
            providers = handed (unalone w) refl (λ j. refl);
          })
          (λ unbarred. lies v.desk.flight w.append w.area w.journal told' S.is_of.quiet.flight none left));
    };
  }

  -- all moves are made
  pub ends_made : moves_of job.pack ≡ 4 → (v' : Vault) (after : ℕ) → v'.held ≡ None → v'.desk ≡ v.desk
      → after ≡ text_length w.area w.journal
      → MakesPackStep w job.number (turn.Done (answer.Packed job.before after)) v' (devices told faults ps)
  ends_made four v' after free same size = ends_by (answer.Packed job.before after) told faults v' free same refl
      (subst (λ (k : ℕ). machine.Packs w S.pack k (Ended (answers.Packed job.before after)) (unalone w))
      (sym four ∙ S.moves_are) (S.before_is, size, refl))
      (shown-again told w (unalone w) refl refl refl refl S.devices.images) (S.made four).0

  -- a write found no memory
  pub ends_unwritten : (told' : Option Cells) (faults' : ℕ) (v' : Vault) → v'.held ≡ None → faults' ≡ faults
      → (result : Result Bool WriteFault) (q : Pack) → IsTurned job.pack result q told told'
      → result ≡ Err write_fault.Memory → moves_of job.pack < 4 → v'.desk ≡ v.desk
      → MakesPackStep w job.number (turn.Done answer.Memory) v' (devices told' faults' ps)
  ends_unwritten told' faults' v' free still result q t memory few same =
      let at = λ (k : ℕ). machine.Packs w S.pack k (Ended answers.Memory) (unalone w) in
      let left = (kept result q told' t few).kept memory in
      ends_by answer.Memory told' faults' v' free same still
      (elim (t.disk.writes memory) [
        | inl none ↦ subst at (sym none ∙ S.moves_are) refl
        | inr two ↦ subst at (sym two ∙ S.moves_are) refl
      ])
      (firm-shown told' (unalone w) w.area w.journal refl refl left) left

  module _ (told' : Option Cells) (faults' : ℕ) (v' : Vault) (free : v'.held ≡ None) (falls_not : faults ≤ faults')
    where
      fallen : w.disk_faults ≤ faults'
      fallen = subst (λ (n : ℕ). n ≤ faults') (sym S.devices.faults) falls_not

      module _ (result : Result Bool WriteFault) (q : Pack) (t : IsTurned job.pack result q told told')
          (rose : Rose faults faults')
          (barred : v'.desk ≡ record v.desk { core = record v.desk.core { barred = true } }) where
        risen : Rose w.disk_faults faults'
        risen = subst (λ (n : ℕ). Rose n faults') (sym S.devices.faults) rose

        -- a failed move leaves the area being switched or not
        abbrev failed : Bool → State
        failed switches = record (barred_pack w) { disk_faults = faults'; is_switching = switches }

        fails_by : (switches : Bool) → machine.Packs w S.pack S.pack.moves (Ended answers.DiskFault) (failed switches)
            → StandsForState told' (failed switches)
            → MakesPackStep w job.number (turn.Done answer.DiskFault) v' (devices told' faults' ps)
        fails_by switches made images =
            let new = failed switches in
            record {
              state = new;
              happens = happens (Ended answers.DiskFault) new made;
              stands = record {
                free = free;
                desk = again_barred v.desk v'.desk w (devices None faults ps) (devices told' faults' ps) false
                    switches w.disk_faults faults' S.beside.desk barred
                    (sound (Ended answers.DiskFault) new made)
                    (record { images = images; faults = refl; providers = handed new refl (λ j. refl) });
              };
            }

        -- a move that failed
        pub fails : moves_of job.pack < 4
            → MakesPackStep w job.number (turn.Done answer.DiskFault) v' (devices told' faults' ps)
        fails few = elim (few_moves (moves_of job.pack) few) [
          | inl first ↦ fails_by w.is_switching (by S.pack.moves (rw S.moves_are at first))
              (all-shown told' (failed w.is_switching) w.area w.journal refl refl
              ((kept result q told' t few).before first))
          | inr (inl two) ↦ fails_by true
              (subst (λ (k : ℕ). machine.Packs w S.pack k (Ended answers.DiskFault) (failed true))
              (sym two ∙ S.moves_are) (faults', fallen, risen, refl)) (switched-shown told' (failed true)
              w.area w.journal refl refl refl ((kept result q told' t few).between))
          | inr (inr three) ↦ fails_by w.is_switching
              (subst (λ (k : ℕ). machine.Packs w S.pack k (Ended answers.DiskFault) (failed w.is_switching))
              (sym three ∙ S.moves_are) (faults', fallen, risen, refl))
              (switched-shown told' (failed w.is_switching) w.area w.journal refl refl (S.switching three)
              ((kept result q told' t few).between))
        ]
          where
            by : (k : ℕ) → k < 2 → machine.Packs w S.pack k (Ended answers.DiskFault) (failed w.is_switching)
            by (suc (suc k)) l = absurd (omega arith)
            by _ l = (faults', fallen, risen, refl)

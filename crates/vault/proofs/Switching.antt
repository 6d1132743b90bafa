-- A desk whose packed journal takes the place of its journal.
use Rattle.vault.proofs.Words.{◌≡◌, ℕ, ◌≤◌, true, false, List, [], None, refl, sym, ap, ◌∙◌, subst, arith, sum_by, ∥∥₁_map, IfSome, IsTrue, list_all, false≢true, some-not-none, is_in_grammar, Area, other_area, end_in, packed, version_of, packed-spelled, switched, State, setup_in, found_none, IsSound, journal-packed, switched-room, StandsFirm, Pack, to_of, WritesText, packed-folds, CoreIs, CoreJob, Devices, devices, AreDevices, Desk, DeskStands, IsAtWork, IsQuiet, IsPackText}
use Rattle.std.proofs.Common.{length}
use Rattle.record_defs.specs.Records.{Record}
use Rattle.machine_defs.specs.Space.{reserved}
use Rattle.vault.proofs.Aside.{none-flies, none-doubted}
use Rattle.vault.proofs.Free.{none_run}

-- a sound state with the packed journal in place of its journal is sound
pub switched-sound : (w : State) → w.is_open ≡ true → w.is_barred ≡ false → w.jobs ≡ [] →
    version_of w.records ≡ 2 → IsSound 8 w → IsSound 8 (switched w)
unfolding setup_in
switched-sound w opened unbarred idle second S =
    let clear = none-flies w idle S in
    let undoubted = none-doubted w idle opened unbarred S in
    record {
      accepted = S.accepted;
      spelled = S.spelled;
      journal = journal-packed w (switched w) refl refl second S.journal;
      room = (let none = ap (sum_by (reserved (version_of w.records) (setup_in w))) idle in
          let fits = switched-room w.journal w.area S.journal.accepted S.journal.spelled in
          omega (arith, none, fits));
      files = S.files;
      names = S.names;
      ids = S.ids;
      audits = S.audits;
      closed = S.closed;
      set_up = S.set_up;
      handed = S.handed;
      few = S.few;
      numbered = S.numbered;
      jobs = S.jobs;
      in_journal = λ k j h. absurd (found_none w.jobs k j idle h);
      lone = S.lone;
      packing = S.packing;
      switching = λ e. absurd (false≢true e);
      upgrade = S.upgrade;
      one_check = S.one_check;
      apart = S.apart;
      append = λ a h. absurd (some-not-none w.append a h clear);
      barred = S.barred;
      undoubted = S.undoubted;
      doubt = λ d h. absurd (some-not-none w.doubt d h undoubted);
    }

pub no-job : (js : List CoreJob) → js ≡ [] → length js ≤ 0
no-job js e = omega (arith, ap length e)

-- ---- a desk that is quiet

module _ (v : Desk) (quiet : IsQuiet v) (w : State) (d : Devices) (S : DeskStands v d w) where
  pub idle : w.jobs ≡ []
  idle = none_run v.core.setup v.core.jobs w.jobs S.core.jobs (no-job v.core.jobs quiet.idle)

  pub unbarred : w.is_barred ≡ false
  unbarred = sym S.core.barred ∙ quiet.unbarred

  pub clear : w.append ≡ None
  clear = none-flies w idle S.core.sound

  module _ (p : Pack) (text : IsPackText v p) where
    pub second : version_of w.records ≡ 2
    second = sym S.core.sound.journal.alike.version ∙ (sym S.core.table.version ∙ text.version)

    -- what it writes is the packed journal
    pub writes : WritesText (other_area w.area) (packed w.journal) p
    writes = rw (packed-folds w.journal v.core.table S.core.table) at (text.writes w.area S.base)

    pub sound : IsSound 8 (switched w)
    sound = switched-sound w S.core.is_open unbarred idle second S.core.sound

    -- the end of its text is that of the packed journal
    pub ends : (end : ℕ) → ((area : Area) (qs : List Record) → IsTrue (list_all is_in_grammar qs)
        → WritesText area qs p → end ≡ end_in area qs) → end ≡ end_in (other_area w.area) (packed w.journal)
    ends end is = is (other_area w.area) (packed w.journal)
        (packed-spelled w.journal S.core.sound.journal.accepted S.core.sound.journal.spelled) writes

    -- with another base and a core that was told of it the desk stands for the state that has it
    pub moved-stands : (v' : Desk) (e : Devices) → v' ≡ record v { base = to_of p; core = v'.core }
        → CoreIs v'.core (switched w) → AreDevices e (switched w)
        → IfSome e.holds (StandsFirm (other_area w.area) (packed w.journal)) → DeskStands v' e (switched w)
    unfolding setup_in
    moved-stands v' e is core devices firm = subst (λ x. DeskStands x e (switched w)) (sym is) (record {
      devices = devices;
      core = core;
      base = writes.to;
      setup = S.setup;
      shaped = record { n = S.shaped.n; l = S.shaped.l; b = S.shaped.b };
      jobs = S.jobs;
      streams = λ number t job tasks runs. absurd (found_none w.jobs number job idle runs);
      flight = λ free. rw (quiet.flight, clear) firm;
    })

-- so it goes on to be at work
pub moved-works : (v v' : Desk) (p : Pack) → IsQuiet v → IsPackText v p
    → v' ≡ record v { base = to_of p; core = v'.core }
    → ((w : State) (d : Devices) → DeskStands v d w → CoreIs v'.core (switched w)) → IsAtWork v → IsAtWork v'
moved-works v v' p quiet text is core at = λ rest bytes. ∥∥₁_map (at rest bytes) (λ x. (
  switched x.0,
  x.1,
  x.2,
  moved-stands v quiet x.0 (devices None x.1 x.2) x.3 p text v' (devices None x.1 x.2) is
      (core x.0 (devices None x.1 x.2) x.3) (record {
        images = tt;
        faults = x.3.devices.faults;
        providers = record { count = x.3.devices.providers.count; each = x.3.devices.providers.each };
      })
      tt,
  λ number stripes job told runs.
      absurd (found_none x.0.jobs number job (idle v quiet x.0 (devices None x.1 x.2) x.3) runs),
))

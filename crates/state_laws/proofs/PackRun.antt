-- A store that was set up is opened, gets its second version and is packed: a run.
use Rattle.std.specs.Prelude.{ℕ, ◌+◌, List, [], ◌∷◌, None, Some}
use Rattle.state_laws.proofs.Words.{refl, arith, inl, inr, Version, UpgradeJob, actions_of, Upgraded, Packed, Event, Begin, BeginPack, Step, Reopen, Outcome, Opened, Begun, More, Ended, State, Pack, Packing, IsStart, setup_in, ended, given_up, begun_append, done_append, packing, switching, switched, unalone, new_pack, Happens, Moment, IsRun}
use Rattle.record_defs.specs.Examples.{four}
use Rattle.machine_defs.specs.Examples.{set_up}
use Rattle.machine_defs.proofs.RunParts.{reopened, begun, job_at, append_at, synced, gated}

abbrev state_1 : State
state_1 = reopened set_up

happens_0 : Happens 8 0 set_up Reopen Opened state_1
unfolding setup_in actions_of
happens_0 = (
  record (given_up set_up) { doubt = None },
  (set_up.journal, set_up.area, inl (refl, refl), inl refl),
  refl,
  omega arith,
  (set_up.disk_faults, omega arith, refl),
)

-- ---- an upgrade

abbrev state_2 : State
state_2 = begun state_1 1 UpgradeJob

abbrev state_3 : State
state_3 = begun_append state_2 (job_at state_2 1) Version

abbrev state_4 : State
state_4 = synced state_3 1

abbrev state_5 : State
state_5 = gated state_4 1

abbrev state_6 : State
state_6 = done_append state_5 (job_at state_5 1) (append_at state_5)

abbrev state_7 : State
state_7 = ended state_6 (job_at state_6 1)

-- ---- a pack

abbrev pack_at : ℕ → Pack
pack_at moves = record { number = 2; moves = moves; before = 54 }

abbrev state_8 : State
state_8 = record state_7 { alone = Some (Packing (new_pack state_7)); next_job = state_7.next_job + 1 }

abbrev state_9 : State
state_9 = packing state_8 (pack_at 0)

abbrev state_10 : State
state_10 = packing state_9 (pack_at 1)

abbrev state_11 : State
state_11 = switching (packing state_10 (pack_at 2))

abbrev state_12 : State
state_12 = switched (packing state_11 (pack_at 3))

-- the pack has ended
abbrev pub state_13 : State
state_13 = unalone state_12

-- ---- the run, with the newest moment first

abbrev moment : Event → Outcome → State → Moment
moment event outcome state = record { event = event; outcome = outcome; state = state }

-- the opening of the vault, the upgrade and the pack
abbrev pub moments : List Moment
moments = moment (Step 2) (Ended (Packed 54 64)) state_13 ∷ moment (Step 2) More state_12 ∷ moment (Step 2)
    More state_11 ∷ moment (Step 2) More state_10 ∷ moment (Step 2) More state_9 ∷ moment BeginPack (Begun 2)
    state_8 ∷ moment (Step 1) (Ended Upgraded) state_7 ∷ moment (Step 1) More state_6 ∷ moment (Step 1) More
    state_5 ∷ moment (Step 1) More state_4 ∷ moment (Step 1) More state_3 ∷ moment (Begin UpgradeJob)
    (Begun 1) state_2 ∷ moment Reopen Opened state_1 ∷ []

-- the upgrade and the pack are a run
pub is_run : IsRun 8 set_up moments
unfolding setup_in actions_of
is_run = (
  omega arith,
  (refl, refl, refl),
  (
    omega arith,
    (state_11.disk_faults, omega arith, refl),
    (
      omega arith,
      (state_10.disk_faults, omega arith, refl),
      (
        omega arith,
        (state_9.disk_faults, omega arith, refl),
        (
          omega arith,
          (state_8.disk_faults, omega arith, refl),
          (
            tt,
            (refl, refl, refl, refl),
            (
              omega arith,
              (tt, refl),
              (
                omega arith,
                ((refl, refl), (state_5.disk_faults, omega arith, refl)),
                (
                  omega arith,
                  ((refl, refl), (state_4.disk_faults, omega arith, refl)),
                  (
                    omega arith,
                    ((refl, refl), (state_3.disk_faults, omega arith, refl)),
                    (
                      omega arith,
                      (Version, refl, (state_2.disk_faults, omega arith, refl)),
                      (tt, (refl, refl, refl, refl), (tt, happens_0, tt)),
                    ),
                  ),
                ),
              ),
            ),
          ),
        ),
      ),
    ),
  ),
)

-- the store that was set up is a start of a run
pub starts : IsStart set_up
starts = record {
  records = inr (four, refl, refl);
  journal = refl;
  first_area = refl;
  unswitched = refl;
  none_alone = refl;
  jobs = refl;
  first_job = refl;
  append = refl;
  doubt = refl;
  closed = refl;
  unbarred = refl;
}

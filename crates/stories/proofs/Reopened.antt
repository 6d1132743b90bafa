-- A replay over a store that was set up, from its later call of the program and its reopening on.
use Rattle.stories.proofs.Words.{◌≡◌, List, [], ◌∷◌, ◌≤◌, length, true, refl, ap, sym, subst, ◌∙◌, inl, inr, arith, is_some, Happens, IsSound, Continued, formed, over-is, Cells, reads, firm, text, StandsActive, setup_of, empty_provider, setup_or_none, continued, four_records, devices_of_seen, AreLeft, called_behind, before_byte}
use Rattle.device_defs.proofs.PickLaws.{IsImage-reads}
use Rattle.journal_core.proofs.Meanings.{one_meaning}
use Rattle.state_laws.proofs.Events.{events-sound, run-sound}
use Rattle.command_laws.proofs.GoingOn.{settled, SettlesOn, MaySettle, settled-by}
use Rattle.damage_run.specs.Words.{Record, Reopen, Continue, Opened, State, setup_in, Moment, IsRun, now, moment}
use Rattle.command_runs.proofs.Stores.{put-old, from_some}
use Rattle.stories.specs.Words.{A}

-- what the disk holds
abbrev cells : Cells
cells = firm (text four_records)

pub four-stands : StandsActive (reads cells) A four_records
four-stands = put-old.images (reads cells) (IsImage-reads cells)

module _ (start : State) (before : List Moment) where
  -- the state before the reopening, and what was before it
  abbrev pub found : State
  found = continued (now start before)

  abbrev pub called : List Moment
  called = called_behind start before

  -- the state behind it, spelled out, in which the vault is open
  abbrev pub opened : State
  opened = record (formed A four_records found.bytes empty_provider empty_provider empty_provider empty_provider
      found) { handed = 4 }

  abbrev pub first : List Moment
  first = moment Reopen Opened opened ∷ called

  module _ (L : AreLeft start before (devices_of_seen before_byte)) where
    sound : IsSound 8 (now start before)
    sound = run-sound 8 start before (omega arith, omega arith) L.starts L.run

    -- what the disk reads is settled, with some history
    abbrev MayOpen : Type 0
    MayOpen = (rs : List Record) × SettlesOn (now start before) rs four_records A
        × (setup_of four_records ≡ setup_of rs)

    opens-by : MaySettle (now start before) (reads cells) → MayOpen
    opens-by (MaySettle.some rs journal area F) =
        (let one = one_meaning (reads cells) area A journal four_records F.good.stands four-stands in (
          rs,
          subst (λ l. SettlesOn (now start before) rs l A) one.1
              (subst (SettlesOn (now start before) rs journal) one.0 F.settles),
          ap setup_of (sym one.1) ∙ F.same,
        ))
    opens-by (MaySettle.none N) = elim N.plain [
      | inl none ↦ absurd (let e : [] ≡ four_records = sym N.empty
          ∙ (one_meaning (reads cells) found.area A found.journal four_records none four-stands).1 in cc)
      | inr short ↦ absurd (omega (arith, short, put-old.known.opened.read.reads_are.0))
    ]

    opens : MayOpen
    opens = opens-by (settled-by (now start before) sound (reads cells)
        (L.devices.images (reads cells) (IsImage-reads cells)))

    -- the state with a history
    abbrev with_history : List Record → State
    with_history rs = record (settled found rs four_records A) { is_open = true; disk_faults = 0 }

    reopens : Happens 8 (length called) found Reopen Opened (with_history opens.0)
    unfolding setup_in
    reopens = (
      settled found opens.0 four_records A,
      opens.1 found refl refl refl refl refl,
      ap is_some (sym opens.2),
      subst (λ o. (setup_or_none o).n ≤ found.handed) opens.2
          (let e = L.devices.providers.count in omega (arith, e)),
      (0, (let e = L.devices.faults in omega (arith, e)), refl),
    )

    -- no packed record stands in the journal, so it is the whole history
    whole : opens.0 ≡ four_records
    whole = sym ((events-sound 8 (length called) found
        (events-sound 8 0 (now start before) sound (omega arith, omega arith) Continue Continued found tt refl)
        (omega arith, omega arith) Reopen Opened (with_history opens.0) tt reopens).journal.whole refl)

    -- the state spelled out
    same : opened ≡ with_history four_records
    same = (let each = L.devices.providers.each in λ i. record (with_history four_records) {
      handed = (sym L.devices.providers.count) i;
      providers = over-is found.providers empty_provider empty_provider empty_provider empty_provider
          (from_some empty_provider (found.providers 0) (each 0 (omega arith)))
          (from_some empty_provider (found.providers 1) (each 1 (omega arith)))
          (from_some empty_provider (found.providers 2) (each 2 (omega arith)))
          (from_some empty_provider (found.providers 3) (each 3 (omega arith))) i;
    })

    pub first-run : IsRun 8 start first
    first-run = (
      tt,
      subst (λ s. Happens 8 (length called) found Reopen Opened s) (ap with_history whole ∙ sym same) reopens,
      (tt, refl, L.run),
    )

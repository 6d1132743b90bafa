-- A desk that was just opened.
use Rattle.vault.proofs.Words.{◌≡◌, ◌<◌, ℕ, List, replicate, Option, Some, None, refl, sym, ap, ◌∙◌, subst, arith, slice_get, length-replicate, get_or-replicate, slice_get-get_or, Cells, Provider, Area, base_of, end_in, setup_of, setup_or_none, State, setup_in, journal-same, IsFoldOf, devices, firm-shown, CoreView, CoreIs, IsJustOpened, IsOpenAtRest, Desk, DeskStands, IsAtWork, DeskCarries, found_none}
use Rattle.std.proofs.Common.{length}
use Rattle.record_defs.specs.Records.{Record}
use Rattle.state_laws.proofs.Resting.{rest-sound}
use Rattle.vault_open.specs.declared.store.Store.{Store}
use Rattle.vault_open.specs.Stores.{IsStoreOf}
use Rattle.opening_defs.specs.Journals.{IsRead}
use Rattle.opening_defs.proofs.Opened.{has-setup, state_with, opened-with}
use Rattle.vault.specs.Fresh.{IsFreshDesk}
use Rattle.vault.proofs.AtWork.{works}

module _ (told now : Option Cells) (area : Area) (rs : List Record) (store : Store) (first : ℕ) (v : Desk)
    (read : IsRead told area rs) (is : IsStoreOf store area rs now) (fresh : IsFreshDesk v store first) where
  -- the disk that was read carries the desk that was just opened
  pub carries : DeskCarries v now
  carries = (
    area,
    rs,
    subst (λ (c : CoreView). IsFoldOf rs c.table) (sym fresh.core) is.folds,
    fresh.base ∙ is.base,
    ap (λ (c : CoreView). c.end) fresh.core ∙ is.end,
    rw fresh.flight is.stands,
  )

  -- ---- the states that it stands for

  module _ (faults : ℕ) (w : State) (providers : List Provider)
      (j : IsJustOpened w area rs first faults providers) where
    in_effect : setup_in w ≡ setup_or_none store.table.setup
    unfolding setup_in
    in_effect = ap setup_or_none
        (sym j.at_rest.rest.journal.alike.setup ∙ (ap setup_of j.journal ∙ sym is.folds.setup))

    core : CoreIs v.core w
    core = subst (λ (c : CoreView). CoreIs c w) (sym fresh.core) (record {
      sound = rest-sound 8 w j.at_rest.rest;
      is_open = j.at_rest.opened;
      none_alone = j.at_rest.rest.idle.3;
      table = subst (λ (l : List Record). IsFoldOf l store.table) (sym j.journal) is.folds;
      setup = sym in_effect;
      end = is.end ∙ sym (λ i. end_in (j.area_is i) (j.journal i));
      jobs = rw j.at_rest.rest.idle.0 tt;
      next_job = sym j.at_rest.next;
      append = rw j.at_rest.rest.idle.1 refl;
      barred = sym j.at_rest.rest.idle.2;
    })

    -- a desk that was just opened stands for the state just opened over the records read
    pub stands : DeskStands v (devices now faults providers) w
    stands = record {
      devices = record {
        images = firm-shown now w area rs j.journal j.area_is is.stands;
        faults = j.faults_are;
        providers = j.handed;
      };
      core = core;
      base = fresh.base ∙ is.base ∙ sym (ap base_of j.area_is);
      setup = in_effect ∙ ap setup_or_none fresh.setup;
      shaped = fresh.shaped;
      jobs = rw (fresh.jobs, j.at_rest.rest.idle.0) tt;
      streams = λ number t job tasks runs. absurd (found_none w.jobs number job j.at_rest.rest.idle.0 runs);
      flight = (λ unbarred. rw (fresh.flight, j.at_rest.rest.idle.1, j.area_is, j.journal) is.stands);
    }

-- ---- there is one

-- jobs may be numbered from any number on
renumbered : (w : State) (first : ℕ) → IsOpenAtRest w 1 → IsOpenAtRest (record w { next_job = first }) first
unfolding setup_in
renumbered w first o = record {
  rest = record {
    idle = o.rest.idle;
    undoubted = o.rest.undoubted;
    unswitched = o.rest.unswitched;
    journal = journal-same w (record w { next_job = first }) refl refl refl o.rest.journal;
    accepted = o.rest.accepted;
    in_grammar = o.rest.in_grammar;
    room = o.rest.room;
    files = o.rest.files;
    set_up = o.rest.set_up;
    handed = o.rest.handed;
  };
  opened = o.opened;
  next = refl;
}

abbrev untold : Provider
untold = record { held = None; store_faults = 0; other_faults = 0; fetches = 0 }

-- a desk that was just opened is at work
pub fresh_works : (told now : Option Cells) (area : Area) (rs : List Record) (store : Store) (first : ℕ)
    (v : Desk) → IsRead told area rs → IsStoreOf store area rs now → IsFreshDesk v store first → IsAtWork v
fresh_works told now area rs store first v read is fresh =
    works v w 0 ps (stands told None area rs store first v read blank fresh 0 w ps (record {
      at_rest = renumbered opened first just.at_rest;
      journal = refl;
      area_is = refl;
      faults_are = refl;
      handed = record { count = refl; each = each };
    }))
    (λ rest number stripes job told runs. absurd (found_none w.jobs number job just.at_rest.rest.idle.0 runs))
  where
    n : ℕ
    n = (setup_or_none (setup_of rs)).n

    ps : List Provider
    ps = replicate n untold

    opened : State
    opened = state_with area rs 0 (λ j. untold) (length ps)

    w : State
    w = record opened { next_job = first }

    blank : IsStoreOf store area rs None
    blank = record {
      folds = is.folds;
      setup = is.setup;
      limits = is.limits;
      base = is.base;
      end = is.end;
      stands = tt;
    }

    each : (j : ℕ) → j < length ps → slice_get ps j ≡ Some untold
    each j below = slice_get-get_or ps j untold below
        ∙ ap Some (get_or-replicate n j untold untold (omega (arith, below, length-replicate n untold)))

    just : IsJustOpened opened area rs 1 0 ps
    just = opened-with area rs 0 ps (λ j. untold) read.accepted read.in_grammar read.room
        (has-setup rs read.accepted read.some) (omega (arith, length-replicate n untold)) each

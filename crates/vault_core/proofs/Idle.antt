-- A core that what runs alone has told something.
use Rattle.vault_core.proofs.Words.{◌≡◌, ◌∙◌, ℕ, ◌+◌, true, List, [], ◌∷◌, Some, None, refl, ap, sym, arith, is_some, Setup, setup_of, version_of, packed, other_area, end_in, State, Append, setup_in, switched, barred, IsSound, IsFoldOf, forgotten, Inside, CoreJob, CoreView, AreRising, view_of, IsCore, IsCoreFlight, CoreIs}
use Rattle.std.proofs.Common.{Option}
use Rattle.vault_table.proofs.Fold.{is_packed}

rising_more : (low : ℕ) (js : List CoreJob) (next : ℕ) → AreRising low js next → AreRising low js (next + 1)
rising_more low [] next h = (omega (arith, h))
rising_more low (j ∷ js) next h = (h.0, rising_more (j.number + 1) js next h.1)

-- a core with one number drawn stays one
pub drawn_core : (a : Inside) → IsCore a → IsCore (record a { next_job = a.next_job + 1 })
drawn_core a h = record {
  set_up = h.set_up;
  kept = h.kept;
  told = h.told;
  few = h.few;
  begun = h.begun;
  reserves = record { room = h.reserves.room; spare = h.reserves.spare };
  numbered = rising_more 0 (view_of a).jobs a.next_job h.numbered;
  lone = h.lone;
}

-- a core in which no job goes on stays one
pub bar_core : (a : Inside) → IsCore a → IsCore (record a { barred = true })
bar_core a h = record {
  set_up = h.set_up;
  kept = h.kept;
  told = h.told;
  few = h.few;
  begun = h.begun;
  reserves = record { room = h.reserves.room; spare = h.reserves.spare };
  numbered = h.numbered;
  lone = h.lone;
}

-- a core in which no job goes on stands for a barred state
pub core-bar : (c : CoreView) (w : State) → CoreIs c w → w.append ≡ None → IsSound 8 (barred w) →
    CoreIs (record c { barred = true }) (barred w)
unfolding setup_in
core-bar c w is free sound = record {
  sound = sound;
  is_open = is.is_open;
  none_alone = is.none_alone;
  table = is.table;
  setup = is.setup;
  end = is.end;
  jobs = is.jobs;
  next_job = is.next_job;
  append = rw free at is.append;
  barred = refl;
}

-- the table of a packed journal is that of the journal, once it has forgotten what a pack leaves out
forgotten-is : (c : CoreView) (w : State) → CoreIs c w → version_of w.records ≡ 2 →
    IsFoldOf (packed w.journal) (forgotten c.table)
forgotten-is c w is second = by (setup_of w.journal) refl
    (ap is_some is.sound.journal.alike.setup ∙ is.sound.set_up is.is_open)
  where
    by : (o : Option Setup) → setup_of w.journal ≡ o → is_some (setup_of w.journal) ≡ true →
        IsFoldOf (packed w.journal) (forgotten c.table)
    by None e h = cc (sym (ap is_some e) ∙ h)
    by (Some s) e h = is_packed c.table w.journal s is.sound.journal.accepted e
        (is.sound.journal.alike.version ∙ second) is.table

-- a core that is told of the packed journal stands for the state in which the disk holds it
pub core-moved : (c : CoreView) (w : State) (end : ℕ) → CoreIs c w → version_of w.records ≡ 2 →
    w.append ≡ None → end ≡ end_in (other_area w.area) (packed w.journal) → IsSound 8 (switched w) →
    CoreIs (record c { table = forgotten c.table; end = end }) (switched w)
unfolding setup_in
core-moved c w end is second free ends sound = record {
  sound = sound;
  is_open = is.is_open;
  none_alone = is.none_alone;
  table = forgotten-is c w is second;
  setup = is.setup;
  end = ends;
  jobs = is.jobs;
  next_job = is.next_job;
  append = by w.append free is.append;
  barred = is.barred;
}
  where
    by : (o : Option Append) → o ≡ None → IsCoreFlight c o →
        IsCoreFlight (record c { table = forgotten c.table; end = end }) o
    by None e f = f
    by (Some a) e f = cc e

-- An init of an empty store comes to ready.
use Rattle.std.specs.Prelude.{[], ◌∷◌}
use Rattle.second_half_laws.proofs.Words.{refl, inl, arith, SetUp, four, Init, Ready, State, IsStart, brought, Moment, IsRun, set_up}

-- the store before it
abbrev pub unset : State
unset = record set_up { records = []; journal = [] }

abbrev pub init : Moment
init = record { event = Init four; outcome = Ready; state = brought unset (SetUp four) }

pub is_start : IsStart unset
is_start = record {
  records = inl refl;
  journal = refl;
  first_area = refl;
  unswitched = refl;
  none_alone = refl;
  jobs = refl;
  first_job = refl;
  append = refl;
  doubt = refl;
  closed = refl;
  unbarred = refl;
}

pub is_run : IsRun 1 unset (init ∷ [])
is_run = (
  (omega arith, omega arith, omega arith, omega arith, omega arith, omega arith, omega arith, refl),
  (unset, inl refl, refl, (unset.disk_faults, omega arith, refl)),
  tt,
)

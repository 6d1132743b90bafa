use Rattle.outcome_laws.proofs.Words.{◌≡◌, List, Option, Some, None, refl, arith, Record, PutDone, set_up, first_run, is_run, moments, starts}
use Rattle.std.specs.Option.{option_map}
use Rattle.damage_run.specs.Words.{Doubt, Moment, IsRun, now, first_moments}
use Rattle.damage_run.proofs.Points.{points}
use Rattle.outcome_laws.proofs.instances.a_put_in_doubt_is_alike.Goals as goal

-- what an entry was read of is there
there : (o : Option Doubt) (entry : Record) → option_map (λ (d : Doubt). d.entry) o ≡ Some entry →
    (d : Doubt) × ((o ≡ Some d) × (d.entry ≡ entry))
there None entry h = (let e : None ≡ Some entry = h in cc)
there (Some d) entry h = (let e : d.entry ≡ entry = cc in (d, (refl, e)))

abbrev put_up : List Moment
put_up = first_moments 13 moments

run : IsRun 8 set_up put_up
run = first_run 8 set_up 13 moments is_run

in_doubt : (d : Doubt) × (((now set_up put_up).doubt ≡ Some d) × (d.entry ≡ PutDone 1 1))
in_doubt = there (now set_up put_up).doubt (PutDone 1 1) points.put_in_doubt.0

pub returns : goal.returns
returns c =
    let d = in_doubt in
    let law = c.doubted_journals_are_alike.ensures in (
      put_up,
      d.0,
      run,
      d.1.0,
      d.1.1,
      law.accepted 8 set_up put_up d.0 (omega arith, omega arith) starts run d.1.0,
      law.alike 8 set_up put_up d.0 (omega arith, omega arith) starts run d.1.0,
    )

use Rattle.outcome_laws.proofs.Words.{[], refl, actions_of, set_up, Names, Listed, Closed, files_of, moments, is_run}
use Rattle.damage_run.specs.Words.{setup_in, Moment, now}
use Rattle.damage_run.proofs.CalmRun.{outright}
use Rattle.outcome_laws.proofs.instances.a_list_is_given.Goals as goal

abbrev listed : Moment
listed = record {
  event = Names;
  outcome = Listed (files_of (now set_up moments).records);
  state = now set_up moments;
}

abbrev shut : Moment
shut = record { event = Names; outcome = Closed; state = set_up }

pub returns-clause-opened : goal.returns-clause-opened
unfolding setup_in actions_of
returns-clause-opened c = (
  moments,
  listed,
  outright,
  (tt, (refl, refl), is_run),
  refl,
  refl,
  c.listings_give_the_files.ensures.opened 8 set_up listed moments (tt, (refl, refl), is_run) refl refl,
)

pub returns-clause-closed : goal.returns-clause-closed
returns-clause-closed c = (
  shut,
  (tt, refl, tt),
  refl,
  refl,
  c.listings_give_the_files.ensures.closed 8 set_up shut [] (tt, refl, tt) refl refl,
)

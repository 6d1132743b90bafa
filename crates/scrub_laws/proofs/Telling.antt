-- From the run of a scrub, as its command tells it, to what it leaves.
use Rattle.scrub_laws.proofs.Words.{◌≡◌, List, [], length, None, refl, ap, subst, option_map, Record, Answer, State, Doubt, Ran, ran_from, ran_alone, ScrubLeaves, RanScrub, ScrubsAlone, ScrubbedAlone, IsJustOpened}
use Rattle.command_defs.specs.Opens as opens
use Rattle.command_defs.specs.Opens.{setup_in_effect}
use Rattle.command_defs.specs.Seen.{Seen, provider_at}
use Rattle.job_laws.proofs.Telling.{opened_state, state-over, providers-seen}
use Rattle.scrub_laws.proofs.Ends.{Ended_by, scrub-ends}

module _ (records : List Record) (answer : Answer) (old new : Seen) (R : opens.IsOpened old records)
    (same : length new.providers ≡ length old.providers) (A : ScrubsAlone R.area records answer old new) where
  abbrev w : State
  w = opened_state R.area records A.faults old.providers

  over : IsJustOpened w R.area records 1 A.faults old.providers
  over = state-over records A.faults old R

  ran : RanScrub records answer old new A.faults w 1
  ran = A.ran w 1 over

  ended : Ended_by w ran.last answer
  ended = scrub-ends w over.at_rest ran.last 1 answer ran.runs

  records-are : ran.last.records ≡ records
  records-are = ap (λ (v : State). v.records) ended.is_past

  doubt-is : option_map (λ (d : Doubt). d.entry) ran.last.doubt ≡ None
  doubt-is = ap (λ (v : State). option_map (λ (d : Doubt). d.entry) v.doubt) ended.is_past

  -- its run, as it is seen of the devices
  same-ran : ran_from w ran.last [] ≡ ran_alone records old new [] A.faults records None
  same-ran = λ i. record {
    records = records;
    after = records-are i;
    doubt = doubt-is i;
    old = provider_at old.providers;
    new = λ j. providers-seen w ran.last old new (setup_in_effect records).n refl R.enough same ran.handed
        ended.leaves.others j i;
    disk_before = A.faults;
    disk_after = ran.faults_are i;
    heard = [];
  }

  -- what a command tells of its scrub's run leaves what a scrub leaves
  pub scrubbed-alone : ScrubbedAlone records answer old new
  scrubbed-alone = record {
    faults = A.faults;
    before = A.before;
    leaves = subst (λ (y : Ran). ScrubLeaves y answer) same-ran ended.leaves;
  }

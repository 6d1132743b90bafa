use Rattle.machine_defs.specs.Calm.{since}
use Rattle.epoch_laws.proofs.Moved.{mended_on, mended_right}
use Rattle.epoch_laws.proofs.laws.repairs_begin_epochs.Goals as goal

pub returns : goal.returns
returns c = record {
  calm = λ limit start ms ps clean tell run only few finds. record {
    clean = clean;
    tell = tell;
    run = run;
    calm = c.few_damaged_providers_leave_runs_calm.ensures.jobs limit (since start) start ms ps clean run only few;
    scrubs = c.few_damaged_providers_leave_runs_calm.ensures.scrubs limit (since start) start ms ps clean run only few;
    found = c.flagging_audits_miss_none.ensures.flagged limit start ms ps clean tell run only few finds;
  };
  marked = λ limit start later recent older qs h M over run only few.
      (mended_on limit start later recent older qs h M over run only few).marked;
  right = λ limit start later recent older qs h M over run only few.
      mended_right limit start later recent older qs h M over run only few;
}

use Rattle.std.proofs.Common.{[]}
use Rattle.effect_laws.proofs.Jobs.{stores, drops, gets, frees}
use Rattle.effect_laws.proofs.transcripts.told_jobs_leave.Goals as goal

pub returns : goal.returns
returns c = record {
  put = λ middle between front event number name bytes ms base rs us put told behind asks free.
      stores middle between front number name ms base rs us event bytes put told behind asks free;
  drop = λ middle between front number name ms base rs us told behind asks free.
      drops middle between front number name ms base rs us told behind asks free;
  get = λ middle between front number name how ms rs us told.
      gets middle between front number name ms [] rs us how told;
  free = λ middle between front event number how name ms base rs us told behind asks free.
      frees middle between front number name ms base rs us event how told behind asks free;
}

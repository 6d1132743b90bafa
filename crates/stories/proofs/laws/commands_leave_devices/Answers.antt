use Rattle.std.proofs.Common.{inl, inr, [], ◌∷◌, ◌++◌, subst, sym, append_assoc, arith}
use Rattle.stories.specs.Words.{devices_of_seen, AreLeft, call_from, now, RowOf, InitWith}
use Rattle.stories.proofs.Went.{left-same, init-left}
use Rattle.stories.proofs.laws.commands_leave_devices.Goals as goal

pub returns : goal.returns
returns c = record {
  stores = λ words command start ms old new end answers form opens told left. (let H
      = c.commands_are_runs.ensures.call start ms command old new end left.run (record {
        sound = c.runs_are_sound.ensures 8 start ms (omega arith, omega arith) left.starts left.run;
        tells = told;
        images = left.devices.images;
        faults_are = left.devices.faults;
        handed = left.devices.providers;
      }) opens (c.forms_are_spelled.ensures words command form) (answers.answers command form)
      answers.counts in (
        H.0,
        H.1,
        record {
          starts = left.starts;
          run = H.2;
          devices = record { images = H.3.images; faults = H.3.faults_are; providers = H.3.handed };
        },
      ));
  init = λ words numbers start ms old new end answers form told left.
      init-left start ms old new end numbers told left (answers.inits (InitWith numbers) form);
  carried = λ words form start ms old new end answers is told left. elim (answers.headline form is) [
    | inl u ↦ (let same = u.3 in
        ([], left-same start ms old new same.disk same.disk_faults same.providers left))
    | inr asks ↦ (let G = (asks.goes_on start ms told left).goes in (
      G.later ++ call_from (now start ms) ∷ [],
      subst (λ l. AreLeft start l (devices_of_seen new))
          (sym (append_assoc G.later (call_from (now start ms) ∷ []) ms))
          (record { starts = left.starts; run = G.carries.run; devices = G.carries.last }),
    ))
  ];
  row = λ words n l b symbols start ms old new end answers form left.
      (let T = (answers.answers (RowOf n l b symbols) form).1 in
      left-same start ms old new T.disk T.disk_faults T.providers left);
}

-- What the words of the command line come to, from what is seen of the devices before to what is seen after.
use Rattle.std.specs.Prelude.{ℕ, List, String}
use Rattle.std.specs.declared.alloc.Global.{Global}
use Rattle.command_defs.specs.Seen.{Seen, Ending, NoCountFalls}
use Rattle.command_defs.specs.Forms.{Command, IsForm}
use Rattle.command_defs.specs.Commands.{Answers, IsUsage}
use Rattle.hail_replay.specs.Forms.{IsFormOf}
use Rattle.hail_replay.specs.declared.forms.Form.{Form}
use Rattle.provider_server.specs.Words.{IsServeForm}
use Rattle.provider_server.specs.Answers.{AnswersServe}
use Rattle.hail_top.specs.Carried.{AnswersForm, KeepsTheHeadline}
use Rattle.hail_top.specs.InitRuns.{InitsOn}

-- words end as what they spell does: a command on a store, a replay or a trial, a server, or else a usage; an
-- init goes on with a run, a replay and a trial keep the headline, and no count of faults falls
pub record AnswersWords (words : List (String Global)) (old new : Seen) (end : Ending) : Type 0 where
  pub usage : ((command : Command) → IsForm words command → ⊥) → ((form : Form) → IsFormOf words form → ⊥)
      → ((number : ℕ) → IsServeForm words number → ⊥) → IsUsage old new end
  pub answers : (command : Command) → IsForm words command → Answers command old new end
  pub inits : (command : Command) → IsForm words command → InitsOn command old new end
  pub carries : (form : Form) → IsFormOf words form → AnswersForm form old new end
  pub serves : (number : ℕ) → IsServeForm words number → AnswersServe number old new end
  pub headline : (form : Form) → IsFormOf words form → KeepsTheHeadline form old new end
  pub counts : NoCountFalls old new

-- What words come to, by what they spell: one command, one form or one number of a server, or nothing.
use Rattle.hail_top.proofs.Words.{◌≡◌, ℕ, List, refl, ap, subst, inr, arith, Global, Seen, Ending, NoCountFalls, IsForm, Answers, IsUsage, IsFormOf, Form, IsServeForm, AnswersServe, AnswersWords, AnswersForm, ending_with, InitsOn}
use Rattle.std.proofs.Common.{String}
use Rattle.command_defs.specs.Forms.{Command}
use Rattle.hail_top.proofs.Answered.{no_memory-told}
use Rattle.hail_top.proofs.InitRuns.{inits-same}
use Rattle.hail_top.proofs.Carried.{form-keeps, unstarted-form}
use Rattle.hail_top.proofs.FormWords.{answered-form, no-form}
use Rattle.hail_top.proofs.ServeWords.{form-serves-none, no-serve, unstarted-serve}

-- words that spell one command are answered as it is
pub command-words : (words : List (String Global)) (command : Command) (old new : Seen) (end : Ending) →
    IsForm words command → ((other : Command) → IsForm words other → command ≡ other)
    → Answers command old new end → InitsOn command old new end → NoCountFalls old new →
    AnswersWords words old new end
command-words words command old new end is once a inits counts = record {
  usage = λ none no_form no_serve. absurd (none command is);
  answers = λ other spelled. subst (λ (c : Command). Answers c old new end) (once other spelled) a;
  inits = λ other spelled. subst (λ (c : Command). InitsOn c old new end) (once other spelled) inits;
  carries = λ form spelled. absurd (no-form words command form is spelled);
  serves = λ number spelled. absurd (no-serve words command number is spelled);
  headline = λ form spelled. absurd (no-form words command form is spelled);
  counts = counts;
}

-- words that spell a form are answered as it is
pub form-words : (words : List (String Global)) (form : Form) (old new : Seen) (end : Ending) →
    ((command : Command) → IsForm words command → ⊥) → IsFormOf words form
    → AnswersForm form old new end → NoCountFalls old new → AnswersWords words old new end
form-words words form old new end none is a counts = record {
  usage = λ no_command no_form no_serve. absurd (no_form form is);
  answers = λ command spelled. absurd (none command spelled);
  inits = λ command spelled. absurd (none command spelled);
  carries = λ other spelled. answered-form words form other old new end is a spelled;
  serves = λ number spelled. absurd (form-serves-none words form number is spelled);
  headline = λ other spelled.
      form-keeps other old new end (answered-form words form other old new end is a spelled);
  counts = counts;
}

-- words that spell neither are answered as a server, or as a usage
pub other-words : (words : List (String Global)) (old new : Seen) (end : Ending) →
    ((command : Command) → IsForm words command → ⊥) → ((form : Form) → IsFormOf words form → ⊥)
    → (((number : ℕ) → IsServeForm words number → ⊥) → IsUsage old new end)
    → ((number : ℕ) → IsServeForm words number → AnswersServe number old new end)
    → NoCountFalls old new → AnswersWords words old new end
other-words words old new end none no_form usage serves counts = record {
  usage = λ no_command no_other no_serve. usage no_serve;
  answers = λ command spelled. absurd (none command spelled);
  inits = λ command spelled. absurd (none command spelled);
  carries = λ form spelled. absurd (no_form form spelled);
  serves = serves;
  headline = λ form spelled. absurd (no_form form spelled);
  counts = counts;
}

-- no count of a fault falls where nothing changes
none-falls : (same : Seen) → NoCountFalls same same
none-falls same = record {
  disk = omega arith;
  handed = refl;
  stores = λ j. omega arith;
  others = λ j. omega arith;
  source = omega arith;
  sink = omega arith;
}

-- any words, where there was no memory to read them and no device was called
pub unread-words : (words : List (String Global)) (same : Seen) (end : Ending) → end ≡ ending_with 70 0 →
    AnswersWords words same same end
unread-words words same end is = record {
  usage = λ no_command no_form no_serve. record {
    refused = (inr (ap (λ (e : Ending). e.status) is), refl);
    touches = record {
      disk = refl;
      disk_faults = refl;
      providers = refl;
      source = (refl, refl);
      place = ap (λ (e : Ending). e.at) is;
      heard = ap (λ (e : Ending). e.heard) is;
    };
  };
  answers = λ command spelled. no_memory-told command same end is;
  inits = λ command spelled. inits-same command same end;
  carries = λ form spelled. unstarted-form form same end is;
  serves = λ number spelled. unstarted-serve number same end is;
  headline = λ form spelled. form-keeps form same same end (unstarted-form form same end is);
  counts = none-falls same;
}

-- A command was answered.
use Rattle.hail_top.proofs.Words.{◌≡◌, ℕ, List, Some, None, refl, sym, subst, inr, TakesFront, upto, values_at, resynced-same, Spelled, RowOf, InitWith, PutUnder, PutAt, GetOf, DropOf, ListAll, AuditAll, RepairAll, UpgradeJournal, ScrubAll, PackJournal, longest_key, Seen, Ending, IsRefused, sinking, values_line, no_row_line, AnswersRow, Answers, AnswersPut, command_of, ending_with, InitsOn, none-taken}
use Rattle.std.proofs.Common.{Option}
use Rattle.command_defs.specs.Opens as opens
use Rattle.command_defs.specs.Inits as inits
use Rattle.command_defs.specs.Scrubs as scrubs
use Rattle.command_defs.specs.Packs as packs
use Rattle.command_defs.specs.Commands as commands
use Rattle.command_words.specs.declared.command.Command.{Command}
use Rattle.hail_top.proofs.Refused.{refused-told}
use Rattle.hail_top.proofs.AnswerTexts.{front-none}

-- it is this command
pub answered : (command other : Command) (old new : Seen) (end : Ending) → command ≡ other →
    Answers (command_of other) old new end → Answers (command_of command) old new end
answered command other old new end is answers =
    subst (λ (c : Command). Answers (command_of c) old new end) (sym is) answers

-- a put is answered as one with the profile that it names, and goes on with no run
pub put-answered : (name : List ℕ) (profile : Option ℕ) (spelled : Option ℕ → Spelled) →
    spelled None ≡ PutUnder name → ((p : ℕ) → spelled (Some p) ≡ PutAt name p) →
    (old new : Seen) (end : Ending) → AnswersPut name profile old new end
    → Answers (spelled profile) old new end
put-answered name None spelled none some old new end a =
    subst (λ (c : Spelled). Answers c old new end) (sym none) a
put-answered name (Some p) spelled none some old new end a =
    subst (λ (c : Spelled). Answers c old new end) (sym (some p)) a

pub put-inits : (name : List ℕ) (profile : Option ℕ) (spelled : Option ℕ → Spelled) →
    spelled None ≡ PutUnder name → ((p : ℕ) → spelled (Some p) ≡ PutAt name p) →
    (old new : Seen) (end : Ending) → InitsOn (spelled profile) old new end
put-inits name None spelled none some old new end =
    subst (λ (c : Spelled). InitsOn c old new end) (sym none) tt
put-inits name (Some p) spelled none some old new end =
    subst (λ (c : Spelled). InitsOn c old new end) (sym (some p)) tt

-- a command for which there was no memory, and no device was called
pub no_memory-told : (command : Spelled) (same : Seen) (end : Ending) → end ≡ ending_with 70 0 →
    Answers command same same end
no_memory-told command same end is =
    subst (λ (e : Ending). Answers command same same e) (sym is) (by_command command)
  where
    refused : IsRefused 70 0 same same (ending_with 70 0)
    refused = refused-told 70 0 same same (ending_with 70 0) refl (resynced-same same.disk) refl refl
        (λ e. refl)

    none : (text : List ℕ) → TakesFront same.sink same.sink text
    none text = front-none same.sink same.sink text refl

    row : (n l b : ℕ) (symbols : List (Option ℕ)) → AnswersRow n l b symbols 70 (sinking same same)
    row n l b symbols = record {
      no_shape = λ _. (inr refl, refl);
      lost = λ _ _. inr (inr (refl, none no_row_line));
      held = λ _ p _. inr (inr (refl, none (values_line (values_at (upto l) p))));
    }

    by_command : (command : Spelled) → Answers command same same (ending_with 70 0)
    by_command (RowOf n l b symbols) = (
      row n l b symbols,
      record {
        disk = refl;
        disk_faults = refl;
        providers = refl;
        source = (refl, refl);
        place = refl;
        heard = refl;
      },
    )
    by_command (InitWith numbers) = inits.no_memory (none-taken longest_key same.source) refused
    by_command (PutUnder name) = commands.unstarted (opens.no_memory refused) (refl, refl)
    by_command (PutAt name profile) = commands.unstarted (opens.no_memory refused) (refl, refl)
    by_command (GetOf name) = (commands.unstarted (opens.no_memory refused), (refl, refl))
    by_command (DropOf name) = (commands.unstarted (opens.no_memory refused), (refl, refl))
    by_command ListAll = (commands.no_memory refused, (refl, refl))
    by_command AuditAll = (commands.unstarted (opens.no_memory refused), (refl, refl))
    by_command RepairAll = (commands.unstarted (opens.no_memory refused), (refl, refl))
    by_command UpgradeJournal = (commands.unstarted (opens.no_memory refused), (refl, refl))
    by_command ScrubAll = (scrubs.unstarted (opens.no_memory refused), (refl, refl))
    by_command PackJournal = (packs.unstarted (opens.no_memory refused), (refl, refl))

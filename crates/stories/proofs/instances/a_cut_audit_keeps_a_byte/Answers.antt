use Rattle.stories.proofs.Words.{◌≡◌, ℕ, List, [], ◌∷◌, String, None, Global, refl, inl, arith, digits, More, Stopped, named, byte, IsReplayForm, opening, before_text, first_state, IsToldReplay, cut_text, cut_steps, cut_commands, cut_outcomes, behind_cut, cut_end, four_given}
use Rattle.machine_defs.specs.Jobs.{AuditJob}
use Rattle.stories.specs.Words.{Begin, Begun, Got, Opened}
use Rattle.stories.proofs.CutReplay.{spelled, cut-replayed}
use Rattle.stories.proofs.ToldBy.{tells, told-by}
use Rattle.stories.proofs.instances.a_cut_audit_keeps_a_byte.Goals as goal

told : (words : List (String Global)) → IsReplayForm words →
    IsToldReplay words cut_text cut_commands cut_outcomes first_state [] (before_text cut_text) behind_cut cut_end
unfolding digits
told = told-by cut_text cut_commands cut_outcomes behind_cut (four_given 3) cut-replayed (assumption) spelled refl refl
    refl (tt, (omega arith, (tt, (tt, (tt, (omega arith, (tt, (omega arith, (tt, tt)))))))))

pub returns : goal.returns
returns c = record {
  told = told;
  cut = (tt, (refl, tt));
  kept = λ words form. c.files_survive_cut_upkeep.ensures words cut_text opening [] cut_steps (Opened ∷ []) []
      (Opened ∷ Stopped ∷ More ∷ Begun 2 ∷ []) (Begin AuditJob) 2 [] named byte None 1 3 [] (Got byte) first_state []
      (before_text cut_text) behind_cut cut_end (told words form) tt (refl, tt) refl refl tt (inl tt) tt tells tt
      (tt, (tt, tt));
}

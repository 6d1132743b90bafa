-- The parts of the headline, of one run.
use Rattle.std.proofs.Common.{◌≡◌, ℕ, List, ◌∷◌, ◌++◌, ap, sym, subst, ◌∙◌}
use Rattle.std.proofs.lemmas.List.{append_assoc}
use Rattle.record_defs.specs.Table.{File}
use Rattle.machine_defs.specs.Jobs.{Job}
use Rattle.machine_defs.specs.States.{State, IsStart}
use Rattle.machine_defs.specs.Runs.{Moment, now, IsRun}
use Rattle.machine_defs.specs.Survival.{EndsPut, HasComeIn, IsKept}
use Rattle.machine_defs.proofs.Acknowledged.{acknowledged}
use Rattle.machine_defs.proofs.Survive.{survives}
use Rattle.machine_defs.proofs.Uses.{stored_once, asked_once}
use Rattle.machine_defs.proofs.Untouched.{run_back}
use Rattle.run_laws.proofs.PutBytes.{put_bytes_stay}
use Rattle.run_laws.proofs.FirstHalf.{first_half}
use Rattle.machine_defs.specs.Scrubs.{scrubbed, IsScrubCalm}
use Rattle.second_half_laws.specs.Own.{IsExact}
use Rattle.second_half_laws.proofs.SecondHalf.{second_half}
use Rattle.second_half_laws.proofs.Finished.{half_by_scrubs, exact_by_scrubs}
use Rattle.headline.specs.Headline.{file_of_put, IsSafe, AcknowledgedFilesSurvive, Headline}

module _ (limit : ℕ) (start : State) (clean : IsStart start) where
  safe : (later : List Moment) (m : Moment) (before : List Moment) (job : Job) (name bytes : List ℕ) →
      IsRun limit start (later ++ m ∷ before) → EndsPut start m before job name bytes →
      IsSafe start later m before job name bytes
  safe later m before job name bytes run ends = record {
    came = came;
    kept = λ none. subst (λ ms. IsKept (now start ms) name file) (sym split)
        (survives limit start (later ++ m ∷ came.later) came.before came.moment name file clean
        (subst (IsRun limit start) split run) came.comes none);
    bytes_are = put_bytes_stay limit start later before m job name bytes clean run ends;
  }
    where
      file : File
      file = file_of_put job name bytes

      came : HasComeIn start before name file
      came = acknowledged limit start m before job name bytes clean
          (run_back limit start later (m ∷ before) run) ends

      split : later ++ m ∷ before ≡ (later ++ m ∷ came.later) ++ came.moment ∷ came.before
      split = ap (λ l. later ++ m ∷ l) came.split
          ∙ sym (append_assoc later (m ∷ came.later) (came.moment ∷ came.before))

  -- in every run acknowledged files survive
  pub survive : (ms : List Moment) → IsRun limit start ms → AcknowledgedFilesSurvive start ms
  survive ms run later before m job name bytes is ends =
      safe later m before job name bytes (subst (IsRun limit start) is run) ends

-- all parts of the headline hold of every run
pub headline : (limit : ℕ) (start : State) (ms : List Moment) → IsStart start → IsRun limit start ms →
    Headline start ms
headline limit start ms clean run = record {
  gets_are_right = first_half limit start ms clean run;
  calm_gets_end_well = λ tell calm scrubs found. second_half limit start ms clean tell run calm scrubs found;
  scrub_calm_gets_end_well = λ tell calm. half_by_scrubs limit start ms clean tell run calm;
  scrubbed_providers_are_exact = λ tell calm later before is. subst
      (λ l. IsExact start l (scrubbed start before)) (sym is) (exact_by_scrubs limit start later before clean
      tell (subst (IsRun limit start) is run) (subst (IsScrubCalm start) is calm));
  acknowledged_files_survive = survive limit start clean ms run;
  one_put = λ begun other object g h. stored_once limit start ms clean run begun other object g h;
  one_audit = λ begun other number object round g h. asked_once limit start ms clean run begun other number
      object object round round g h;
}

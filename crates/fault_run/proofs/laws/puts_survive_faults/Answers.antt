use Rattle.std.proofs.Common.{sym, subst}
use Rattle.damage_run.proofs.Run.{first_run}
use Rattle.damage_run.specs.Words.{PutDone, Doubt, IsRun, now, first_moments, IsKept, set_up}
use Rattle.damage_run.specs.Points.{name, at}
use Rattle.fault_run.specs.Faults.{first_file}
use Rattle.fault_run.proofs.Points.{run_to, there}
use Rattle.fault_run.proofs.laws.puts_survive_faults.Goals as goal

pub returns : goal.returns
returns c = let whole = c.done_puts_are_whole.ensures in record {
  in_doubt = λ ms f h.
      (let d = there (λ (x : Doubt). x.entry) (at 37 ms).doubt (PutDone 3 0) h.cut_in_doubt.0 in
      let law = whole.in_doubt 8 set_up (first_moments 37 ms) d.0 1 3 0 0 f.clean
      (first_run 8 set_up 37 ms f.run) d.1 d.2 (λ first. h.cut_profile) in (law.0, law.2));
  settled = λ ms f h. whole.came 8 set_up h.stop (first_moments 37 ms) 1 3 0 0 f.clean
      (run_to ms 37 h.stop f.run h.stopped) h.cut_settled (λ first. h.cut_profile);
  first = λ ms f h. subst (λ later. IsKept (now set_up later) name first_file) (sym h.first_split)
      (c.acknowledged_files_survive.ensures 8 set_up h.later (first_moments 13 ms) h.came_moment name
      first_file f.clean (subst (IsRun 8 set_up) h.first_split (first_run 8 set_up 63 ms f.run)) h.first_came
      h.never_out);
}

-- How a command ends that runs a job over a vault just opened.
use Rattle.hail_top.proofs.Words.{◌≡◌, ℕ, List, length, ap, sym, ◌∙◌, inl, inr, subst, arith, option_map, synced, Record, Area, Kind, Entry, Seen, Ending, KeepsDisk, IsSynced, provider_at, sinking, setup_in_effect, status_of, ran_alone, RunsAlone, LeftAlone, AnswersJob, BeginFault, refusal_of, Devices, machine_answer, Ended, IsSeenBefore, IsRefusedOver, NoFaultUndone, EndsOver, Subject, ending_with, TellsOf, TellsAnswer, AnswersOver, resynced}
use Rattle.std.proofs.Common.{Option}
use Rattle.device_defs.specs.Providers.{Provider}
use Rattle.command_defs.specs.Jobs as jobs
use Rattle.hail_top.proofs.Refused.{refused-told}
use Rattle.hail_top.proofs.AnswerTexts.{answer-ends}

-- the job ran to its end, and that was told
pub ended-told : (subject : Subject) (tolerance : ℕ) (kind : Kind) (own : Option ℕ) (area : Area)
    (records : List Record) (old new : Seen) (end : Ending) (ended : Ended) (written : Option (List ℕ)) (count : ℕ)
    → old.sink ≡ written → old.sink_faults ≡ count → TellsOf subject tolerance kind →
    tolerance ≡ (setup_in_effect records).tolerance → EndsOver area records kind own ended old new
    → TellsAnswer subject (machine_answer ended.answer) end.status end.at
    (record { old = written; new = new.sink; before = count; now = new.sink_faults })
    → end.heard ≡ ended.heard → AnswersOver kind own area records old new end
ended-told subject tolerance kind own area records old new end ended written count is_written is_count is_subject is over told heard =
    record {
      answers = jobs.ended (machine_answer ended.answer) over.unrefused
          (subst (λ (entries : List Entry). RunsAlone area records kind own (machine_answer ended.answer) old new
          entries) (sym heard) over.runs)
          (subst (λ (entries : List Entry). LeftAlone area records kind own (machine_answer ended.answer) old new
          entries) (sym heard) over.left)
          (answer-ends (ran_alone records old new ended.heard over.left.faults over.left.after over.left.doubt)
          subject (setup_in_effect records).tolerance (machine_answer ended.answer) kind own old new end
          over.left.leaves.by_kind (subst (λ (t : ℕ). TellsOf subject t kind) is is_subject) told_here);
      counts = over.counts;
    }
  where
    told_here : TellsAnswer subject (machine_answer ended.answer) end.status end.at (sinking old new)
    told_here = subst (λ (n : ℕ). TellsAnswer subject (machine_answer ended.answer) end.status end.at
        (record { old = old.sink; new = new.sink; before = n; now = new.sink_faults })) (sym is_count)
        (subst (λ (w : Option (List ℕ)). TellsAnswer subject (machine_answer ended.answer) end.status end.at
        (record { old = w; new = new.sink; before = count; now = new.sink_faults })) (sym is_written) told)

-- devices that are as they were lost no fault
pub untouched : (old new : Seen) (d : Devices) → IsSeenBefore old d → new.disk_faults ≡ d.faults →
    new.providers ≡ d.providers → NoFaultUndone old new
untouched old new d before faults providers =
    let same : new.providers ≡ old.providers = providers ∙ sym before.providers in
    record {
      disk = omega (arith, before.faults, faults);
      handed = ap (λ (ps : List Provider). length ps) same;
      stores = λ j. omega (arith, ap (λ (ps : List Provider). (provider_at ps j).store_faults) same);
      others = λ j. omega (arith, ap (λ (ps : List Provider). (provider_at ps j).other_faults) same);
    }

-- the job was refused, and that was told
pub refused-over : (kind : Kind) (own : Option ℕ) (area : Area) (records : List Record) (old new : Seen)
    (d : Devices) (end : Ending) (why : BeginFault)
    → IsSeenBefore old d → d.holds ≡ option_map synced old.disk → IsRefusedOver area records kind own why →
    end ≡ ending_with (status_of (refusal_of why)) 0
    → new.disk ≡ d.holds → new.disk_faults ≡ d.faults → new.providers ≡ d.providers → new.sink ≡ old.sink →
    AnswersOver kind own area records old new end
refused-over kind own area records old new d end why before was_synced over is disk faults providers silent = record {
  answers = by_cause over;
  counts = untouched old new d before faults providers;
}
  where
    synced_here : IsSynced old new
    synced_here = disk ∙ was_synced

    kept : KeepsDisk old new
    kept = resynced old.disk new.disk synced_here

    same_providers : new.providers ≡ old.providers
    same_providers = providers ∙ sym before.providers

    by_cause : IsRefusedOver area records kind own why → AnswersJob kind own area records old new end
    by_cause (inl memory) = jobs.no_memory synced_here (refused-told 70 0 old new end
        (is ∙ ap (λ (w : BeginFault). ending_with (status_of (refusal_of w)) 0) memory) kept same_providers
        silent (λ e. faults ∙ before.faults))
    by_cause (inr some) = jobs.refused (refusal_of why) some synced_here
        (refused-told (status_of (refusal_of why)) 0 old new end is kept same_providers silent (λ e. faults ∙ before.faults))

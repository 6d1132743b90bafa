-- A replay of status 0, and devices that were not touched.
use Rattle.stories.proofs.Words.{◌≡◌, ℕ, ◌+◌, ◌<◌, List, [], ◌++◌, reverse, Some, ap, sym, subst, ◌∙◌, inl, inr, arith, IsSome, reverse-reverse, told_then, StandsForState, CarriesOut, Numbers, Seen, Ending, sinking, lines, IsSchedule, longest_schedule, devices_of_seen, AnswersReplay, Replays, AreLeft, InitsDevices, WentOn}
use Rattle.std.proofs.lemmas.List.{append-nil}
use Rattle.opening_defs.specs.Opened.{AreHanded}
use Rattle.command_defs.specs.Sinking.{Sinking, WritesLine}
use Rattle.schedule_text.proofs.Texts.{AreLines-once}
use Rattle.hail_replay.proofs.EndsWell.{whole}
use Rattle.stories.specs.Words.{Moment, now, State, Instruction}

-- at status 0 all lines were written
lines-out : (lines : List ℕ) (status : ℕ) (sink : Sinking) → status ≡ 0 → WritesLine lines status sink →
    sink.new ≡ told_then sink.old lines
lines-out lines status sink ok (inl h) = h.1
lines-out lines status sink ok (inr (inl h)) = absurd (let e : 0 ≡ 15 = sym ok ∙ h.1 in omega arith)
lines-out lines status sink ok (inr (inr h)) = absurd (let e : 0 ≡ 70 = sym ok ∙ h.0 in omega arith)

-- a replay of status 0 has done all its commands
pub done-all : (start : State) (ms : List Moment) (commands : List Instruction) (old new : Seen)
    (end : Ending) → end.status ≡ 0 → AreLeft start ms (devices_of_seen old) →
    Replays start ms commands end.status (sinking old new) end.heard (devices_of_seen new) →
    WentOn start ms commands old new end
done-all start ms commands old new end ok left R = (let all : commands ≡ reverse R.done = R.order ∙
    (ap (λ l. reverse R.done ++ l) (R.whole ok) ∙ append-nil (reverse R.done)) in
    let done : R.done ≡ reverse commands = sym (reverse-reverse R.done) ∙ ap reverse (sym all) in
    record {
      later = R.later;
      lines = R.lines;
      carried_out = subst (λ cs. CarriesOut cs R.later R.lines) done R.carries.carried_out;
      written = lines-out R.lines end.status (sinking old new) ok R.wrote;
      left = record { starts = left.starts; run = R.carries.run; devices = R.carries.last };
      heard = R.carries.heard_is;
      headline = R.carries.headline;
    })

-- so has one that read a text which spells these
module _ (text : List ℕ) (commands : List Instruction) (start : State) (ms : List Moment) (old new : Seen)
    (end : Ending) (source : old.source ≡ Some text) (spells : IsSchedule text commands)
    (ok : end.status ≡ 0) (told : IsSome old.disk) (left : AreLeft start ms (devices_of_seen old)) where
  other : (status : ℕ) → 0 < status → end.status ≡ status → WentOn start ms commands old new end
  other status l is = absurd (let e : 0 ≡ status = sym ok ∙ is in omega arith)

  pub went-on : AnswersReplay old new end → WentOn start ms commands old new end
  went-on (AnswersReplay.source_fault rose reads undone) = other 14 (omega arith) undone.status_is
  went-on (AnswersReplay.too_long front reads long undone) = other 16 (omega arith) undone.status_is
  went-on (AnswersReplay.bad_line t number reads few first undone) = other 19 (omega arith) undone.status_is
  went-on (AnswersReplay.no_memory reads undone) = other 70 (omega arith) undone.status_is
  went-on (AnswersReplay.done t reads few does) = (let is : t ≡ text = whole (longest_schedule + 1) text t
      old.source new.source source reads (omega (arith, few)) in
      subst (λ cs. WentOn start ms cs old new end)
      (AreLines-once (lines text) does.commands commands
      (subst (λ l. IsSchedule l does.commands) is does.schedule) spells)
      (done-all start ms does.commands old new end ok left (does.runs start ms told left)))

-- devices that are as they were are left by the same run
pub left-same : (start : State) (ms : List Moment) (old new : Seen) → new.disk ≡ old.disk →
    new.disk_faults ≡ old.disk_faults → new.providers ≡ old.providers →
    AreLeft start ms (devices_of_seen old) → AreLeft start ms (devices_of_seen new)
left-same start ms old new disk faults providers left = record {
  starts = left.starts;
  run = left.run;
  devices = record {
    images = subst (λ d. StandsForState d (now start ms)) (sym disk) left.devices.images;
    faults = left.devices.faults ∙ sym faults;
    providers = subst (λ ps. AreHanded ps (now start ms)) (sym providers) left.devices.providers;
  };
}

-- devices behind an init are left by a run again
pub init-left : (start : State) (ms : List Moment) (old new : Seen) (end : Ending) (numbers : Numbers) →
    IsSome old.disk → AreLeft start ms (devices_of_seen old) → InitsDevices numbers old new end →
    (own : List Moment) × AreLeft start (own ++ ms) (devices_of_seen new)
init-left start ms old new end numbers told left (InitsDevices.untouched disk faults providers) =
    ([], left-same start ms old new disk faults providers left)
init-left start ms old new end numbers told left (InitsDevices.made bytes key reads is goes) =
    (let G = goes start ms told left in (G.0, G.2))

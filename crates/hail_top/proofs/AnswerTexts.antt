-- What a job's answer tells, by its kind.
use Rattle.hail_top.proofs.Words.{◌≡◌, ℕ, List, take, None, Some, refl, ap, sym, ◌∙◌, inl, inr, subst, arith, told_then, TakesFront, Kind, PutJob, GetJob, DropJob, AuditJob, RepairJob, UpgradeJob, Answer, Put, Got, Dropped, Audited, Repaired, Upgraded, Scrubbed, Packed, Lost, ProviderFault, DiskFault, Memory, WritesLine, Seen, Ending, sinking, text_of, stored_line, dropped_line, audit_lines, Ran, LeavesBy, EndsByAnswer, Subject, TellsOf, IsTextOf, IsFaultEnd, TellsAnswer}
use Rattle.std.proofs.Common.{Option, append-nil}

-- the text that was told is that of the kind of job, since its answer is one of this kind
text-by_kind : (x : Ran) (s : Subject) (tolerance : ℕ) (answer : Answer) (kind : Kind) (own : Option ℕ)
    (text : List ℕ) → LeavesBy x kind own answer → TellsOf s tolerance kind
    → IsTextOf s answer text → text ≡ text_of tolerance kind answer
text-by_kind x s tolerance Put (PutJob name bytes) own text leaves subject is =
    is ∙ ap (λ (n : List ℕ). stored_line n s.length) subject.0 ∙ ap (λ (n : ℕ). stored_line name n) subject.1
text-by_kind x s tolerance Put (GetJob name) own text leaves subject is = absurd leaves.gives
text-by_kind x s tolerance Put (DropJob name) own text leaves subject is = absurd leaves.0
text-by_kind x s tolerance Put AuditJob own text leaves subject is = absurd leaves.gives
text-by_kind x s tolerance Put RepairJob own text leaves subject is = absurd leaves.0.gives
text-by_kind x s tolerance Put UpgradeJob own text leaves subject is = absurd leaves.0
text-by_kind x s tolerance (Got got) (PutJob name bytes) own text leaves subject is = absurd leaves.0
text-by_kind x s tolerance (Got got) (GetJob name) own text leaves subject is = is
text-by_kind x s tolerance (Got got) (DropJob name) own text leaves subject is = absurd leaves.0
text-by_kind x s tolerance (Got got) AuditJob own text leaves subject is = absurd leaves.gives
text-by_kind x s tolerance (Got got) RepairJob own text leaves subject is = absurd leaves.0.gives
text-by_kind x s tolerance (Got got) UpgradeJob own text leaves subject is = absurd leaves.0
text-by_kind x s tolerance Dropped (PutJob name bytes) own text leaves subject is = absurd leaves.0
text-by_kind x s tolerance Dropped (GetJob name) own text leaves subject is = absurd leaves.gives
text-by_kind x s tolerance Dropped (DropJob name) own text leaves subject is =
    is ∙ ap (λ (n : List ℕ). dropped_line n) subject
text-by_kind x s tolerance Dropped AuditJob own text leaves subject is = absurd leaves.gives
text-by_kind x s tolerance Dropped RepairJob own text leaves subject is = absurd leaves.0.gives
text-by_kind x s tolerance Dropped UpgradeJob own text leaves subject is = absurd leaves.0
text-by_kind x s tolerance (Audited number undecided counts) (PutJob name bytes) own text leaves subject is =
    absurd leaves.0
text-by_kind x s tolerance (Audited number undecided counts) (GetJob name) own text leaves subject is =
    absurd leaves.gives
text-by_kind x s tolerance (Audited number undecided counts) (DropJob name) own text leaves subject is =
    absurd leaves.0
text-by_kind x s tolerance (Audited number undecided counts) AuditJob own text leaves subject is =
    is ∙ ap (λ (t : ℕ). audit_lines t number undecided counts) subject
text-by_kind x s tolerance (Audited number undecided counts) RepairJob own text leaves subject is =
    absurd leaves.0.gives
text-by_kind x s tolerance (Audited number undecided counts) UpgradeJob own text leaves subject is =
    absurd leaves.0
text-by_kind x s tolerance (Repaired number) (PutJob name bytes) own text leaves subject is = absurd leaves.0
text-by_kind x s tolerance (Repaired number) (GetJob name) own text leaves subject is = absurd leaves.gives
text-by_kind x s tolerance (Repaired number) (DropJob name) own text leaves subject is = absurd leaves.0
text-by_kind x s tolerance (Repaired number) AuditJob own text leaves subject is = absurd leaves.gives
text-by_kind x s tolerance (Repaired number) RepairJob own text leaves subject is = is
text-by_kind x s tolerance (Repaired number) UpgradeJob own text leaves subject is = absurd leaves.0
text-by_kind x s tolerance (Lost stripe row) kind own text leaves subject is = absurd is
text-by_kind x s tolerance (ProviderFault provider) kind own text leaves subject is = absurd is
text-by_kind x s tolerance DiskFault kind own text leaves subject is = absurd is
text-by_kind x s tolerance Memory kind own text leaves subject is = absurd is
text-by_kind x s tolerance Upgraded (PutJob name bytes) own text leaves subject is = absurd leaves.0
text-by_kind x s tolerance Upgraded (GetJob name) own text leaves subject is = absurd leaves.gives
text-by_kind x s tolerance Upgraded (DropJob name) own text leaves subject is = absurd leaves.0
text-by_kind x s tolerance Upgraded AuditJob own text leaves subject is = absurd leaves.gives
text-by_kind x s tolerance Upgraded RepairJob own text leaves subject is = absurd leaves.0.gives
text-by_kind x s tolerance Upgraded UpgradeJob own text leaves subject is = is
text-by_kind x s tolerance (Scrubbed stripes symbols blocks) kind own text leaves subject is = absurd is
text-by_kind x s tolerance (Packed before after) kind own text leaves subject is = absurd is

-- nothing was written
pub front-none : (old new : Option (List ℕ)) (text : List ℕ) → new ≡ old → TakesFront old new text
front-none old new text same = (0, omega arith, same ∙ nothing old)
  where
    nothing : (told : Option (List ℕ)) → told ≡ told_then told (take 0 text)
    nothing None = refl
    nothing (Some bytes) = ap (λ (xs : List ℕ). Some xs) (sym (append-nil bytes))

-- an answer whose text was written
written-ends : (s : Subject) (answer : Answer) (text : List ℕ) (old new : Seen) (end : Ending) →
    IsTextOf s answer text → WritesLine text end.status (sinking old new) → end.at ≡ 0
    → EndsByAnswer text answer old new end
written-ends s Put text old new end is writes place = record { written = writes; place = place }
written-ends s (Got bytes) text old new end is writes place = record { written = writes; place = place }
written-ends s Dropped text old new end is writes place = record { written = writes; place = place }
written-ends s (Audited number undecided counts) text old new end is writes place =
    record { written = writes; place = place }
written-ends s (Repaired number) text old new end is writes place = record { written = writes; place = place }
written-ends s (Lost stripe row) text old new end is writes place = absurd is
written-ends s (ProviderFault provider) text old new end is writes place = absurd is
written-ends s DiskFault text old new end is writes place = absurd is
written-ends s Memory text old new end is writes place = absurd is
written-ends s Upgraded text old new end is writes place = record { written = writes; place = place }
written-ends s (Scrubbed stripes symbols blocks) text old new end is writes place = absurd is
written-ends s (Packed before after) text old new end is writes place = absurd is

-- an answer of which nothing was written
pub fault-ends : (answer : Answer) (text : List ℕ) (old new : Seen) (end : Ending) →
    IsFaultEnd answer end.status end.at → new.sink ≡ old.sink → EndsByAnswer text answer old new end
fault-ends Put text old new end fault silent =
    record { written = inr (inr (fault.0, front-none old.sink new.sink text silent)); place = fault.1 }
fault-ends (Got bytes) text old new end fault silent =
    record { written = inr (inr (fault.0, front-none old.sink new.sink text silent)); place = fault.1 }
fault-ends Dropped text old new end fault silent =
    record { written = inr (inr (fault.0, front-none old.sink new.sink text silent)); place = fault.1 }
fault-ends (Audited number undecided counts) text old new end fault silent =
    record { written = inr (inr (fault.0, front-none old.sink new.sink text silent)); place = fault.1 }
fault-ends (Repaired number) text old new end fault silent =
    record { written = inr (inr (fault.0, front-none old.sink new.sink text silent)); place = fault.1 }
fault-ends (Lost stripe row) text old new end fault silent =
    record { status_is = fault.0; place = fault.1; sink = silent }
fault-ends (ProviderFault provider) text old new end fault silent =
    record { status_is = fault.0; place = fault.1; sink = silent }
fault-ends DiskFault text old new end fault silent =
    record { status_is = fault.0; place = fault.1; sink = silent }
fault-ends Memory text old new end fault silent =
    record { status_is = fault.0; place = fault.1; sink = silent }
fault-ends Upgraded text old new end fault silent =
    record { written = inr (inr (fault.0, front-none old.sink new.sink text silent)); place = fault.1 }
fault-ends (Scrubbed stripes symbols blocks) text old new end fault silent =
    record { written = inr (inr (fault.0, front-none old.sink new.sink text silent)); place = fault.1 }
fault-ends (Packed before after) text old new end fault silent =
    record { written = inr (inr (fault.0, front-none old.sink new.sink text silent)); place = fault.1 }

-- how the command ends whose job's answer was told
pub answer-ends : (x : Ran) (s : Subject) (tolerance : ℕ) (answer : Answer) (kind : Kind) (own : Option ℕ)
    (old new : Seen) (end : Ending) → LeavesBy x kind own answer → TellsOf s tolerance kind
    → TellsAnswer s answer end.status end.at (sinking old new) →
    EndsByAnswer (text_of tolerance kind answer) answer old new end
answer-ends x s tolerance answer kind own old new end leaves subject (inl w) =
    subst (λ (text : List ℕ). EndsByAnswer text answer old new end)
    (text-by_kind x s tolerance answer kind own w.text leaves subject w.text_is)
    (written-ends s answer w.text old new end w.text_is w.written w.place)
answer-ends x s tolerance answer kind own old new end leaves subject (inr f) =
    fault-ends answer (text_of tolerance kind answer) old new end f.fault f.silent

-- A file over scrubs, audits and repairs, as a transcript tells it.
use Rattle.epoch_laws.proofs.Words.{◌≡◌, ℕ, ◌≤◌, true, List, [], ◌∷◌, ◌++◌, length, Option, Some, refl, ap, sym, subst, ◌∙◌, inl, inr, append_assoc, In, Setup, NoneBegan, Answer, Put, Audited, Repaired, since, DamagesOnly, AsksDamageOf, Begin, BeginScrub, Step, Outcome, Begun, Ended, put_event, AllTell, GetJob, AuditJob, RepairJob, job_of, Moment, IsRun, now, IsScrubCalm, scrubbed, State, IsStart, setup_in, Instruction, RunsToEnd, Touches, Relies, NoneBeganFor, NoneUnderWay, IsFree, NoneBeganOn, NoneAsksOn, ended_of_kind, setup_same, run_back, steps_begin_none, Stored, moved_mark, IsAudit, FindsAll, IsMarkedRun, IsCalmRun, IsMended, setups_stay, few_calm, few_scrubs, few_marked, scrub_marked, ReadsAs, NoneAsksFor, AreOver, AreOverOn, ends_apart, both_none, none_for, none_on, steps_none, damages, over, IsSwept, AreExactBut, AreRightBut, done_by, GotBack, IsWhole, both_only}
use Rattle.column_defs.specs.Verdicts.{is_flagged}
use Rattle.machine_defs.specs.Answers.{Scrubbed}
use Rattle.second_half_laws.proofs.Flagging.{flagging_misses_none}
use Rattle.state_laws.specs.Sound.{IsLimit}
use Rattle.state_laws.proofs.Events.{run-sound}
use Rattle.state_laws.proofs.Written.{runs-open, set_up-in}
use Rattle.epoch_laws.specs.Told.{AreFew}
use Rattle.epoch_laws.proofs.Epochs.{few_first, calm_on, exact_on}
use Rattle.epoch_laws.proofs.Moved.{mended_on, mended_right}
use Rattle.epoch_laws.proofs.Told.{no-audit, both-ask-none, stored-behind, stored-more, parts, later, later-damages, all-is, got-back, gives}

-- what a file gives back, and what providers hold then
abbrev Gives : State → List Moment → List Moment → List ℕ → List ℕ → ℕ → Answer → List (List ℕ) → Type 0
Gives start base ms name bytes g how named =
    (G : GotBack base ms name bytes g how) × (AreFew named (now start (ms ++ base)) → IsWhole start G)

-- ---- any commands between

-- a get that a transcript tells last, behind a put of its name
pub back : (base ms : List Moment) (front middle : List Instruction) (us ts : List Outcome)
    (name bytes : List ℕ) (own : Option ℕ) (p g : ℕ) (how : Answer) →
    ReadsAs (done_by (Begin (GetJob name)) g (middle ++ done_by (put_event own name bytes) p front)) ms
    (Ended how ∷ Begun g ∷ (ts ++ Ended Put ∷ Begun p ∷ us)) → length ts ≡ length middle →
    AreOverOn name front us → IsFree name base → NoneAsksOn name middle → GotBack base ms name bytes g how
back base ms front middle us ts name bytes own p g how E many leaves free asks =
    (let put = done_by (put_event own name bytes) p front in
    let P = parts name g how [] (middle ++ put) [] (ts ++ Ended Put ∷ Begun p ∷ us) base ms E refl in
    let S = stored-behind front middle name bytes own p P.apart.older base ts us P.apart.rest many asks leaves
    free in
    got-back name g how [] (middle ++ put) [] (ts ++ Ended Put ∷ Begun p ∷ us) base ms E refl P bytes S tt)

pub kept : (limit : ℕ) (start : State) (base ms : List Moment) (front middle : List Instruction)
    (us ts : List Outcome) (name bytes : List ℕ) (own : Option ℕ) (p g : ℕ) (ps : List ℕ) (how : Answer) →
    IsStart start → AllTell start → IsRun limit start (ms ++ base) →
    ReadsAs (done_by (Begin (GetJob name)) g (middle ++ done_by (put_event own name bytes) p front)) ms
    (Ended how ∷ Begun g ∷ (ts ++ Ended Put ∷ Begun p ∷ us)) → length ts ≡ length middle →
    AreOverOn name front us → IsFree name base → NoneAsksOn name middle → DamagesOnly ps base →
    AsksDamageOf ps (middle ++ done_by (put_event own name bytes) p front) →
    Gives start base ms name bytes g how (ps ∷ [])
kept limit start base ms front middle us ts name bytes own p g ps how clean tell run E many leaves free asks
    before names = (let put = done_by (put_event own name bytes) p front in
    let G = back base ms front middle us ts name bytes own p g how E many leaves free asks in (
      G,
      λ few. gives name bytes g how base ms limit (λ moments. 0) start G (few_marked limit start (ms ++ base) ps clean tell run
          (both_only ps ms base (damages ps (done_by (Begin (GetJob name)) g (middle ++ put)) ms
          (Ended how ∷ Begun g ∷ (ts ++ Ended Put ∷ Begun p ∷ us)) E (tt, names)) before) few.0),
    ))

-- ---- a scrub between

module _ (limit : ℕ) (start : State) (base ms : List Moment) (front middle behind : List Instruction)
    (us ts rs : List Outcome) (name bytes : List ℕ) (own : Option ℕ) (p s g stripes : ℕ)
    (symbols blocks ps qs : List ℕ) (how : Answer) (clean : IsStart start) (tell : AllTell start)
    (run : IsRun limit start (ms ++ base)) where
  abbrev first : List Instruction
  first = middle ++ done_by (put_event own name bytes) p front

  abbrev first_outcomes : List Outcome
  first_outcomes = ts ++ Ended Put ∷ Begun p ∷ us

  abbrev sweep_outcomes : List Outcome
  sweep_outcomes = Ended (Scrubbed stripes symbols blocks) ∷ Begun s ∷ first_outcomes

  abbrev pub Swept_get : Type 0
  Swept_get = (G : GotBack base ms name bytes g how) × (AreFew (ps ∷ qs ∷ []) (now start (ms ++ base)) →
      IsWhole start G × AreExactBut qs (now start (ms ++ base)))

  pub scrubs : ReadsAs (done_by (Begin (GetJob name)) g (behind ++ done_by BeginScrub s first)) ms
      (Ended how ∷ Begun g ∷ (rs ++ sweep_outcomes)) → length rs ≡ length behind →
      length ts ≡ length middle → AreOverOn name front us → IsFree name base → NoneAsksOn name middle →
      NoneAsksOn name behind → DamagesOnly ps base → AsksDamageOf ps first → AsksDamageOf qs behind → Swept_get
  scrubs E many more leaves free asks asks_later before names names_later =
      (let cs = done_by BeginScrub s first in
      let P = parts name g how behind cs rs sweep_outcomes base ms E many in
      let Q = P.apart.rest in
      let B = Q.6 in
      let sweeping : List Moment = Q.1 in
      let older : List Moment = B.1 ++ base in
      let recent : List Moment = Q.0 ∷ (sweeping ++ B.0 ∷ []) in
      let tail : P.apart.older ++ base ≡ recent ++ older =
      ap (λ l. l ++ base) (Q.3 ∙ ap (λ l. Q.0 ∷ (sweeping ++ l)) B.2)
      ∙ ap (λ l. Q.0 ∷ l) (append_assoc sweeping (B.0 ∷ B.1) base ∙ sym (append_assoc sweeping (B.0 ∷ []) older)) in
      let new : List Moment = later name g how behind cs rs sweep_outcomes base ms E many P in
      let all : ms ++ base ≡ new ++ (recent ++ older) =
      all-is name g how behind cs rs sweep_outcomes base ms E many P ∙ ap (λ l. new ++ l) tail in
      let recent_reads : ReadsAs (done_by BeginScrub s []) recent
      (Ended (Scrubbed stripes symbols blocks) ∷ Begun s ∷ []) =
      (Q.0, sweeping, B.0 ∷ [], refl, Q.4, Q.5, (B.0, [], refl, B.3, B.4, refl)) in
      let S = subst (λ l. Stored l name bytes) (sym tail)
      (stored-more name bytes recent older
      (none_on name (done_by BeginScrub s []) recent
      (Ended (Scrubbed stripes symbols blocks) ∷ Begun s ∷ []) recent_reads ((λ on. on), tt))
      (stored-behind front middle name bytes own p B.1 base ts us B.5 more asks leaves free)) in
      let G = got-back name g how behind cs rs sweep_outcomes base ms E many P bytes S asks_later in
      let swept : IsSwept older (recent ++ older) = record {
        end = Q.0;
        sweeping = sweeping;
        begin = B.0;
        split = ap (λ l. Q.0 ∷ l) (append_assoc sweeping (B.0 ∷ []) older);
        number = s;
        stripes = stripes;
        symbols = symbols;
        blocks = blocks;
        begin_event = B.3;
        begun = B.4;
        none = (steps_begin_none s s name sweeping Q.4.before).0;
        end_event = Q.4.step;
        ended = Q.5;
      } in
      let whole_run : IsRun limit start (new ++ (recent ++ older)) = subst (IsRun limit start) all run in
      let old_only : DamagesOnly ps (recent ++ older) = subst (DamagesOnly ps) tail
      (both_only ps P.apart.older base (damages ps cs P.apart.older sweep_outcomes Q (tt, names)) before) in
      let new_only : DamagesOnly qs (new ++ recent) = both_only qs new recent
      (later-damages name g how behind cs rs sweep_outcomes base ms E many P qs names_later)
      (damages qs (done_by BeginScrub s []) recent
      (Ended (Scrubbed stripes symbols blocks) ∷ Begun s ∷ []) recent_reads (tt, tt)) in (
        G,
        λ few. (let few_old = subst (λ l. length ps ≤ (setup_in (now start l)).b) all few.0 in
            let few_new = subst (λ l. length qs ≤ (setup_in (now start l)).b) all few.1.0 in
            let calm_old : IsScrubCalm start (recent ++ older) = calm-up limit start new (recent ++ older) ps clean
            whole_run old_only few_old in
            let calm = calm_on limit start new recent older qs clean whole_run swept new_only calm_old (inr few_new) in
            let calm_all : IsScrubCalm start (ms ++ base) = subst (IsScrubCalm start) (sym all) calm in (
              gives name bytes g how base ms limit (scrubbed start) start G
                  (scrub_marked limit start (ms ++ base) clean tell run calm_all),
              subst (λ l. AreExactBut qs (now start l)) (sym all)
                  (exact_on limit start new recent older qs clean whole_run swept new_only tell calm),
            )),
      ))
    where
      calm-up : (limit : ℕ) (start : State) (new old : List Moment) (ps : List ℕ) → IsStart start →
          IsRun limit start (new ++ old) → DamagesOnly ps old →
          length ps ≤ (setup_in (now start (new ++ old))).b → IsScrubCalm start old
      calm-up limit start new old ps clean run only few = record {
        jobs = few_calm limit (scrubbed start) start ps clean old (run_back limit start new old run) only
            (few_first limit start ps clean new old run (inr few));
        scrubs = few_scrubs limit (scrubbed start) start ps clean old (run_back limit start new old run) only
            (few_first limit start ps clean new old run (inr few));
      }

-- ---- an audit and its repair between

-- at the end of a repair the setup is that of each later moment
same-setup : (limit : ℕ) (start : State) (later rest : List Moment) (r rb : Moment)
    (repairing older : List Moment) (k number : ℕ) → IsLimit limit → IsStart start →
    rest ≡ repairing ++ rb ∷ older → IsRun limit start (later ++ r ∷ rest) → rb.event ≡ Begin RepairJob →
    rb.outcome ≡ Begun k → NoneBegan k repairing → r.event ≡ Step k → r.outcome ≡ Ended (Repaired number) →
    setup_in (now start (later ++ r ∷ rest)) ≡ setup_in r.state
same-setup limit start later rest r rb repairing older k number fits clean is run begins begun none step over =
    (let last = run_back limit start later (r ∷ rest) run in
    let y = ended_of_kind limit start repairing older r rb RepairJob k (Repaired number) clean
    (subst (λ l. IsRun limit start (r ∷ l)) is last) (inl begins) begun none step over in
    let S = run-sound limit start rest fits clean last.2 in
    let up = set_up-in limit (now start rest) S (runs-open limit (now start rest) S k y.0
    (subst (λ l. job_of (now start l).jobs k ≡ Some y.0) (sym is) y.1)) in
    let here = setups_stay limit start (r ∷ []) rest (setup_in (now start rest)) clean last up in
    setup_same (now start (later ++ r ∷ rest)) r.state
    (setups_stay limit start later (r ∷ rest) (setup_in (now start rest)) clean run here ∙ sym here))

module _ (limit : ℕ) (start : State) (base ms : List Moment) (front middle between behind : List Instruction)
    (us ts vs rs : List Outcome) (name bytes : List ℕ) (own : Option ℕ) (p a r g number undecided : ℕ)
    (counts ps qs : List ℕ) (how : Answer) (fits : IsLimit limit) (clean : IsStart start)
    (tell : AllTell start) (run : IsRun limit start (ms ++ base)) where
  abbrev put_first : List Instruction
  put_first = middle ++ done_by (put_event own name bytes) p front

  abbrev put_outcomes : List Outcome
  put_outcomes = ts ++ Ended Put ∷ Begun p ∷ us

  abbrev audit_first : List Instruction
  audit_first = done_by (Begin AuditJob) a put_first

  abbrev audit_outcomes : List Outcome
  audit_outcomes = Ended (Audited number undecided counts) ∷ Begun a ∷ put_outcomes

  abbrev repair_first : List Instruction
  repair_first = done_by (Begin RepairJob) r (between ++ audit_first)

  abbrev repair_outcomes : List Outcome
  repair_outcomes = Ended (Repaired number) ∷ Begun r ∷ (vs ++ audit_outcomes)

  -- the moments of the repair, of the commands between, and of the audit
  record Mends (ks : List Moment) : Type 0 where
    pub older : List Moment
    pub repair_end : Moment
    pub repairing : List Moment
    pub repair_begin : Moment
    pub gap : List Moment
    pub audit_end : Moment
    pub auditing : List Moment
    pub audit_begin : Moment
    pub moments : ks ≡ repair_end ∷ (repairing ++ repair_begin ∷ (gap ++ audit_end ∷ (auditing ++ audit_begin ∷ older)))
    pub repairs : RunsToEnd r repair_end repairing
    pub repaired : repair_end.outcome ≡ Ended (Repaired number)
    pub repair_event : repair_begin.event ≡ Begin RepairJob
    pub repair_begun : repair_begin.outcome ≡ Begun r
    pub gap_reads : ReadsAs between gap vs
    pub audits : RunsToEnd a audit_end auditing
    pub audited : audit_end.outcome ≡ Ended (Audited number undecided counts)
    pub audit_event : audit_begin.event ≡ Begin AuditJob
    pub audit_begun : audit_begin.outcome ≡ Begun a
    pub rest : ReadsAs put_first older put_outcomes

  mends : (ks : List Moment) → ReadsAs repair_first ks repair_outcomes → length vs ≡ length between → Mends ks
  mends ks E many = (let B = E.6 in
      let A = ends_apart between audit_first B.1 vs audit_outcomes B.5 many in
      let Q = A.rest in
      let C = Q.6 in record {
        older = C.1;
        repair_end = E.0;
        repairing = E.1;
        repair_begin = B.0;
        gap = A.later;
        audit_end = Q.0;
        auditing = Q.1;
        audit_begin = C.0;
        moments = E.3 ∙ ap (λ l. E.0 ∷ (E.1 ++ l)) (B.2 ∙ ap (λ l. B.0 ∷ l) (A.moments
            ∙ ap (λ l. A.later ++ l) (Q.3 ∙ ap (λ l. Q.0 ∷ (Q.1 ++ l)) C.2)));
        repairs = E.4;
        repaired = E.5;
        repair_event = B.3;
        repair_begun = B.4;
        gap_reads = A.owns;
        audits = Q.4;
        audited = Q.5;
        audit_event = C.3;
        audit_begun = C.4;
        rest = C.5;
      })

  module _ (ks : List Moment) (M : Mends ks) where
    -- since the audit's begin, and before it
    abbrev since_audit : List Moment
    since_audit = M.repair_end ∷ (M.repairing ++ M.repair_begin ∷ (M.gap ++ M.audit_end
        ∷ (M.auditing ++ M.audit_begin ∷ [])))

    abbrev before_audit : List Moment
    before_audit = M.older ++ base

    abbrev repair_part : List Moment
    repair_part = M.repair_end ∷ (M.repairing ++ M.repair_begin ∷ M.gap)

    abbrev audit_part : List Moment
    audit_part = M.audit_end ∷ (M.auditing ++ M.audit_begin ∷ [])

    repair_reads : ReadsAs (done_by (Begin RepairJob) r between) repair_part
        (Ended (Repaired number) ∷ Begun r ∷ vs)
    repair_reads = (
      M.repair_end,
      M.repairing,
      M.repair_begin ∷ M.gap,
      refl,
      M.repairs,
      M.repaired,
      (M.repair_begin, M.gap, refl, M.repair_event, M.repair_begun, M.gap_reads),
    )

    audit_reads : ReadsAs (done_by (Begin AuditJob) a []) audit_part
        (Ended (Audited number undecided counts) ∷ Begun a ∷ [])
    audit_reads = (
      M.audit_end,
      M.auditing,
      M.audit_begin ∷ [],
      refl,
      M.audits,
      M.audited,
      (M.audit_begin, [], refl, M.audit_event, M.audit_begun, refl),
    )

    parts_are : since_audit ≡ repair_part ++ audit_part
    parts_are = ap (λ l. M.repair_end ∷ l)
        (sym (append_assoc M.repairing (M.repair_begin ∷ M.gap) audit_part))

    -- the whole, from the repair's end on
    split-all : (zs : List Moment) → since_audit ++ zs
        ≡ M.repair_end ∷ (M.repairing ++ M.repair_begin ∷ (M.gap ++ M.audit_end ∷ (M.auditing ++ M.audit_begin ∷ zs)))
    split-all zs = ap (λ l. M.repair_end ∷ l)
        (append_assoc M.repairing (M.repair_begin ∷ (M.gap ++ audit_part)) zs
        ∙ ap (λ l. M.repairing ++ M.repair_begin ∷ l) (append_assoc M.gap audit_part zs
        ∙ ap (λ l. M.gap ++ M.audit_end ∷ l) (append_assoc M.auditing (M.audit_begin ∷ []) zs)))

    tail : ks ++ base ≡ since_audit ++ before_audit
    tail = ap (λ l. l ++ base) (M.moments ∙ sym (split-all M.older)) ∙ append_assoc since_audit M.older base

    mended : IsMended before_audit (since_audit ++ before_audit)
    mended = record {
      repair_end = M.repair_end;
      repairing = M.repairing;
      repair_begin = M.repair_begin;
      between = M.gap;
      audit_end = M.audit_end;
      auditing = M.auditing;
      audit_begin = M.audit_begin;
      split = split-all before_audit;
      number = number;
      undecided = undecided;
      counts = counts;
      audit = a;
      audit_event = M.audit_event;
      audit_begun = M.audit_begun;
      none_audit = (steps_begin_none a a name M.auditing M.audits.before).0;
      audit_step = M.audits.step;
      audited = M.audited;
      repair = r;
      repair_event = M.repair_event;
      repair_begun = M.repair_begun;
      none_repair = (steps_begin_none r r name M.repairing M.repairs.before).0;
      repair_step = M.repairs.step;
      repaired = M.repaired;
    }

    finds : (tolerance : ℕ) → NoneBeganFor IsAudit base → NoneAsksFor IsAudit front →
        NoneAsksFor IsAudit middle → NoneAsksFor IsAudit between →
        ((j : ℕ) → In j ps → is_flagged tolerance counts j ≡ true) →
        FindsAll tolerance ps (since_audit ++ before_audit)
    finds tolerance none asks_front asks_middle asks_between flags = record {
      later = repair_part;
      end = M.audit_end;
      auditing = M.auditing;
      begin = M.audit_begin;
      older = before_audit;
      split = split-all before_audit ∙ ap (λ l. M.repair_end ∷ l)
          (sym (append_assoc M.repairing (M.repair_begin ∷ M.gap)
          (M.audit_end ∷ (M.auditing ++ M.audit_begin ∷ before_audit))));
      audit = a;
      number = number;
      undecided = undecided;
      counts = counts;
      begin_event = M.audit_event;
      begun = M.audit_begun;
      end_event = M.audits.step;
      ended = M.audited;
      none_numbered = (steps_begin_none a a name M.auditing M.audits.before).0;
      none_before = both_none IsAudit M.older base (none_for IsAudit put_first M.older put_outcomes M.rest
          (both-ask-none middle (done_by (put_event own name bytes) p front) asks_middle
          (no-audit own name bytes, asks_front))) none;
      none_beside = steps_none IsAudit a M.auditing M.audits.before;
      none_later = none_for IsAudit (done_by (Begin RepairJob) r between) repair_part
          (Ended (Repaired number) ∷ Begun r ∷ vs) repair_reads ((λ on. on), asks_between);
      flags = flags;
    }

  abbrev pub Mended_get : Type 0
  Mended_get = (G : GotBack base ms name bytes g how) × (AreFew (ps ∷ qs ∷ []) (now start (ms ++ base)) →
      ((j : ℕ) → In j ps → is_flagged (setup_in (now start (ms ++ base))).tolerance counts j ≡ true) →
      IsWhole start G × AreRightBut qs (now start (ms ++ base)))

  pub repairs : ReadsAs (done_by (Begin (GetJob name)) g (behind ++ repair_first)) ms
      (Ended how ∷ Begun g ∷ (rs ++ repair_outcomes)) → length rs ≡ length behind →
      length vs ≡ length between → length ts ≡ length middle → AreOverOn name front us → IsFree name base →
      NoneAsksOn name middle → NoneAsksOn name between → NoneAsksOn name behind → NoneBeganFor IsAudit base →
      NoneUnderWay Relies base → NoneAsksFor IsAudit front → NoneAsksFor IsAudit middle →
      NoneAsksFor IsAudit between → AreOver (between ++ audit_first) (vs ++ audit_outcomes) →
      DamagesOnly ps base → AsksDamageOf ps (between ++ audit_first) → AsksDamageOf qs between →
      AsksDamageOf qs behind → Mended_get
  repairs E many some more leaves free asks asks_between asks_later none_audits none_reads audits_front
      audits_middle audits_between is_over before names names_between names_later =
      (let P = parts name g how behind repair_first rs repair_outcomes base ms E many in
      let ks = P.apart.older in
      let M = mends ks P.apart.rest some in
      let recent : List Moment = since_audit ks M in
      let older : List Moment = before_audit ks M in
      let new : List Moment = later name g how behind repair_first rs repair_outcomes base ms E many P in
      let all : ms ++ base ≡ new ++ (recent ++ older) =
      all-is name g how behind repair_first rs repair_outcomes base ms E many P ∙ ap (λ l. new ++ l) (tail ks M) in
      let whole_run : IsRun limit start (new ++ (recent ++ older)) = subst (IsRun limit start) all run in
      let old_run : IsRun limit start (recent ++ older) = run_back limit start new (recent ++ older) whole_run in
      let none_put = both_none (Touches name) (repair_part ks M) (audit_part ks M)
      (none_on name (done_by (Begin RepairJob) r between) (repair_part ks M)
      (Ended (Repaired number) ∷ Begun r ∷ vs) (repair_reads ks M) ((λ on. on), asks_between))
      (none_on name (done_by (Begin AuditJob) a []) (audit_part ks M)
      (Ended (Audited number undecided counts) ∷ Begun a ∷ []) (audit_reads ks M) ((λ on. on), tt)) in
      let S = subst (λ l. Stored l name bytes) (sym (tail ks M))
      (stored-more name bytes recent older (subst (NoneBeganOn name) (sym (parts_are ks M)) none_put)
      (stored-behind front middle name bytes own p M.older base ts us M.rest more asks leaves free)) in
      let G = got-back name g how behind repair_first rs repair_outcomes base ms E many P bytes S asks_later in
      let old_only : DamagesOnly ps (recent ++ older) = subst (DamagesOnly ps) (tail ks M)
      (both_only ps ks base (damages ps repair_first ks repair_outcomes P.apart.rest (tt, names)) before) in
      let recent_only : DamagesOnly qs recent = subst (DamagesOnly qs) (sym (parts_are ks M))
      (both_only qs (repair_part ks M) (audit_part ks M)
      (damages qs (done_by (Begin RepairJob) r between) (repair_part ks M)
      (Ended (Repaired number) ∷ Begun r ∷ vs) (repair_reads ks M) (tt, names_between))
      (damages qs (done_by (Begin AuditJob) a []) (audit_part ks M)
      (Ended (Audited number undecided counts) ∷ Begun a ∷ []) (audit_reads ks M) (tt, tt))) in
      let new_only : DamagesOnly qs (new ++ recent) = both_only qs new recent
      (later-damages name g how behind repair_first rs repair_outcomes base ms E many P qs names_later)
      recent_only in
      let reads_over : NoneUnderWay Relies (recent ++ older) = subst (NoneUnderWay Relies) (tail ks M)
      (over Relies repair_first ks base repair_outcomes P.apart.rest (inr (inr (r, inl refl, refl, is_over))) none_reads) in
      let same : setup_in (now start (new ++ (recent ++ older))) ≡ setup_in (now start (recent ++ older)) =
      same-setup limit start new ((M.repairing ++ M.repair_begin ∷ (M.gap ++ audit_part ks M)) ++ older)
      M.repair_end M.repair_begin M.repairing ((M.gap ++ audit_part ks M) ++ older) r number fits clean
      (append_assoc M.repairing (M.repair_begin ∷ (M.gap ++ audit_part ks M)) older) whole_run M.repair_event
      M.repair_begun (steps_begin_none r r name M.repairing M.repairs.before).0 M.repairs.step M.repaired in (
        G,
        λ few flags.
            (let few_old : length ps ≤ (setup_in (now start (recent ++ older))).b =
            subst (λ (t : Setup). length ps ≤ t.b) same (subst (λ l. length ps ≤ (setup_in (now start l)).b) all few.0) in
            let few_new = subst (λ l. length qs ≤ (setup_in (now start l)).b) all few.1.0 in
            let flags_old : (j : ℕ) → In j ps → is_flagged (setup_in (now start (recent ++ older))).tolerance counts j ≡ true =
            (λ j h. subst (λ (t : Setup). is_flagged t.tolerance counts j ≡ true) same
            (subst (λ l. is_flagged (setup_in (now start l)).tolerance counts j ≡ true) all (flags j h))) in
            let calm : IsCalmRun limit start (recent ++ older) = record {
              clean = clean;
              tell = tell;
              run = old_run;
              calm = few_calm limit (since start) start ps clean (recent ++ older) old_run old_only (inr few_old);
              scrubs = few_scrubs limit (since start) start ps clean (recent ++ older) old_run old_only (inr few_old);
              found = flagging_misses_none limit start (recent ++ older) ps clean tell old_run old_only few_old
                  (finds ks M (setup_in (now start (recent ++ older))).tolerance none_audits audits_front audits_middle
                  audits_between flags_old);
            } in
            let on = mended_on limit start new recent older qs calm (mended ks M) reads_over whole_run new_only few_new in
            let marked = subst (IsMarkedRun limit (moved_mark (length (recent ++ older)) (length older) (since start)) start)
            (sym all) on.marked in (
              gives name bytes g how base ms limit
                  (moved_mark (length (recent ++ older)) (length older) (since start)) start G marked,
              subst (λ l. AreRightBut qs (now start l)) (sym all)
                  (mended_right limit start new recent older qs calm (mended ks M) reads_over whole_run new_only few_new),
            )),
      ))

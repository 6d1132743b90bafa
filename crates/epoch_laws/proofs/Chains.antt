-- Scrubs that ended well, one behind the other, as a transcript tells them.
use Rattle.epoch_laws.proofs.Words.{◌≡◌, ℕ, List, [], ◌∷◌, ◌++◌, length, refl, ap, sym, subst, ◌∙◌, inr, append_assoc, DamagesOnly, AsksDamageOf, BeginScrub, Outcome, Begun, Ended, AllTell, Moment, IsRun, now, IsScrubCalm, scrubbed, State, IsStart, Instruction, run_back, steps_begin_none, IsMarkedRun, scrub_marked, ReadsAs, ends_apart, damages, IsSwept, AreExactBut, done_by, ByScrubs, oldest, newest, both_only}
use Rattle.std.specs.List.{AllByRecursion}
use Rattle.machine_defs.specs.Answers.{Scrubbed}
use Rattle.second_half_laws.proofs.FewDamaged as few-damaged
use Rattle.epoch_laws.specs.Told.{AreFew}
use Rattle.epoch_laws.proofs.Epochs.{few_first, calm_on, exact_on}

-- the moments of a scrub that ended well, with those of commands behind it and before it
record Parts (base ms : List Moment) (front : List Instruction) (us : List Outcome) (behind : List Instruction)
    (rs : List Outcome) : Type 0 where
  pub new : List Moment
  pub recent : List Moment
  pub first : List Moment
  pub whole : ms ++ base ≡ new ++ (recent ++ (first ++ base))
  pub swept : IsSwept (first ++ base) (recent ++ (first ++ base))
  pub news : ReadsAs behind new rs
  pub firsts : ReadsAs front first us
  pub none : (qs : List ℕ) → DamagesOnly qs recent

parts : (base ms : List Moment) (behind front : List Instruction) (rs us : List Outcome) (s stripes : ℕ)
    (symbols blocks : List ℕ) → ReadsAs (behind ++ done_by BeginScrub s front) ms
    (rs ++ Ended (Scrubbed stripes symbols blocks) ∷ Begun s ∷ us) → length rs ≡ length behind →
    Parts base ms front us behind rs
parts base ms behind front rs us s stripes symbols blocks E many =
    (let A = ends_apart behind (done_by BeginScrub s front) ms rs
    (Ended (Scrubbed stripes symbols blocks) ∷ Begun s ∷ us) E many in
    let Q = A.rest in
    let B = Q.6 in
    let older : List Moment = B.1 ++ base in
    let recent : List Moment = Q.0 ∷ (Q.1 ++ B.0 ∷ []) in
    let tail : A.older ++ base ≡ recent ++ older =
    ap (λ l. l ++ base) (Q.3 ∙ ap (λ l. Q.0 ∷ (Q.1 ++ l)) B.2)
    ∙ ap (λ l. Q.0 ∷ l) (append_assoc Q.1 (B.0 ∷ B.1) base ∙ sym (append_assoc Q.1 (B.0 ∷ []) older)) in
    record {
      new = A.later;
      recent = recent;
      first = B.1;
      whole = ap (λ l. l ++ base) A.moments ∙ append_assoc A.later A.older base ∙ ap (λ l. A.later ++ l) tail;
      swept = record {
        end = Q.0;
        sweeping = Q.1;
        begin = B.0;
        split = ap (λ l. Q.0 ∷ l) (append_assoc Q.1 (B.0 ∷ []) older);
        number = s;
        stripes = stripes;
        symbols = symbols;
        blocks = blocks;
        begin_event = B.3;
        begun = B.4;
        none = (steps_begin_none s s [] Q.1 Q.4.before).0;
        end_event = Q.4.step;
        ended = Q.5;
      };
      news = A.owns;
      firsts = B.5;
      none = λ qs. damages qs (done_by BeginScrub s []) recent
          (Ended (Scrubbed stripes symbols blocks) ∷ Begun s ∷ [])
          (Q.0, Q.1, B.0 ∷ [], refl, Q.4, Q.5, (B.0, [], refl, B.3, B.4, refl)) (tt, tt);
    })

-- lists of few at the end of a run are so at each moment of it
abbrev Few : List (List ℕ) → State → Type 0
Few named w = AllByRecursion (λ ps. few-damaged.AreFew ps w) named

pub few-all : (named : List (List ℕ)) (w : State) → AreFew named w → Few named w
few-all [] w few = tt
few-all (ps ∷ named) w few = (inr few.0, few-all named w few.1)

few-back : (limit : ℕ) (start : State) (named : List (List ℕ)) → IsStart start → (later ms : List Moment) →
    IsRun limit start (later ++ ms) → Few named (now start (later ++ ms)) → Few named (now start ms)
few-back limit start [] clean later ms run few = tt
few-back limit start (ps ∷ named) clean later ms run few =
    (few_first limit start ps clean later ms run few.0, few-back limit start named clean later ms run few.1)

-- before a first list others come last
older-is : (qs : List ℕ) (named : List (List ℕ)) (commands : List Instruction) (outcomes : List Outcome) →
    ByScrubs named commands outcomes → oldest (qs ∷ named) ≡ oldest named
older-is qs _ _ _ (ByScrubs.first ps cs os asks) = refl
older-is qs _ _ _ (ByScrubs.swept ps named behind front rs us s stripes symbols blocks many asks B) = refl

module _ (limit : ℕ) (start : State) (base : List Moment) (clean : IsStart start) where
  -- behind commands with scrubs it is calm, also with more moments that damage those of the newest list
  chain : (named : List (List ℕ)) (commands : List Instruction) (outcomes : List Outcome)
      (ms more : List Moment) → ByScrubs named commands outcomes → ReadsAs commands ms outcomes →
      DamagesOnly (oldest named) base → DamagesOnly (newest named) more →
      IsRun limit start (more ++ (ms ++ base)) → Few named (now start (more ++ (ms ++ base))) →
      IsScrubCalm start (more ++ (ms ++ base))
  chain _ _ _ ms more (ByScrubs.first ps cs os asks) E before only run few =
      (let all = both_only ps more (ms ++ base) only
      (both_only ps ms base (damages ps cs ms os E asks) before) in record {
        jobs = few-damaged.few_calm limit (scrubbed start) start ps clean (more ++ (ms ++ base)) run all few.0;
        scrubs = few-damaged.few_scrubs limit (scrubbed start) start ps clean (more ++ (ms ++ base)) run all few.0;
      })
  chain _ _ _ ms more (ByScrubs.swept qs named behind front rs us s stripes symbols blocks many asks B) E
      before only run few = (let P = parts base ms behind front rs us s stripes symbols blocks E many in
      let older : List Moment = P.first ++ base in
      let all : more ++ (ms ++ base) ≡ (more ++ P.new) ++ (P.recent ++ older) =
      ap (λ l. more ++ l) P.whole ∙ sym (append_assoc more P.new (P.recent ++ older)) in
      let run_all = subst (IsRun limit start) all run in
      let few_all = subst (λ l. Few (qs ∷ named) (now start l)) all few in
      let calm_old = chain named front us P.first P.recent B P.firsts
      (subst (λ ps. DamagesOnly ps base) (older-is qs named front us B) before) (P.none (newest named))
      (run_back limit start (more ++ P.new) (P.recent ++ older) run_all)
      (few-back limit start named clean (more ++ P.new) (P.recent ++ older) run_all few_all.1) in
      subst (IsScrubCalm start) (sym all) (calm_on limit start (more ++ P.new) P.recent older qs clean run_all
      P.swept (both_only qs (more ++ P.new) P.recent
      (both_only qs more P.new only (damages qs behind P.new rs P.news asks)) (P.none qs)) calm_old few_all.0))

  pub chain-calm : (named : List (List ℕ)) (commands : List Instruction) (outcomes : List Outcome)
      (ms : List Moment) → IsRun limit start (ms ++ base) → ReadsAs commands ms outcomes →
      ByScrubs named commands outcomes → DamagesOnly (oldest named) base → AreFew named (now start (ms ++ base)) →
      IsScrubCalm start (ms ++ base)
  chain-calm named commands outcomes ms run E B before few =
      chain named commands outcomes ms [] B E before tt run (few-all named (now start (ms ++ base)) few)

  -- so by the begin of the last scrub that ended well
  pub chain-marked : (named : List (List ℕ)) (commands : List Instruction) (outcomes : List Outcome)
      (ms : List Moment) → AllTell start → IsRun limit start (ms ++ base) → ReadsAs commands ms outcomes →
      ByScrubs named commands outcomes → DamagesOnly (oldest named) base → AreFew named (now start (ms ++ base)) →
      IsMarkedRun limit (scrubbed start) start (ms ++ base)
  chain-marked named commands outcomes ms tell run E B before few = scrub_marked limit start (ms ++ base)
      clean tell run (chain-calm named commands outcomes ms run E B before few)

  -- who is not of the newest list holds its own blocks
  exact-in : (qs : List ℕ) (named : List (List ℕ)) (all : List (List ℕ)) (commands : List Instruction)
      (outcomes : List Outcome) (ms : List Moment) → all ≡ qs ∷ named → (named ≡ [] → ⊥) → AllTell start →
      IsRun limit start (ms ++ base) → ReadsAs commands ms outcomes → ByScrubs all commands outcomes →
      IsScrubCalm start (ms ++ base) → AreExactBut qs (now start (ms ++ base))
  exact-in qs named _ _ _ ms is some tell run E (ByScrubs.first ps cs os asks) calm =
      absurd (some (no-more (sym is)))
    where
      no-more : qs ∷ named ≡ ps ∷ [] → named ≡ []
      no-more e = cc
  exact-in qs named _ _ _ ms is some tell run E
      (ByScrubs.swept ps others behind front rs us s stripes symbols blocks many asks B) calm =
      (let P = parts base ms behind front rs us s stripes symbols blocks E many in
      let older : List Moment = P.first ++ base in
      subst (λ l. AreExactBut qs (now start l)) (sym P.whole) (exact_on limit start P.new P.recent older qs clean
      (subst (IsRun limit start) P.whole run) P.swept (both_only qs P.new P.recent
      (damages qs behind P.new rs P.news (subst (λ l. AsksDamageOf l behind) (same is) asks)) (P.none qs)) tell
      (subst (IsScrubCalm start) P.whole calm)))
    where
      same : ps ∷ others ≡ qs ∷ named → ps ≡ qs
      same e = cc

  pub chain-exact : (qs ps : List ℕ) (named : List (List ℕ)) (commands : List Instruction)
      (outcomes : List Outcome) (ms : List Moment) → AllTell start → IsRun limit start (ms ++ base) →
      ReadsAs commands ms outcomes → ByScrubs (qs ∷ ps ∷ named) commands outcomes →
      DamagesOnly (oldest (ps ∷ named)) base → AreFew (qs ∷ ps ∷ named) (now start (ms ++ base)) →
      AreExactBut qs (now start (ms ++ base))
  chain-exact qs ps named commands outcomes ms tell run E B before few =
      exact-in qs (ps ∷ named) (qs ∷ ps ∷ named) commands outcomes ms refl (λ is. cc is) tell run E B
      (chain-calm (qs ∷ ps ∷ named) commands outcomes ms run E B before few)

-- Whom commands damage, and that no job of theirs of some kinds is under way behind them.
use Rattle.effect_laws.proofs.Words.{◌≡◌, ℕ, List, [], ◌∷◌, ◌++◌, refl, sym, ap, subst, ◌∙◌, inl, inr, append_assoc, In, Kind, Answer, GivesUp, Step, Outcome, Begun, Ended, Moment, Instruction, Once, RunJob, RunsToEnd, Touches, IsBeginFor, NoneBeganFor, NoneUnderWay, ReadsAs, LeavesFree, AreOverFor}
use Rattle.machine_defs.specs.Damaged.{IsAmong, DamagesOnly, AsksDamageOf}
use Rattle.effect_laws.proofs.Asked.{steps_none, both_none, each_read}

-- commands damage only those whom they name
pub damages : (ps : List ℕ) (cs : List Instruction) (ms : List Moment) (rs : List Outcome) →
    ReadsAs cs ms rs → AsksDamageOf ps cs → DamagesOnly ps ms
damages ps = each_read (DamagesOnly ps) (λ cs rs. AsksDamageOf ps cs) tt
    (λ job m ms event outcome q. (subst (IsAmong ps) (sym event) tt, q))
    (λ event cs m r rs here outcome asks. (asks.1, λ ms q. (subst (IsAmong ps) (sym here) asks.0, q)))
    (λ job cs m r rs step outcome asks. (asks, λ ms q. (subst (IsAmong ps) (sym step) tt, q)))

-- ---- jobs of some kinds

module _ (Meant : Kind → Type 0) where
  -- the newer of two lists of moments begins none, and none is under way behind the older
  pub none_more : (newer ms : List Moment) → NoneBeganFor Meant newer → NoneUnderWay Meant ms →
      NoneUnderWay Meant (newer ++ ms)
  none_more [] ms none free = free
  none_more (m ∷ newer) ms none free =
      NoneUnderWay.unbegun m (newer ++ ms) none.0 (none_more newer ms none.1 free)

  -- among moments a job ended
  record HasEnd (n : ℕ) (ms : List Moment) : Type 0 where
    pub later : List Moment
    pub end : Moment
    pub between : List Moment
    pub how : Answer
    pub is : ms ≡ later ++ end ∷ between
    pub step : end.event ≡ Step n
    pub ended : end.outcome ≡ Ended how

  -- these moments begin none, and each of these jobs ended among them
  record Closes (ran : List ℕ) (newer : List Moment) : Type 0 where
    pub none : NoneBeganFor Meant newer
    pub ends : (n : ℕ) → In n ran → HasEnd n newer

  has-more : (n : ℕ) (newer ms : List Moment) → HasEnd n newer → HasEnd n (newer ++ ms)
  has-more n newer ms H = record {
    later = H.later;
    end = H.end;
    between = H.between ++ ms;
    how = H.how;
    is = ap (λ l. l ++ ms) H.is ∙ append_assoc H.later (H.end ∷ H.between) ms;
    step = H.step;
    ended = H.ended;
  }

  -- older moments that begin none stand behind them
  closes-more : (ran : List ℕ) (newer ms : List Moment) → Closes ran newer → NoneBeganFor Meant ms →
      Closes ran (newer ++ ms)
  closes-more ran newer ms C none = record {
    none = both_none Meant newer ms C.none none;
    ends = λ n among. has-more n newer ms (C.ends n among);
  }

  -- the moments that run a job begin none
  run-none : (job : ℕ) (m : Moment) (steps : List Moment) → RunsToEnd job m steps → NoneBeganFor Meant (m ∷ steps)
  run-none job m steps runs =
      ((λ t n is. subst (IsBeginFor Meant) runs.step t), steps_none Meant job steps runs.before)

  -- so do those of a job that ended
  closes-job : (ran : List ℕ) (newer : List Moment) (job : ℕ) (m : Moment) (steps : List Moment) (how : Answer) →
      Closes ran newer → RunsToEnd job m steps → m.outcome ≡ Ended how → Closes (job ∷ ran) (newer ++ m ∷ steps)
  closes-job ran newer job m steps how C runs ended = record {
    none = both_none Meant newer (m ∷ steps) C.none (run-none job m steps runs);
    ends = λ n among. by n among;
  }
    where
      by : (n : ℕ) → In n (job ∷ ran) → HasEnd n (newer ++ m ∷ steps)
      by n (inl is) = record {
        later = newer;
        end = m;
        between = steps;
        how = how;
        is = refl;
        step = runs.step ∙ ap Step (sym is);
        ended = ended;
      }
      by n (inr among) = has-more n newer (m ∷ steps) (C.ends n among)

  -- a job whose end stands among the newer moments, and that began before them
  ended-there : (newer older : List Moment) (b : Moment) (n : ℕ) → NoneBeganFor Meant newer → HasEnd n newer →
      b.outcome ≡ Begun n → NoneUnderWay Meant older → NoneUnderWay Meant (newer ++ b ∷ older)
  ended-there newer older b n none H begun free = (let parts = subst (NoneBeganFor Meant) H.is none in
      subst (NoneUnderWay Meant) (sym (ap (λ l. l ++ b ∷ older) H.is
      ∙ append_assoc H.later (H.end ∷ H.between) (b ∷ older)))
      (none_more H.later (H.end ∷ (H.between ++ b ∷ older)) (front-none H.later (H.end ∷ H.between) parts)
      (NoneUnderWay.ended H.end b H.between older n H.how H.step H.ended
      (back-none H.later (H.end ∷ H.between) parts).1 begun free)))
    where
      front-none : (xs ys : List Moment) → NoneBeganFor Meant (xs ++ ys) → NoneBeganFor Meant xs
      front-none [] ys h = tt
      front-none (x ∷ xs) ys h = (h.0, front-none xs ys h.1)

      back-none : (xs ys : List Moment) → NoneBeganFor Meant (xs ++ ys) → NoneBeganFor Meant ys
      back-none [] ys h = h
      back-none (x ∷ xs) ys h = back-none xs ys h.1

  -- none is under way behind commands whose jobs of these kinds are over, and newer moments that begin none
  closed : (base : List Moment) → NoneUnderWay Meant base → (cs : List Instruction) (ms : List Moment)
      (rs : List Outcome) (ran : List ℕ) (newer : List Moment) → ReadsAs cs ms rs → AreOverFor Meant ran cs rs →
      Closes ran newer → NoneUnderWay Meant (newer ++ (ms ++ base))
  closed base free [] ms [] ran newer is is_over C = rw is (none_more newer base C.none free)
  closed base free (Once event ∷ cs) ms (r ∷ rs) ran newer (b, older, is, here, outcome, more) (inl up) C =
      rw is (none_more newer (b ∷ (older ++ base)) C.none
      (NoneUnderWay.given_up b (older ++ base) (subst GivesUp (sym here) up)))
  closed base free (Once event ∷ cs) ms (r ∷ rs) ran newer (b, older, is, here, outcome, more)
      (inr (inl (none, rest))) C = rw (is, ← append_assoc newer (b ∷ []) (older ++ base)) (
      closed base free cs older rs ran (newer ++ b ∷ []) more rest (closes-more ran newer (b ∷ []) C
      ((λ t n begun. none (rw here at t)), tt)))
  closed base free (Once event ∷ cs) ms (r ∷ rs) ran newer (b, older, is, here, outcome, more)
      (inr (inr (n, among, begun, rest))) C = rw is (ended-there newer (older ++ base) b n C.none
      (C.ends n among) (rw begun at outcome)
      (closed base free cs older rs [] [] more rest (record { none = tt; ends = λ n h. absurd h })))
  closed base free (RunJob job ∷ cs) ms (Ended how ∷ rs) ran newer (m, steps, older, is, runs, outcome, more)
      is_over C = rw (is, append_assoc steps older base, ← append_assoc newer (m ∷ steps) (older ++ base)) (
      closed base free cs older rs (job ∷ ran) (newer ++ m ∷ steps) more is_over
      (closes-job ran newer job m steps how C runs outcome))
  closed base free (RunJob job ∷ cs) ms (r ∷ rs) ran newer (m, steps, older, is, runs, outcome, more) is_over C =
      rw (is, append_assoc steps older base, ← append_assoc newer (m ∷ steps) (older ++ base)) (
      closed base free cs older rs ran (newer ++ m ∷ steps) more is_over
      (closes-more ran newer (m ∷ steps) C (run-none job m steps runs)))
  closed base free cs ms rs ran newer E is_over C = absurd E

  pub over : (cs : List Instruction) (ms base : List Moment) (rs : List Outcome) → ReadsAs cs ms rs →
      AreOverFor Meant [] cs rs → NoneUnderWay Meant base → NoneUnderWay Meant (ms ++ base)
  over cs ms base rs reads is_over free =
      closed base free cs ms rs [] [] reads is_over (record { none = tt; ends = λ n h. absurd h })

-- a name that commands leave free, whatever came of them, is over
pub leaves_over : (name : List ℕ) (cs : List Instruction) (ms : List Moment) (rs : List Outcome) (ran : List ℕ) →
    ReadsAs cs ms rs → LeavesFree name cs → AreOverFor (Touches name) ran cs rs
leaves_over name [] ms [] ran E leaves = tt
leaves_over name (Once event ∷ cs) ms (r ∷ rs) ran E (inl up) = inl up
leaves_over name (Once event ∷ cs) ms (r ∷ rs) ran (b, older, is, here, outcome, more) (inr (none, rest)) =
    inr (inl (none, leaves_over name cs older rs ran more rest))
leaves_over name (RunJob job ∷ cs) ms (Ended how ∷ rs) ran (m, steps, older, is, runs, outcome, more) leaves =
    leaves_over name cs older rs (job ∷ ran) more leaves
leaves_over name (RunJob job ∷ cs) ms (r ∷ rs) ran (m, steps, older, is, runs, outcome, more) leaves =
    leaves_over name cs older rs ran more leaves
leaves_over name cs ms rs ran E leaves = absurd E

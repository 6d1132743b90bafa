-- What commands do not ask for, the moments that carry them out do not begin.
use Rattle.effect_laws.proofs.Words.{◌≡◌, ℕ, true, List, [], ◌∷◌, ◌++◌, ap, sym, subst, ◌∙◌, inl, inr, append_assoc, and_parts, false≢true, Kind, Event, Step, Outcome, Begun, More, Listed, NoneContinues, Moment, NoneBegan, IsPutBegin, Instruction, Once, RunJob, GoOn, Touches, IsBeginFor, NoneBeganFor, NoneUnderWay, IsFree, NoneBeganOn, NoneAsksOn, PutsOnly, IsRead, is_call, calls_none, NoneCalls, ReadsAs, NoneAsksFor, AsksPutsOnly, LeavesFree, NoneIsBegun}
use Rattle.std.proofs.Common.{not}

-- ---- moments

-- steps of a job begin none
pub steps_none : (Meant : Kind → Type 0) (job : ℕ) (ms : List Moment) → GoOn job ms → NoneBeganFor Meant ms
steps_none Meant job [] on = tt
steps_none Meant job (m ∷ ms) (event, outcome, on) =
    ((λ t n is. subst (IsBeginFor Meant) event t), steps_none Meant job ms on)

-- two lists of moments that begin none
pub both_none : (Meant : Kind → Type 0) (xs ys : List Moment) → NoneBeganFor Meant xs →
    NoneBeganFor Meant ys → NoneBeganFor Meant (xs ++ ys)
both_none Meant [] ys a b = b
both_none Meant (x ∷ xs) ys a b = (a.0, both_none Meant xs ys a.1 b)

-- what holds of no moment, and with each moment more that steps or that a good command brings, holds of them all
module _ (Q : List Moment → Type 0) (Good : List Instruction → List Outcome → Type 0) (none : Q [])
    (step : (job : ℕ) (m : Moment) (ms : List Moment) → m.event ≡ Step job → m.outcome ≡ More → Q ms → Q (m ∷ ms))
    (once : (event : Event) (cs : List Instruction) (m : Moment) (r : Outcome) (rs : List Outcome) →
    m.event ≡ event → IsRead m.outcome r → Good (Once event ∷ cs) (r ∷ rs) →
    Good cs rs × ((ms : List Moment) → Q ms → Q (m ∷ ms)))
    (run : (job : ℕ) (cs : List Instruction) (m : Moment) (r : Outcome) (rs : List Outcome) →
    m.event ≡ Step job → IsRead m.outcome r → Good (RunJob job ∷ cs) (r ∷ rs) →
    Good cs rs × ((ms : List Moment) → Q ms → Q (m ∷ ms))) where
  steps_read : (job : ℕ) (steps older : List Moment) → GoOn job steps → Q older → Q (steps ++ older)
  steps_read job [] older on q = q
  steps_read job (m ∷ steps) older (event, outcome, on) q =
      step job m (steps ++ older) event outcome (steps_read job steps older on q)

  -- so it holds of all the moments that commands are read from
  pub each_read : (cs : List Instruction) (ms : List Moment) (rs : List Outcome) → ReadsAs cs ms rs →
      Good cs rs → Q ms
  each_read [] ms [] is good = subst Q (sym is) none
  each_read (Once event ∷ cs) ms (r ∷ rs) (m, older, is, here, outcome, more) good =
      (let g = once event cs m r rs here outcome good in
      subst Q (sym is) (g.1 older (each_read cs older rs more g.0)))
  each_read (RunJob job ∷ cs) ms (r ∷ rs) (m, steps, older, is, runs, outcome, more) good =
      (let g = run job cs m r rs runs.step outcome good in subst Q (sym is)
      (g.1 (steps ++ older) (steps_read job steps older runs.before (each_read cs older rs more g.0))))
  each_read cs ms rs E good = absurd E

-- what commands end as, none of which asks for a job that is meant, begins none
pub none_for : (Meant : Kind → Type 0) (cs : List Instruction) (ms : List Moment) (rs : List Outcome) →
    ReadsAs cs ms rs → NoneAsksFor Meant cs → NoneBeganFor Meant ms
none_for Meant = each_read (NoneBeganFor Meant) (λ cs rs. NoneAsksFor Meant cs) tt
    (λ job m ms event outcome q. ((λ t n is. subst (IsBeginFor Meant) event t), q))
    (λ event cs m r rs here outcome none. (
      none.1,
      λ ms q. ((λ t n begun. none.0 (subst (IsBeginFor Meant) here t)), q),
    ))
    (λ job cs m r rs step outcome none. (none, λ ms q. ((λ t n begun. subst (IsBeginFor Meant) step t), q)))

-- none asks on a name where none asks for a job that touches it
asks_for : (name : List ℕ) (cs : List Instruction) → NoneAsksOn name cs → NoneAsksFor (Touches name) cs
asks_for name [] none = tt
asks_for name (Once event ∷ cs) none = (none.0, asks_for name cs none.1)
asks_for name (RunJob job ∷ cs) none = asks_for name cs none

pub none_on : (name : List ℕ) (cs : List Instruction) (ms : List Moment) (rs : List Outcome) →
    ReadsAs cs ms rs → NoneAsksOn name cs → NoneBeganOn name ms
none_on name cs ms rs E none = none_for (Touches name) cs ms rs E (asks_for name cs none)

-- ---- puts of some bytes

-- a step is no begin of a put
step_puts : (job : ℕ) (name bytes other : List ℕ) (event : Event) → event ≡ Step job →
    IsPutBegin event name other → other ≡ bytes
step_puts job name bytes other event step (inl is) = absurd cc
step_puts job name bytes other event step (inr (profile, is)) = absurd cc

-- commands whose puts of the name are of some bytes begin only such
pub puts_only : (name bytes : List ℕ) (cs : List Instruction) (ms : List Moment) (rs : List Outcome) →
    ReadsAs cs ms rs → AsksPutsOnly name bytes cs → PutsOnly name bytes ms
puts_only name bytes = each_read (PutsOnly name bytes) (λ cs rs. AsksPutsOnly name bytes cs) tt
    (λ job m ms event outcome q. ((λ other n is begun. step_puts job name bytes other m.event event is), q))
    (λ event cs m r rs here outcome only. (
      only.1,
      λ ms q. (
        (λ other n put begun. only.0 other (subst (λ (e : Event). IsPutBegin e name other) here put)),
        q,
      ),
    ))
    (λ job cs m r rs step outcome only. (
      only,
      λ ms q. ((λ other n put begun. step_puts job name bytes other m.event step put), q),
    ))

-- ---- numbers

-- an outcome that is a begin is read as it
read_begun : (number : ℕ) (x r : Outcome) → IsRead x r → x ≡ Begun number → r ≡ Begun number
read_begun number x (Listed told) (files, is, same) begun = absurd cc
read_begun number x r is begun = sym is ∙ begun

-- where no outcome is the begin of a number, none began it
pub none_begun : (number : ℕ) (cs : List Instruction) (ms : List Moment) (rs : List Outcome) →
    ReadsAs cs ms rs → NoneIsBegun number rs → NoneBegan number ms
none_begun number = each_read (NoneBegan number) (λ cs rs. NoneIsBegun number rs) tt
    (λ job m ms event outcome q. ((λ is. cc), q)) (λ event cs m r rs here outcome none. (
      none.1,
      λ ms q. ((λ begun. none.0 (read_begun number m.outcome r outcome begun)), q),
    ))
    (λ job cs m r rs step outcome none. (
      none.1,
      λ ms q. ((λ begun. none.0 (read_begun number m.outcome r outcome begun)), q),
    ))

-- ---- names that are free

-- a free name is so behind later moments that begin none on it
pub free_more : (name : List ℕ) (later ms : List Moment) → IsFree name ms → NoneBeganOn name later →
    IsFree name (later ++ ms)
free_more name [] ms free none = free
free_more name (m ∷ later) ms free none =
    NoneUnderWay.unbegun m (later ++ ms) none.0 (free_more name later ms free none.1)

-- it is so behind commands that leave it free
pub free_behind : (name : List ℕ) (cs : List Instruction) (ms base : List Moment) (rs : List Outcome) →
    ReadsAs cs ms rs → LeavesFree name cs → IsFree name base → IsFree name (ms ++ base)
free_behind name [] ms base [] is leaves free = subst (λ l. IsFree name (l ++ base)) (sym is) free
free_behind name (Once event ∷ cs) ms base (r ∷ rs) (m, older, is, here, outcome, more) (inl up) free =
    rw is (NoneUnderWay.given_up m (older ++ base) (rw here up))
free_behind name (Once event ∷ cs) ms base (r ∷ rs) (m, older, is, here, outcome, more) (inr leaves) free =
    rw is (NoneUnderWay.unbegun m (older ++ base) (λ t n begun. leaves.0 (rw here at t))
    (free_behind name cs older base rs more leaves.1 free))
free_behind name (RunJob job ∷ cs) ms base (r ∷ rs) (m, steps, older, is, runs, outcome, more) leaves free =
    rw (is, append_assoc steps older base)
    (free_more name (m ∷ steps) (older ++ base) (free_behind name cs older base rs more leaves free)
    ((λ t n begun. rw runs.step at t), steps_none (Touches name) job steps runs.before))
free_behind name cs ms base rs E leaves free = absurd E

-- commands of which none asks on a name leave it free
pub none_leaves : (name : List ℕ) (cs : List Instruction) → NoneAsksOn name cs → LeavesFree name cs
none_leaves name [] none = tt
none_leaves name (Once event ∷ cs) none = inr (none.0, none_leaves name cs none.1)
none_leaves name (RunJob job ∷ cs) none = none_leaves name cs none

-- ---- calls of the program

-- commands of which none is a later call of the program are carried out in one
pub one_call : (cs : List Instruction) (ms : List Moment) (rs : List Outcome) → ReadsAs cs ms rs →
    NoneCalls cs → NoneContinues ms
one_call = each_read NoneContinues (λ cs rs. NoneCalls cs) tt (λ job m ms event outcome q. ((λ is. cc), q))
    (λ event cs m r rs here outcome none. (none.1, λ ms q. ((λ e. none.0 (sym here ∙ e)), q)))
    (λ job cs m r rs step outcome none. (none, λ ms q. ((λ e. cc), q)))

-- a test tells it of commands
pub tested_calls : (cs : List Instruction) → calls_none cs ≡ true → NoneCalls cs
tested_calls [] test = tt
tested_calls (Once event ∷ cs) test = (let p = and_parts (not (is_call event)) (calls_none cs) test in (
  (λ is. false≢true (ap (λ (e : Event). not (is_call e)) (sym is) ∙ p.0)),
  tested_calls cs p.1,
))
tested_calls (RunJob job ∷ cs) test = tested_calls cs test

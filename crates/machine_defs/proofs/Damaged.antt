-- Which providers a run replaced, by the events that name them; and the first moments of a run.
use Rattle.machine_defs.proofs.Words.{◌≡◌, ◌≤◌, ◌&&◌, Bool, ap, sym, subst, ◌∙◌, inl, inr, arith, nat_le, cases_Bool, and_parts, or_cases, eqb-true, leb-true, leb-false, false≢true, In, Kind, Event, Alter, Lose, Outcome, Replaced, State, Moment, first_moments, is_replacement, is_replaced_since, Instruction, Once, RunJob, GoOn, CarriesOut}
use Rattle.std.proofs.Common.{ℕ, true, List, [], ◌∷◌, ◌++◌, length, append_assoc}
use Rattle.machine_defs.specs.Calm.{Mark, IsCalm}
use Rattle.machine_defs.specs.Missed.{NoneMissed}
use Rattle.machine_defs.specs.Scrubs.{AreScrubsCalm}
use Rattle.machine_defs.specs.Damaged.{IsAmong, DamagesOnly, AsksDamageOf}
use Rattle.machine_defs.proofs.JobLists.{cond_true, cond_false}
use Rattle.machine_defs.proofs.Held.{first_more, first_all}

-- ---- the first moments of a run

no_fewer : (gaps ms : List Moment) → length ms ≤ length (gaps ++ ms)
no_fewer [] ms = omega arith
no_fewer (x ∷ gaps) ms = (let l = no_fewer gaps ms in omega arith)

-- the first moments, as many as these are, are these
pub first_before : (gaps ms : List Moment) → first_moments (length ms) (gaps ++ ms) ≡ ms
first_before [] ms = first_all ms
first_before (x ∷ gaps) ms = first_more (length ms) x (gaps ++ ms) (no_fewer gaps ms) ∙ first_before gaps ms

-- so it is with a moment between
pub first_behind : (gaps : List Moment) (b : Moment) (ms : List Moment) →
    first_moments (length ms) (gaps ++ b ∷ ms) ≡ ms
first_behind gaps b ms =
    ap (first_moments (length ms)) (sym (append_assoc gaps (b ∷ []) ms)) ∙ first_before (gaps ++ b ∷ []) ms

-- so many of the first moments, where there are as many
pub first_enough : (least k : ℕ) (ms : List Moment) → least ≤ k → least ≤ length ms →
    least ≤ length (first_moments k ms)
first_enough least k [] enough there = there
first_enough least k (m ∷ ms) enough there = elim (cases_Bool (nat_le (length (m ∷ ms)) k)) [
  | inl t ↦ subst (λ hs. least ≤ length hs)
      (sym (cond_true (nat_le (length (m ∷ ms)) k) (m ∷ ms) (first_moments k ms) t)) there
  | inr f ↦ subst (λ hs. least ≤ length hs)
      (sym (cond_false (nat_le (length (m ∷ ms)) k) (m ∷ ms) (first_moments k ms) f))
      (first_enough least k ms enough (let l = leb-false (length (m ∷ ms)) k f in omega arith))
]

-- the first moments are no more than all
pub first_fewer : (k : ℕ) (ms : List Moment) → length (first_moments k ms) ≤ length ms
first_fewer k [] = omega arith
first_fewer k (m ∷ ms) = elim (cases_Bool (nat_le (length (m ∷ ms)) k)) [
  | inl t ↦ subst (λ hs. length hs ≤ length (m ∷ ms))
      (sym (cond_true (nat_le (length (m ∷ ms)) k) (m ∷ ms) (first_moments k ms) t)) (omega arith)
  | inr f ↦ subst (λ hs. length hs ≤ length (m ∷ ms))
      (sym (cond_false (nat_le (length (m ∷ ms)) k) (m ∷ ms) (first_moments k ms) f))
      (let l = first_fewer k ms in omega arith)
]

pub calm_back : (reads : Kind → Bool) (mark : Mark) (later ms : List Moment) →
    IsCalm reads mark (later ++ ms) → IsCalm reads mark ms
calm_back reads mark [] ms calm = calm
calm_back reads mark (m ∷ later) ms calm = calm_back reads mark later ms calm.1

pub scrubs_back : (mark : Mark) (later ms : List Moment) → AreScrubsCalm mark (later ++ ms) →
    AreScrubsCalm mark ms
scrubs_back mark [] ms calm = calm
scrubs_back mark (m ∷ later) ms calm = scrubs_back mark later ms calm.1

pub missed_back : (start : State) (later ms : List Moment) → NoneMissed start (later ++ ms) →
    NoneMissed start ms
missed_back start [] ms none = none
missed_back start (m ∷ later) ms none = missed_back start later ms none.1

-- ---- damage by name

-- a replacement is one of a provider that the event names
replaced_among : (ps : List ℕ) (e : Event) (r : Outcome) (j : ℕ) → IsAmong ps e →
    is_replacement e r j ≡ true → In j ps
replaced_among ps (Alter p o s k x) Replaced j among h = subst (λ q. In q ps) (eqb-true p j h) among
replaced_among ps (Lose p o s) Replaced j among h = subst (λ q. In q ps) (eqb-true p j h) among
replaced_among ps e r j among h = absurd (false≢true h)

-- before a moment nothing was replaced since it
none_early : (from j : ℕ) (ms : List Moment) → length ms ≤ from → is_replaced_since from j ms ≡ true → ⊥
none_early from j [] short h = false≢true h
none_early from j (m ∷ ms) short h =
    elim (or_cases (is_replacement m.event m.outcome j && nat_le from (length ms))
    (is_replaced_since from j ms) h) [
      | inl p ↦ (let l : from ≤ length ms = leb-true from (length ms)
          (and_parts (is_replacement m.event m.outcome j) (nat_le from (length ms)) p).1 in omega arith)
      | inr q ↦ none_early from j ms (omega arith) q
    ]

-- who was replaced since some first moments is named by the later ones
pub among_since : (ps : List ℕ) (recent older : List Moment) (from j : ℕ) → length older ≤ from →
    DamagesOnly ps recent → is_replaced_since from j (recent ++ older) ≡ true → In j ps
among_since ps [] older from j early only h = absurd (none_early from j older early h)
among_since ps (m ∷ recent) older from j early only h =
    elim (or_cases (is_replacement m.event m.outcome j && nat_le from (length (recent ++ older)))
    (is_replaced_since from j (recent ++ older)) h) [
      | inl p ↦ replaced_among ps m.event m.outcome j only.0 (and_parts (is_replacement m.event m.outcome j)
          (nat_le from (length (recent ++ older))) p).0
      | inr q ↦ among_since ps recent older from j early only.1 q
    ]

pub both_only : (ps : List ℕ) (xs ys : List Moment) → DamagesOnly ps xs → DamagesOnly ps ys →
    DamagesOnly ps (xs ++ ys)
both_only ps [] ys hx hy = hy
both_only ps (x ∷ xs) ys hx hy = (hx.0, both_only ps xs ys hx.1 hy)

-- the steps of a job damage nobody
pub steps_damage_none : (ps : List ℕ) (job : ℕ) (ms : List Moment) → GoOn job ms → DamagesOnly ps ms
steps_damage_none ps job [] on = tt
steps_damage_none ps job (m ∷ ms) (event, outcome, on) =
    (subst (IsAmong ps) (sym event) tt, steps_damage_none ps job ms on)

-- commands damage only those whom they name
pub commands_damage : (ps : List ℕ) (cs : List Instruction) (ms : List Moment) (lines : List ℕ) →
    CarriesOut cs ms lines → AsksDamageOf ps cs → DamagesOnly ps ms
commands_damage ps [] ms lines h asks = subst (DamagesOnly ps) (sym h.0) tt
commands_damage ps (Once event ∷ cs) ms lines (m, older, before, is, m_is, more, all) asks =
    subst (DamagesOnly ps) (sym is)
    (subst (IsAmong ps) (sym m_is) asks.0, commands_damage ps cs older before more asks.1)
commands_damage ps (RunJob job ∷ cs) ms lines (m, steps, older, before, is, runs, more, all) asks =
    subst (DamagesOnly ps) (sym is) (
      subst (IsAmong ps) (sym runs.step) tt,
      both_only ps steps older (steps_damage_none ps job steps runs.before)
          (commands_damage ps cs older before more asks),
    )

-- who was replaced is named
pub among_all : (ps : List ℕ) (ms : List Moment) (from j : ℕ) → DamagesOnly ps ms →
    is_replaced_since from j ms ≡ true → In j ps
among_all ps [] from j only h = absurd (false≢true h)
among_all ps (m ∷ ms) from j only h =
    elim (or_cases (is_replacement m.event m.outcome j && nat_le from (length ms))
    (is_replaced_since from j ms) h) [
      | inl p ↦ replaced_among ps m.event m.outcome j only.0
          (and_parts (is_replacement m.event m.outcome j) (nat_le from (length ms)) p).0
      | inr q ↦ among_all ps ms from j only.1 q
    ]

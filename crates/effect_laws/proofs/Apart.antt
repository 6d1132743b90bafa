-- Commands behind others are carried out behind them.
use Rattle.effect_laws.proofs.Words.{◌≡◌, ℕ, List, [], ◌∷◌, ◌++◌, length, refl, ap, sym, ◌∙◌, append_assoc, append-nil, arith, File, Outcome, Listed, lines_of, Moment, Instruction, Once, RunJob, CarriesOut, lines_of_all, EndsAs, AreListed, IsRead, ReadsAs, CarriesApart, EndsApart}
use Rattle.std.proofs.lemmas.List.{length-take-le, take-append-drop}
use Rattle.std.proofs.Common.{take, drop, subst, ◌≤◌}

-- the moments and lines of commands behind others
pub carried_apart : (own others : List Instruction) (ms : List Moment) (lines : List ℕ) →
    CarriesOut (own ++ others) ms lines → CarriesApart own others ms lines
carried_apart [] others ms lines C = record {
  later = [];
  older = ms;
  before = lines;
  more = [];
  moments = refl;
  lines_are = sym (append-nil lines);
  owns = (refl, refl);
  rest = C;
}
carried_apart (Once event ∷ own) others ms lines (m, older, before, is, here, C, lines_are) =
    (let P = carried_apart own others older before C in record {
      later = m ∷ P.later;
      older = P.older;
      before = P.before;
      more = P.more ++ lines_of m.outcome;
      moments = is ∙ ap (λ l. m ∷ l) P.moments;
      lines_are = cc (lines_are, P.lines_are, append_assoc P.before P.more (lines_of m.outcome));
      owns = (m, P.later, P.more, refl, here, P.owns, refl);
      rest = P.rest;
    })
carried_apart (RunJob job ∷ own) others ms lines (m, steps, older, before, is, here, C, lines_are) =
    (let P = carried_apart own others older before C in record {
      later = m ∷ (steps ++ P.later);
      older = P.older;
      before = P.before;
      more = P.more ++ lines_of m.outcome;
      moments = cc (is, P.moments, append_assoc steps P.later P.older);
      lines_are = cc (lines_are, P.lines_are, append_assoc P.before P.more (lines_of m.outcome));
      owns = (m, steps, P.later, P.more, refl, here, P.owns, refl);
      rest = P.rest;
    })

-- commands that are carried out end with outcomes, which wrote the lines
pub carried_end : (commands : List Instruction) (ms : List Moment) (lines : List ℕ) →
    CarriesOut commands ms lines →
    (outcomes : List Outcome) × EndsAs commands ms outcomes × (lines ≡ lines_of_all outcomes)
carried_end [] ms lines (none, no_lines) = ([], none, no_lines)
carried_end (Once event ∷ cs) ms lines (m, older, before, is, here, C, lines_are) =
    (let E = carried_end cs older before C in (
      m.outcome ∷ E.0,
      (m, older, is, here, refl, E.1),
      lines_are ∙ ap (λ l. l ++ lines_of m.outcome) E.2,
    ))
carried_end (RunJob job ∷ cs) ms lines (m, steps, older, before, is, here, C, lines_are) =
    (let E = carried_end cs older before C in (
      m.outcome ∷ E.0,
      (m, steps, older, is, here, refl, E.1),
      lines_are ∙ ap (λ l. l ++ lines_of m.outcome) E.2,
    ))

-- an outcome is read as itself
all_listed : (files : List File) → AreListed files files
all_listed [] = tt
all_listed (f ∷ fs) = (refl, refl, all_listed fs)

pub read_itself : (x r : Outcome) → x ≡ r → IsRead x r
read_itself x (Listed files) is = (files, is, all_listed files)
read_itself x r is = is

-- so what commands end as is read
pub ends_read : (commands : List Instruction) (ms : List Moment) (rs : List Outcome) → EndsAs commands ms rs →
    ReadsAs commands ms rs
ends_read [] ms [] is = is
ends_read (Once event ∷ cs) ms (r ∷ rs) (m, older, is, here, outcome, E) =
    (m, older, is, here, read_itself m.outcome r outcome, ends_read cs older rs E)
ends_read (RunJob job ∷ cs) ms (r ∷ rs) (m, steps, older, is, here, outcome, E) =
    (m, steps, older, is, here, read_itself m.outcome r outcome, ends_read cs older rs E)
ends_read commands ms rs E = absurd E

-- the moments of commands behind others, by how many outcomes are theirs
pub ends_apart : (own others : List Instruction) (ms : List Moment) (outcomes before : List Outcome) →
    ReadsAs (own ++ others) ms (outcomes ++ before) → length outcomes ≡ length own →
    EndsApart own others ms outcomes before
ends_apart [] others ms [] before E same =
    record { later = []; older = ms; moments = refl; owns = refl; rest = E }
ends_apart (Once event ∷ own) others ms (r ∷ rs) before (m, older, is, here, outcome, E) same =
    (let P = ends_apart own others older rs before E (omega (arith, same)) in record {
      later = m ∷ P.later;
      older = P.older;
      moments = is ∙ ap (λ l. m ∷ l) P.moments;
      owns = (m, P.later, refl, here, outcome, P.owns);
      rest = P.rest;
    })
ends_apart (RunJob job ∷ own) others ms (r ∷ rs) before (m, steps, older, is, here, outcome, E) same =
    (let P = ends_apart own others older rs before E (omega (arith, same)) in record {
      later = m ∷ (steps ++ P.later);
      older = P.older;
      moments = cc (is, P.moments, append_assoc steps P.later P.older);
      owns = (m, steps, P.later, refl, here, outcome, P.owns);
      rest = P.rest;
    })
ends_apart own others ms outcomes before E same = absurd (omega (arith, same))

-- commands and others behind them come to at least as many outcomes as there are commands
reads_long : (own others : List Instruction) (ms : List Moment) (outcomes : List Outcome) →
    ReadsAs (own ++ others) ms outcomes → length own ≤ length outcomes
reads_long [] others ms outcomes E = omega arith
reads_long (Once event ∷ own) others ms (r ∷ rs) (m, older, is, here, outcome, E) =
    omega (arith, reads_long own others older rs E)
reads_long (RunJob job ∷ own) others ms (r ∷ rs) (m, steps, older, is, here, outcome, E) =
    omega (arith, reads_long own others older rs E)
reads_long (Once event ∷ own) others ms [] E = absurd E
reads_long (RunJob job ∷ own) others ms [] E = absurd E

-- the outcomes of commands behind others
pub outcomes_apart : (own others : List Instruction) (ms : List Moment) (outcomes : List Outcome) →
    ReadsAs (own ++ others) ms outcomes → (rs : List Outcome) × (ss : List Outcome) × (outcomes ≡ rs ++ ss)
    × (length rs ≡ length own) × EndsApart own others ms rs ss
outcomes_apart own others ms outcomes E = (let whole = take-append-drop (length own) outcomes in
    let size : length (take (length own) outcomes) ≡ length own =
    length-take-le (length own) outcomes (reads_long own others ms outcomes E) in (
      take (length own) outcomes,
      drop (length own) outcomes,
      sym whole,
      size,
      ends_apart own others ms (take (length own) outcomes) (drop (length own) outcomes)
          (subst (ReadsAs (own ++ others) ms) (sym whole) E) size,
    ))

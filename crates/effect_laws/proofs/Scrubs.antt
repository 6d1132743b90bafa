-- A text with scrubs, read from its front as the outcomes that wrote it, but for the blocks of a scrub.
use Rattle.effect_laws.proofs.Words.{◌≡◌, ℕ, List, [], ◌++◌, length, drop, refl, sym, ap, ◌∙◌, arith, append_assoc, codes, AllByRecursion, flat_map, decimal, Scrubbed, Outcome, Ended, Listed, Continued, line, then_number, answer_text, lines_of, Moment, IsRun, State, IsStart, Instruction, CarriesOut, IsShortNumber, lines_of_all, differ, IsLimit, IsRead, IsToldByLines, NoneCalls, ReadsAs}
use Rattle.effect_laws.specs.Scrubs.{IsToldButBlocks, IsButBlocks, AreButBlocks}
use Rattle.line_laws.proofs.Answers.{number-next, numbers-tell}
use Rattle.effect_laws.proofs.Lists.{CanRead, first-same, list-not, one-read, forward-like}
use Rattle.effect_laws.proofs.Apart.{read_itself}

-- ---- the line of a scrub

-- what a scrub says behind the number of its stripes
abbrev with-symbols : List ℕ → List ℕ
with-symbols symbols = codes " symbols" ++ flat_map then_number symbols

scrub-parts : (m : ℕ) (xs blocks : List ℕ) →
    drop 9 (line (answer_text (Scrubbed m xs blocks))) ≡ line (decimal m ++ with-symbols xs)
scrub-parts m xs blocks = ap line (append_assoc (decimal m) (codes " symbols") (flat_map then_number xs))

-- it tells the stripes and the symbols
scrub-tells : (r : Outcome) (n : ℕ) (ys blocks : List ℕ) → IsShortNumber n → AllByRecursion IsShortNumber ys →
    lines_of r ≡ lines_of (Ended (Scrubbed n ys blocks)) → IsButBlocks r (Ended (Scrubbed n ys blocks))
scrub-tells (Ended (Scrubbed m xs own)) n ys blocks small few same =
    (let first = number-next m n (with-symbols xs) (with-symbols ys) small (omega arith) (omega arith)
    (sym (scrub-parts m xs own) ∙ (ap (drop 9) same ∙ scrub-parts n ys blocks)) in
    let second = numbers-tell xs ys few (ap (drop 8) first.1) in
    (own, (λ i. Ended (Scrubbed (first.0 i) (second i) own))))
scrub-tells Continued n ys blocks small few same = absurd (differ 0 0 0 [] _ refl same)
scrub-tells r n ys blocks small few same =
    absurd (differ 0 2 3 (lines_of r) (lines_of (Ended (Scrubbed n ys blocks))) refl same)

-- an outcome as its lines tell it: that with the blocks that it has is read as itself
abbrev Found : Outcome → Outcome → Type 0
Found r s = (own : Outcome) × IsButBlocks own s × IsRead r own

-- each outcome is itself but for its blocks
itself : (s : Outcome) → IsToldByLines s → IsButBlocks s s
itself (Ended (Scrubbed n ys blocks)) told = absurd told
itself s told = refl

one-found : (r s : Outcome) (x y : List ℕ) → CanRead r → IsToldButBlocks s →
    lines_of r ++ x ≡ lines_of s ++ y → Found r s × (x ≡ y)
one-found (Listed fs) (Ended (Scrubbed n ys blocks)) x y can told same =
    absurd (list-not fs (Ended (Scrubbed n ys blocks)) x y tt same)
one-found r (Ended (Scrubbed n ys blocks)) x y can told same =
    (let p = first-same r (Ended (Scrubbed n ys blocks)) x y can tt same in
    ((r, scrub-tells r n ys blocks told.0 told.1 p.0, read_itself r r refl), p.1))
one-found r s x y can told same = (let R = one-read r s x y can told same in ((s, itself s told, R.0), R.1))

-- what a text tells whole
pub whole : (limit : ℕ) (start : State) (base ms : List Moment) (commands : List Instruction) (bytes : List ℕ)
    (outcomes : List Outcome) → IsLimit limit → IsStart start → IsRun limit start (ms ++ base) →
    NoneCalls commands → CarriesOut commands ms bytes → AllByRecursion IsToldButBlocks outcomes →
    length outcomes ≡ length commands → bytes ≡ lines_of_all outcomes →
    (own : List Outcome) × AreButBlocks own outcomes × ReadsAs commands ms own
whole limit start base ms commands bytes outcomes fits clean run calls C told many same =
    (forward-like limit start base fits clean IsToldButBlocks IsButBlocks AreButBlocks tt
    (λ r s rs ss e f. (e, f)) one-found commands ms bytes outcomes [] [] run calls C told many
    (ap (λ l. l ++ []) same)).0

-- The texts of answers, read back.
use Rattle.line_laws.proofs.Words.{◌≡◌, ℕ, List, [], ◌∷◌, ◌++◌, drop, refl, sym, ◌∙◌, ap, arith, append_assoc, codes, AllByRecursion, flat_map, decimal, append_cancel_right, Answer, Put, Got, Dropped, Audited, Repaired, Lost, ProviderFault, Upgraded, Scrubbed, Packed, line, then_number, hex_or_dash, answer_text, IsShortNumber, IsToldAnswer}
use Rattle.machine_defs.specs.Answers.{DiskFault, Memory}
use Rattle.line_laws.proofs.Digits.{IsBehind, number-split, number-tells, bytes-tell}
use Rattle.line_laws.proofs.Marks.{differ}

-- a number, and what is behind it up to the end of the line
pub number-next : (m n : ℕ) (x y : List ℕ) → IsShortNumber n → IsBehind (line x) → IsBehind (line y) →
    line (decimal m ++ x) ≡ line (decimal n ++ y) → (m ≡ n) × (line x ≡ line y)
number-next m n x y small behind after same = number-split m n (line x) (line y) small behind after
    (sym (append_assoc (decimal m) x (10 ∷ [])) ∙ same ∙ append_assoc (decimal n) y (10 ∷ []))

-- numbers behind each other
numbers-behind : (ns : List ℕ) → IsBehind (line (flat_map then_number ns))
numbers-behind [] = omega arith
numbers-behind (n ∷ ns) = omega arith

-- a line tells them
pub numbers-tell : (ms ns : List ℕ) → AllByRecursion IsShortNumber ns →
    line (flat_map then_number ms) ≡ line (flat_map then_number ns) → ms ≡ ns
numbers-tell [] [] small same = refl
numbers-tell (m ∷ ms) (n ∷ ns) small same =
    let parts = number-next m n (flat_map then_number ms) (flat_map then_number ns) small.0
    (numbers-behind ms) (numbers-behind ns) (ap (drop 1) same) in
    let rest = numbers-tell ms ns small.1 parts.1 in
    λ i. parts.0 i ∷ rest i
numbers-tell ms ns small same = absurd (differ 0 0 0 _ _ refl same)

two-tell : (m n k l : ℕ) → IsShortNumber n → IsShortNumber l →
    line (decimal m ++ then_number k) ≡ line (decimal n ++ then_number l) → (m ≡ n) × (k ≡ l)
two-tell m n k l small few same =
    let parts = number-next m n (then_number k) (then_number l) small (omega arith) (omega arith) same in (
      parts.0,
      (number-tells k l few (ap (drop 1) parts.1)),
    )

-- what an audit says behind its number, and behind how many picks were undecided
abbrev with-counts : List ℕ → List ℕ
with-counts counts = codes " counts" ++ flat_map then_number counts

abbrev with-undecided : ℕ → List ℕ → List ℕ
with-undecided undecided counts = codes " undecided" ++ then_number undecided ++ with-counts counts

audit-parts : (m u : ℕ) (cs : List ℕ) →
    drop 8 (line (answer_text (Audited m u cs))) ≡ line (decimal m ++ with-undecided u cs)
audit-parts m u cs =
    let front : List ℕ = decimal m ++ codes " undecided" in
    ap line
    (append_assoc (front ++ then_number u) (codes " counts") (flat_map then_number cs)
    ∙ append_assoc front (then_number u) (with-counts cs)
    ∙ append_assoc (decimal m) (codes " undecided") (then_number u ++ with-counts cs))

-- the text of an answer tells it
pub answers-tell : (a b : Answer) → IsToldAnswer b → line (answer_text a) ≡ line (answer_text b) → a ≡ b
answers-tell Put Put told same = refl
answers-tell (Got xs) (Got ys) told same =
    let words = append_cancel_right (hex_or_dash xs) (hex_or_dash ys) (10 ∷ []) (ap (drop 4) same) in
    ap Got (bytes-tell xs ys words)
answers-tell Dropped Dropped told same = refl
answers-tell (Audited m u cs) (Audited n v ds) told same =
    let first = number-next m n (with-undecided u cs) (with-undecided v ds) told.0 (omega arith) (omega arith)
    (sym (audit-parts m u cs) ∙ ap (drop 8) same ∙ audit-parts n v ds) in
    let second = number-next u v (with-counts cs) (with-counts ds) told.1 (omega arith) (omega arith)
    (ap (drop 11) first.1) in
    let third = numbers-tell cs ds told.2 (ap (drop 7) second.1) in
    λ i. Audited (first.0 i) (second.0 i) (third i)
answers-tell (Repaired m) (Repaired n) told same = ap Repaired (number-tells m n told (ap (drop 9) same))
answers-tell (Lost m k) (Lost n l) told same =
    let parts = two-tell m n k l told.0 told.1 (ap (drop 5) same) in λ i. Lost (parts.0 i) (parts.1 i)
answers-tell (ProviderFault m) (ProviderFault n) told same =
    ap ProviderFault (number-tells m n told (ap (drop 15) same))
answers-tell DiskFault DiskFault told same = refl
answers-tell Memory Memory told same = refl
answers-tell Upgraded Upgraded told same = refl
answers-tell a (Scrubbed stripes symbols blocks) told same = absurd told
answers-tell (Packed m k) (Packed n l) told same =
    let parts = two-tell m n k l told.0 told.1 (ap (drop 7) same) in λ i. Packed (parts.0 i) (parts.1 i)
answers-tell a b told same = absurd (differ 0 2 3 (line (answer_text a)) (line (answer_text b)) refl same)

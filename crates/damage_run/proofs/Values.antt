-- What the providers hold and answer in the run: the blocks of a file of one byte over four providers, one of
-- which is lost.
use Rattle.std.proofs.Common.{◌≡◌, ℕ, suc, ◌/◌, ◌<◌, ◌≤◌, ◌==◌, true, false, List, [], ◌∷◌, length, Option, Some, None, slice_set, slice_index, refl, ap, sym, subst, ◌∙◌, inl, arith, eq-eqb}
use Rattle.algebra_laws.specs.Poly.{agree as agree_over, is_seen as is_seen_over}
use Rattle.hail_field.proofs.AllNumbers.{nim_laws}
use Rattle.code_defs.specs.ServerCode.{differences}
use Rattle.code_defs.proofs.Values.{is_seen-none}
use Rattle.code_defs.proofs.Codewords.{differences-same}
use Rattle.column_defs.specs.Challenges.{Challenge, challenge_of, picked_row, sum_over, all_held, honest_answer, right_answer, bare_answer}
use Rattle.column_defs.specs.Verdicts.{Sums, Judges}
use Rattle.column_laws.proofs.RightRows.{given-right}
use Rattle.column_laws.proofs.Worked.{column-right, opens-own}
use Rattle.machine_defs.proofs.JobLists.{cond_true}
use Rattle.aggregate.proofs.RightRow.{right_row, IsRightRow-right_row}
use Rattle.second_half_laws.proofs.ByteSteps.{block, symbols, byte_back}
use Rattle.damage_run.specs.Words.{four, upto, value, is_seen, Object, symbols_in, point, is_wrong_block, SeenBlock, OpensFile, GivesSymbols, bare, block_at, object_of, sized, count_of, AllOpen, OpensTo, is_wrong_seen}
use Rattle.damage_run.specs.Points.{byte, without_two, counts}

-- the object of the file
abbrev pub thing : Object
thing = object_of four 1

-- ---- what seen blocks open to

abbrev pub shown : ℕ → SeenBlock
shown j = Some (bare thing j 0 (block j))

-- a provider's own block is not wrong
is_right : (j : ℕ) → is_wrong_block thing byte j 0 (Some (block j)) ≡ false
is_right j = column-right thing byte j 0

-- all own blocks open
pub all_open : AllOpen thing 0 0 (Some (block 0) ∷ Some (block 1) ∷ Some (block 2) ∷ Some (block 3) ∷ [])
    (shown 0 ∷ shown 1 ∷ shown 2 ∷ shown 3 ∷ [])
all_open = assumption (own 0 (omega arith), own 1 (omega arith), own 2 (omega arith), own 3 (omega arith))
  where
    own : (j : ℕ) → j < 256 → OpensTo thing j 0 (Some (block j)) (shown j)
    own j = opens-own thing byte j 0

-- without the block of provider 2 the others open to the file's symbols
pub without_two_give : GivesSymbols thing 0 (Some (block 0) ∷ Some (block 1) ∷ None ∷ Some (block 3) ∷ [])
    symbols
without_two_give = given-right thing byte 0 0 _ (shown 0 ∷ shown 1 ∷ None ∷ shown 3 ∷ []) refl (omega arith)
    (rw (is_right 0, is_right 1, is_right 3) (omega arith)) (assumption all_open)

-- without the block of provider 0 the others open to the file's symbols
pub without_zero_give : GivesSymbols thing 0 (None ∷ Some (block 1) ∷ Some (block 2) ∷ Some (block 3) ∷ [])
    symbols
without_zero_give = given-right thing byte 0 0 _ (None ∷ shown 1 ∷ shown 2 ∷ shown 3 ∷ []) refl (omega arith)
    (rw (is_right 1, is_right 2, is_right 3) (omega arith)) (assumption all_open)

-- ---- what the audit asks and hears

-- the challenge of its only round
abbrev pub asked : Challenge
asked = challenge_of thing 1 1 1 0

-- the right answer
abbrev pub right : ℕ → Option ℕ
right j = right_answer thing byte j asked

-- the only row that is picked lies in the first block
first_block : picked_row asked.seed 6 0 / 6 ≡ 0
unfolding picked_row
first_block = omega arith

-- so only the first block tells
pub same_first : (held other : ℕ → Option (List ℕ)) → held 0 ≡ other 0 →
    honest_answer asked held ≡ honest_answer asked other
unfolding all_held sum_over
same_first held other same = (let a : held (picked_row asked.seed 6 0 / 6) ≡ other
    (picked_row asked.seed 6 0 / 6) = ap held first_block ∙ (same ∙ ap other (sym first_block)) in rw a refl)

-- a provider without its block has no answer
pub no_answer : (held : ℕ → Option (List ℕ)) → held 0 ≡ None → honest_answer asked held ≡ None
unfolding all_held sum_over
no_answer held none =
    (let a : held (picked_row asked.seed 6 0 / 6) ≡ None = ap held first_block ∙ none in rw a refl)

-- ---- the verdict

-- the row that the right answers are values of
pub decider : List ℕ
decider = right_row thing byte asked

-- the right answer of each provider is the value of that row at its point
pub agrees_at : (j : ℕ) → is_seen (value decider (point thing j)) (bare_answer thing asked j (right j)) ≡ true
unfolding decider is_seen_over
agrees_at j = rw ((IsRightRow-right_row thing byte asked (omega arith) refl).values j)
    (nim_laws.eq_refl (value decider (point thing j)))

-- the sums of the audit
abbrev pub sums : Sums
sums = record { counts = counts; undecided = 0 }

-- the answers, of which provider 2 gave none, are judged: its count rises by one
pub judged : Judges thing asked (right 0 ∷ right 1 ∷ None ∷ right 3 ∷ [])
    (record { counts = 0 ∷ 0 ∷ 0 ∷ 0 ∷ []; undecided = 0 }) sums
unfolding decider agree_over
judged = inl (
  decider,
  record {
    degree = (IsRightRow-right_row thing byte asked (omega arith) refl).degree;
    agrees = rw (agrees_at 0, agrees_at 1, is_seen-none (value decider (point thing 2)), agrees_at 3)
        (omega arith);
  },
  rw (agrees_at 0, agrees_at 1, is_seen-none (value decider (point thing 2)), agrees_at 3) refl,
)

-- ---- blocks that are fetched, and one of which the first symbol is altered

-- a block of this size is fetched as it is
pub whole : (b : List ℕ) (size : ℕ) → length b ≡ size → Some b ≡ sized size (Some b)
whole b size is = sym (cond_true (length b == size) (Some b) None (eq-eqb (length b) size is))

-- a block that begins with the byte keeps its size where its first symbol is altered, and differs there alone
pub altered_is : (b : List ℕ) (n : ℕ) → length b ≡ suc n → slice_index b 0 ≡ 111 →
    (length (slice_set b 0 5) ≡ suc n) × (differences (slice_set b 0 5) b ≡ 1)
altered_is [] n size first = absurd (omega (arith, size))
altered_is (x ∷ xs) n size first = (
  size,
  subst (λ y. differences (5 ∷ xs) (y ∷ xs) ≡ 1) (sym first) (ap suc (differences-same xs)),
)

-- ---- the file, of blocks one of which is absent

-- without the block of provider 2 the others open to the file
pub opens_file : OpensFile thing 1 without_two byte
opens_file = record {
  symbols = λ stripe. symbols_in thing byte stripe;
  given = λ stripe l. (let e : 0 ≡ stripe = omega arith in
      subst (λ s. GivesSymbols thing s (without_two s) (symbols_in thing byte s)) e without_two_give);
  cut = byte_back;
}

-- without the block of provider 2 at most one block that is there is wrong
pub few_seen : count_of (λ j. is_wrong_seen thing byte j 0 (block_at (without_two 0) j)) (upto 4) ≤ 1
few_seen = rw (is_right 0, is_right 1, is_right 3) (omega arith)

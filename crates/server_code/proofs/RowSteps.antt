-- The steps of the sums by rows.
use Rattle.server_code.proofs.Words.{◌≡◌, ◌≤◌, ◌<◌, ◌+◌, ◌*◌, ℕ, List, length, drop, get_or, arith, mul-le-mul_right, suc-mul, drop_more, at_drop_all, fill_by_all, get_or-map-range_with_len, nim_add, nim_mul, dot, row_at, sums}

-- one coefficient more
pub dot_step : (cs ss : List ℕ) (k : ℕ) → k < length cs → k < length ss →
    dot (drop k cs) (drop k ss) ≡ nim_add (nim_mul (get_or cs k 0) (get_or ss k 0))
    (dot (drop (k + 1) cs) (drop (k + 1) ss))
unfolding dot
dot_step cs ss k h e = λ i. dot (drop_more cs k 0 h i) (drop_more ss k 0 e i)

-- no coefficient is left
pub dot_past : (cs ss : List ℕ) (k : ℕ) → length cs ≤ k → dot (drop k cs) (drop k ss) ≡ 0
unfolding dot
dot_past cs ss k h = at_drop_all (λ l. dot l (drop k ss)) cs k h

-- a row before the last ends within the rows
pub row_fits : (row count keep len : ℕ) → row < count → len ≡ count * keep → row * keep + keep ≤ len
row_fits row count keep len h is = omega (arith, mul-le-mul_right keep h, suc-mul row keep)

-- the sums by their places
pub sums_by_all : (rows kept out : List ℕ) (n : ℕ) → length out ≡ n →
    ((k : ℕ) → k < n → get_or out k 0 ≡ dot (row_at (length kept) rows k) kept) → out ≡ sums rows kept n
sums_by_all rows kept out n long each =
    fill_by_all (λ r. dot (row_at (length kept) rows r) kept) out n 0 long each

-- the sum at a place
pub get_or-sums : (rows kept : List ℕ) (n k : ℕ) → k < n →
    get_or (sums rows kept n) k 0 ≡ dot (row_at (length kept) rows k) kept
get_or-sums rows kept n k h =
    get_or-map-range_with_len (λ r. dot (row_at (length kept) rows r) kept) 0 n k k 0 h (omega arith)

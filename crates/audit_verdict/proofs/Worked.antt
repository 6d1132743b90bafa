-- The premises of the laws at a round of one pick.
use Rattle.audit_verdict.proofs.Words.{◌≢◌, zero, suc, ◌/◌, ◌%◌, ◌==◌, true, [], ◌∷◌, map, slice_get, Option, Some, arith, ap, sym, refl, ◌∙◌, inl, nim_add, nim_ring, is_seen_over, value, is_seen, Object, symbols_in, point, points, columns, Challenge, right_answer, bare_answer, bare_answers, symbol_at, held_symbol, picked_row, Judges, counts_after, right_row, IsRightRow-right_row, is_right, wrong_answers, HasFewWrong, DiffersOnce, own_symbol}
use Rattle.std.specs.Prelude.{◌≡◌, ℕ, ◌<◌, ◌≤◌, List, length, None, if◌then◌else◌}
use Rattle.code_defs.proofs.Values.{is_seen-none}
use Rattle.column_defs.proofs.ColumnLaws.{length-column_of_symbols}
use Rattle.column_laws.specs.Example.{example}
use Rattle.column_laws.proofs.Worked.{example-shape}
use Rattle.audit_verdict.specs.Example.{one_pick, three_heard}
use Rattle.audit_verdict.proofs.RoundLaws.{seen-same, bare-absent, right-decides}

-- the right answer is right
right-itself : (o : Object) (bytes : List ℕ) (c : Challenge) (j : ℕ) → 1 ≤ c.size → c.size ≡ o.profile.size →
    is_right o bytes c j (right_answer o bytes j c) ≡ true
right-itself o bytes c j some size = go (right_answer o bytes j c) refl
  where
    go : (answer : Option ℕ) → right_answer o bytes j c ≡ answer → is_right o bytes c j answer ≡ true
    go None e =
        let f : None ≡ Some (value (right_row o bytes c) (point o j)) =
        sym (ap (bare_answer o c j) e ∙ bare-absent o c j)
        ∙ (IsRightRow-right_row o bytes c some size).values j in
        absurd cc
    go (Some x) e = ap (is_seen x) e ∙ seen-same x

-- one of the four answers is not right
one-wrong : (master bytes : List ℕ) →
    wrong_answers (example master) bytes (one_pick master bytes) (three_heard master bytes) ≡ 1
one-wrong master bytes =
    let at = λ (j : ℕ). right-itself (example master) bytes (one_pick master bytes) j (omega arith) refl in
    simp (at 0, at 1, at 2) refl

-- of the four answers of the worked round few are wrong
pub few-wrong : (master bytes : List ℕ) →
    HasFewWrong (example master) bytes (one_pick master bytes) (three_heard master bytes)
few-wrong master bytes = record {
  shape = example-shape;
  some_size = omega arith;
  size = refl;
  all_heard = refl;
  few = omega (arith, one-wrong master bytes);
}

-- a right answer agrees
agrees : (master bytes : List ℕ) (j : ℕ) →
    is_seen (value (right_row (example master) bytes (one_pick master bytes)) (point (example master) j))
    (bare_answer (example master) (one_pick master bytes) j
    (right_answer (example master) bytes j (one_pick master bytes))) ≡ true
agrees master bytes j =
    ap (is_seen (value (right_row (example master) bytes (one_pick master bytes)) (point (example master) j)))
    ((IsRightRow-right_row (example master) bytes (one_pick master bytes) (omega arith) refl).values j)
    ∙ seen-same (value (right_row (example master) bytes (one_pick master bytes)) (point (example master) j))

-- so the fourth counts
counts-one : (master bytes : List ℕ) →
    counts_after (right_row (example master) bytes (one_pick master bytes)) (points (example master))
    (bare_answers (example master) (one_pick master bytes) 0 (three_heard master bytes)) (0 ∷ 0 ∷ 0 ∷ 0 ∷ [])
    ≡ 0 ∷ 0 ∷ 0 ∷ 1 ∷ []
counts-one master bytes = simp (
  agrees master bytes 0,
  agrees master bytes 1,
  agrees master bytes 2,
  bare-absent (example master) (one_pick master bytes) 3,
  is_seen-none (value (right_row (example master) bytes (one_pick master bytes)) (point (example master) 3)),
) refl

-- the worked round counts its one wrong provider
pub judged-one : (master bytes : List ℕ) →
    Judges (example master) (one_pick master bytes) (three_heard master bytes)
    (record { counts = 0 ∷ 0 ∷ 0 ∷ 0 ∷ []; undecided = 0 })
    (record { counts = 0 ∷ 0 ∷ 0 ∷ 1 ∷ []; undecided = 0 })
judged-one master bytes =
    let few = few-wrong master bytes in
    inl (
      right_row (example master) bytes (one_pick master bytes),
      right-decides (example master) bytes (one_pick master bytes)
          (three_heard master bytes) few.shape few.some_size few.size few.all_heard few.few,
      ap (λ (counts : List ℕ). record { counts = counts; undecided = 0 }) (sym (counts-one master bytes)),
    )

-- a symbol that is off by 1 is another
off-by_one : (x : ℕ) → nim_add 1 x ≢ x
off-by_one x e =
    let zero : nim_add (nim_add 1 x) x ≡ 0 = ap (λ y. nim_add y x) e ∙ nim_ring.add_self x in
    let one : nim_add (nim_add 1 x) x ≡ 1 = nim_ring.add_assoc 1 x x ∙ ap (nim_add 1) (nim_ring.add_self x)
    ∙ nim_ring.add_zero 1 in
    omega (arith, zero, one)

-- at a place of a block that is off by 1
off-at : (block : List ℕ) (place : ℕ) → place < length block →
    slice_get (map (nim_add 1) block) place ≢ slice_get block place
off-at [] place h e = absurd (omega (arith, h))
off-at (x ∷ block) zero h e = off-by_one x cc
off-at (x ∷ block) (suc place) h e = off-at block place (omega (arith, h)) e

-- as long as before
length-off : (block : List ℕ) → length (map (nim_add 1) block) ≡ length block
length-off [] = refl
length-off (x ∷ block) = ap suc (length-off block)

-- what stands in a block of the size
at-size : (block : List ℕ) (size place : ℕ) → length block ≡ size →
    symbol_at size place (Some block) ≡ slice_get block place
at-size block size place e = ap (λ b. if b then slice_get block place else None) (same (length block) size e)
  where
    same : (m n : ℕ) → m ≡ n → (m == n) ≡ true
    same m n e = grind (arith, e)

-- what the wrong provider of the worked round holds differs in its one pick
pub differs-once : (master bytes : List ℕ) → DiffersOnce (example master) bytes 3 (one_pick master bytes)
    (λ stripe. Some (map (nim_add 1) (columns (example master) bytes 3 stripe)))
differs-once master bytes = record {
  pick = 0;
  picked = omega arith;
  differs = λ e. other (picked_row (one_pick master bytes).seed (one_pick master bytes).rows 0) e;
  others = λ k below apart. absurd (apart (omega (arith, below)));
}
  where
    long : (stripe : ℕ) → length (columns (example master) bytes 3 stripe) ≡ 6
    long stripe = length-column_of_symbols (example master)
        (symbols_in (example master) bytes stripe) 3 stripe

    other : (row : ℕ) → held_symbol 6
        (λ stripe. Some (map (nim_add 1) (columns (example master) bytes 3 stripe))) row
        ≢ own_symbol (example master) bytes 3 6 row
    other row e =
        let block = columns (example master) bytes 3 (row / 6) in
        off-at (columns (example master) bytes 3 (row / 6)) (row % 6) (omega (arith, long (row / 6)))
        (sym (at-size (map (nim_add 1) (columns (example master) bytes 3 (row / 6))) 6 (row % 6)
        (length-off (columns (example master) bytes 3 (row / 6)) ∙ long (row / 6)))
        ∙ e ∙ at-size (columns (example master) bytes 3 (row / 6)) 6 (row % 6) (long (row / 6)))

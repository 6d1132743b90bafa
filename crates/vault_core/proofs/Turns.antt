-- How many actions a job has on its files.
use Rattle.vault_core.proofs.Words.{◌≡◌, ℕ, suc, ◌+◌, ◌-◌, Bool, List, [], ◌∷◌, length, inl, inr, refl, ap, ◌∙◌, arith, sum_by, flat_map, cases_Bool, length-map, sum_by-cons, length-range_with_len, Action, Wish, Task, flag_at, numbers, calls_from, rewrite_of, rewrites_from, work_of, turn_of, turns_from, tasks_of, closing_of, tasks_from, size_of_turn}
use Rattle.std.proofs.Common.{◌*◌, length-append}
use Rattle.vault_core.specs.declared.wish.Wish.TheVariants as wish

length-calls : (n : ℕ) (w : Wish) (o t : ℕ) → length (calls_from 0 n w o t) ≡ n
length-calls n w o t = let a : length (calls_from 0 n w o t) ≡ length (numbers 0 n) =
    simp length-map in let b = length-range_with_len 0 (n - 0) in omega (arith, a, b)

length-rewrite : (fl : List Bool) (o t j : ℕ) → length (rewrite_of fl o t j) ≡ length (rewrite_of fl 0 0 j)
length-rewrite fl o t j = elim (cases_Bool (flag_at fl j)) [
  | inl h ↦ rw h refl
  | inr h ↦ rw h refl
]

length-flat : {X : Type 0} (f g : X → List Action) (ks : List X) → ((k : X) → length (f k) ≡ length (g k)) →
    length (flat_map f ks) ≡ length (flat_map g ks)
length-flat f g [] h = refl
length-flat f g (k ∷ ks) h = omega (
  arith,
  length-append (f k) (flat_map f ks),
  length-append (g k) (flat_map g ks),
  h k,
  length-flat f g ks h,
)

length-rewrites : (n : ℕ) (fl : List Bool) (o t : ℕ) →
    length (rewrites_from 0 n fl o t) ≡ length (rewrites_from 0 n fl 0 0)
length-rewrites n fl o t =
    length-flat (rewrite_of fl o t) (rewrite_of fl 0 0) (numbers 0 n) (length-rewrite fl o t)

length-turn : (n : ℕ) (w : Wish) (fl : List Bool) (o t : ℕ) →
    length (turn_of n w fl o t) ≡ size_of_turn n w fl
length-turn n w fl o t = let a = length-append (calls_from 0 n w o t) (work_of n w fl o t) in let b =
    length-calls n w o t in let c = by w in omega (arith, a, b, c)
  where
    by : (v : Wish) → n + length (work_of n v fl o t) ≡ size_of_turn n v fl
    by (wish.Get name) = refl
    by wish.Repair = let e = length-rewrites n fl o t in
        let k : length (work_of n wish.Repair fl o t) ≡ suc (length (rewrites_from 0 n fl o t)) = refl in
        omega (arith, e, k)
    by w = omega arith

-- lists of one length in a row
pub length-each : {X : Type 0} (f : X → List Action) (m : ℕ) (ks : List X) → ((k : X) → length (f k) ≡ m) →
    length (flat_map f ks) ≡ length ks * m
length-each f m [] h = omega arith
length-each f m (k ∷ ks) h =
    let a = length-append (f k) (flat_map f ks) in
    let c = h k in
    let i = length-each f m ks h in
    let e : suc (length ks) * m ≡ m + length ks * m = omega arith in
    omega (arith, a, c, i, e)

length-turns : (n : ℕ) (w : Wish) (fl : List Bool) (o b : ℕ) →
    length (turns_from 0 n w fl o b) ≡ b * size_of_turn n w fl
length-turns n w fl o b = length-each (turn_of n w fl o) (size_of_turn n w fl) (numbers 0 b)
    (length-turn n w fl o)
    ∙ ap (λ k. k * size_of_turn n w fl) (length-range_with_len 0 (b - 0)
    ∙ (let e : b - 0 ≡ b = omega arith in e))

pub length-tasks : (n : ℕ) (w : Wish) (fl : List Bool) (ts : List Task) →
    length (tasks_of n w fl ts) ≡ sum_by (λ (t : Task). t.turns * size_of_turn n w fl) ts
length-tasks n w fl [] = refl
length-tasks n w fl (t ∷ ts) = omega (
  arith,
  length-append (turns_from 0 n w fl t.object t.turns) (tasks_of n w fl ts),
  length-turns n w fl t.object t.turns,
  sum_by-cons (λ (t : Task). t.turns * size_of_turn n w fl) t ts,
  length-tasks n w fl ts,
)

-- from its files on
pub length-from : (n : ℕ) (w : Wish) (fl : List Bool) (ts : List Task) → length (tasks_from n w fl ts)
    ≡ sum_by (λ (t : Task). t.turns * size_of_turn n w fl) ts + length (closing_of w)
length-from n w fl ts = omega (arith, length-append (tasks_of n w fl ts) (closing_of w), length-tasks n w fl ts)

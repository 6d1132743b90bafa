-- Where the stores of a put stand, and which stripe a stream stores.
use Rattle.vault.proofs.Words.{◌≡◌, ℕ, zero, suc, ◌+◌, ◌-◌, ◌*◌, ◌<◌, ◌≤◌, List, [], ◌∷◌, ◌++◌, map, Option, Some, None, refl, sym, ap, subst, ◌∙◌, inl, inr, arith, slice_get, nat_lt, flat_map, range_with_len, length-map, length-range_with_len, cases_Bool, ltb-true, ltb-false, Each, each_get, each_append, each_flat, each_map, upto, Setup, Remove, End, append_actions, on_each_provider, remove_actions, store_actions, actions_of, PutJob, Job, put_stripes, State, setup_in, next_action, put-list, put_rest, wanted_at, HasGiven, HasLast, HasAtHand}
use Rattle.std.proofs.Common.{length}
use Rattle.machine_defs.specs.Actions.{Action, Store}
use Rattle.machine_defs.proofs.ActionLists.{split_get}
use Rattle.machine_defs.proofs.NextActions.{next_stands}
use Rattle.vault.proofs.Hands.{before_wait}

-- ---- products in order

pub more_times : (a b n : ℕ) → b ≤ a → b * n ≤ a * n
more_times a b n less =
    let e : a ≡ b + (a - b) = omega (arith, less) in
    subst (λ (m : ℕ). b * n ≤ m * n) (sym e) (omega arith)

fewer_times : (a b n : ℕ) → a * n < b * n → a < b
fewer_times a b n less = elim (cases_Bool (nat_lt a b)) [
  | inl t ↦ ltb-true a b t
  | inr f ↦ absurd (let m = more_times a b n (ltb-false a b f) in omega (arith, m, less))
]

-- ---- the stores of a put

-- a store is of this stripe, or an action is none
abbrev IsOf : ℕ → Action → Type 0
IsOf stripe (Store j o t) = t ≡ stripe
IsOf stripe action = Unit {0}

abbrev IsNoStore : Action → Type 0
IsNoStore (Store j o t) = ⊥
IsNoStore action = Unit {0}

-- the stores of the stripes from one on, each on n providers
abbrev stores_from : ℕ → ℕ → ℕ → ℕ → List Action
stores_from n object a m = flat_map (λ stripe. map (λ j. Store j object stripe) (upto n)) (range_with_len a m)

pub record IsPlaced (n a m q t : ℕ) : Type 0 where
  pub first : a ≤ t
  pub last : t < a + m
  pub least : t * n ≤ q + a * n
  pub most : q + a * n < (t + 1) * n

stored_at : (n object a m q k o t : ℕ) → slice_get (stores_from n object a m) q ≡ Some (Store k o t)
    → IsPlaced n a m q t
stored_at n object a zero q k o t is = absurd (let e : None ≡ Some (Store k o t) = is in let f : ⊥ = cc in f)
stored_at n object a (suc m) q k o t is =
    let block = map (λ j. Store j object a) (upto n) in
    let size : length (map (λ j. Store j object a) (upto n)) ≡ n =
    length-map (upto n) (λ j. Store j object a) ∙ length-range_with_len 0 n in
    elim (split_get block (stores_from n object (a + 1) m) q (Store k o t) is) [
      | inl h ↦ (
          let same : t ≡ a = each_get (IsOf a) block q (Store k o t)
          (each_map (IsOf a) (λ j. Store j object a) (upto n) (λ j. refl)) h.1 in
          let less = h.0 in
          subst (λ (x : ℕ). IsPlaced n a (suc m) q x) (sym same) (record {
            first = omega arith;
            last = omega arith;
            least = omega arith;
            most = omega (arith, less, size);
          }))
      | inr h ↦ (
          let more = stored_at n object (a + 1) m (q - length block) k o t h.1 in
          let from = h.0 in
          let first = more.first in
          let last = more.last in
          let least = more.least in
          let most = more.most in
          record {
            first = omega (arith, first);
            last = omega (arith, last);
            least = omega (arith, least, from, size);
            most = omega (arith, most, from, size);
          })
    ]

no_store : (xs : List Action) (q k o t : ℕ) → Each IsNoStore xs → slice_get xs q ≡ Some (Store k o t) → ⊥
no_store xs q k o t each is = each_get IsNoStore xs q (Store k o t) each is

-- a store of a put stands among those of its stripe
pub store_place : (s : Setup) (job : Job) (name bytes : List ℕ) (k o t : ℕ) → job.kind ≡ PutJob name bytes
    → slice_get (actions_of s job) job.place ≡ Some (Store k o t)
    → (4 + t * s.n ≤ job.place) × (job.place < 4 + (t + 1) * s.n) × (t < put_stripes s job bytes)
store_place s job name bytes k o t kind is =
    elim (split_get append_actions (put_rest s job bytes) job.place (Store k o t)
    (ap (λ (l : List Action). slice_get l job.place) (sym (put-list s job name bytes kind)) ∙ is)) [
      | inl h ↦ absurd (no_store append_actions job.place k o t (tt, (tt, (tt, (tt, tt)))) h.1)
      | inr h ↦ (
          let from : 4 ≤ job.place = h.0 in
          elim (split_get (store_actions s job bytes)
          (append_actions ++ (remove_actions s job ++ End ∷ [])) (job.place - 4) (Store k o t) h.1) [
            | inl b ↦ (
                let placed = stored_at s.n job.subject 0 (put_stripes s job bytes) (job.place - 4) k o t b.1 in
                let least = placed.least in
                let most = placed.most in
                let last = placed.last in
                (omega (arith, least, from), omega (arith, most, from), omega (arith, last)))
            | inr b ↦ absurd (no_store (append_actions ++ (remove_actions s job ++ End ∷ []))
                (job.place - 4 - length (store_actions s job bytes)) k o t
                (each_append IsNoStore append_actions (remove_actions s job ++ End ∷ []) (tt, (tt, (tt, (tt, tt))))
                (each_append IsNoStore (remove_actions s job) (End ∷ [])
                (each_flat IsNoStore (λ object. on_each_provider s (λ j. Remove j object)) job.older
                (λ object. each_map IsNoStore (λ j. Remove j object) (upto s.n) (λ j. tt))) (tt, tt))) b.1)
          ])
    ]

-- ---- which stripe is at hand

last_given : (s : Setup) (stripes : ℕ) (hand : Option ℕ) (job : Job) (t : ℕ)
    → wanted_at s job.place (Some stripes) ≡ None → HasGiven s stripes hand job
    → 4 + t * s.n ≤ job.place → job.place < 4 + (t + 1) * s.n → hand ≡ Some t
last_given s zero hand job t wants is least most =
    absurd (let l = before_wait s zero hand job wants is in omega (arith, l, least))
last_given s (suc stripe) hand job t wants is least most =
    let l = before_wait s (suc stripe) hand job wants is in
    let on = is.last stripe (let e : suc stripe ≡ stripe + 1 = omega arith in e) in
    let from = on.1 in
    let a = fewer_times t (stripe + 1) s.n (omega (arith, l, least)) in
    let b = fewer_times stripe (t + 1) s.n (omega (arith, from, most)) in
    on.0 ∙ ap (λ (x : ℕ). Some x) (let e : stripe ≡ t = omega (arith, a, b) in e)

last_left : (s : Setup) (hand : Option ℕ) (job : Job) (name bytes : List ℕ) (t : ℕ)
    → HasLast s hand job (PutJob name bytes) → job.place < 4 + (t + 1) * s.n
    → t < put_stripes s job bytes → hand ≡ Some t
last_left s hand job name bytes t (stripe, on, few) most less =
    let b = fewer_times stripe (t + 1) s.n (omega (arith, on.1, most)) in
    on.0 ∙ ap (λ x. Some x) (omega (arith, b, few, less))

-- a stream has the stripe at hand that it stores next
pub stripe_stored : (w : State) (job : Job) (name bytes : List ℕ) (k o t : ℕ) → job.kind ≡ PutJob name bytes →
    next_action w job ≡ Some (Store k o t) → (told hand : Option ℕ) →
    wanted_at (setup_in w) job.place told ≡ None → HasAtHand (setup_in w) told (Some hand) job → hand ≡ Some t
stripe_stored w job name bytes k o t kind next told hand wants is =
    let there = store_place (setup_in w) job name bytes k o t kind
    (next_stands w job (Store k o t) next (λ e. absurd (let f : ⊥ = cc in f))) in
    by_told told wants is there.0 there.1 there.2
  where
    by_told : (told : Option ℕ) → wanted_at (setup_in w) job.place told ≡ None →
        HasAtHand (setup_in w) told (Some hand) job → 4 + t * (setup_in w).n ≤ job.place →
        job.place < 4 + (t + 1) * (setup_in w).n → t < put_stripes (setup_in w) job bytes → hand ≡ Some t
    by_told None wants is least most less =
        last_left (setup_in w) hand job name bytes t (subst (HasLast (setup_in w) hand job) kind is) most less
    by_told (Some stripes) wants is least most less =
        last_given (setup_in w) stripes hand job t wants is least most

-- What a provider that tells gave a job: what it held, or nothing; and nothing, though something was held, at
-- most as often as its
-- count of faults rose.
use Rattle.job_laws.proofs.Words.{◌≡◌, ℕ, zero, suc, ◌+◌, ◌<◌, ◌≤◌, ◌==◌, ◌&&◌, ◌⊎◌, Bool, true, false, cond, List, [], ◌∷◌, Option, None, Some, refl, ap, sym, subst, ◌∙◌, inl, inr, arith, is_some, is_none, range_with_len, cases_eq, eq-eqb, ne_eqb, sum_by-cons, Each, honest_answer, last_count, Held, Provider, Fetches, Asks, FailsToGive, Given, Action, Store, Fetch, Ask, Work, Remove, answer_given, cond_true, cond_false, With, challenge_made, CallsOne, Did, Made, object_made, IfSome}
use Rattle.std.proofs.Common.{map, sum_by}
use Rattle.job_laws.proofs.Providers.{Rises, rises-same, rises-more, called-rises, made-keeps}
use Rattle.job_laws.proofs.Heard.{IsOver, AreDistinct, answer-later, answer-newest}

pub if-some : {A : Type 0} (h : Option A) (P : A → Type 0) → ((a : A) → h ≡ Some a → P a) → IfSome h P
if-some None P f = tt
if-some (Some a) P f = f a refl

-- the call of the very provider, and of another one
pub call-hit : (old : ℕ → Provider) (j : ℕ) (call : Provider → Provider → Type 0) (new : ℕ → Provider) →
    CallsOne old j call new → call (old j) (new j)
call-hit old j call new (p, made, is) =
    subst (λ q. call (old j) q) (sym (ap (λ f. f j) is ∙ cond_true (j == j) p (old j) (eq-eqb j j refl))) made

-- a call of one provider leaves each other one
pub call-miss : (old : ℕ → Provider) (k : ℕ) (call : Provider → Provider → Type 0) (new : ℕ → Provider)
    (j : ℕ) → (k ≡ j → ⊥) → CallsOne old k call new → new j ≡ old j
call-miss old k call new j n (p, made, is) =
    ap (λ f. f j) is ∙ cond_false (j == k) p (old j) (ne_eqb j k (λ e. n (sym e)))

-- counts of faults do not fall in actions that were made
pub made-rises : (x : With) (actions : List Action) (old new : ℕ → Provider) (given now : List Given)
    (j : ℕ) → Made x actions old new given now → Rises (old j) (new j)
made-rises x actions old new given now j m = made-keeps x j Rises (λ a. Unit {0}) rises-same rises-more
    (λ a g h p q u c. called-rises x a g h j p q c) actions old new given now (all actions) m
  where
    all : (xs : List Action) → Each (λ a. Unit {0}) xs
    all [] = tt
    all (a ∷ xs) = (tt, all xs)

-- ---- one question

-- nothing was given, though something was held
abbrev pub lacks : {B : Type 0} → Option B → Option B → ℕ
lacks given held = cond (is_none given && is_some held) 1 0

lacks-itself : {B : Type 0} (h : Option B) → lacks h h ≡ 0
lacks-itself None = refl
lacks-itself (Some b) = refl

-- where what is held was given nothing is lacking
pub lacks-same : {B : Type 0} (given held : Option B) → given ≡ held → lacks given held ≡ 0
lacks-same given held e = cc (lacks-itself held)

-- of one question at most one answer is lacking
pub lacks-few : {B : Type 0} (given held : Option B) → lacks given held ≤ 1
lacks-few given held = by_test (is_none given && is_some held)
  where
    by_test : (b : Bool) → cond b 1 0 ≤ 1
    by_test true = omega arith
    by_test false = omega arith

-- ---- asks

-- the answer to an ask of provider j, if the action is one, is the honest one of what it holds, or none
abbrev pub IsTold : With → List Given → Held → ℕ → Action → Type 0
IsTold x now held j (Ask k o r) = k ≡ j →
    (answer_given now o r k ≡ honest_answer (challenge_made x o r) (held o)) ⊎ (answer_given now o r k ≡ None)
IsTold x now held j action = Unit {0}

-- 1 where it is none though there is an honest one
abbrev pub lack_at : With → List Given → Held → ℕ → Action → ℕ
lack_at x now held j (Ask k o r) =
    cond (k == j) (lacks (answer_given now o r k) (honest_answer (challenge_made x o r) (held o))) 0
lack_at x now held j action = 0

-- an action that leaves what providers hold
abbrev pub IsQuiet : Action → Type 0
IsQuiet (Store j o s) = ⊥
IsQuiet (Remove j o) = ⊥
IsQuiet action = Unit {0}

-- what one action did to provider j
record Step (x : With) (now : List Given) (held : Held) (j : ℕ) (a : Action) (p q : Provider) : Type 0 where
  told : IsTold x now held j a
  held_is : q.held ≡ Some held
  count : q.other_faults < last_count → p.other_faults + lack_at x now held j a ≤ q.other_faults

module _ (x : With) (j : ℕ) (held : Held) (now : List Given) where
  same-step : (a : Action) (p q : Provider) → IsTold x now held j a → lack_at x now held j a ≡ 0 → q ≡ p →
      p.held ≡ Some held → Step x now held j a p q
  same-step a p q told none e h =
      record {
        told = told;
        held_is = cc;
        count = λ l. (let f = ap (λ (z : Provider). z.other_faults) e in omega (arith, f, none));
      }

  ask-step : (k o r : ℕ) (symbol : Option ℕ) (p q : Provider) → k ≡ j → answer_given now o r k ≡ symbol →
      p.held ≡ Some held → Asks (honest_answer (challenge_made x o r)) o p symbol q →
      Step x now held j (Ask k o r) p q
  ask-step k o r symbol p q hit is h c = record {
    told = λ e. elim gives [ inl g ↦ inl (is ∙ g) | inr f ↦ inr (is ∙ f.0) ];
    held_is = c.held ∙ h;
    count = λ l. (let one : lack_at x now held j (Ask k o r) ≡ lacks symbol (honest_answer (challenge_made x o
        r) (held o)) =
        cc (cond_true (k == j) (lacks (answer_given now o r k) _) 0 (eq-eqb k j hit)) in elim gives [
          | inl g ↦ (omega (arith, lacks-same symbol _ g))
          | inr f ↦ (let low = c.counts.other_faults in omega (
            arith,
            lacks-few symbol (honest_answer (challenge_made x o r) (held o)),
            f.1 (omega (arith, low, l)),
          ))
        ]);
  }
    where
      gives : (symbol ≡ honest_answer (challenge_made x o r) (held o)) ⊎ FailsToGive p symbol q
      gives = elim c.gives [
        | inl g ↦ inl (rw h at g)
        | inr f ↦ inr f
      ]

  other-ask : (k o r : ℕ) (p q : Provider) → (k ≡ j → ⊥) → q ≡ p → p.held ≡ Some held →
      Step x now held j (Ask k o r) p q
  other-ask k o r p q n e h = same-step (Ask k o r) p q (λ f. absurd (n f))
      (cond_false (k == j) (lacks (answer_given now o r k) (honest_answer (challenge_made x o r) (held o))) 0
      (ne_eqb k j n)) e h

  one-step : (a : Action) (actions : List Action) (old mid new : ℕ → Provider) (given so_far : List Given) →
      IsQuiet a → IsOver a actions → Did x a old mid given so_far → Made x actions mid new so_far now →
      (old j).held ≡ Some held → Step x now held j a (old j) (mid j)
  one-step (Ask k o r) actions old mid new given so_far quiet over (symbol, called, is) rest h =
      elim (cases_eq k j) [
        | inl hit ↦ ask-step k o r symbol (old j) (mid j) hit
            (cc (answer-later x actions mid new so_far now k o r rest over, answer-newest k o r symbol given))
            h (rw hit at (call-hit old k (λ p q. Asks (honest_answer (challenge_made x o r)) o p symbol q) mid
            called))
        | inr miss ↦ other-ask k o r (old j) (mid j) miss
            (call-miss old k (λ p q. Asks (honest_answer (challenge_made x o r)) o p symbol q) mid j miss
            called) h
      ]
  one-step (Fetch k o s) actions old mid new given so_far quiet over (block, called, is) rest h =
      elim (cases_eq k j) [
        | inl hit ↦ (let c = rw hit at (call-hit old k (λ p q. Fetches (object_made x o).profile.size o s p
            block q) mid called) in
            record {
              told = tt;
              held_is = c.held ∙ h;
              count = λ l. (omega arith);
            })
        | inr miss ↦ same-step (Fetch k o s) (old j) (mid j) tt refl
            (call-miss old k (λ p q. Fetches (object_made x o).profile.size o s p block q) mid j miss called)
            h
      ]
  one-step (Store k o s) actions old mid new given so_far quiet over did rest h = absurd quiet
  one-step (Remove k o) actions old mid new given so_far quiet over did rest h = absurd quiet
  one-step (Work o s) actions old mid new given so_far quiet over (symbols, gives, still, is) rest h =
      same-step (Work o s) (old j) (mid j) tt refl (ap (λ f. f j) still) h
  one-step a actions old mid new given so_far quiet over did rest h =
      same-step a (old j) (mid j) tt refl (ap (λ f. f j) did.0) h

  -- all of them
  pub asks-told : (actions : List Action) (old new : ℕ → Provider) (given : List Given) →
      Each IsQuiet actions → AreDistinct actions → Made x actions old new given now →
      (old j).held ≡ Some held →
      Each (IsTold x now held j) actions ×
      ((new j).other_faults < last_count →
      (old j).other_faults + sum_by (lack_at x now held j) actions ≤ (new j).other_faults)
  asks-told [] old new given quiet d m h =
      (tt, λ l. (omega (arith, ap (λ (f : ℕ → Provider). (f j).other_faults) m.0)))
  asks-told (a ∷ actions) old new given quiet d (mid, so_far, did, rest) h =
      (let s = one-step a actions old mid new given so_far quiet.0 d.0 did rest h in
      let r = asks-told actions mid new so_far quiet.1 d.1 rest s.held_is in
      let up = (made-rises x actions mid new so_far now j rest).1 in (
        (s.told, r.0),
        λ l. (omega (arith, sum_by-cons (lack_at x now held j) a actions)),
      ))

-- ---- sums over a range of which one number counts

range-miss : (j v : ℕ) (f : Action → ℕ) (g : ℕ → Action) (a n : ℕ) → ((k : ℕ) → (k ≡ j → ⊥) → f (g k) ≡ 0) →
    j < a → sum_by f (map g (range_with_len a n)) ≡ 0
range-miss j v f g a zero h l = refl
range-miss j v f g a (suc n) h l = sum_by-cons f (g a) (map g (range_with_len (a + 1) n))
    ∙ (omega (arith, h a (λ e. omega (arith, e, l)), range-miss j v f g (a + 1) n h (omega (arith, l))))

-- of a range of which one number counts the sum is that number's
pub range-hit : (j : ℕ) (f : Action → ℕ) (g : ℕ → Action) (a n : ℕ) → ((k : ℕ) → (k ≡ j → ⊥) → f (g k) ≡ 0) →
    a ≤ j → j < a + n → sum_by f (map g (range_with_len a n)) ≡ f (g j)
range-hit j f g a zero h l u = absurd (omega (arith, l, u))
range-hit j f g a (suc n) h l u =
    sum_by-cons f (g a) (map g (range_with_len (a + 1) n)) ∙ elim (cases_eq a j) [
      | inl e ↦ (omega (arith, range-miss j 0 f g (a + 1) n h (omega (arith, e)), ap (λ k. f (g k)) e))
      | inr n0 ↦ (omega (arith, range-hit j f g (a + 1) n h (omega arith) (omega arith)))
    ]

-- What the asks of an audit gave, question by question.
use Rattle.job_laws.proofs.Words.{◌≡◌, ℕ, zero, suc, ◌+◌, ◌<◌, ◌≤◌, ◌==◌, ◌⊎◌, true, false, List, [], ◌∷◌, ◌++◌, length, Option, None, refl, subst, ◌∙◌, inl, inr, arith, All, range_with_len, cases_eq, cases_Bool, eqb-true, eq-eqb, ne_eqb, sum_by-append, Each, In, each_append, each_map, honest_answer, Held, Setup, File, files_of, Given, profiled, Action, Ask, rounds_of, pinned_file, answer_given, pinned_size, State, cond_true, cond_false, listed_file, Question, missing, With, challenge_made, IsOpenAtRest}
use Rattle.std.proofs.Common.{map, sum_by}
use Rattle.std.proofs.lemmas.List.Elements.{All-cons}
use Rattle.job_laws.proofs.Asked.{asks_one, asks_of, questions_in}
use Rattle.job_laws.proofs.Truth.{lacks, IsTold, lack_at, range-hit}

-- ---- facts of elements

-- what holds of all elements of a list holds of each
pub each-in : {X : Type 0} (P : X → Type 0) (xs : List X) → ((x : X) → In x xs → P x) → Each P xs
each-in P [] h = tt
each-in P (x ∷ xs) h = (h x (inl refl), each-in P xs (λ y i. h y (inr i)))

-- what holds of a list holds of its front
pub each-front : {X : Type 0} (P : X → Type 0) (xs ys : List X) → Each P (xs ++ ys) → Each P xs
each-front P [] ys h = tt
each-front P (x ∷ xs) ys h = (h.0, each-front P xs ys h.1)

-- of each file in effect the bytes have its length
pub held-sizes : (start : State) → IsOpenAtRest start 1 →
    Each (λ (f : File). length (start.bytes f.id) ≡ f.size) (files_of start.records)
held-sizes start O = each-in (λ (f : File). length (start.bytes f.id) ≡ f.size) (files_of start.records)
    (λ f i. (O.rest.files f.name f (listed_file start.records f i)).1)

-- two facts of each element are one of both
pub each-both : {X : Type 0} (P Q : X → Type 0) (xs : List X) → Each P xs → Each Q xs →
    Each (λ x. P x × Q x) xs
each-both P Q [] a b = tt
each-both P Q (x ∷ xs) a b = ((a.0, b.0), each-both P Q xs a.1 b.1)

-- what holds of each element, one after the other, holds of the element at each place
pub all-each : {X : Type 0} (P : X → Type 0) (xs : List X) → Each P xs → All P xs
all-each P [] h = λ k d l. absurd (omega (arith, l))
all-each P (x ∷ xs) h = All-cons P x xs h.0 (all-each P xs h.1)

-- what holds of each action of a range holds of that of one number
pub each-at : (P : Action → Type 0) (f : ℕ → Action) (a n j : ℕ) → Each P (map f (range_with_len a n)) →
    a ≤ j → j < a + n → P (f j)
each-at P f a zero j h l u = absurd (omega (arith, l, u))
each-at P f a (suc n) j h l u = elim (cases_eq a j) [
  | inl e ↦ subst (λ k. P (f k)) e h.0
  | inr m ↦ each-at P f (a + 1) n j h.1 (omega (arith, l, m)) (omega (arith, u))
]

-- what holds of each element of two lists together holds of each of both
pub each-parts : {X : Type 0} (P : X → Type 0) (xs ys : List X) → Each P (xs ++ ys) → Each P xs × Each P ys
each-parts P [] ys h = (tt, h)
each-parts P (x ∷ xs) ys h = (let r = each-parts P xs ys h.1 in ((h.0, r.0), r.1))

-- what holds of each file holds of each question's
pub each-question : (s : Setup) (P : File → Type 0) (fs : List File) → Each P fs →
    Each (λ (q : Question). P q.file) (questions_in s fs)
each-question s P [] h = tt
each-question s P (f ∷ fs) h = each_append (λ (q : Question). P q.file)
    (map (λ round. record { file = f; round = round }) (rounds_of (profiled s f.profile) f.size))
    (questions_in s fs) (each_map (λ (q : Question). P q.file) (λ round. record { file = f; round = round })
    (rounds_of (profiled s f.profile) f.size) (λ r. h.0)) (each-question s P fs h.1)

-- ---- the size of a pinned file

size-found : (w : State) (fs : List File) (g : File) → In g fs →
    pinned_size (map (pinned_file w) fs) g.id ≡ length (w.bytes g.id)
size-found w [] g i = absurd i
size-found w (f ∷ fs) g i = elim (cases_Bool (f.id == g.id)) [
  | inl t ↦ cc (
    cond_true (f.id == g.id) (length (w.bytes f.id)) (pinned_size (map (pinned_file w) fs) g.id) t,
    eqb-true f.id g.id t,
  )
  | inr o ↦ cond_false (f.id == g.id) (length (w.bytes f.id)) (pinned_size (map (pinned_file w) fs) g.id) o
      ∙ size-found w fs g (later i o)
]
  where
    later : In g (f ∷ fs) → (f.id == g.id) ≡ false → In g fs
    later (inl e) o = absurd (let a : (f.id == g.id) ≡ true = eq-eqb f.id g.id (cc) in cc)
    later (inr k) o = k

-- the length that is looked up of a pinned file is its size
pub sizes-pinned : (w : State) (fs : List File) → Each (λ (f : File). length (w.bytes f.id) ≡ f.size) fs →
    Each (λ (f : File). pinned_size (map (pinned_file w) fs) f.id ≡ f.size) fs
sizes-pinned w fs h = each-in (λ (f : File). pinned_size (map (pinned_file w) fs) f.id ≡ f.size) fs
    (λ g i. size-found w fs g i ∙ at fs g i h)
  where
    at : (gs : List File) (g : File) → In g gs → Each (λ (f : File). length (w.bytes f.id) ≡ f.size) gs →
        length (w.bytes g.id) ≡ g.size
    at [] g i h = absurd i
    at (f ∷ gs) g (inl e) h = cc
    at (f ∷ gs) g (inr i) h = at gs g i h.1

-- ---- truth, by questions

module _ (x : With) (now : List Given) (held : Held) (j n : ℕ) (below : j < n)
    (gave honest : Question → Option ℕ) where
  -- what was given to a question of this list is what is looked up, and the honest answer is that to its
  -- challenge
  abbrev pub Fits : Question → Type 0
  Fits q = (gave q ≡ answer_given now q.file.id q.round j) ×
      (honest q ≡ honest_answer (challenge_made x q.file.id q.round) (held q.file.id))

  -- a provider that tells gave each question its honest answer, or none
  pub told-questions : (qs : List Question) → Each Fits qs → Each (IsTold x now held j) (asks_of n qs) →
      Each (λ q. (gave q ≡ honest q) ⊎ (gave q ≡ None)) qs
  told-questions [] fits h = tt
  told-questions (q ∷ qs) fits h =
      (let p = each-parts (IsTold x now held j) (asks_one n q) (asks_of n qs) h in (
        elim (each-at (IsTold x now held j) (λ k. Ask k q.file.id q.round) 0 n j p.0 (omega arith)
            (omega (arith, below)) refl) [ inl e ↦ inl (cc) | inr e ↦ inr (fits.0.0 ∙ e) ],
        told-questions qs fits.1 p.1,
      ))

  -- how often a provider gave no answer though it had one is the same by asks and by questions
  pub lacks-questions : (qs : List Question) → Each Fits qs →
      sum_by (lack_at x now held j) (asks_of n qs) ≡ missing gave honest qs
  lacks-questions [] fits = refl
  lacks-questions (q ∷ qs) fits = ((sum_by-append (lack_at x now held j) (asks_one n q) (asks_of n qs)) ∙
      (let d : sum_by (lack_at x now held j) (asks_one n q) ≡ lacks (gave q) (honest q)
      = (range-hit j (lack_at x now held j) (λ k. Ask k q.file.id q.round) 0 n (λ k m. cond_false
      (k == j) _ 0 (ne_eqb k j m)) (omega arith) (omega (arith, below))) ∙
      (cc (cond_true (j == j) (lacks (answer_given now q.file.id q.round j)
      (honest_answer (challenge_made x q.file.id q.round) (held q.file.id))) 0 (eq-eqb j j refl))) in
      (λ i. d i + (lacks-questions qs fits.1) i)))

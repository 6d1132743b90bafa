-- The asks of an audit, question by question.
use Rattle.job_laws.proofs.Words.{◌≡◌, ℕ, ◌+◌, ◌<◌, ◌≤◌, ◌==◌, Bool, true, false, cond, List, [], ◌∷◌, ◌++◌, length, refl, ap, sym, subst, ◌∙◌, inl, inr, arith, nat_lt, flat_map, cases_Bool, flat_map-append, Each, each_append, each_map, each_flat, upto, Setup, File, Pinned, Given, Answered, Job, profiled, stripes_of, Action, Ask, machine_pins, rounds_of, ask_actions, pinned_file, pin_by, pin_all, answer_given, State, cond_true, cond_false, with_number, files_by_number, Question, questions, AreAscending}
use Rattle.std.proofs.Common.{map}
use Rattle.job_laws.proofs.Heard.{AreDistinct, distinct-append, distinct-range, distinct-map, apart-by, entry_for}

-- ---- files by number, as they are pinned

pin-map : (w : State) (f : File) (fs : List File) →
    pin_by machine_pins (pinned_file w f) (map (pinned_file w) fs) ≡ map (pinned_file w) (with_number f fs)
pin-map w f [] = refl
pin-map w f (g ∷ gs) = elim (cases_Bool (nat_lt f.id g.id)) [
  | inl t ↦ cc
  | inr o ↦ cond_false (nat_lt f.id g.id) (pinned_file w f ∷ pinned_file w g ∷ map (pinned_file w) gs)
      (pinned_file w g ∷ pin_by machine_pins (pinned_file w f) (map (pinned_file w) gs)) o
      ∙ (ap (λ ps. pinned_file w g ∷ ps) (pin-map w f gs) ∙ sym (cc))
]

-- all files as pins are these files by number, each as a pin
pub pinned-by_number : (w : State) (fs : List File) → pin_all w fs ≡ map (pinned_file w) (files_by_number fs)
pinned-by_number w [] = refl
pinned-by_number w (f ∷ fs) = cc (pinned-by_number w fs, pin-map w f (files_by_number fs))

-- a fact of each file is one of each by number
each-with_number : (P : File → Type 0) (f : File) (fs : List File) → P f → Each P fs →
    Each P (with_number f fs)
each-with_number P f [] a h = (a, tt)
each-with_number P f (g ∷ gs) a h = elim (cases_Bool (nat_lt f.id g.id)) [
  | inl t ↦ subst (Each P) (sym (cond_true (nat_lt f.id g.id) (f ∷ g ∷ gs) (g ∷ with_number f gs) t)) (a, h)
  | inr o ↦ subst (Each P) (sym (cond_false (nat_lt f.id g.id) (f ∷ g ∷ gs) (g ∷ with_number f gs) o))
      (h.0, each-with_number P f gs a h.1)
]

-- what holds of each file holds of each by number
pub each-by_number : (P : File → Type 0) (fs : List File) → Each P fs → Each P (files_by_number fs)
each-by_number P [] h = tt
each-by_number P (f ∷ fs) h = each-with_number P f (files_by_number fs) h.0 (each-by_number P fs h.1)

-- ---- the asks of questions

-- the asks of one question
abbrev pub asks_one : ℕ → Question → List Action
asks_one n q = map (λ j. Ask j q.file.id q.round) (upto n)

abbrev pub asks_of : ℕ → List Question → List Action
asks_of n qs = flat_map (asks_one n) qs

asks-rounds : (n : ℕ) (f : File) (rounds : List ℕ) →
    flat_map (λ round. map (λ j. Ask j f.id round) (upto n)) rounds
    ≡ asks_of n (map (λ round. record { file = f; round = round }) rounds)
asks-rounds n f [] = refl
asks-rounds n f (round ∷ more) = cc (asks-rounds n f more)

-- the questions of files in this order
abbrev pub questions_in : Setup → List File → List Question
questions_in s fs = flat_map (λ (f : File). map (λ round. record { file = f; round = round })
    (rounds_of (profiled s f.profile) f.size)) fs

asks-files : (s : Setup) (w : State) (fs : List File) →
    Each (λ (f : File). length (w.bytes f.id) ≡ f.size) fs →
    flat_map (λ (f : Pinned). flat_map (λ round. map (λ j. Ask j f.id round) (upto s.n))
    (rounds_of (profiled s f.profile) (length f.bytes))) (map (pinned_file w) fs)
    ≡ asks_of s.n (questions_in s fs)
asks-files s w [] h = refl
asks-files s w (f ∷ fs) h = (let one : flat_map (λ round. map (λ j. Ask j f.id round) (upto s.n)) _ ≡ asks_of
    s.n (map (λ round. record { file = f; round = round }) (rounds_of (profiled s f.profile) f.size)) = cc
    (asks-rounds s.n f (rounds_of (profiled s f.profile) f.size)) in
    (λ i. one i ++ asks-files s w fs h.1 i) ∙ sym (flat_map-append (asks_one s.n)
    (map (λ round. record { file = f; round = round }) (rounds_of (profiled s f.profile) f.size))
    (questions_in s fs)))

-- the asks of an audit are those of its questions
pub asks-questions : (s : Setup) (w : State) (job : Job) (files : List File) → job.pinned ≡ pin_all w files →
    Each (λ (f : File). length (w.bytes f.id) ≡ f.size) files →
    ask_actions s job ≡ asks_of s.n (questions s files)
asks-questions s w job files pinned h = cc (
  pinned-by_number w files,
  asks-files s w (files_by_number files) (each-by_number _ files h),
)

-- ---- no two asks are the same

abbrev provider_tag : Action → ℕ
provider_tag (Ask j o r) = j
provider_tag action = 0

abbrev round_tag : Action → ℕ
round_tag (Ask j o r) = r
round_tag action = 0

abbrev object_tag : Action → ℕ
object_tag (Ask j o r) = o
object_tag action = 0

distinct-rounds : (s : Setup) (o : ℕ) (size : ℕ) →
    AreDistinct (flat_map (λ round. map (λ j. Ask j o round) (upto s.n)) (rounds_of s size))
distinct-rounds s o size = by_stripes (stripes_of s size == 0)
  where
    by_stripes : (b : Bool) →
        AreDistinct (flat_map (λ round. map (λ j. Ask j o round) (upto s.n)) (cond b [] (upto s.rounds)))
    by_stripes true = tt
    by_stripes false = distinct-range round_tag (λ round. map (λ j. Ask j o round) (upto s.n)) 0 s.rounds
        (λ k. each_map (λ x. round_tag x ≡ k) (λ j. Ask j o k) (upto s.n) (λ j. refl))
        (λ k. distinct-map provider_tag (λ j. Ask j o k) 0 s.n (λ j. refl))

of-object : (s : Setup) (f : Pinned) →
    Each (λ x. object_tag x ≡ f.id)
    (flat_map (λ round. map (λ j. Ask j f.id round) (upto s.n))
    (rounds_of (profiled s f.profile) (length f.bytes)))
of-object s f = each_flat (λ x. object_tag x ≡ f.id) (λ round. map (λ j. Ask j f.id round) (upto s.n))
    (rounds_of (profiled s f.profile) (length f.bytes))
    (λ r. each_map (λ x. object_tag x ≡ f.id) (λ j. Ask j f.id r) (upto s.n) (λ j. refl))

above-low : (s : Setup) (low : ℕ) (pinned : List Pinned) → AreAscending low pinned →
    Each (λ x. low ≤ object_tag x)
    (flat_map (λ (f : Pinned). flat_map (λ round. map (λ j. Ask j f.id round) (upto s.n))
    (rounds_of (profiled s f.profile) (length f.bytes))) pinned)
above-low s low [] h = tt
above-low s low (f ∷ fs) h = each_append (λ x. low ≤ object_tag x) _ _ (mono _ (of-object s f))
    (mono2 _ (above-low s (f.id + 1) fs h.1))
  where
    mono : (xs : List Action) → Each (λ x. object_tag x ≡ f.id) xs → Each (λ x. low ≤ object_tag x) xs
    mono [] e = tt
    mono (x ∷ xs) e = ((omega arith), mono xs e.1)

    mono2 : (xs : List Action) → Each (λ x. f.id + 1 ≤ object_tag x) xs → Each (λ x. low ≤ object_tag x) xs
    mono2 [] e = tt
    mono2 (x ∷ xs) e = ((omega arith), mono2 xs e.1)

-- the asks of an audit are distinct, where its files ascend by number
pub distinct-asks : (s : Setup) (low : ℕ) (pinned : List Pinned) → AreAscending low pinned →
    AreDistinct (flat_map
    (λ (f : Pinned). flat_map (λ round. map (λ j. Ask j f.id round) (upto s.n))
    (rounds_of (profiled s f.profile) (length f.bytes))) pinned)
distinct-asks s low [] h = tt
distinct-asks s low (f ∷ fs) h = distinct-append _ _ (distinct-rounds (profiled s f.profile) f.id
    (length f.bytes)) (distinct-asks s (f.id + 1) fs h.1) (apart-by object_tag f.id _ _ (of-object s f)
    (beyond _ (above-low s (f.id + 1) fs h.1)))
  where
    beyond : (xs : List Action) → Each (λ x. f.id + 1 ≤ object_tag x) xs → Each (λ x. f.id < object_tag x) xs
    beyond [] e = tt
    beyond (x ∷ xs) e = ((omega arith), beyond xs e.1)

-- ---- the entries of questions

-- what a job heard of the asks of questions is an entry for each question and provider
pub entries-questions : (n k : ℕ) (now : List Given) (qs : List Question) →
    flat_map (entry_for k now) (asks_of n qs)
    ≡ flat_map (λ (q : Question). map
    (λ j. record { job = k; given = Answered j q.file.id q.round (answer_given now q.file.id q.round j) })
    (upto n)) qs
entries-questions n k now [] = refl
entries-questions n k now (q ∷ qs) = flat_map-append (entry_for k now) (asks_one n q) (asks_of n qs)
    ∙ (λ i. singles (upto n) i ++ entries-questions n k now qs i)
  where
    singles : (js : List ℕ) → flat_map (entry_for k now) (map (λ j. Ask j q.file.id q.round) js)
        ≡ map (λ j. record {
          job = k;
          given = Answered j q.file.id q.round (answer_given now q.file.id q.round j);
        }) js
    singles [] = refl
    singles (j ∷ js) = ap (λ l. record {
      job = k;
      given = Answered j q.file.id q.round (answer_given now q.file.id q.round j);
    } ∷ l) (singles js)

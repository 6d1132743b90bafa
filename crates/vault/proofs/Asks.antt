-- The rounds of an audit: what their answers are, in which order they come, and what they make of the sums.
use Rattle.vault.proofs.Words.{◌≡◌, ℕ, zero, suc, ◌+◌, ◌-◌, ◌*◌, ◌<◌, ◌≤◌, Bool, true, false, List, [], ◌∷◌, ◌++◌, drop, map, Option, refl, sym, ap, subst, ◌∙◌, inl, inr, arith, length-append, length-drop, append_assoc, range_with_len, Contains, drop-append_seam, cases_Bool, eq-eqb, ne_eqb, eqb-true, eqb-false, false≢true, Each, each_append, each_at_most, each_zero, upto, points, bare_answers, Sums, Setup, WriteBody, End, append_actions, rounds_of, challenge_in, JudgesRound, JudgesRounds, JudgesFiles, answer_given, answers_given, pinned_size, Given, Answered, Job, advanced_with, profiled, object_of, stripes_of, cond_true, cond_false, AreAscending, last_answers, answered_entries, Round, rounds_in, JudgesEach, answered_gifts, HasAnswered, empty_sums, IsAnAsk}
use Rattle.std.proofs.Common.{◌==◌, ◌&&◌, length}
use Rattle.column_defs.proofs.CountLaws.{counts_after-within}
use Rattle.machine_defs.specs.Actions.{Action, Ask}
use Rattle.machine_defs.specs.Jobs.{Pinned}
use Rattle.vault.specs.declared.heard.Ask.{Ask as AskValue}
use Rattle.vault.proofs.AskOrders.{rounds_few}

-- ---- the answers of a round

-- what is given of a provider before those of the list
below : (o r c j : ℕ) (xs : List (Option ℕ)) (older : List Given) → j < c →
    answer_given (answered_gifts o r c xs older) o r j ≡ answer_given older o r j
below o r c j [] older less = refl
below o r c j (x ∷ xs) older less = below o r (c + 1) j xs (Answered c o r x ∷ older) (omega (arith, less))
    ∙ cond_false ((c == j) && (o == o) && (r == r)) x (answer_given older o r j)
    (ap (λ (t : Bool). t && (o == o) && (r == r)) (ne_eqb c j (λ e. absurd (omega (arith, less, e)))))

-- the answers of the list are given
gifts_give : (o r c : ℕ) (xs : List (Option ℕ)) (older : List Given) →
    map (answer_given (answered_gifts o r c xs older) o r) (range_with_len c (length xs)) ≡ xs
gifts_give o r c [] older = refl
gifts_give o r c (x ∷ xs) older =
    (λ i. (below o r (c + 1) c xs (Answered c o r x ∷ older) (omega arith) ∙ itself) i ∷ gifts_give o r
    (c + 1) xs (Answered c o r x ∷ older) i)
  where
    itself : answer_given (Answered c o r x ∷ older) o r c ≡ x
    itself = cond_true ((c == c) && (o == o) && (r == r)) x (answer_given older o r c)
        (λ i. eq-eqb c c refl i && eq-eqb o o refl i && eq-eqb r r refl i)

-- one gift more
gifts_more : (o r c : ℕ) (xs : List (Option ℕ)) (x : Option ℕ) (older : List Given) →
    answered_gifts o r c (xs ++ x ∷ []) older ≡ Answered (c + length xs) o r x ∷ answered_gifts o r c xs older
gifts_more o r c [] x older = (ap (λ k. Answered k o r x ∷ older) (omega arith))
gifts_more o r c (y ∷ xs) x older = gifts_more o r (c + 1) xs x (Answered c o r y ∷ older)
    ∙ (ap (λ k. Answered k o r x ∷ answered_gifts o r (c + 1) xs (Answered c o r y ∷ older)) (omega arith))

-- one entry more
pub entries_more : (job : ℕ) (asks : List AskValue) (xs : List (Option ℕ)) (a : AskValue) (x : Option ℕ) →
    length asks ≡ length xs →
    answered_entries job (asks ++ a ∷ []) (xs ++ x ∷ []) ≡ answered_entries job asks xs ++ record {
      job = job;
      given = Answered a.provider a.object a.round x;
    } ∷ []
entries_more job [] [] a x same = refl
entries_more job (b ∷ asks) (y ∷ xs) a x same =
    ap (λ l. record { job = job; given = Answered b.provider b.object b.round y } ∷ l)
    (entries_more job asks xs a x (omega arith))
entries_more job _ _ a x same = absurd (omega (arith, same))

-- no answer of a round yet
pub none_answered : (x : Round) (symbols : List (Option ℕ)) (given : List Given) → symbols ≡ symbols ++ [] →
    HasAnswered x 0 symbols given
none_answered x symbols given e =
    record { before = symbols; now = []; older = given; symbols_is = e; count = refl; given_is = refl }

-- one answer more of the round in work
pub answered_more : (x : Round) (c : ℕ) (symbols : List (Option ℕ)) (given : List Given) (symbol : Option ℕ) →
    HasAnswered x c symbols given
    → HasAnswered x (c + 1) (symbols ++ symbol ∷ []) (Answered c x.file.id x.number symbol ∷ given)
answered_more x c symbols given symbol has =
    let count : 0 + length has.now ≡ c = omega (arith, has.count) in
    record {
      before = has.before;
      now = has.now ++ symbol ∷ [];
      older = has.older;
      symbols_is = ap (λ (l : List (Option ℕ)). l ++ symbol ∷ []) has.symbols_is
          ∙ append_assoc has.before has.now (symbol ∷ []);
      count = length-append has.now (symbol ∷ []) ∙ ap (λ (m : ℕ). m + 1) has.count;
      given_is = (λ i. Answered ((sym count) i) x.file.id x.number symbol ∷ has.given_is i)
          ∙ sym (gifts_more x.file.id x.number 0 has.now symbol has.older);
    }

-- the last answers are those of the round
pub last_given : (x : Round) (n : ℕ) (symbols : List (Option ℕ)) (given : List Given) →
    HasAnswered x n symbols given → last_answers n symbols ≡ answers_given given n x.file.id x.number
last_given x n symbols given has =
    let at : length symbols - n ≡ length has.before =
    omega (arith, ap length has.symbols_is, length-append has.before has.now, has.count) in
    (λ i. drop (at i) (has.symbols_is i)) ∙ drop-append_seam has.before has.now
    ∙ sym (gifts_give x.file.id x.number 0 has.now has.older)
    ∙ (λ i. map (answer_given ((sym has.given_is) i) x.file.id x.number) (range_with_len 0 (has.count i)))

-- an audit has at least as many answers as its round in work
pub enough_answers : (x : Round) (c : ℕ) (symbols : List (Option ℕ)) (given : List Given) →
    HasAnswered x c symbols given → c ≤ length symbols
enough_answers x c symbols given has =
    omega (arith, ap length has.symbols_is, length-append has.before has.now, has.count)

-- ---- rounds one after the other

-- a round that is not before round r of file o
abbrev pub AtLeast : ℕ → ℕ → Round → Type 0
AtLeast o r x = (o ≤ x.file.id) × (o ≡ x.file.id → r ≤ x.number)

-- rounds that come one after the other, from round r of file o on
abbrev pub Rising : ℕ → ℕ → List Round → Type 0
Rising o r [] = Unit {0}
Rising o r (x ∷ xs) = AtLeast o r x × Rising x.file.id (x.number + 1) xs

-- none of these is round r of file o
abbrev pub ApartFrom : ℕ → ℕ → List Round → Type 0
ApartFrom o r [] = Unit {0}
ApartFrom o r (y ∷ ys) = (y.file.id ≡ o → y.number ≡ r → ⊥) × ApartFrom o r ys

later : (o r : ℕ) (y x : Round) → AtLeast o r y → AtLeast y.file.id (y.number + 1) x → AtLeast o r x
later o r y x a b = (
  omega (arith, a.0, b.0),
  λ e.
      let u = a.1 (omega (arith, a.0, b.0, e)) in
      let v = b.1 (omega (arith, a.0, b.0, e)) in
      omega arith,
)

behind : (o r : ℕ) (ys : List Round) (x : Round) (xs : List Round) → Rising o r (ys ++ x ∷ xs) → AtLeast o r x
behind o r [] x xs h = h.0
behind o r (y ∷ ys) x xs h = later o r y x h.0 (behind y.file.id (y.number + 1) ys x xs h.1)

-- of rounds in order, none is the same as one before it
pub apart : (o r : ℕ) (ys : List Round) (x : Round) (xs : List Round) → Rising o r (ys ++ x ∷ xs) →
    ApartFrom x.file.id x.number ys
apart o r [] x xs h = tt
apart o r (y ∷ ys) x xs h =
    (differ (behind y.file.id (y.number + 1) ys x xs h.1), apart y.file.id (y.number + 1) ys x xs h.1)
  where
    differ : AtLeast y.file.id (y.number + 1) x → y.file.id ≡ x.file.id → y.number ≡ x.number → ⊥
    differ a e f = (let v = a.1 e in omega (arith, v, f))

lower : (o a : ℕ) (xs : List Round) → Rising (o + 1) 0 xs → Rising o a xs
lower o a [] h = tt
lower o a (x ∷ xs) h = ((omega (arith, h.0.0), λ e. absurd (omega (arith, h.0.0, e))), h.1)

from_low : (low o : ℕ) (xs : List Round) → low ≤ o → Rising o 0 xs → Rising low 0 xs
from_low low o [] le h = tt
from_low low o (x ∷ xs) le h = ((omega (arith, h.0.0, le), λ e. omega arith), h.1)

abbrev round_of : Pinned → ℕ → Round
round_of f r = record { file = f; number = r }

range_rising : (f : Pinned) (m a : ℕ) (xs : List Round) → Rising (f.id + 1) 0 xs →
    Rising f.id a (map (round_of f) (range_with_len a m) ++ xs)
range_rising f zero a xs h = lower f.id a xs h
range_rising f (suc m) a xs h = ((omega arith, λ e. omega arith), range_rising f m (a + 1) xs h)

module _ (s : Setup) where
  -- the rounds of files in ascending order are in order
  pub rounds_rise : (low : ℕ) (fs : List Pinned) → AreAscending low fs → Rising low 0 (rounds_in s fs)
  rounds_rise low [] h = tt
  rounds_rise low (f ∷ fs) h = from_low low f.id (rounds_in s (f ∷ fs)) h.0
      (elim (cases_Bool (stripes_of (profiled s f.profile) (length f.bytes) == 0)) [
        | inl t ↦ subst (λ (rs : List ℕ). Rising f.id 0 (map (round_of f) rs ++ rounds_in s fs))
            (sym (cond_true (stripes_of (profiled s f.profile) (length f.bytes) == 0) [] (upto s.rounds) t))
            (lower f.id 0 (rounds_in s fs) (rounds_rise (f.id + 1) fs h.1))
        | inr t ↦ subst (λ (rs : List ℕ). Rising f.id 0 (map (round_of f) rs ++ rounds_in s fs))
            (sym (cond_false (stripes_of (profiled s f.profile) (length f.bytes) == 0) [] (upto s.rounds) t))
            (range_rising f s.rounds 0 (rounds_in s fs) (rounds_rise (f.id + 1) fs h.1))
      ])

  -- ---- the files of rounds

  -- a round of a file that has rows
  pub record IsRound (P : Pinned → Type 0) (x : Round) : Type 0 where
    pub file : P x.file
    pub rows : 1 ≤ stripes_of (profiled s x.file.profile) (length x.file.bytes)

  map_round : (P : Pinned → Type 0) (f : Pinned) (rs : List ℕ) → P f →
      1 ≤ stripes_of (profiled s f.profile) (length f.bytes) → Each (IsRound P) (map (round_of f) rs)
  map_round P f [] p some = tt
  map_round P f (r ∷ rs) p some = (record { file = p; rows = some }, map_round P f rs p some)

  -- each round is of a file with rows for which holds what holds for all files
  pub each_round : (P : Pinned → Type 0) (fs : List Pinned) → Each P fs → Each (IsRound P) (rounds_in s fs)
  each_round P [] h = tt
  each_round P (f ∷ fs) h = each_append (IsRound P)
      (map (round_of f) (rounds_of (profiled s f.profile) (length f.bytes))) (rounds_in s fs)
      (elim (cases_Bool (stripes_of (profiled s f.profile) (length f.bytes) == 0)) [
        | inl t ↦ subst (λ (rs : List ℕ). Each (IsRound P) (map (round_of f) rs))
            (sym (cond_true (stripes_of (profiled s f.profile) (length f.bytes) == 0) [] (upto s.rounds) t))
            tt
        | inr t ↦ map_round P f (rounds_of (profiled s f.profile) (length f.bytes)) h.0
            (positive (stripes_of (profiled s f.profile) (length f.bytes))
            (eqb-false (stripes_of (profiled s f.profile) (length f.bytes)) 0 t))
      ]) (each_round P fs h.1)
    where
      positive : (a : ℕ) → (a ≡ 0 → ⊥) → 1 ≤ a
      positive zero h = absurd (h refl)
      positive (suc a) h = omega arith

  length_map : (f : Pinned) (rs : List ℕ) → length (map (round_of f) rs) ≡ length rs
  length_map f [] = refl
  length_map f (r ∷ rs) = ap suc (length_map f rs)

  -- the rounds are no more than the setup's rounds for each file
  pub few_rounds : (fs : List Pinned) → length (rounds_in s fs) ≤ length fs * s.rounds
  few_rounds [] = omega arith
  few_rounds (f ∷ fs) =
      let a = length-append (map (round_of f) (rounds_of (profiled s f.profile) (length f.bytes)))
      (rounds_in s fs) in
      let b = length_map f (rounds_of (profiled s f.profile) (length f.bytes)) in
      let c = rounds_few (profiled s f.profile) (length f.bytes) in
      let d = few_rounds fs in
      let e : (1 + length fs) * s.rounds ≡ s.rounds + length fs * s.rounds = grind arith in
      omega (arith, a, b, c, d, e)

-- each number of an ascending list is at least the lowest
pub above : (b low : ℕ) (fs : List Pinned) → b ≤ low → AreAscending low fs → Each (λ (f : Pinned). b ≤ f.id) fs
above b low [] le h = tt
above b low (f ∷ fs) le h = (omega (arith, le, h.0), above b (f.id + 1) fs (omega (arith, le, h.0)) h.1)

-- two facts of each file give a third of each
pub each_both : (A B C : Pinned → Type 0) (fs : List Pinned) → ((f : Pinned) → A f → B f → C f) → Each A fs →
    Each B fs → Each C fs
each_both A B C [] h a b = tt
each_both A B C (f ∷ fs) h a b = (h f a.0 b.0, each_both A B C fs h a.1 b.1)

-- the length of each file is found by its number
pub sizes_found : (low : ℕ) (fs : List Pinned) → AreAscending low fs →
    Each (λ (f : Pinned). pinned_size fs f.id ≡ length f.bytes) fs
sizes_found low [] h = tt
sizes_found low (g ∷ fs) h = (
  cond_true (g.id == g.id) (length g.bytes) (pinned_size fs g.id) (eq-eqb g.id g.id refl),
  each_both (λ f. pinned_size fs f.id ≡ length f.bytes) (λ f. g.id + 1 ≤ f.id)
      (λ f. pinned_size (g ∷ fs) f.id ≡ length f.bytes) fs (λ f found far. cond_false (g.id == f.id)
      (length g.bytes) (pinned_size fs f.id) (ne_eqb g.id f.id (λ e. absurd (omega arith))) ∙ found)
      (sizes_found (g.id + 1) fs h.1) (above (g.id + 1) (g.id + 1) fs (omega arith) h.1),
)

lift : (A B : Pinned → Type 0) (fs : List Pinned) → ((f : Pinned) → A f → B f) → Each A fs → Each B fs
lift A B [] h a = tt
lift A B (f ∷ fs) h a = (h f a.0, lift A B fs h a.1)

-- a list contains each of its files
pub contains_each : (fs : List Pinned) → Each (Contains fs) fs
contains_each [] = tt
contains_each (f ∷ fs) = (
  (0, omega arith, refl),
  lift (Contains fs) (Contains (f ∷ fs)) fs (λ g c. (suc c.0, omega (arith, c.1), c.2)) (contains_each fs),
)

-- ---- the sums

both_false : (a b c : Bool) → (b ≡ true → c ≡ true → ⊥) → (a && b && c) ≡ false
both_false true true true h = absurd (h refl refl)
both_false _ _ _ h = refl

-- an answer of another round does not change those of this one
given_other : (k o r : ℕ) (symbol : Option ℕ) (given : List Given) (p t : ℕ) → (p ≡ o → t ≡ r → ⊥) →
    (js : List ℕ)
    → map (answer_given (Answered k o r symbol ∷ given) p t) js ≡ map (answer_given given p t) js
given_other k o r symbol given p t other [] = refl
given_other k o r symbol given p t other (j ∷ js) =
    (λ i. one i ∷ given_other k o r symbol given p t other js i)
  where
    one : answer_given (Answered k o r symbol ∷ given) p t j ≡ answer_given given p t j
    one = cond_false ((k == j) && (o == p) && (r == t)) symbol (answer_given given p t j)
        (both_false (k == j) (o == p) (r == t) (λ a b. other (sym (eqb-true o p a)) (sym (eqb-true r t b))))

module _ (s : Setup) (job : Job) where
  -- the sums of other rounds are as before an answer
  pub judges_still : (k o r : ℕ) (symbol : Option ℕ) (xs : List Round) (old new : Sums) → ApartFrom o r xs →
      JudgesEach s job xs old new → JudgesEach s (advanced_with job (Answered k o r symbol)) xs old new
  judges_still k o r symbol [] old new far h = h
  judges_still k o r symbol (x ∷ xs) old new far h = (
    h.0,
    (rw (← (given_other k o r symbol job.given x.file.id x.number far.0 (upto s.n))) at h.1),
    judges_still k o r symbol xs h.0 new far.1 h.2,
  )

  -- one round more
  pub judges_more : (xs : List Round) (x : Round) (old mid new : Sums) → JudgesEach s job xs old mid →
      JudgesRound s job x.file x.number mid new → JudgesEach s job (xs ++ x ∷ []) old new
  judges_more [] x old mid new is j = (new, (rw is at j), refl)
  judges_more (y ∷ ys) x old mid new h j = (h.0, h.1, judges_more ys x h.0 mid new h.2 j)

  split : (xs ys : List Round) (old new : Sums) → JudgesEach s job (xs ++ ys) old new →
      (mid : Sums) × JudgesEach s job xs old mid × JudgesEach s job ys mid new
  split [] ys old new h = (old, refl, h)
  split (x ∷ xs) ys old new h = (let r = split xs ys h.0 new h.2 in (r.0, (h.0, h.1, r.1), r.2))

  as_rounds : (f : Pinned) (rs : List ℕ) (old new : Sums) → JudgesEach s job (map (round_of f) rs) old new →
      JudgesRounds s job f rs old new
  as_rounds f [] old new h = h
  as_rounds f (r ∷ rs) old new h = (h.0, h.1, as_rounds f rs h.0 new h.2)

  -- the rounds of all files are those of each
  pub as_files : (fs : List Pinned) (old new : Sums) → JudgesEach s job (rounds_in s fs) old new →
      JudgesFiles s job fs old new
  as_files [] old new h = h
  as_files (f ∷ fs) old new h =
      let r = split (map (round_of f) (rounds_of (profiled s f.profile) (length f.bytes)))
      (rounds_in s fs) old new h in (
        r.0,
        as_rounds f (rounds_of (profiled s f.profile) (length f.bytes)) old r.0 r.1,
        as_files fs r.0 new r.2,
      )

-- no count exceeds the number of rounds
pub record Within (rounds : ℕ) (sums : Sums) : Type 0 where
  pub counts : Each (λ count. count ≤ rounds) sums.counts
  pub undecided : sums.undecided ≤ rounds

module _ (s : Setup) (job : Job) where
  judged_within : (k : ℕ) (f : Pinned) (round : ℕ) (old new : Sums) → Within k old →
      JudgesRound s job f round old new → Within (k + 1) new
  judged_within k f round old new w (inl (p, decides, is)) = subst (Within (k + 1)) (sym is) (record {
    counts = counts_after-within k p (points (object_of (profiled s f.profile) f.id))
        (bare_answers (object_of (profiled s f.profile) f.id)
        (challenge_in (profiled s f.profile) job f.id (length f.bytes) round) 0
        (answers_given job.given s.n f.id round)) old.counts w.counts;
    undecided = omega (arith, w.undecided);
  })
  judged_within k f round old new w (inr (none, is)) = subst (Within (k + 1)) (sym is) (record {
    counts = each_at_most k (k + 1) old.counts (omega arith) w.counts;
    undecided = omega (arith, w.undecided);
  })

  all_within : (k : ℕ) (xs : List Round) (old new : Sums) → Within k old → JudgesEach s job xs old new →
      Within (k + length xs) new
  all_within k [] old new w is = subst (Within (k + 0)) (sym is) (record {
    counts = each_at_most k (k + 0) old.counts (omega arith) w.counts;
    undecided = omega (arith, w.undecided);
  })
  all_within k (x ∷ xs) old new w h =
      (let r = all_within (k + 1) xs h.0 new (judged_within k x.file x.number old h.0 w h.1) h.2 in
      record {
        counts = each_at_most (k + 1 + length xs) (k + length (x ∷ xs)) new.counts (omega arith) r.counts;
        undecided = omega (arith, r.undecided);
      })

  -- the sums of an audit count no more than its rounds
  pub sums_within : (xs : List Round) (sums : Sums) → JudgesEach s job xs (empty_sums s) sums →
      Within (length xs) sums
  sums_within xs sums h = rw (let e : 0 + length xs ≡ length xs = omega arith in e) at
      (all_within 0 xs (empty_sums s) sums (record { counts = each_zero s.n; undecided = omega arith }) h)

-- ---- the last ask

abbrev moves_to_end : List Action
moves_to_end = append_actions ++ End ∷ []

not_move : (p : ℕ) (j o r : ℕ) (more : List Action) → drop p (append_actions ++ End ∷ []) ≡ Ask j o r ∷ more →
    ⊥
not_move (suc (suc (suc (suc (suc p))))) j o r more e = omega (
  arith,
  ap (λ l. length l) e,
  length-drop (suc (suc (suc (suc (suc p))))) (append_actions ++ End ∷ []),
)
not_move _ j o r more e = (let f : ⊥ = cc in f)

-- behind the last ask come the moves of the second append, and the end
after_asks : (asks : List Action) → Each IsAnAsk asks → (p j o r : ℕ) (more : List Action) →
    drop p (asks ++ moves_to_end) ≡ Ask j o r ∷ WriteBody ∷ more →
    drop (suc p) (asks ++ moves_to_end) ≡ moves_to_end
unfolding IsAnAsk
after_asks [] all p j o r more e = absurd (not_move p j o r (WriteBody ∷ more) e)
after_asks (a ∷ asks) all (suc p) j o r more e = after_asks asks all.1 p j o r more e
after_asks (a ∷ []) all zero j o r more e = refl
after_asks (a ∷ b ∷ asks) all zero j o r more e =
    absurd (false≢true (subst IsAnAsk (let f : b ≡ WriteBody = cc in f) all.1.0))

-- behind the last ask of an audit comes its last append
pub behind_last : (asks : List Action) → Each IsAnAsk asks → (p j o r : ℕ) (more : List Action) →
    drop p (append_actions ++ (asks ++ (append_actions ++ End ∷ []))) ≡ Ask j o r ∷ WriteBody ∷ more
    → drop (suc p) (append_actions ++ (asks ++ (append_actions ++ End ∷ []))) ≡ append_actions ++ End ∷ []
behind_last asks all (suc (suc (suc (suc p)))) j o r more e = after_asks asks all p j o r more e
behind_last asks all _ j o r more e = absurd (let f : ⊥ = cc in f)

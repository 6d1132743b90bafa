-- What stays of a job, and of its list of actions, when it makes one of them.
use Rattle.second_half_laws.proofs.Words.{◌-◌, ◌⊎◌, refl, ap, sym, subst, ◌∙◌, inl, inr, arith, slice_get, cases_lt, each_get, Setup, Kind, PutJob, DropJob, Given, Job, advanced, advanced_with, Action, SyncGate, End, append_actions, store_actions, remove_actions, actions_by, actions_of, State, setup_in, subject_drawn, taken_out, next_action, first_above, drawn_later, split_get, actions_are, PutAt, put_next, next_stands}
use Rattle.std.proofs.Common.{◌≡◌, ℕ, zero, suc, ◌+◌, ◌<◌, ◌≤◌, List, [], ◌∷◌, ◌++◌, length, Some}
use Rattle.second_half_laws.proofs.Walk.{Passed}
use Rattle.second_half_laws.proofs.Places.{by_kind, tail_all}

-- one job, earlier and now
pub record Later (x j : Job) : Type 0 where
  pub number : x.number ≡ j.number
  pub kind : x.kind ≡ j.kind
  pub profile : x.profile ≡ j.profile
  pub begun : x.begun ≡ j.begun
  pub pinned : x.pinned ≡ j.pinned
  pub flagged : x.flagged ≡ j.flagged
  pub subject : 4 ≤ x.place → x.subject ≡ j.subject
  pub place : x.place ≤ j.place
  pub more : List Given
  pub given : j.given ≡ more ++ x.given

-- what a job is with more given to it, at a later place
pub later_by : (x : Job) (subject : ℕ) (older : List ℕ) (place : ℕ) (more : List Given) → x.place ≤ place →
    (4 ≤ x.place → x.subject ≡ subject) →
    Later x (record x { subject = subject; older = older; place = place; given = more ++ x.given })
later_by x subject older place more l same = record {
  number = refl;
  kind = refl;
  profile = refl;
  begun = refl;
  pinned = refl;
  flagged = refl;
  subject = same;
  place = l;
  more = more;
  given = refl;
}

-- each job is itself, at a later moment
pub later_same : (x : Job) → Later x x
later_same x = later_by x x.subject x.older x.place [] (omega arith) (λ l. refl)

-- it is the same job with one more action made
pub later_advanced : (x : Job) → Later x (advanced x)
later_advanced x = later_by x x.subject x.older (x.place + 1) [] (omega arith) (λ l. refl)

on_to : (x y j : Job) → j ≡ y → Later x y → Later x j
on_to x y j is h = rw (← is) at h

-- a job that has made an action is the same job, later
pub passed_later : (old : State) (x : Job) (action : Action) (new : State) (j : Job) →
    Passed old x action new j → Later x j
passed_later old x action new j (Passed.silent quiet is rec) = on_to x (advanced x) j is (later_advanced x)
passed_later old x action new j (Passed.gave gift is_gift is rec) = on_to x (advanced_with x gift) j is
    (later_by x x.subject x.older (x.place + 1) (gift ∷ []) (omega arith) (λ l. refl))
passed_later old x action new j (Passed.drew act is rec) =
    on_to x (record (advanced x) { subject = subject_drawn old x x.kind }) j is
    (later_by x (subject_drawn old x x.kind) x.older (x.place + 1) [] (omega arith)
    (λ l. sym (drawn_later old x x.kind (first_above x l))))
passed_later old x action new j (Passed.finished a act flight mine is rec) =
    on_to x (record (advanced x) { older = taken_out old x x.kind }) j is
    (later_by x x.subject (taken_out old x x.kind) (x.place + 1) [] (omega arith) (λ l. refl))

-- a job that has made an action stands at the next place
pub passed_place : (old : State) (x : Job) (action : Action) (new : State) (j : Job) →
    Passed old x action new j → j.place ≡ x.place + 1
passed_place old x action new j (Passed.silent quiet is rec) = cc
passed_place old x action new j (Passed.gave gift is_gift is rec) = cc
passed_place old x action new j (Passed.drew act is rec) = cc
passed_place old x action new j (Passed.finished a act flight mine is rec) = cc

-- an end is not passed
pub passed_not_end : (old : State) (x : Job) (action : Action) (new : State) (j : Job) →
    Passed old x action new j → action ≡ End → ⊥
passed_not_end old x action new j (Passed.silent quiet is rec) e = rw e at quiet
passed_not_end old x action new j (Passed.gave gift is_gift is rec) e = (rw e at is_gift)
passed_not_end old x action new j (Passed.drew act is rec) e = cc (sym act ∙ e)
passed_not_end old x action new j (Passed.finished a act flight mine is rec) e = (cc (sym act ∙ e))

-- ---- lists that begin alike

same_front : {X : Type 0} (xs ys zs : List X) (p n : ℕ) → p < length xs + n →
    ((q : ℕ) → q < n → slice_get ys q ≡ slice_get zs q) → slice_get (xs ++ ys) p ≡ slice_get (xs ++ zs) p
same_front [] ys zs p n l h = h p (omega (arith, l))
same_front (x ∷ xs) ys zs zero n l h = refl
same_front (x ∷ xs) ys zs (suc p) n l h = same_front xs ys zs p n (omega (arith, l)) h

-- the first four moves, whatever follows
four_same : (ys zs : List Action) (p : ℕ) → p < 4 →
    slice_get (append_actions ++ ys) p ≡ slice_get (append_actions ++ zs) p
four_same ys zs p l =
    same_front append_actions ys zs p 0 (omega (arith, l)) (λ q k. absurd (omega (arith, k)))

-- up to the end of a put's second append
eight_same : (ss ys zs : List Action) (p : ℕ) → p < 8 + length ss →
    slice_get (append_actions ++ (ss ++ (append_actions ++ ys))) p
    ≡ slice_get (append_actions ++ (ss ++ (append_actions ++ zs))) p
eight_same ss ys zs p l = same_front append_actions (ss ++ (append_actions ++ ys))
    (ss ++ (append_actions ++ zs)) p (length ss + 4) (omega (arith, l))
    (λ q k. same_front ss (append_actions ++ ys) (append_actions ++ zs) q 4 k (λ i m. four_same ys zs i m))

-- ---- the list of a job that went on

-- a job with a number drawn
abbrev with_subject : Job → ℕ → Job
with_subject x n = record (advanced x) { subject = n }

-- a job with an older object to take away
abbrev with_older : Job → List ℕ → Job
with_older x l = record (advanced x) { older = l }

subject_first : (s : Setup) (x : Job) (n p : ℕ) (kind : Kind) → p < 4 →
    slice_get (actions_by s (with_subject x n) kind) p ≡ slice_get (actions_by s x kind) p
subject_first s x n p (PutJob name bytes) l = four_same _ _ p l
subject_first s x n p kind l = refl

subject_same : (s : Setup) (x : Job) (n p : ℕ) (kind : Kind) → n ≡ x.subject →
    slice_get (actions_by s (with_subject x n) kind) p ≡ slice_get (actions_by s x kind) p
subject_same s x n p kind e = subst
    (λ m. slice_get (actions_by s (with_subject x m) kind) p ≡ slice_get (actions_by s x kind) p) (sym e) (cc)

older_first : (s : Setup) (x : Job) (l : List ℕ) (p : ℕ) (kind : Kind) → p < 4 →
    slice_get (actions_by s (with_older x l) kind) p ≡ slice_get (actions_by s x kind) p
older_first s x l p (PutJob name bytes) k = four_same _ _ p k
older_first s x l p (DropJob name) k = four_same _ _ p k
older_first s x l p kind k = refl

-- where the fourth moves of a put and a drop stand
gate_within : (w : State) (x : Job) (name bytes : List ℕ) → x.kind ≡ PutJob name bytes →
    next_action w x ≡ Some SyncGate → (x.place < 4) ⊎
    (x.place < 8 + length (store_actions (setup_in w) x bytes))
gate_within w x name bytes kind h = elim (put_next w x name bytes SyncGate kind h) [
  | PutAt.first l e ↦ inl l
  | PutAt.store l m is ↦ absurd is
  | PutAt.second q is l e ↦ inr (omega (arith, is, l))
  | PutAt.after l is ↦ absurd is
]

-- no move and no end
abbrev NoGate : Action → Type 0
NoGate SyncGate = ⊥
NoGate action = Unit {0}

drop_gate : (s : Setup) (x : Job) (name : List ℕ) (p : ℕ) →
    slice_get (actions_by s x (DropJob name)) p ≡ Some SyncGate → p < 4
drop_gate s x name p h = elim (split_get append_actions (remove_actions s x ++ End ∷ []) p SyncGate h) [
  | inl a ↦ a.0
  | inr b ↦ absurd (each_get NoGate (remove_actions s x ++ End ∷ []) (p - 4) SyncGate
      (tail_all s x NoGate (λ j o. tt) tt) b.1)
]

older_same : (w : State) (x : Job) (l : List ℕ) (p : ℕ) (kind : Kind) → x.kind ≡ kind →
    next_action w x ≡ Some SyncGate → p ≤ x.place →
    slice_get (actions_by (setup_in w) (with_older x l) kind) p ≡ slice_get (actions_by (setup_in w) x kind) p
older_same w x l p (PutJob name bytes) kind h k = elim (gate_within w x name bytes kind h) [
  | inl a ↦ older_first (setup_in w) x l p (PutJob name bytes) (omega (arith, a, k))
  | inr b ↦ eight_same (store_actions (setup_in w) x bytes) _ _ p (omega (arith, b, k))
]
older_same w x l p (DropJob name) kind h k = (let at = by_kind (setup_in w) x (DropJob name) x.place SyncGate
    kind (next_stands w x SyncGate h (λ e. cc)) in
    let a = drop_gate (setup_in w) x name x.place at in
    older_first (setup_in w) x l p (DropJob name) (omega (arith, a, k)))
older_same w x l p g kind h k = refl

-- the actions of a job are those of its kind
pub list_is : (s : Setup) (x : Job) → actions_of s x ≡ actions_by s x x.kind
list_is s x = actions_are s x x.kind refl

list_of : (s : Setup) (x y j : Job) (p : ℕ) → j ≡ y →
    slice_get (actions_of s y) p ≡ slice_get (actions_of s x) p →
    slice_get (actions_of s j) p ≡ slice_get (actions_of s x) p
list_of s x y j p is h = cc

by_lists : (s : Setup) (x y : Job) (p : ℕ) → y.kind ≡ x.kind →
    slice_get (actions_by s y x.kind) p ≡ slice_get (actions_by s x x.kind) p →
    slice_get (actions_of s y) p ≡ slice_get (actions_of s x) p
by_lists s x y p is h = cc (actions_are s y x.kind is, list_is s x)

-- up to the place of what it has just made, the list is as before
pub list_before : (old : State) (x : Job) (action : Action) (new : State) (j : Job) (p : ℕ) →
    next_action old x ≡ Some action → Passed old x action new j → p ≤ x.place →
    slice_get (actions_of (setup_in old) j) p ≡ slice_get (actions_of (setup_in old) x) p
list_before old x action new j p next_is (Passed.silent quiet is rec) l =
    list_of (setup_in old) x (advanced x) j p is (by_lists (setup_in old) x (advanced x) p refl (cc))
list_before old x action new j p next_is (Passed.gave gift is_gift is rec) l = list_of (setup_in old) x
    (advanced_with x gift) j p is (by_lists (setup_in old) x (advanced_with x gift) p refl (cc))
list_before old x action new j p next_is (Passed.drew act is rec) l =
    list_of (setup_in old) x (with_subject x (subject_drawn old x x.kind)) j p is
    (by_lists (setup_in old) x (with_subject x (subject_drawn old x x.kind)) p refl (elim (cases_lt p 4) [
      | inl k ↦ subject_first (setup_in old) x (subject_drawn old x x.kind) p x.kind k
      | inr k ↦ subject_same (setup_in old) x (subject_drawn old x x.kind) p x.kind
          (drawn_later old x x.kind (first_above x (omega (arith, k, l))))
    ]))
list_before old x action new j p next_is (Passed.finished a act flight mine is rec) l =
    list_of (setup_in old) x (with_older x (taken_out old x x.kind)) j p is
    (by_lists (setup_in old) x (with_older x (taken_out old x x.kind)) p refl
    (older_same old x (taken_out old x x.kind) p x.kind refl (next_is ∙ ap Some act) l))

-- and there stands what it has made
pub list_now : (old : State) (x : Job) (action : Action) (new : State) (j : Job) →
    next_action old x ≡ Some action → Passed old x action new j →
    slice_get (actions_of (setup_in old) x) x.place ≡ Some action
list_now old x action new j next_is passed =
    next_stands old x action next_is (passed_not_end old x action new j passed)

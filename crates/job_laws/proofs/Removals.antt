-- Calls of one provider after the other, what removals leave, and what jobs keep that fetch nothing.
use Rattle.job_laws.proofs.Words.{◌≡◌, ℕ, zero, suc, ◌+◌, ◌<◌, ◌≤◌, ◌==◌, List, [], ◌∷◌, ◌++◌, length, drop, Option, None, Some, refl, ap, sym, subst, ◌∙◌, inl, inr, arith, option_map, flat_map, range_with_len, cases_eq, eq-eqb, ne_eqb, append-nil, Each, Rose, Goes, Held, Provider, without_object, LosesPart, Removes, StoreCounts, Setup, File, Given, Job, Action, WriteBody, SyncBody, WriteGate, SyncGate, Store, Fetch, Ask, Work, Remove, on_each_provider, remove_actions, removable, State, cond_true, cond_false, DroppedFrom, appends_in, appends-append, With, CallsOne, Did, Made}
use Rattle.std.proofs.Common.{map}
use Rattle.job_laws.proofs.Providers.{Called, calls-at, made-keeps}
use Rattle.job_laws.proofs.Truth.{call-hit, call-miss}
use Rattle.job_laws.proofs.Leaving.{LastCall}

-- before an append one is left
pub left-within : (xs ys : List Action) (p : ℕ) → p < length xs → 0 < appends_in ys →
    0 < appends_in (drop p (xs ++ ys))
left-within [] ys p l h = absurd (omega (arith, l))
left-within (x ∷ xs) ys zero l h = (omega (arith, appends-append (x ∷ xs) ys, h))
left-within (x ∷ xs) ys (suc p) l h = left-within xs ys p (omega (arith, l)) h

-- ---- one action for each provider

module _ (x : With) (f : ℕ → Action) (call : ℕ → Provider → Provider → Type 0)
    (calls : (k : ℕ) (old new : ℕ → Provider) (given now : List Given) → Did x (f k) old new given now →
    CallsOne old k (call k) new) where
  -- providers below the first one are as they were
  row-miss : (j a m : ℕ) (old new : ℕ → Provider) (given now : List Given) → j < a →
      Made x (map f (range_with_len a m)) old new given now → new j ≡ old j
  row-miss j a zero old new given now l m = ap (λ g. g j) m.0
  row-miss j a (suc m) old new given now l (mid, so_far, did, rest) =
      row-miss j (a + 1) m mid new so_far now (omega (arith, l)) rest
      ∙ call-miss old a (call a) mid j (λ e. omega (arith, l, e)) (calls a old mid given so_far did)

  -- each of the others was called once
  pub row-hit : (j a m : ℕ) (old new : ℕ → Provider) (given now : List Given) → a ≤ j → j < a + m →
      Made x (map f (range_with_len a m)) old new given now → call j (old j) (new j)
  row-hit j a zero old new given now l u m = absurd (omega (arith, l, u))
  row-hit j a (suc m) old new given now l u (mid, so_far, did, rest) = elim (cases_eq a j) [
    | inl e ↦ (rw (← (row-miss j (a + 1) m mid new so_far now (omega (arith, e)) rest)) at
        (subst (λ k. call k (old k) (mid k)) e
        (call-hit old a (call a) mid (calls a old mid given so_far did))))
    | inr n ↦ (rw (call-miss old a (call a) mid j n (calls a old mid given so_far did)) at
        (row-hit j (a + 1) m mid new so_far now (omega (arith, l, n)) (omega (arith, u)) rest))
  ]

-- ---- what is told

-- what is told and stays goes by a relation of each to itself
pub goes-same : (R : Held → Held → Type 0) → ((p : Held) → R p p) → (h : Option Held) → Goes R h h
goes-same R same None = tt
goes-same R same (Some p) = same p

-- what is told and goes by one relation and then by another goes by both together
pub goes-more : (R S T : Held → Held → Type 0) → ((p q r : Held) → R p q → S q r → T p r) →
    (a b c : Option Held) → Goes R a b → Goes S b c → Goes T a c
goes-more R S T more None None None g h = tt
goes-more R S T more None (Some q) c g h = absurd g
goes-more R S T more (Some p) None c g h = absurd g
goes-more R S T more (Some p) (Some q) (Some r) g h = more p q r g h
goes-more R S T more q r a g h = absurd h

-- what is told and is changed by a function goes by a relation of each to what it is changed to
pub goes-map : (R : Held → Held → Type 0) (f : Held → Held) → ((p : Held) → R p (f p)) →
    (old new : Option Held) → new ≡ option_map f old → Goes R old new
goes-map R f h None new e = cc
goes-map R f h (Some p) new e = subst (Goes R (Some p)) (sym e) (h p)

-- what is told and goes by a relation goes by a wider one
pub goes-mono : (R S : Held → Held → Type 0) → ((p q : Held) → R p q → S p q) → (a b : Option Held) →
    Goes R a b → Goes S a b
goes-mono R S f None None g = tt
goes-mono R S f (Some p) (Some q) g = f p q g
goes-mono R S f q a g = absurd g

-- ---- a removal

gone-all : (o : ℕ) (rose : Type 0) (p : Held) → DroppedFrom o rose p (without_object o p)
gone-all o rose p = record {
  gone = λ t. inl (cond_true (o == o) None (p o t) (eq-eqb o o refl));
  others = λ other t n. cond_false (other == o) None (p other t) (ne_eqb other o n);
}

gone-part : (o : ℕ) (rose : Type 0) (p q : Held) → rose → LosesPart o p q → DroppedFrom o rose p q
gone-part o rose p q r lost = record {
  gone = λ t. elim (lost o t) [ inl same ↦ inr (r, same) | inr none ↦ inl none.1 ];
  others = λ other t n. elim (lost other t) [ inl same ↦ same | inr none ↦ absurd (n none.0) ];
}

-- what is held after a removal, done or failed
removal-goes : (o : ℕ) (old new : Provider) → Removes o old new →
    Goes (DroppedFrom o (Rose old.other_faults new.other_faults)) old.held new.held
removal-goes o old new (inl c) = goes-map (DroppedFrom o (Rose old.other_faults new.other_faults))
    (without_object o) (gone-all o (Rose old.other_faults new.other_faults)) old.held new.held c.held
removal-goes o old new (inr c) = goes-mono (LosesPart o)
    (DroppedFrom o (Rose old.other_faults new.other_faults))
    (λ p q l. gone-part o (Rose old.other_faults new.other_faults) p q c.cause l) old.held new.held c.held

-- the same, over a longer time
pub dropped-over : (o : ℕ) (a b : Type 0) (p q : Held) → (a → b) → DroppedFrom o a p q → DroppedFrom o b p q
dropped-over o a b p q f d =
    record {
      gone = λ t. elim (d.gone t) [ inl none ↦ inl none | inr same ↦ inr (f same.0, same.1) ];
      others = d.others;
    }

-- removals of an object from all providers
removals-go : (x : With) (o n : ℕ) (old new : ℕ → Provider) (given now : List Given) (j : ℕ) → j < n →
    Made x (map (λ k. Remove k o) (range_with_len 0 n)) old new given now →
    Goes (DroppedFrom o (Rose (old j).other_faults (new j).other_faults)) (old j).held (new j).held
removals-go x o n old new given now j l m = removal-goes o (old j) (new j)
    (row-hit x (λ k. Remove k o) (λ k. Removes o) (λ k a b g h did. did.0) j 0 n old new given now
    (omega arith) (omega (arith, l)) m)

-- ---- jobs that fetch nothing

-- an action that neither fetches nor asks, nor works on what was fetched
abbrev pub IsWriting : Action → Type 0
IsWriting (Fetch j o t) = ⊥
IsWriting (Ask j o r) = ⊥
IsWriting (Work o t) = ⊥
IsWriting action = Unit {0}

-- actions that only write leave the count of fetches
pub writing-fetches : (x : With) (xs : List Action) (old new : ℕ → Provider) (given now : List Given)
    (i : ℕ) → Each IsWriting xs → Made x xs old new given now → (new i).fetches ≡ (old i).fetches
writing-fetches x xs old new given now i e m = made-keeps x i (λ p q. q.fetches ≡ p.fetches) IsWriting
    (λ p. refl) (λ p q r a b. b ∙ a) step xs old new given now e m
  where
    step : (a : Action) (given now : List Given) (p q : Provider) → IsWriting a → Called x a given now i p q →
        q.fetches ≡ p.fetches
    step (Store j o t) given now p q u (e, c, is) = c.counts.fetches
    step (Remove j o) given now p q u (e, inl c, is) = c.counts.fetches
    step (Remove j o) given now p q u (e, inr c, is) = c.counts.fetches
    step (Fetch j o t) given now p q u c = absurd u
    step (Ask j o r) given now p q u c = absurd u
    step a given now p q u c = absurd c

-- the last step leaves what providers hold, and fetches nothing
pub last-keeps : (action : Action) (w new : State) (i : ℕ) → LastCall action w new →
    ((new.providers i).held ≡ (w.providers i).held) × ((new.providers i).fetches ≡ (w.providers i).fetches)
last-keeps action w new i (LastCall.none is) = (cc, cc)
last-keeps action w new i (LastCall.store k o t at call) =
    elim (calls-at w.providers k (λ p q. (q.held ≡ p.held) × StoreCounts p q) new.providers i call) [
      | inl e ↦ (cc, cc)
      | inr c ↦ (c.1.0, c.1.1.fetches)
    ]

-- moves of an append change nothing of providers
pub moves-made : (x : With) (old new : ℕ → Provider) (given now : List Given) →
    Made x (WriteBody ∷ SyncBody ∷ WriteGate ∷ SyncGate ∷ []) old new given now → new ≡ old
moves-made x old new given now (a, ga, da, (b, gb, db, (c, gc, dc, (d, gd, dd, last)))) = cc

-- ---- the removals of a put or a drop

-- each provider's blocks of an older object are gone; without one nothing is
abbrev pub OlderGoes : Option File → Provider → Provider → Type 0
OlderGoes None p q = q.held ≡ p.held
OlderGoes (Some f) p q = Goes (DroppedFrom f.id (Rose p.other_faults q.other_faults)) p.held q.held

-- a put's or a drop's removals take the older object away from each provider, or a count rose
pub older-goes : (x : With) (start : State) (s : Setup) (job : Job) (older : Option File)
    (old new : ℕ → Provider) (given now : List Given) (j : ℕ) → start.jobs ≡ [] →
    job.older ≡ removable start older → j < s.n →
    Made x (remove_actions s job) old new given now → OlderGoes older (old j) (new j)
older-goes x start s job older old new given now j idle is below m = by_file older is
  where
    list : (os : List ℕ) → job.older ≡ os →
        Made x (flat_map (λ object. on_each_provider s (λ k. Remove k object)) os) old new given now
    list os e = (rw e at m)

    by_file : (o : Option File) → job.older ≡ removable start o → OlderGoes o (old j) (new j)
    by_file None e = cc ((list [] e).0)
    by_file (Some f) e = removals-go x f.id s.n old new given now j below
        (rw (append-nil (on_each_provider s (λ k. Remove k f.id))) at (list (f.id ∷ []) (cc)))

-- A replay as its text and what it wrote tell it, with the blocks that its scrubs found.
use Rattle.stories.proofs.Words.{◌≡◌, ℕ, suc, List, [], ◌∷◌, ◌++◌, length, refl, ap, sym, subst, ◌∙◌, inl, inr, arith, append_assoc, reverse, Some, AllByRecursion, reverse-reverse, Scrubbed, Kind, IsToldButBlocks, IsButBlocks, AreButBlocks, AreOverFor, NoneIsBegun, done_by, GotBack, ByScrubs, put_is_got_later, Answer, Ended, heard_in, Once, RunJob, CarriesOut, NoneCalls, IsToldAnswer, lines_of_all, Seen, Ending, called_behind, WasTold, WentOn}
use Rattle.machine_defs.specs.Events.{BeginScrub}
use Rattle.effect_laws.proofs.Scrubs.{whole}
use Rattle.stories.specs.Words.{Outcome, Begun, Moment, IsRun, State, Instruction}
use Rattle.stories.specs.Told.{IsGotBack}
use Rattle.stories.proofs.Said.{written-as}

-- what a replay has done is what was written of it
pub was-told : (commands : List Instruction) (outcomes : List Outcome) (start : State) (ms : List Moment)
    (old new : Seen) (end : Ending) (taken : List ℕ) → WentOn start ms (reverse commands) old new end →
    NoneCalls commands → old.sink ≡ Some taken → new.sink ≡ Some (taken ++ lines_of_all outcomes) →
    length outcomes ≡ length commands → AllByRecursion IsToldButBlocks outcomes →
    (own : List Outcome) × AreButBlocks own outcomes × WasTold commands own start ms new end
was-told commands outcomes start ms old new end taken W calls before behind many told =
    (let C = subst (λ cs. CarriesOut cs W.later W.lines) (reverse-reverse commands) W.carried_out in
    let R = whole 8 start (called_behind start ms) W.later commands W.lines outcomes
    (omega arith, omega arith) W.left.starts W.left.run calls C told many
    (written-as old.sink new.sink W.lines taken (lines_of_all outcomes) W.written before behind) in (
      R.0,
      R.1,
      record { later = W.later; reads = R.2; left = W.left; heard = W.heard; headline = W.headline },
    ))

-- ---- outcomes that are told but for blocks

pub but-cons : (own : List Outcome) (s : Outcome) (ss : List Outcome) → AreButBlocks own (s ∷ ss) →
    (r : Outcome) × (rs : List Outcome) × (own ≡ r ∷ rs) × IsButBlocks r s × AreButBlocks rs ss
but-cons [] s ss h = absurd h
but-cons (r ∷ rs) s ss h = (r, rs, refl, h.0, h.1)

-- those of which the newest stand apart
pub record ButApart (own xs ys : List Outcome) : Type 0 where
  pub first : List Outcome
  pub rest : List Outcome
  pub is : own ≡ first ++ rest
  pub as_many : length first ≡ length xs
  pub firsts : AreButBlocks first xs
  pub rests : AreButBlocks rest ys

pub but-apart : (own xs ys : List Outcome) → AreButBlocks own (xs ++ ys) → ButApart own xs ys
but-apart own [] ys h =
    record { first = []; rest = own; is = refl; as_many = refl; firsts = tt; rests = h }
but-apart [] (x ∷ xs) ys h = absurd h
but-apart (r ∷ own) (x ∷ xs) ys h = (let P = but-apart own xs ys h.1 in record {
  first = r ∷ P.first;
  rest = P.rest;
  is = ap (λ l. r ∷ l) P.is;
  as_many = ap suc P.as_many;
  firsts = (h.0, P.firsts);
  rests = P.rests;
})

but-told : (r : Outcome) (how : Answer) → IsToldAnswer how → IsButBlocks r (Ended how) → r ≡ Ended how
but-told r (Scrubbed a xs ys) told h = absurd told
but-told r how told h = h

-- a job that began and ended, with outcomes behind it and before it
pub record HasJob (own xs ys : List Outcome) (r : Outcome) (n : ℕ) : Type 0 where
  pub behind : List Outcome
  pub before : List Outcome
  pub is : own ≡ behind ++ r ∷ Begun n ∷ before
  pub as_many : length behind ≡ length xs
  pub rests : AreButBlocks before ys

told-apart : (own xs ys : List Outcome) (s : Outcome) (n : ℕ) → AreButBlocks own (xs ++ s ∷ Begun n ∷ ys) →
    (r : Outcome) × HasJob own xs ys r n × IsButBlocks r s
told-apart own xs ys s n h = (let A = but-apart own xs (s ∷ Begun n ∷ ys) h in
    let B = but-cons A.rest s (Begun n ∷ ys) A.rests in
    let C = but-cons B.1 (Begun n) ys B.4 in
    let e : C.0 ≡ Begun n = C.3 in (
      B.0,
      record {
        behind = A.first;
        before = C.1;
        is = cc (A.is, B.2, C.2);
        as_many = A.as_many;
        rests = C.4;
      },
      B.3,
    ))

-- that of a job ended as told
pub job-told : (own xs ys : List Outcome) (how : Answer) (n : ℕ) → IsToldAnswer how →
    AreButBlocks own (xs ++ Ended how ∷ Begun n ∷ ys) → HasJob own xs ys (Ended how) n
job-told own xs ys how n told h = (let T = told-apart own xs ys (Ended how) n h in
    subst (λ r. HasJob own xs ys r n) (but-told T.0 how told T.2) T.1)

-- that of a scrub, with blocks of its own
pub scrub-told : (own xs ys : List Outcome) (stripes : ℕ) (symbols blocks : List ℕ) (n : ℕ) →
    AreButBlocks own (xs ++ Ended (Scrubbed stripes symbols blocks) ∷ Begun n ∷ ys) →
    (found : List ℕ) × HasJob own xs ys (Ended (Scrubbed stripes symbols found)) n
scrub-told own xs ys stripes symbols blocks n h =
    (let T = told-apart own xs ys (Ended (Scrubbed stripes symbols blocks)) n h in
    (T.2.0, subst (λ r. HasJob own xs ys r n) T.2.1 T.1))

-- an outcome among those that are told is told, and so is what came before it
pub told-among : (xs : List Outcome) (s : Outcome) (ys : List Outcome) →
    AllByRecursion IsToldButBlocks (xs ++ s ∷ ys) → IsToldButBlocks s × AllByRecursion IsToldButBlocks ys
told-among [] s ys all = all
told-among (x ∷ xs) s ys all = told-among xs s ys all.1

-- one that ended last
pub last-told : (own ys : List Outcome) (how : Answer) (n : ℕ) → IsToldAnswer how →
    AreButBlocks own (Ended how ∷ Begun n ∷ ys) →
    (before : List Outcome) × (own ≡ Ended how ∷ Begun n ∷ before) × AreButBlocks before ys
last-told [] ys how n told h = absurd h
last-told (r ∷ []) ys how n told h = absurd h.1
last-told (r ∷ b ∷ own) ys how n told h =
    (let e : b ≡ Begun n = h.1.0 in (own, cc (but-told r how told h.0), h.1.1))

-- a job that began and ended as told, with others between
pub record HasGet (own xs zs ys : List Outcome) (how : Answer) (n : ℕ) : Type 0 where
  pub first : List Outcome
  pub next : List Outcome
  pub last : List Outcome
  pub is : own ≡ first ++ Ended how ∷ (next ++ Begun n ∷ last)
  pub as_many : length first ≡ length xs
  pub nexts : length next ≡ length zs
  pub alike : AreButBlocks next zs
  pub lasts : AreButBlocks last ys

pub get-told : (own xs zs ys : List Outcome) (how : Answer) (n : ℕ) → IsToldAnswer how →
    AreButBlocks own (xs ++ Ended how ∷ (zs ++ Begun n ∷ ys)) → HasGet own xs zs ys how n
get-told own xs zs ys how n told h = (let A = but-apart own xs (Ended how ∷ (zs ++ Begun n ∷ ys)) h in
    let C = but-cons A.rest (Ended how) (zs ++ Begun n ∷ ys) A.rests in
    let D = but-apart C.1 zs (Begun n ∷ ys) C.4 in
    let E = but-cons D.rest (Begun n) ys D.rests in
    let e : E.0 ≡ Begun n = E.3 in record {
      first = A.first;
      next = D.first;
      last = E.1;
      is = cc (A.is, C.2, but-told C.0 how told C.3, D.is, E.2);
      as_many = A.as_many;
      nexts = D.as_many;
      alike = D.firsts;
      lasts = E.4;
    })

-- none of them is the begin of a job where none that is told is
pub begun-but : (n : ℕ) (own ss : List Outcome) → AreButBlocks own ss → NoneIsBegun n ss → NoneIsBegun n own
begun-but n [] [] h none = tt
begun-but n (r ∷ own) (s ∷ ss) h none = (one s h.0 none.0, begun-but n own ss h.1 none.1)
  where
    one : (s : Outcome) → IsButBlocks r s → (s ≡ Begun n → ⊥) → r ≡ Begun n → ⊥
    one (Ended (Scrubbed a xs ys)) (own, is) other begun = cc
    one s is other begun = other (sym is ∙ begun)
begun-but n own ss h none = absurd h

-- what is over as told is over
pub over-but : (Meant : Kind → Type 0) (cs : List Instruction) (own ss : List Outcome) (ran : List ℕ) →
    AreButBlocks own ss → AreOverFor Meant ran cs ss → AreOverFor Meant ran cs own
over-but Meant [] [] [] ran h is_over = tt
over-but Meant (Once event ∷ cs) (r ∷ rs) (s ∷ ss) ran h (inl up) = inl up
over-but Meant (Once event ∷ cs) (r ∷ rs) (s ∷ ss) ran h (inr (inl (none, rest))) =
    inr (inl (none, over-but Meant cs rs ss ran h.1 rest))
over-but Meant (Once event ∷ cs) (r ∷ rs) (s ∷ ss) ran h (inr (inr (n, among, begun, rest))) =
    inr (inr (n, among, subst (IsButBlocks r) begun h.0, over-but Meant cs rs ss [] h.1 rest))
over-but Meant (RunJob job ∷ cs) (r ∷ rs) (Ended how ∷ ss) ran h rest =
    (let e = ended how h.0 in rw e.1 (over-but Meant cs rs ss (job ∷ ran) h.1 rest))
  where
    ended : (how : Answer) → IsButBlocks r (Ended how) → (own : Answer) × (r ≡ Ended own)
    ended (Scrubbed a xs ys) h = (Scrubbed a xs h.0, h.1)
    ended how h = (how, h)
over-but Meant (RunJob job ∷ cs) (r ∷ rs) (s ∷ ss) ran h rest =
    subst (λ o. AreOverFor Meant ran (RunJob job ∷ cs) (o ∷ rs)) (sym h.0) (over-but Meant cs rs ss ran h.1 rest)
over-but Meant cs (r ∷ rs) [] ran h is_over = absurd h
over-but Meant cs [] (s ∷ ss) ran h is_over = absurd h
over-but Meant cs own ss ran h is_over = absurd is_over

-- epochs as told are those of it
pub scrubs-but : (named : List (List ℕ)) (cs : List Instruction) (own ss : List Outcome) → AreButBlocks own ss →
    ByScrubs named cs ss → ByScrubs named cs own
scrubs-but _ _ own _ h (ByScrubs.first ps cs os asks) = ByScrubs.first ps cs own asks
scrubs-but _ _ own _ h (ByScrubs.swept qs named behind front rs us s stripes symbols blocks many asks B) =
    (let S = scrub-told own rs us stripes symbols blocks s h in
    subst (ByScrubs (qs ∷ named) (behind ++ done_by BeginScrub s front)) (sym S.1.is)
    (ByScrubs.swept qs named behind front S.1.behind S.1.before s stripes symbols S.0 (S.1.as_many ∙ many) asks
    (scrubs-but named front S.1.before us S.1.rests B)))

-- ---- what a get gave

-- the bytes that were stored, or the report holds a forgery
abbrev pub got-back : (commands : List Instruction) (outcomes : List Outcome) (start : State) (ms : List Moment)
    (new : Seen) (end : Ending) (W : WasTold commands outcomes start ms new end) (name bytes : List ℕ) (g : ℕ)
    (how : Answer) → GotBack (called_behind start ms) W.later name bytes g how →
    IsGotBack start (called_behind start ms) new end name bytes g how
got-back commands outcomes start ms new end W name bytes g how G =
    (let called : List Moment = called_behind start ms in
    let split = ap (λ l. l ++ called) G.moments
    ∙ ap (λ l. G.last ∷ l) (append_assoc G.gaps (G.begin ∷ G.before) called) in
    record {
      ms = W.later;
      left = W.left;
      get = G;
      right = λ got is. rw (W.heard ∙ ap (heard_in start) split)
          (put_is_got_later 8 start (G.before ++ called) G.gaps G.begin G.last g name bytes got W.left.starts
          (subst (IsRun 8 start) split W.left.run) G.stored (rw is at G.ends));
    })

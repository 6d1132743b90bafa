-- What a start reads of a disk that tells its bytes: one list of records in one area, or one reason why there
-- is none.
use Rattle.std.proofs.Common.{◌≡◌, ◌≢◌, ℕ, ◌+◌, ◌<◌, ◌⊎◌, true, List, [], ◌∷◌, ◌++◌, length, drop, None, Some, refl, ap, sym, subst, ◌∙◌, inl, inr, arith, append_assoc, length-take}
use Rattle.std.proofs.lemmas.List.{append_cancel_left, append-nil}
use Rattle.device_defs.specs.Cells.{Cells, reads}
use Rattle.record_defs.specs.Records.{Record, is_in_grammar, largest_journal}
use Rattle.record_defs.specs.Spellings.{spelling, SpellsNone}
use Rattle.record_defs.specs.Areas.{Area, base_of, entries, IsSwitched, StandsActive, EndsIn, BreaksIn, IsBadAt}
use Rattle.record_defs.specs.Reading.{HasNoSetup}
use Rattle.record_defs.specs.Acceptance.{refused, AreAccepted}
use Rattle.record_codec.proofs.Takes.{one_front}
use Rattle.journal_core.proofs.Meanings.{one_name, one_meaning, bad_is_none, one_place, good-head, good-tail, Good}
use Rattle.opening_defs.specs.Journals.{journal_read, IsRead, IsBadStart, RefusesIn, StopsBehind}

-- ---- lists of records whose texts begin the same bytes

good-middle : (n : List Record) (r : Record) (rs : List Record) → Good (n ++ r ∷ rs) → is_in_grammar r ≡ true
good-middle [] r rs p = good-head r rs p
good-middle (m ∷ n) r rs p = good-middle n r rs (good-tail m (n ++ r ∷ rs) p)

-- the last of a list
data Last {A : Type 0} (l : List A) : Type 0 where
  empty : l ≡ [] → Last l
  behind : (n : List A) (r : A) → l ≡ n ++ r ∷ [] → Last l

last-more : {A : Type 0} (x : A) (l : List A) → Last l → Last (x ∷ l)
last-more x l (empty e) = behind [] x (ap (λ k. x ∷ k) e)
last-more x l (behind n r e) = behind (x ∷ n) r (ap (λ k. x ∷ k) e)

last-of : {A : Type 0} (l : List A) → Last l
last-of [] = empty refl
last-of (x ∷ l) = last-more x l (last-of l)

-- the text of more records goes on behind that of fewer
text-behind : (n : List Record) (r : Record) (rs : List Record) →
    (tail : List ℕ) × (entries (n ++ r ∷ rs) ≡ entries rs ++ (1 ∷ (spelling r ++ tail)))
text-behind [] r rs = ([], ap (λ (l : List ℕ). entries rs ++ (1 ∷ l)) (sym (append-nil (spelling r))))
text-behind (m ∷ n) r rs = (let t = text-behind n r rs in (
  t.0 ++ (1 ∷ spelling m),
  ap (λ (l : List ℕ). l ++ (1 ∷ spelling m)) t.1
      ∙ (append_assoc (entries rs) (1 ∷ (spelling r ++ t.0)) (1 ∷ spelling m)
      ∙ ap (λ (l : List ℕ). entries rs ++ (1 ∷ l)) (append_assoc (spelling r) t.0 (1 ∷ spelling m))),
))

next-behind : (n : List Record) (r : Record) (rs : List Record) (x y : List ℕ) →
    entries (n ++ r ∷ rs) ++ x ≡ entries rs ++ y → (z : List ℕ) × (y ≡ 1 ∷ (spelling r ++ z))
next-behind n r rs x y e = (let t = text-behind n r rs in (
  t.0 ++ x,
  append_cancel_left (entries rs) _ _
      (sym e ∙ (ap (λ (l : List ℕ). l ++ x) t.1 ∙ (append_assoc (entries rs) (1 ∷ (spelling r ++ t.0)) x
      ∙ ap (λ (l : List ℕ). entries rs ++ (1 ∷ l)) (append_assoc (spelling r) t.0 x)))),
))

-- of two such lists one has the other's records behind its own
abbrev Goes-on : List Record → List Record → Type 0
Goes-on a b = (newer : List Record) × (a ≡ newer ++ b)

one-more : (a : List Record) (e : Record) (b : List Record) (x y : List ℕ) → Good a → is_in_grammar e ≡ true →
    entries a ++ x ≡ entries b ++ (1 ∷ (spelling e ++ y)) →
    (newer : List Record) → Last newer → a ≡ newer ++ b → Goes-on a (e ∷ b) ⊎ Goes-on (e ∷ b) a
one-more a e b x y all fits same newer (empty none) parts =
    inr (e ∷ [], ap (λ (l : List Record). e ∷ l) (sym (parts ∙ ap (λ (l : List Record). l ++ b) none)))
one-more a e b x y all fits same newer (behind n r last) parts = (let split : a ≡ n ++ r ∷ b = parts
    ∙ (ap (λ (l : List Record). l ++ b) last ∙ append_assoc n (r ∷ []) b) in
    let next = next-behind n r b x (1 ∷ (spelling e ++ y))
    (subst (λ (l : List Record). entries l ++ x ≡ entries b ++ (1 ∷ (spelling e ++ y))) split same) in
    let tails : spelling e ++ y ≡ spelling r ++ next.0 = cc in
    let one : e ≡ r = (one_front e r y next.0 fits (good-middle n r b (subst Good split all)) tails).0 in
    inl (n, subst (λ (q : Record). a ≡ n ++ q ∷ b) (sym one) split))

compare : (a b : List Record) (x y : List ℕ) → Good a → Good b → entries a ++ x ≡ entries b ++ y →
    Goes-on a b ⊎ Goes-on b a
compare a [] x y all_a all_b same = inl (a, sym (append-nil a))
compare a (e ∷ b) x y all_a all_b same =
    (let longer : entries a ++ x ≡ entries b ++ (1 ∷ (spelling e ++ y)) = same
    ∙ append_assoc (entries b) (1 ∷ spelling e) y in
    elim (compare a b x (1 ∷ (spelling e ++ y)) all_a (good-tail e b all_b) longer) [
      | inl more ↦ one-more a e b x y all_a (good-head e b all_b) longer more.0 (last-of more.0) more.1
      | inr less ↦ inr (e ∷ less.0, ap (λ (l : List Record). e ∷ l) less.1)
    ])

-- no record stands at the front of bytes behind an open gate
abbrev NoneStands : List ℕ → Type 0
NoneStands bytes = (r : Record) (z : List ℕ) → is_in_grammar r ≡ true → bytes ≡ 1 ∷ (spelling r ++ z) → ⊥

ends-there : (a b newer : List Record) (x y : List ℕ) → Good b → NoneStands x →
    entries a ++ x ≡ entries b ++ y → Last newer → b ≡ newer ++ a → Goes-on a b
ends-there a b newer x y all none same (empty e) parts =
    ([], sym (parts ∙ ap (λ (l : List Record). l ++ a) e))
ends-there a b newer x y all none same (behind n r last) parts = (let split : b ≡ n ++ r ∷ a = parts
    ∙ (ap (λ (l : List Record). l ++ a) last ∙ append_assoc n (r ∷ []) a) in
    let next = next-behind n r a y x
    (subst (λ (l : List Record). entries l ++ y ≡ entries a ++ x) split (sym same)) in
    absurd (none r next.0 (good-middle n r a (subst Good split all)) next.1))

-- where none stands behind the one, it has the other's records behind its own
all-of : (a b : List Record) (x y : List ℕ) → Good a → Good b → NoneStands x →
    entries a ++ x ≡ entries b ++ y → Goes-on a b
all-of a b x y all_a all_b none same = elim (compare a b x y all_a all_b same) [
  | inl more ↦ more
  | inr less ↦ ends-there a b less.0 x y all_b none same (last-of less.0) less.1
]

accepted-in : (n : List Record) (e : Record) (rs : List Record) → AreAccepted (n ++ e ∷ rs) →
    refused rs e ≡ None
accepted-in [] e rs a = a.0
accepted-in (m ∷ n) e rs a = accepted-in n e rs a.1

-- ---- bytes behind which none stands

shut-none : (gate : ℕ) (rest : List ℕ) → gate ≢ 1 → NoneStands (gate ∷ rest)
shut-none gate rest shut r z fits e = shut (let head : gate ≡ 1 = cc in head)

end-none : NoneStands []
end-none r z fits e = (let k : ⊥ = cc in k)

gap-none : (rest : List ℕ) → SpellsNone rest → NoneStands (1 ∷ rest)
gap-none rest none r z fits e = none r (spelling r) z (record { in_grammar = fits; bytes_are = refl })
    (let tails : rest ≡ spelling r ++ z = cc in tails)

-- a record that is refused does not stand among accepted ones behind which none stands
refused-none : (bytes : List ℕ) (area : Area) (rs : List Record) (x : List ℕ) (older : List Record) (at : ℕ) →
    Good rs → AreAccepted rs → NoneStands x → drop (base_of area) bytes ≡ entries rs ++ x →
    RefusesIn bytes area older at → ⊥
refused-none bytes area rs x older at all accepted none is F =
    (let more = all-of rs (F.entry ∷ older) x F.rest all F.in_grammar none (sym is ∙ F.bytes_are) in
    F.refused_is (accepted-in more.0 F.entry older (subst AreAccepted more.1 accepted)))

refused-later : (bytes : List ℕ) (area : Area) (rs older : List Record) (at other : ℕ) → AreAccepted rs →
    (F : RefusesIn bytes area rs at) → (G : RefusesIn bytes area older other) →
    (newer : List Record) → F.entry ∷ rs ≡ newer ++ G.entry ∷ older → at ≡ other
refused-later bytes area rs older at other accepted F G [] e = (let same : rs ≡ older = cc in F.place
    ∙ (ap (λ (l : List Record). base_of area + length (entries l) + 1) same ∙ sym G.place))
refused-later bytes area rs older at other accepted F G (m ∷ n) e =
    absurd (let same : rs ≡ n ++ G.entry ∷ older = cc in
    G.refused_is (accepted-in n G.entry older (subst AreAccepted same accepted)))

refused-once : (bytes : List ℕ) (area : Area) (rs older : List Record) (at other : ℕ) → AreAccepted rs →
    AreAccepted older → RefusesIn bytes area rs at → RefusesIn bytes area older other → at ≡ other
refused-once bytes area rs older at other accepted before F G =
    elim (compare (F.entry ∷ rs) (G.entry ∷ older) F.rest G.rest F.in_grammar G.in_grammar
    (sym F.bytes_are ∙ G.bytes_are)) [
      | inl more ↦ refused-later bytes area rs older at other accepted F G more.0 more.1
      | inr more ↦ sym (refused-later bytes area older rs other at before G F more.0 more.1)
    ]

-- ---- where a start stops

module _ (bytes : List ℕ) (area : Area) (active : IsSwitched bytes area) where
  -- the bytes of the active area end, or break, where they are bad
  ends-bad : (at : ℕ) → EndsIn bytes area at → IsBadAt bytes at
  ends-bad at e = inr (record { area = area; active = active; fails = inl e })

  breaks-bad : (at : ℕ) → BreaksIn bytes area at → IsBadAt bytes at
  breaks-bad at b = inr (record { area = area; active = active; fails = inr b })

  -- where they end, or break, none is refused
  ends-none : (at other : ℕ) (rs : List Record) (E : EndsIn bytes area at) → AreAccepted E.records →
      RefusesIn bytes area rs other → ⊥
  ends-none at other rs E accepted = refused-none bytes area E.records [] rs other E.in_grammar accepted
      end-none (E.bytes_are ∙ sym (append-nil (entries E.records)))

  breaks-none : (at other : ℕ) (rs : List Record) (B : BreaksIn bytes area at) → AreAccepted B.records →
      RefusesIn bytes area rs other → ⊥
  breaks-none at other rs B accepted = refused-none bytes area B.records (1 ∷ B.rest) rs other B.in_grammar
      accepted (gap-none B.rest B.none) B.bytes_are

  -- bytes stop for one reason at one place
  stops-once : (rs older : List Record) (at other : ℕ) → AreAccepted rs → AreAccepted older →
      StopsBehind bytes area rs at → StopsBehind bytes area older other → at ≡ other
  stops-once rs older at other accepted before (inl (E, e)) (inl (D, d)) =
      one_place bytes at other (ends-bad at E) (ends-bad other D)
  stops-once rs older at other accepted before (inl (E, e)) (inr (inl (B, b))) =
      one_place bytes at other (ends-bad at E) (breaks-bad other B)
  stops-once rs older at other accepted before (inr (inl (B, b))) (inl (E, e)) =
      one_place bytes at other (breaks-bad at B) (ends-bad other E)
  stops-once rs older at other accepted before (inr (inl (B, b))) (inr (inl (C, c))) =
      one_place bytes at other (breaks-bad at B) (breaks-bad other C)
  stops-once rs older at other accepted before (inr (inr F)) (inr (inr G)) =
      refused-once bytes area rs older at other accepted before F G
  stops-once rs older at other accepted before (inr (inr F)) (inl (E, e)) =
      absurd (ends-none other at rs E (subst AreAccepted (sym e) before) F)
  stops-once rs older at other accepted before (inr (inr F)) (inr (inl (B, b))) =
      absurd (breaks-none other at rs B (subst AreAccepted (sym b) before) F)
  stops-once rs older at other accepted before (inl (E, e)) (inr (inr F)) =
      absurd (ends-none at other older E (subst AreAccepted (sym e) accepted) F)
  stops-once rs older at other accepted before (inr (inl (B, b))) (inr (inr F)) =
      absurd (breaks-none at other older B (subst AreAccepted (sym b) accepted) F)

  -- bytes that stand for accepted records do not stop
  stops-none : (rs older : List Record) (at : ℕ) → AreAccepted rs → StandsActive bytes area rs →
      StopsBehind bytes area older at → ⊥
  stops-none rs older at accepted S (inl (E, e)) = bad_is_none bytes at area rs (ends-bad at E) S
  stops-none rs older at accepted S (inr (inl (B, b))) = bad_is_none bytes at area rs (breaks-bad at B) S
  stops-none rs older at accepted S (inr (inr F)) =
      refused-none bytes area rs (S.holds.gate ∷ S.holds.rest) older at S.holds.in_grammar accepted
      (shut-none S.holds.gate S.holds.rest S.holds.closed) S.holds.bytes_are F

-- a start stops at one place at most
pub bad-once : (bytes : List ℕ) (at other : ℕ) → IsBadStart bytes at → IsBadStart bytes other → at ≡ other
bad-once bytes at other (inl a) (inl b) = a.1 ∙ sym b.1
bad-once bytes at other (inl a) (inr S) = absurd (a.0 S.active.switch S.active.front)
bad-once bytes at other (inr S) (inl b) = absurd (b.0 S.active.switch S.active.front)
bad-once bytes at other (inr S) (inr T) = (let same = one_name bytes T.area S.area T.active S.active in
    stops-once bytes S.area S.active S.records T.records at other S.accepted T.accepted S.stops
    (subst (λ (x : Area). StopsBehind bytes x T.records other) same T.stops))

-- bytes that stand for accepted records are not bad
pub bad-none : (bytes : List ℕ) (at : ℕ) (area : Area) (rs : List Record) → AreAccepted rs →
    StandsActive bytes area rs → IsBadStart bytes at → ⊥
bad-none bytes at area rs accepted S (inl a) = a.0 S.active.switch S.active.front
bad-none bytes at area rs accepted S (inr T) = (let same = one_name bytes T.area area T.active S.active in
    stops-none bytes area S.active rs T.records at accepted S
    (subst (λ (x : Area). StopsBehind bytes x T.records at) same T.stops))

-- ---- what a disk reads that tells

-- a disk that tells its bytes reads at most one list of records, in one area
pub read-once : (cells : Cells) (a b : Area) (rs qs : List Record) → IsRead (Some cells) a rs →
    IsRead (Some cells) b qs → (a ≡ b) × (rs ≡ qs)
read-once cells a b rs qs R Q = one_meaning (journal_read cells) a b rs qs R.reads_are.1 Q.reads_are.1

-- a disk that reads records has a setup
pub read-set_up : (cells : Cells) (area : Area) (rs : List Record) → IsRead (Some cells) area rs →
    HasNoSetup (journal_read cells) → ⊥
read-set_up cells area rs R (inl short) =
    (let long = R.reads_are.0 in let size = length-take largest_journal (reads cells) in
    omega (arith, long, size, short))
read-set_up cells area rs R (inr none) =
    R.some (one_meaning (journal_read cells) area none.0 rs [] R.reads_are.1 none.1).1

-- a disk that reads records has no bad place
pub read-good : (cells : Cells) (at : ℕ) (area : Area) (rs : List Record) → IsRead (Some cells) area rs →
    IsBadStart (journal_read cells) at → ⊥
read-good cells at area rs R bad = bad-none (journal_read cells) at area rs R.accepted R.reads_are.1 bad

-- a disk on which nothing is set up is not bad
pub fresh-good : (bytes : List ℕ) (at : ℕ) → 9 < length bytes → HasNoSetup bytes → IsBadStart bytes at → ⊥
fresh-good bytes at long (inl short) bad = omega (arith, long, short)
fresh-good bytes at long (inr none) bad = bad-none bytes at none.0 [] tt none.1 bad

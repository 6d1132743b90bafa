-- A text read from its front as the outcomes that wrote it, lists of the names among them.
use Rattle.effect_laws.proofs.Words.{◌≡◌, ◌≢◌, ℕ, Bool, true, false, List, [], ◌∷◌, ◌++◌, length, drop, get_or, Some, refl, sym, ap, subst, ◌∙◌, inl, inr, arith, append_assoc, append-nil, codes, IsTrue, ◌&&◌, nat_le, AllByRecursion, flat_map, list_all, decimal, and_parts, cases_Bool, In, is_name, is_name_byte, File, files_of, find_file, is_same_name, find-files_of, same-refl, Put, Event, Names, Continue, Outcome, Ended, Listed, Closed, Continued, line, then_number, file_line, lines_of, Lists, Happens, Moment, now, IsRun, State, IsStart, file_in, Instruction, Once, RunJob, CarriesOut, run_back, IsToldByLine, WritesOneLine, HasNoNewline, lines_of_all, IsDigit, digits-decimal, number-split, one-line, differ, IsLimit, IsSound, run-sound, AreListed, IsListedAs, IsRead, IsToldFile, IsToldByLines, NoneCalls, ReadsAs}
use Rattle.std.proofs.lemmas.Bool.Decides.{nat_tests}
use Rattle.line_laws.proofs.LastLines.{one-told}
use Rattle.line_laws.proofs.Outcomes.{lines-tell}
use Rattle.line_laws.proofs.Happened.{happened}
use Rattle.state_laws.proofs.Records.{file-spelled}

-- ---- the first line of a text

-- what stands before the first separator, where neither front has one
cut : (c : ℕ) (a b x y : List ℕ) → AllByRecursion (λ n. n ≢ c) a → AllByRecursion (λ n. n ≢ c) b →
    a ++ c ∷ x ≡ b ++ c ∷ y → (a ≡ b) × (x ≡ y)
cut c [] [] x y f g same = (refl, ap (drop 1) same)
cut c [] (n ∷ b) x y f g same = absurd (g.0 (sym (ap (λ l. get_or l 0 0) same)))
cut c (n ∷ a) [] x y f g same = absurd (f.0 (ap (λ l. get_or l 0 0) same))
cut c (n ∷ a) (m ∷ b) x y f g same = (let rest = cut c a b x y f.1 g.1 (ap (drop 1) same) in
    let head : n ≡ m = ap (λ l. get_or l 0 0) same in
    ((λ i. head i ∷ rest.0 i), rest.1))

first-line : (a b x y : List ℕ) → HasNoNewline a → HasNoNewline b → line a ++ x ≡ line b ++ y →
    (a ≡ b) × (x ≡ y)
first-line a b x y f g same = cut 10 a b x y f g (cc (append_assoc a (10 ∷ []) x, append_assoc b (10 ∷ []) y))

-- ---- the lines of files

-- a name has no space
no_space : (b : ℕ) → is_name_byte b ≡ true → b ≢ 32
no_space b h e = grind (arith, nat_tests)

each_plain : (bs : List ℕ) → list_all is_name_byte bs ≡ true → AllByRecursion (λ n. n ≢ 32) bs
each_plain [] h = tt
each_plain (b ∷ bs) h = (let p = and_parts (is_name_byte b) (list_all is_name_byte bs) h in
    (no_space b p.0, each_plain bs p.1))

plain : (name : List ℕ) → IsTrue (is_name name) → AllByRecursion (λ n. n ≢ 32) name
plain name h = each_plain name (and_parts (nat_le 1 (length name) && nat_le (length name) 64)
    (list_all is_name_byte name) h).1

-- the line of a file tells its name and its size
file-tells : (f g : File) (x y : List ℕ) → IsTrue (is_name f.name) → IsToldFile g →
    file_line f ++ x ≡ file_line g ++ y → (f.name ≡ g.name) × (f.size ≡ g.size) × (x ≡ y)
file-tells f g x y named told same = (let p = cut 32 f.name g.name (decimal f.size ++ 10 ∷ x)
    (decimal g.size ++ 10 ∷ y) (plain f.name named) (plain g.name told.name) (cc (
      append_assoc (f.name ++ then_number f.size) (10 ∷ []) x,
      append_assoc f.name (then_number f.size) (10 ∷ x),
      append_assoc (g.name ++ then_number g.size) (10 ∷ []) y,
      append_assoc g.name (then_number g.size) (10 ∷ y),
    )) in
    let q = number-split f.size g.size (10 ∷ x) (10 ∷ y) told.size (omega arith) (omega arith) p.1 in
    (p.0, q.0, ap (drop 1) q.1))

-- names of files
abbrev pub AreNamed : List File → Type 0
AreNamed fs = AllByRecursion (λ (f : File). IsTrue (is_name f.name)) fs

files-tell : (fs gs : List File) (x y : List ℕ) → AreNamed fs → AllByRecursion IsToldFile gs →
    length fs ≡ length gs → flat_map file_line fs ++ x ≡ flat_map file_line gs ++ y →
    AreListed fs gs × (x ≡ y)
files-tell [] [] x y named told many same = (tt, same)
files-tell (f ∷ fs) (g ∷ gs) x y named told many same =
    (let p = file-tells f g (flat_map file_line fs ++ x) (flat_map file_line gs ++ y) named.0 told.0 (cc (
      append_assoc (file_line f) (flat_map file_line fs) x,
      append_assoc (file_line g) (flat_map file_line gs) y,
    )) in
    let q = files-tell fs gs x y named.1 told.1 (omega (arith, many)) p.2 in
    ((p.0, p.1, q.0), q.1))
files-tell fs gs x y named told many same = absurd (omega (arith, many))

-- ---- one outcome

-- the text of the first line of a list
abbrev header : List File → List ℕ
header files = codes "names" ++ then_number (length files)

digits-free : (ds : List ℕ) → AllByRecursion IsDigit ds → HasNoNewline ds
digits-free [] all = tt
digits-free (d ∷ ds) all = ((λ e. omega (arith, e, all.0)), digits-free ds all.1)

header-free : (files : List File) → HasNoNewline (header files)
header-free files = search (arith, digits-free (decimal (length files)) (digits-decimal (length files))) depth 9

-- it is that of no other outcome
header-differs : (files : List File) (r : Outcome) → WritesOneLine r → line (header files) ≡ lines_of r → ⊥
header-differs files (Listed fs) one same = one
header-differs files Continued one same = one
header-differs files (Ended Put) one same =
    differ 0 2 3 (line (header files)) (lines_of (Ended Put)) refl same
header-differs files r one same = differ 0 2 3 (line (header files)) (lines_of r) refl same

-- an outcome whose lines can be read: no later call, and names in a list
abbrev pub CanRead : Outcome → Type 0
CanRead (Listed files) = AreNamed files
CanRead r = WritesOneLine r

-- one that writes one line does not write a list
pub list-not : (fs : List File) (s : Outcome) (x y : List ℕ) → WritesOneLine s →
    lines_of (Listed fs) ++ x ≡ lines_of s ++ y → ⊥
list-not fs s x y one same = (let text = one-line s one in
    let p = first-line (header fs) text.0 (flat_map file_line fs ++ x) y (header-free fs) text.1
    (cc (append_assoc (line (header fs)) (flat_map file_line fs) x, text.2)) in
    header-differs fs s one (ap line p.0 ∙ sym text.2))

-- two that write one line write one line
pub first-same : (r s : Outcome) (x y : List ℕ) → WritesOneLine r → WritesOneLine s →
    lines_of r ++ x ≡ lines_of s ++ y → (lines_of r ≡ lines_of s) × (x ≡ y)
first-same r s x y one two same = (let a = one-line r one in
    let b = one-line s two in
    let p = first-line a.0 b.0 x y a.1 b.1 (cc (a.2, b.2)) in (a.2 ∙ (ap line p.0 ∙ sym b.2), p.1))

pub both-one : (r s : Outcome) (x y : List ℕ) → WritesOneLine r → IsToldByLine s →
    lines_of r ++ x ≡ lines_of s ++ y → (r ≡ s) × (x ≡ y)
both-one r s x y one told same =
    (let p = first-same r s x y one (one-told s told) same in (lines-tell r s told p.0, p.1))

-- its lines tell it, with what stands behind them
pub one-read : (r s : Outcome) (x y : List ℕ) → CanRead r → IsToldByLines s → lines_of r ++ x ≡ lines_of s ++ y →
    IsRead r s × (x ≡ y)
one-read (Listed fs) (Listed gs) x y named told same = (let p = first-line (header fs) (header gs)
    (flat_map file_line fs ++ x) (flat_map file_line gs ++ y) (header-free fs) (header-free gs) (cc (
      append_assoc (line (header fs)) (flat_map file_line fs) x,
      append_assoc (line (header gs)) (flat_map file_line gs) y,
    )) in
    let n = number-split (length fs) (length gs) [] [] told.few tt tt
    (append-nil (decimal (length fs)) ∙ (ap (drop 6) p.0 ∙ sym (append-nil (decimal (length gs))))) in
    let q = files-tell fs gs x y named told.each n.0 p.1 in
    ((fs, refl, q.0), q.1))
one-read (Listed fs) s x y named told same = absurd (list-not fs s x y (one-told s told) same)
one-read r (Listed gs) x y one told same = absurd (list-not gs r y x one (sym same))
one-read r s x y one told same = both-one r s x y one told same

-- ---- what events write

-- the names of files in effect are names
found : (fs : List File) (f : File) → In f fs → (h : File) × (find_file fs f.name ≡ Some h)
found [] f i = absurd i
found (g ∷ fs) f i = elim (cases_Bool (is_same_name g.name f.name)) [
  | inl t ↦ (g, rw t)
  | inr n ↦ elim i [
    | inl is ↦ absurd (let e = same-refl f.name in cc)
    | inr j ↦ (let r = found fs f j in (r.0, rw n r.1))
  ]
]

named : (limit : ℕ) (w : State) → IsSound limit w → AreNamed (files_of w.records)
named limit w S = each (files_of w.records) (λ f i. i)
  where
    each : (fs : List File) → ((f : File) → In f fs → In f (files_of w.records)) → AreNamed fs
    each [] all = tt
    each (f ∷ fs) all = (let h = found (files_of w.records) f (all f (inl refl)) in (
      (file-spelled w.records f.name h.0 S.spelled (sym (find-files_of w.records f.name) ∙ h.1)).0,
      each fs (λ g i. all g (inr i)),
    ))

module _ (limit : ℕ) (old new : State) (S : IsSound limit old) where
  one-can : (r : Outcome) → WritesOneLine r → CanRead r
  one-can (Listed files) one = absurd one
  one-can r one = one

  lists-can : (o : Bool) (r : Outcome) → Lists old o r new → CanRead r
  lists-can true (Listed files) h = subst AreNamed (sym h.0) (named limit old S)
  lists-can false Closed h = tt
  lists-can o r h = absurd h

  -- all events but a later call of the program
  can-read : (moment : ℕ) (event : Event) (r : Outcome) → event ≢ Continue →
      Happens limit moment old event r new → CanRead r
  can-read moment Names r other h = lists-can old.is_open r h
  can-read moment Continue r other h = absurd (other refl)
  can-read moment event r other h = one-can r (happened old new limit moment event r tt h)

-- ---- a text read from its front

module _ (limit : ℕ) (start : State) (base : List Moment) (fits : IsLimit limit) (clean : IsStart start) where
  newest-can : (m : Moment) (ms : List Moment) → IsRun limit start (m ∷ ms) → m.event ≢ Continue →
      CanRead m.outcome
  newest-can m ms run other = can-read limit (now start ms) m.state (run-sound limit start ms fits clean run.2)
      (length ms) m.event m.outcome other run.1

  -- where lines that tell an outcome tell one that is like it, and is read so
  module _ (Told : Outcome → Type 0) (Like : Outcome → Outcome → Type 0)
      (Each : List Outcome → List Outcome → Type 0) (none : Each [] [])
      (more : (r s : Outcome) (rs ss : List Outcome) → Like r s → Each rs ss → Each (r ∷ rs) (s ∷ ss))
      (one : (r s : Outcome) (x y : List ℕ) → CanRead r → Told s → lines_of r ++ x ≡ lines_of s ++ y →
      ((own : Outcome) × Like own s × IsRead r own) × (x ≡ y)) where
    pub forward-like : (cs : List Instruction) (ms : List Moment) (bytes : List ℕ) (ss : List Outcome)
        (x y : List ℕ) → IsRun limit start (ms ++ base) → NoneCalls cs → CarriesOut cs ms bytes →
        AllByRecursion Told ss → length ss ≡ length cs → bytes ++ x ≡ lines_of_all ss ++ y →
        ((own : List Outcome) × Each own ss × ReadsAs cs ms own) × (x ≡ y)
    forward-like [] ms bytes [] x y run calls C told many same =
        (([], none, C.0), sym (ap (λ l. l ++ x) C.1) ∙ same)
    forward-like (Once event ∷ cs) ms bytes (s ∷ ss) x y run calls (m, older, front, is, here, C, text) told
        many same = (let runs : IsRun limit start (m ∷ (older ++ base)) = rw is at run in
        let R = forward-like cs older front ss (lines_of m.outcome ++ x) (lines_of s ++ y) runs.2 calls.1 C told.1
        (omega arith)
        (cc (append_assoc front (lines_of m.outcome) x, append_assoc (lines_of_all ss) (lines_of s) y)) in
        let O = one m.outcome s x y (newest-can m (older ++ base) runs (λ e. calls.0 (sym here ∙ e)))
        told.0 R.1 in
        ((O.0.0 ∷ R.0.0, more O.0.0 s R.0.0 ss O.0.1 R.0.1, (m, older, is, here, O.0.2, R.0.2)), O.1))
    forward-like (RunJob job ∷ cs) ms bytes (s ∷ ss) x y run calls (m, steps, older, front, is, ran, C, text)
        told many same = (let runs : IsRun limit start (m ∷ ((steps ++ older) ++ base)) = rw is at run in
        let R = forward-like cs older front ss (lines_of m.outcome ++ x) (lines_of s ++ y)
        (run_back limit start steps (older ++ base) (rw (append_assoc steps older base) at runs.2)) calls C told.1
        (omega arith)
        (cc (append_assoc front (lines_of m.outcome) x, append_assoc (lines_of_all ss) (lines_of s) y)) in
        let O = one m.outcome s x y (newest-can m ((steps ++ older) ++ base) runs
        (λ e. (let f = ran.step in cc))) told.0 R.1 in
        ((O.0.0 ∷ R.0.0, more O.0.0 s R.0.0 ss O.0.1 R.0.1, (m, steps, older, is, ran, O.0.2, R.0.2)), O.1))
    forward-like cs ms bytes ss x y run calls C told many same = absurd (omega arith)

  pub forward : (commands : List Instruction) (ms : List Moment) (bytes : List ℕ) (ss : List Outcome)
      (x y : List ℕ) → IsRun limit start (ms ++ base) → NoneCalls commands → CarriesOut commands ms bytes →
      AllByRecursion IsToldByLines ss → length ss ≡ length commands → bytes ++ x ≡ lines_of_all ss ++ y →
      ReadsAs commands ms ss × (x ≡ y)
  forward commands ms bytes ss x y run calls C told many same =
      (let R = forward-like IsToldByLines ◌≡◌ ◌≡◌ refl (λ r s rs ss e f. cc)
      (λ r s x y can told same. (let O = one-read r s x y can told same in ((s, refl, O.0), O.1)))
      commands ms bytes ss x y run calls C told many same in
      (subst (ReadsAs commands ms) R.0.1 R.0.2, R.1))

-- the list of a moment is of the files in effect before it
pub listed : (limit : ℕ) (start : State) (m : Moment) (ms : List Moment) (files : List File) →
    IsRun limit start (m ∷ ms) → m.event ≡ Names → m.outcome ≡ Listed files →
    files ≡ files_of (now start ms).records
listed limit start m ms files run event outcome = go (now start ms).is_open (rw (event, outcome) at run.1)
  where
    go : (o : Bool) → Lists (now start ms) o (Listed files) m.state → files ≡ files_of (now start ms).records
    go true h = h.0
    go false h = absurd h

-- files that are listed alike have the same names and sizes
same-found : (fs gs : List File) (name : List ℕ) → AreListed fs gs →
    IsListedAs (find_file fs name) (find_file gs name)
same-found [] [] name same = tt
same-found (f ∷ fs) (g ∷ gs) name same = elim (cases_Bool (is_same_name g.name name)) [
  | inl t ↦ rw (same.0, t) same.1
  | inr n ↦ rw (same.0, n) (same-found fs gs name same.2)
]
same-found fs gs name same = absurd same

-- so a list tells of each name what stands under it
pub lists : (limit : ℕ) (start : State) (m : Moment) (ms : List Moment) (told : List File) →
    IsRun limit start (m ∷ ms) → m.event ≡ Names → IsRead m.outcome (Listed told) → (name : List ℕ) →
    IsListedAs (file_in (now start ms) name) (find_file told name)
lists limit start m ms told run event (files, is, same) name =
    rw (listed limit start m ms files run event is, find-files_of) at (same-found files told name same)

-- what a text tells whole
pub whole : (limit : ℕ) (start : State) (base ms : List Moment) (commands : List Instruction) (bytes : List ℕ)
    (outcomes : List Outcome) → IsLimit limit → IsStart start → IsRun limit start (ms ++ base) →
    NoneCalls commands → CarriesOut commands ms bytes → AllByRecursion IsToldByLines outcomes →
    length outcomes ≡ length commands → bytes ≡ lines_of_all outcomes → ReadsAs commands ms outcomes
whole limit start base ms commands bytes outcomes fits clean run calls C told many same =
    (forward limit start base fits clean commands ms bytes outcomes [] [] run calls C told many
    (ap (λ l. l ++ []) same)).0

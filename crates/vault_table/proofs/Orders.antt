-- Places of names.
use Rattle.vault_table.proofs.Words.{false, refl, sym, ap, subst, ◌∙◌, arith, get_or, set, append_assoc, length-take, insert, remove, nat_tests, take-append-drop, get_or_at, drop_at, set_at, length-take-le, File, is_name_before, are_ordered, find_file, with_file, without_file, same-refl, same-sym, before-trans, below-trans, before-not_same, order_of, comes_after, comes_before, IsHere, IsBetween}
use Rattle.std.specs.Prelude.{◌≡◌, ℕ, zero, suc, ◌+◌, ◌<◌, true, List, [], ◌∷◌, ◌++◌, length, take, drop, None, Some}
use Rattle.std.proofs.Common.{length-append}
use Rattle.std.specs.declared.cmp.Ordering.TheVariants.{Less, Equal, Greater}

-- a name that compares as less comes before the other
pub order-less : (a b : List ℕ) → order_of a b ≡ Less → is_name_before a b ≡ true
order-less [] [] p = absurd cc
order-less [] (y ∷ b) p = refl
order-less (x ∷ a) [] p = absurd cc
order-less (x ∷ a) (y ∷ b) p = grind (arith, nat_tests, p, order-less a b)

-- names that compare as equal are equal
pub order-equal : (a b : List ℕ) → order_of a b ≡ Equal → a ≡ b
order-equal [] [] p = refl
order-equal [] (y ∷ b) p = absurd cc
order-equal (x ∷ a) [] p = absurd cc
order-equal (x ∷ a) (y ∷ b) p = grind (arith, nat_tests, p, order-equal a b)

-- a name that compares as greater comes behind the other
pub order-greater : (a b : List ℕ) → order_of a b ≡ Greater → is_name_before b a ≡ true
order-greater [] [] p = absurd cc
order-greater [] (y ∷ b) p = absurd cc
order-greater (x ∷ a) [] p = refl
order-greater (x ∷ a) (y ∷ b) p = grind (arith, nat_tests, p, order-greater a b)

-- a name before the place of a file comes before all behind it
below-at : (name : List ℕ) (fs : List File) (i : ℕ) (d : File) → i < length fs → comes_before name fs ≡ true →
    is_name_before name (get_or fs i d).name ≡ true
below-at name [] i d lt p = absurd (omega (arith, lt))
below-at name (f ∷ fs) zero d lt p = grind (arith, p)
below-at name (f ∷ fs) (suc i) d lt p =
    let q : comes_before name fs ≡ true = grind (arith, p) in below-at name fs i d (omega (arith, lt)) q

-- in order, a name behind that of a place comes behind all up to this place
pub front-after : (fs : List File) (i : ℕ) (d : File) (name : List ℕ) → are_ordered fs ≡ true → i < length fs
    → is_name_before (get_or fs i d).name name ≡ true → comes_after name (take (i + 1) fs) ≡ true
front-after [] i d name o lt p = absurd (omega (arith, lt))
front-after (f ∷ fs) zero d name o lt p = let one : (0 + 1) ≡ suc 0 = refl in grind (arith, p)
front-after (f ∷ fs) (suc i) d name o lt p =
    let first : comes_before f.name fs ≡ true = grind (arith, o) in
    let others : are_ordered fs ≡ true = grind (arith, o) in
    let short : i < length fs = omega (arith, lt) in
    let before : is_name_before f.name name ≡ true =
    before-trans f.name (get_or fs i d).name name (below-at f.name fs i d short first) p in
    let rest = front-after fs i d name others short p in
    let n : suc i + 1 ≡ suc (i + 1) = omega arith in
    rw (n, before, rest) refl

-- in order, a name before that of a place comes before all from this place on
pub back-before : (fs : List File) (i : ℕ) (d : File) (name : List ℕ) → are_ordered fs ≡ true → i < length fs
    → is_name_before name (get_or fs i d).name ≡ true → comes_before name (drop i fs) ≡ true
back-before [] i d name o lt p = absurd (omega (arith, lt))
back-before (f ∷ fs) zero d name o lt p = let first : comes_before f.name fs ≡ true =
    grind (arith, o) in rw (p, below-trans name f.name fs p first) refl
back-before (f ∷ fs) (suc i) d name o lt p = let others : are_ordered fs ≡ true =
    grind (arith, o) in back-before fs i d name others (omega (arith, lt)) p

-- what stands before and behind a file
front-of : (fs : List File) (i : ℕ) (d : File) → are_ordered fs ≡ true → i < length fs →
    comes_after (get_or fs i d).name (take i fs) ≡ true
front-of [] i d o lt = absurd (omega (arith, lt))
front-of (f ∷ fs) zero d o lt = refl
front-of (f ∷ fs) (suc i) d o lt =
    let first : comes_before f.name fs ≡ true = grind (arith, o) in
    let others : are_ordered fs ≡ true = grind (arith, o) in
    let short : i < length fs = omega (arith, lt) in
    rw (below-at f.name fs i d short first, front-of fs i d others short) refl

back-of : (fs : List File) (i : ℕ) (d : File) → are_ordered fs ≡ true → i < length fs →
    comes_before (get_or fs i d).name (drop (suc i) fs) ≡ true
back-of [] i d o lt = absurd (omega (arith, lt))
back-of (f ∷ fs) zero d o lt = grind (arith, o)
back-of (f ∷ fs) (suc i) d o lt =
    let others : are_ordered fs ≡ true = grind (arith, o) in back-of fs i d others (omega (arith, lt))

split-at : (fs : List File) (i : ℕ) (d : File) → i < length fs →
    fs ≡ take i fs ++ get_or fs i d ∷ drop (suc i) fs
split-at [] i d lt = absurd (omega (arith, lt))
split-at (f ∷ fs) zero d lt = refl
split-at (f ∷ fs) (suc i) d lt = ap (λ (l : List File). f ∷ l) (split-at fs i d (omega (arith, lt)))

-- in order, the file of a name is at the place that has this name
pub is_here : (fs : List File) (i : ℕ) (d : File) (name : List ℕ) → are_ordered fs ≡ true → i < length fs →
    (get_or fs i d).name ≡ name → IsHere fs name i
is_here fs i d name o lt same =
    record {
      within = lt;
      file = get_or fs i d;
      behind = drop (suc i) fs;
      parts = split-at fs i d lt;
      same = same;
      after = subst (λ (n : List ℕ). comes_after n (take i fs) ≡ true) same (front-of fs i d o lt);
      before = subst (λ (n : List ℕ). comes_before n (drop (suc i) fs) ≡ true) same (back-of fs i d o lt);
    }

-- ---- comparing two names byte by byte

-- a name that ends where the other goes on compares as less
pub order-shorter : (a b : List ℕ) (i : ℕ) → i ≡ length a → i < length b →
    order_of (drop i a) (drop i b) ≡ Less
order-shorter [] [] i e lt = absurd (omega (arith, lt))
order-shorter [] (y ∷ b) i e lt = rw e refl
order-shorter (x ∷ a) [] i e lt = absurd (omega (arith, lt))
order-shorter (x ∷ a) (y ∷ b) zero e lt = absurd (omega (arith, e))
order-shorter (x ∷ a) (y ∷ b) (suc i) e lt = order-shorter a b i (omega (arith, e)) (omega (arith, lt))

-- a name that goes on where the other ends compares as greater
pub order-longer : (a b : List ℕ) (i : ℕ) → i ≡ length b → i < length a →
    order_of (drop i a) (drop i b) ≡ Greater
order-longer [] b i e lt = absurd (omega (arith, lt))
order-longer (x ∷ a) [] i e lt = rw e refl
order-longer (x ∷ a) (y ∷ b) zero e lt = absurd (omega (arith, e))
order-longer (x ∷ a) (y ∷ b) (suc i) e lt = order-longer a b i (omega (arith, e)) (omega (arith, lt))

-- ---- finding, putting and dropping at a place

before-not_after : (a b : List ℕ) → is_name_before a b ≡ true → is_name_before b a ≡ false
before-not_after [] [] p = absurd cc
before-not_after [] (y ∷ b) p = refl
before-not_after (x ∷ a) [] p = absurd cc
before-not_after (x ∷ a) (y ∷ b) p = grind (arith, nat_tests, p, before-not_after a b)

skip-find : (name : List ℕ) (front back : List File) → comes_after name front ≡ true →
    find_file (front ++ back) name ≡ find_file back name
skip-find name [] back p = refl
skip-find name (f ∷ front) back p = grind (arith, p, before-not_same f.name name, skip-find name front back)

find-before : (name : List ℕ) (back : List File) → comes_before name back ≡ true → find_file back name ≡ None
find-before name [] p = refl
find-before name (f ∷ back) p =
    grind (arith, p, before-not_same name f.name, same-sym f.name name, find-before name back)

skip-without : (name : List ℕ) (front back : List File) → comes_after name front ≡ true →
    without_file (front ++ back) name ≡ front ++ without_file back name
skip-without name [] back p = refl
skip-without name (f ∷ front) back p =
    grind (arith, p, before-not_same f.name name, skip-without name front back)

without-before : (name : List ℕ) (back : List File) → comes_before name back ≡ true →
    without_file back name ≡ back
without-before name [] p = refl
without-before name (f ∷ back) p =
    grind (arith, p, before-not_same name f.name, same-sym f.name name, without-before name back)

skip-with : (f : File) (front back : List File) → comes_after f.name front ≡ true →
    with_file (front ++ back) f ≡ front ++ with_file back f
skip-with f [] back p = refl
skip-with f (g ∷ front) back p = grind (arith, p, skip-with f front back)

with-before : (f : File) (back : List File) → comes_before f.name back ≡ true → with_file back f ≡ f ∷ back
with-before f [] p = refl
with-before f (g ∷ back) p = grind (arith, p, before-not_after f.name g.name)

module _ (fs : List File) (name : List ℕ) (i : ℕ) where
  -- the file of a name is found at its place
  pub find-here : (here : IsHere fs name i) → find_file fs name ≡ Some here.file
  find-here here = ap (λ (l : List File). find_file l name) here.parts
      ∙ skip-find name (take i fs) (here.file ∷ here.behind) here.after
      ∙ grind (arith, here.same, same-refl name)

  -- a read at its place gives the file
  pub file-here : (here : IsHere fs name i) (d : File) → get_or fs i d ≡ here.file
  file-here here d = ap (λ (l : List File). get_or l i d) here.parts
      ∙ get_or_at (take i fs) here.file here.behind d i (length-take-le i fs (omega (arith, here.within)))

  -- a name that would stand between two files has none
  pub find-between : IsBetween fs name i → find_file fs name ≡ None
  find-between is = ap (λ (l : List File). find_file l name) (sym (take-append-drop i fs))
      ∙ skip-find name (take i fs) (drop i fs) is.after ∙ find-before name (drop i fs) is.before

  without-here : (here : IsHere fs name i) → without_file fs name ≡ take i fs ++ here.behind
  without-here here = ap (λ (l : List File). without_file l name) here.parts
      ∙ skip-without name (take i fs) (here.file ∷ here.behind) here.after
      ∙ ap (λ (l : List File). take i fs ++ l)
      (grind (arith, here.same, same-refl name, without-before name here.behind here.before))

  behind-is : (here : IsHere fs name i) → here.behind ≡ drop (suc i) fs
  behind-is here =
      let size : length (take i fs ++ here.file ∷ []) ≡ suc i =
      omega (arith, length-append (take i fs) (here.file ∷ []), length-take i fs, here.within) in
      sym (ap (λ (l : List File). drop (suc i) l) (here.parts
      ∙ sym (append_assoc (take i fs) (here.file ∷ []) here.behind))
      ∙ drop_at (take i fs ++ here.file ∷ []) here.behind (suc i) size)

  -- to drop a name takes the file at its place out
  pub drop-here : IsHere fs name i → without_file fs name ≡ remove fs i
  drop-here here = without-here here ∙ ap (λ (l : List File). take i fs ++ l) (behind-is here)

  drop-between : IsBetween fs name i → without_file fs name ≡ fs
  drop-between is = ap (λ (l : List File). without_file l name) (sym (take-append-drop i fs))
      ∙ skip-without name (take i fs) (drop i fs) is.after
      ∙ ap (λ (l : List File). take i fs ++ l) (without-before name (drop i fs) is.before)
      ∙ take-append-drop i fs

  -- to put a file of a name that there is sets it at its place
  pub put-here : (f : File) → f.name ≡ name → IsHere fs name i →
      with_file (without_file fs name) f ≡ set fs i f
  put-here f e here =
      let after : comes_after f.name (take i fs) ≡ true =
      subst (λ (n : List ℕ). comes_after n (take i fs) ≡ true) (sym e) here.after in
      let before : comes_before f.name here.behind ≡ true =
      subst (λ (n : List ℕ). comes_before n here.behind ≡ true) (sym e) here.before in
      let size : length (take i fs) ≡ i = length-take-le i fs (omega (arith, here.within)) in
      ap (λ (l : List File). with_file l f) (without-here here) ∙ skip-with f (take i fs) here.behind after
      ∙ ap (λ (l : List File). take i fs ++ l) (with-before f here.behind before)
      ∙ sym (ap (λ (l : List File). set l i f) here.parts ∙ set_at (take i fs) here.file here.behind f i size)

  -- to put a file of a new name sets it in between
  pub put-between : (f : File) → f.name ≡ name → IsBetween fs name i →
      with_file (without_file fs name) f ≡ insert fs i f
  put-between f e is =
      let after : comes_after f.name (take i fs) ≡ true =
      subst (λ (n : List ℕ). comes_after n (take i fs) ≡ true) (sym e) is.after in
      let before : comes_before f.name (drop i fs) ≡ true =
      subst (λ (n : List ℕ). comes_before n (drop i fs) ≡ true) (sym e) is.before in
      ap (λ (l : List File). with_file l f) (drop-between is ∙ sym (take-append-drop i fs))
      ∙ skip-with f (take i fs) (drop i fs) after
      ∙ ap (λ (l : List File). take i fs ++ l) (with-before f (drop i fs) before)

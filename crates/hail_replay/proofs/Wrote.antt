-- The lines of several events, one behind the other.
use Rattle.hail_replay.proofs.Words.{◌≡◌, ◌≢◌, inl, inr, ℕ, suc, ◌+◌, ◌≤◌, List, [], ◌∷◌, ◌++◌, length, take, Option, Result, Ok, Err, IfOk, refl, ap, sym, subst, ◌∙◌, arith, length-append, take_all, told_then, TakesFront, rose-before, told_then-nothing, Sinking, WritesLine, Moment, Instruction, CarriedOut, StopsAtCut}
use Rattle.stream_model.proofs.ToldLemmas.{told_then-append}

-- a sink told and counted these
abbrev pub sank : Option (List ℕ) → Option (List ℕ) → ℕ → ℕ → Sinking
sank old new before now = record { old = old; new = new; before = before; now = now }

-- what holds of the value of a result that is known
pub ok-is : {E : Type 0} (result : Result (List ℕ) E) (value lines : List ℕ) → result ≡ Ok value
    → IfOk result (λ text. text ≡ lines) → value ≡ lines
ok-is (Ok text) value lines is same = (let h : value ≡ text = cc in h) ∙ same
ok-is (Err fault) value lines is same = absurd cc

-- ---- what is told

take-behind : (xs ys : List ℕ) (n : ℕ) → take (length xs + n) (xs ++ ys) ≡ xs ++ take n ys
take-behind [] ys n = ap (λ k. take k ys) (let e : 0 + n ≡ n = omega arith in e)
take-behind (x ∷ xs) ys n = ap (λ k. take k (x ∷ (xs ++ ys)))
    (let e : length (x ∷ xs) + n ≡ suc (length xs + n) = omega arith in e)
    ∙ ap (λ l. x ∷ l) (take-behind xs ys n)

front-behind : (first mid last : Option (List ℕ)) (xs ys : List ℕ) → mid ≡ told_then first xs →
    TakesFront mid last ys → TakesFront first last (xs ++ ys)
front-behind first mid last xs ys is (n, few, takes) = (
  length xs + n,
  (let l = length-append xs ys in omega (arith, l, few)),
  takes ∙ ap (λ t. told_then t (take n ys)) is ∙ told_then-append first xs (take n ys)
      ∙ ap (told_then first) (sym (take-behind xs ys n)),
)

whole-front : (first mid : Option (List ℕ)) (xs : List ℕ) → mid ≡ told_then first xs → TakesFront first mid xs
whole-front first mid xs is =
    (length xs, omega arith, is ∙ ap (told_then first) (sym (take_all (length xs) xs (omega arith))))

-- a sink that took nothing took a front
pub nothing-taken : (told : Option (List ℕ)) (text : List ℕ) → TakesFront told told text
nothing-taken told text = (0, omega arith, told_then-nothing told)

-- ---- what was written

all-written : (first mid : Option (List ℕ)) (b f : ℕ) (lines : List ℕ) →
    WritesLine lines 0 (sank first mid b f) → mid ≡ told_then first lines
all-written first mid b f lines (inl (s, is)) = is
all-written first mid b f lines (inr (inl (ne, s, rose, front))) = absurd (omega (arith, s))
all-written first mid b f lines (inr (inr (s, front))) = absurd (omega (arith, s))

-- writing no lines writes nothing
pub nothing-written : (first : Option (List ℕ)) (b : ℕ) → WritesLine [] 0 (sank first first b b)
nothing-written first b = inl (refl, told_then-nothing first)

not-empty : (xs ys : List ℕ) → ys ≢ [] → xs ++ ys ≢ []
not-empty [] ys ne e = ne e
not-empty (x ∷ xs) ys ne e = absurd cc

-- the lines of one event more
pub written-on : (first mid last : Option (List ℕ)) (b f g : ℕ) (lines more : List ℕ) (status : ℕ) → b ≤ f →
    f ≤ g → WritesLine lines 0 (sank first mid b f) → WritesLine more status (sank mid last f g) →
    WritesLine (lines ++ more) status (sank first last b g)
written-on first mid last b f g lines more status low never so_far (inl (s, is)) =
    (let here = all-written first mid b f lines so_far in
    inl (s, is ∙ ap (λ t. told_then t more) here ∙ told_then-append first lines more))
written-on first mid last b f g lines more status low never so_far (inr (inl (ne, s, rose, front))) =
    (let here = all-written first mid b f lines so_far in
    inr (inl (
      not-empty lines more ne,
      s,
      rose-before b f g low never rose,
      front-behind first mid last lines more here front,
    )))
written-on first mid last b f g lines more status low never so_far (inr (inr (s, front))) =
    (let here = all-written first mid b f lines so_far in
    inr (inr (s, front-behind first mid last lines more here front)))

-- those of one event more stand behind the others
pub behind-others : (first mid last : Option (List ℕ)) (b f g : ℕ) (lines more : List ℕ) (status : ℕ) →
    b ≤ f → f ≤ g → WritesLine lines 0 (sank first mid b f) → WritesLine more status (sank mid last f g)
    → WritesLine more status (sank (told_then first lines) last b g)
behind-others first mid last b f g lines more status low never so_far (inl (s, is)) =
    inl (s, is ∙ ap (λ t. told_then t more) (all-written first mid b f lines so_far))
behind-others first mid last b f g lines more status low never so_far (inr (inl (ne, s, rose, front))) =
    inr (inl (
      ne,
      s,
      rose-before b f g low never rose,
      subst (λ t. TakesFront t last more) (all-written first mid b f lines so_far) front,
    ))
behind-others first mid last b f g lines more status low never so_far (inr (inr (s, front))) =
    inr (inr (s, subst (λ t. TakesFront t last more) (all-written first mid b f lines so_far) front))

-- before the first event there is no line
pub none-cut : (first : Option (List ℕ)) (b : ℕ) → StopsAtCut [] [] [] 0 (sank first first b b)
none-cut first b = record {
  newest = [];
  older = [];
  before = [];
  more = [];
  moments = refl;
  others = (refl, refl);
  lines_are = refl;
  cut = inl (refl, told_then-nothing first ∙ told_then-nothing (told_then first []));
}

-- want of memory before the next event
pub written-out : (first mid : Option (List ℕ)) (b f : ℕ) (lines : List ℕ) →
    WritesLine lines 0 (sank first mid b f) → WritesLine lines 70 (sank first mid b f)
written-out first mid b f lines so_far =
    inr (inr (refl, whole-front first mid lines (all-written first mid b f lines so_far)))

-- want of memory before the next event cuts nothing off
pub cut-nothing : (done : List Instruction) (later : List Moment) (lines : List ℕ)
    (first mid : Option (List ℕ)) (b f : ℕ) → StopsAtCut done later lines 0 (sank first mid b f)
    → StopsAtCut done later lines 70 (sank first mid b f)
cut-nothing done later lines first mid b f S = record {
  newest = S.newest;
  older = S.older;
  before = S.before;
  more = S.more;
  moments = S.moments;
  others = S.others;
  lines_are = S.lines_are;
  cut = written-out (told_then first S.before) mid b f S.more S.cut;
}

-- how it ends
pub ends-of : (lines : List ℕ) (status : ℕ) (sink : Sinking) → WritesLine lines status sink →
    CarriedOut status sink
ends-of lines status sink (inl (s, is)) = inl s
ends-of lines status sink (inr (inl (ne, s, rose, front))) = inr (inl (s, rose))
ends-of lines status sink (inr (inr (s, front))) = inr (inr s)

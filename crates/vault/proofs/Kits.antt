-- The benches of a job: the object of each, and one for each profile of a repair's files.
use Rattle.vault.proofs.Words.{◌≡◌, ◌⊎◌, inl, inr, ℕ, zero, suc, ◌+◌, ◌<◌, Bool, true, false, List, [], ◌∷◌, ◌++◌, drop, get_or, None, Some, refl, sym, ap, subst, ◌∙◌, arith, slice_get, slice_set, position, list_any, position_from, cases_Bool, eq-eqb, eqb-true, position_from-zero, list_any-append, position-Some, none-some, same_Some, Each, each_get, Profile, profile_of, Object, Setup, File, profiled, object_of, cond_true, cond_false, Bench, bench_object, turned, IsBench, Desk, is_sized, is_served, IsOfDesk, AreOfDesk, AreServed, IsSwapped, Phase, Between, AreOfSetup, OneHas, HasBenchFor, IsAtHand}
use Rattle.std.proofs.Common.{length}
use Rattle.std.specs.Prelude.{◌||◌}
use Rattle.std.proofs.Math.Bool.{or-true}
use Rattle.machine_defs.specs.Jobs.{Pinned}

-- ---- a bench

-- the object of a bench of the setup that was turned to another number
pub turned_is : (s : Setup) (profile : ℕ) (bench : Bench) (o : ℕ) → IsBench s profile bench →
    turned bench o ≡ object_of (profiled s profile) o
turned_is s profile bench o is = ap (λ (x : Object). record x { id = o }) is

-- a bench that was turned is one of the setup
pub bench_after : (s : Setup) (profile : ℕ) (bench bench' : Bench) (o : ℕ) → IsBench s profile bench →
    bench_object bench' ≡ turned bench o → IsBench s profile bench'
bench_after s profile bench bench' o is turned_to = turned_to ∙ turned_is s profile bench o is
    ∙ ap (object_of (profiled s profile)) (sym (ap (λ (x : Object). x.id) turned_to))

-- it has the setup's providers
pub bench_count : (s : Setup) (profile : ℕ) (bench : Bench) → IsBench s profile bench →
    bench.keys.file.shape.n ≡ s.n
bench_count s profile bench is = ap (λ (x : Object). x.shape.n) is

-- it makes blocks of its profile's size
pub bench_size : (s : Setup) (profile : ℕ) (bench : Bench) → IsBench s profile bench →
    bench.keys.file.profile.size ≡ (profile_of profile).size
bench_size s profile bench is = ap (λ (x : Object). x.profile.size) is

-- profiles whose blocks have one size are one
pub same_size : (p q : ℕ) → (profile_of p).size ≡ (profile_of q).size → profile_of p ≡ profile_of q
same_size zero zero e = refl
same_size (suc zero) (suc zero) e = refl
same_size (suc (suc zero)) (suc (suc zero)) e = refl
same_size (suc (suc (suc zero))) (suc (suc (suc zero))) e = refl
same_size (suc (suc (suc (suc n)))) (suc (suc (suc (suc m)))) e = refl
same_size zero (suc (suc (suc (suc m)))) e = absurd (omega (arith, e))
same_size (suc zero) (suc (suc (suc (suc m)))) e = absurd (omega (arith, e))
same_size (suc (suc zero)) (suc (suc (suc (suc m)))) e = absurd (omega (arith, e))
same_size _ _ e = absurd (omega (arith, e))

abbrev object_at : Setup → ℕ → Profile → Object
object_at s id x =
    record { shape = record { n = s.n; l = s.l; b = s.b }; profile = x; master = s.master; id = id }

-- a bench of the setup whose blocks have the size of a profile is for this profile
pub by_size : (s : Setup) (p q : ℕ) (bench : Bench) → IsBench s q bench →
    bench.keys.file.profile.size ≡ (profile_of p).size → IsBench s p bench
by_size s p q bench is size =
    is ∙ ap (object_at s bench.keys.file.id) (same_size q p (sym (bench_size s q bench is) ∙ size))

-- ---- benches of a setup

-- the first of them has the setup's providers
pub first_count : (s : Setup) (b : Bench) (bs : List Bench) → AreOfSetup s (b ∷ bs) →
    b.keys.file.shape.n ≡ s.n
first_count s b bs are = bench_count s are.0.0 b are.0.1

-- the first of them was turned
pub own_after : (s : Setup) (b b' : Bench) (bs : List Bench) (o : ℕ) → AreOfSetup s (b ∷ bs) →
    bench_object b' ≡ turned b o → AreOfSetup s (b' ∷ bs)
own_after s b b' bs o are turned_to = ((are.0.0, bench_after s are.0.0 b b' o are.0.1 turned_to), are.1)

-- and serves what it served
pub serves_after : (s : Setup) (p : ℕ) (b b' : Bench) (bs : List Bench) (o : ℕ) → HasBenchFor s p (b ∷ bs) →
    bench_object b' ≡ turned b o → HasBenchFor s p (b' ∷ bs)
serves_after s p b b' bs o (inl h) turned_to = inl (bench_after s p b b' o h turned_to)
serves_after s p b b' bs o (inr r) turned_to = inr r

-- and is at hand for what it was
pub at_hand_after : (s : Setup) (pinned : List Pinned) (phase : Phase) (b b' : Bench) (o : ℕ) →
    IsAtHand s pinned phase b → bench_object b' ≡ turned b o → IsAtHand s pinned phase b'
at_hand_after s pinned Between b b' o at turned_to = tt
at_hand_after s pinned _ b b' o at turned_to = bench_after s _ b b' o at turned_to

-- a profile that is served is found by the size of its blocks
pub served : (s : Setup) (p : ℕ) (benches : List Bench) → HasBenchFor s p benches → is_served p benches ≡ true
served s p [] h = absurd h
served s p (b ∷ bs) (inl h) =
    ap (λ (t : Bool). t || list_any (is_sized (profile_of p).size) bs) (eq-eqb _ _ (bench_size s p b h))
served s p (b ∷ bs) (inr r) = ap (λ (t : Bool). is_sized (profile_of p).size b || t) (served s p bs r)
    ∙ or-true (is_sized (profile_of p).size b)

-- and the other way round
pub serves : (s : Setup) (p : ℕ) (benches : List Bench) → AreOfSetup s benches → is_served p benches ≡ true →
    HasBenchFor s p benches
serves s p [] are h = absurd (cc h)
serves s p (b ∷ bs) are h = elim (cases_Bool (is_sized (profile_of p).size b)) [
  | inl t ↦ inl (by_size s p are.0.0 b are.0.1 (eqb-true _ _ t))
  | inr f ↦ inr (serves s p bs are.1 (sym (ap (λ t. t || list_any (is_sized (profile_of p).size) bs) f) ∙ h))
]

-- ---- one of them taken up

set_each : {X : Type 0} (P : X → Type 0) (xs : List X) (k : ℕ) (x : X) → Each P xs → P x →
    Each P (slice_set xs k x)
set_each P [] k x all is = tt
set_each P (y ∷ xs) zero x all is = (is, all.1)
set_each P (y ∷ xs) (suc k) x all is = (all.0, set_each P xs k x all.1 is)

set_one : {X : Type 0} (P : X → Type 0) (xs : List X) (k : ℕ) (x y : X) → slice_get xs k ≡ Some x → P y →
    OneHas P (slice_set xs k y)
set_one P [] k x y there h = absurd (none-some x there)
set_one P (z ∷ xs) zero x y there h = inl h
set_one P (z ∷ xs) (suc k) x y there h = inr (set_one P xs k x y there h)

others_have : {X : Type 0} (P : X → Type 0) (xs : List X) (k : ℕ) (x y : X) → slice_get xs k ≡ Some x →
    OneHas P xs → P x ⊎ OneHas P (slice_set xs k y)
others_have P [] k x y there h = absurd h
others_have P (z ∷ xs) zero x y there (inl h) = inl (subst P (same_Some z x there) h)
others_have P (z ∷ xs) zero x y there (inr r) = inr (inr r)
others_have P (z ∷ xs) (suc k) x y there (inl h) = inr (inl h)
others_have P (z ∷ xs) (suc k) x y there (inr r) = elim (others_have P xs k x y there r) [
  | inl h ↦ inl h
  | inr h ↦ inr (inr h)
]

-- with one of them taken up they are of the setup still
pub own_swapped : (s : Setup) (b : Bench) (bs : List Bench) (b' : Bench) (bs' : List Bench) →
    IsSwapped b bs b' bs' → AreOfSetup s (b ∷ bs) → AreOfSetup s (b' ∷ bs')
own_swapped s b bs b' bs' swapped are = (
  each_get (λ (x : Bench). (p : ℕ) × IsBench s p x) bs swapped.place b' are.1 swapped.there,
  subst (AreOfSetup s) (sym swapped.left_is)
      (set_each (λ (x : Bench). (p : ℕ) × IsBench s p x) bs swapped.place b are.1 are.0),
)

-- and serve what they served
pub serves_swapped : (s : Setup) (p : ℕ) (b : Bench) (bs : List Bench) (b' : Bench) (bs' : List Bench) →
    IsSwapped b bs b' bs' → HasBenchFor s p (b ∷ bs) → HasBenchFor s p (b' ∷ bs')
serves_swapped s p b bs b' bs' swapped (inl h) = inr (subst (HasBenchFor s p) (sym swapped.left_is)
    (set_one (λ (x : Bench). IsBench s p x) bs swapped.place b' b swapped.there h))
serves_swapped s p b bs b' bs' swapped (inr r) =
    elim (others_have (λ (x : Bench). IsBench s p x) bs swapped.place b' b swapped.there r) [
      | inl h ↦ inl h
      | inr h ↦ inr (subst (HasBenchFor s p) (sym swapped.left_is) h)
    ]

-- ---- the place of one

none_from : (p : Bench → Bool) (i : ℕ) (bs : List Bench) → position_from p i bs ≡ None → list_any p bs ≡ false
none_from p i [] none = refl
none_from p i (b ∷ bs) none = elim (cases_Bool (p b)) [
  | inl t ↦ absurd (let e : Some i ≡ None = sym (cond_true (p b) (Some i) (position_from p (i + 1) bs) t)
      ∙ none in cc)
  | inr f ↦ ap (λ (t : Bool). t || list_any p bs) f
      ∙ none_from p (i + 1) bs (sym (cond_false (p b) (Some i) (position_from p (i + 1) bs) f) ∙ none)
]

-- where no place has one there is none
pub none_placed : (p : Bench → Bool) (bs : List Bench) → position p bs ≡ None → list_any p bs ≡ false
none_placed p bs none = none_from p 0 bs (sym (position_from-zero p bs) ∙ none)

-- a place has one
pub one_placed : (p : Bench → Bool) (bs : List Bench) (k : ℕ) (d : Bench) → position p bs ≡ Some k →
    (k < length bs) × (p (get_or bs k d) ≡ true)
one_placed p bs k d at = (let f = position-Some p bs k d at in (f.0, f.1))

-- whose blocks have the size that was looked for
pub size_of : (size : ℕ) (bs : List Bench) (k : ℕ) (d : Bench) → position (is_sized size) bs ≡ Some k →
    (get_or bs k d).keys.file.profile.size ≡ size
size_of size bs k d at = eqb-true _ _ (one_placed (is_sized size) bs k d at).1

-- where no other has the size, and one has it, it is the first
pub none_own : (size : ℕ) (own : Bench) (bs : List Bench) → position (is_sized size) bs ≡ None →
    list_any (is_sized size) (own ∷ bs) ≡ true → own.keys.file.profile.size ≡ size
none_own size own bs none h = elim (cases_Bool (is_sized size own)) [
  | inl t ↦ eqb-true _ _ t
  | inr f ↦ absurd (let e : false ≡ true = sym (none_placed (is_sized size) bs none)
      ∙ sym (ap (λ (t : Bool). t || list_any (is_sized size) bs) f) ∙ h in cc)
]

-- ---- more of them

-- a bench behind others serves its own profile
pub served_last : (p : ℕ) (own : Bench) (bs : List Bench) (b : Bench) →
    b.keys.file.profile.size ≡ (profile_of p).size → is_served p (own ∷ (bs ++ b ∷ [])) ≡ true
served_last p own bs b size = list_any-append (is_sized (profile_of p).size) (own ∷ bs) (b ∷ [])
    ∙ ap (λ (t : Bool). list_any (is_sized (profile_of p).size) (own ∷ bs) || t) last
    ∙ or-true (list_any (is_sized (profile_of p).size) (own ∷ bs))
  where
    last : list_any (is_sized (profile_of p).size) (b ∷ []) ≡ true
    last = ap (λ (t : Bool). t || list_any (is_sized (profile_of p).size) []) (eq-eqb _ _ size)

-- and the others serve what they served
pub served_more : (p : ℕ) (own : Bench) (bs more : List Bench) → is_served p (own ∷ bs) ≡ true →
    is_served p (own ∷ (bs ++ more)) ≡ true
served_more p own bs more h = list_any-append (is_sized (profile_of p).size) (own ∷ bs) more
    ∙ ap (λ (t : Bool). t || list_any (is_sized (profile_of p).size) more) h

-- one more of a desk
pub desk_more : (v : Desk) (bs : List Bench) (b : Bench) → AreOfDesk v bs → IsOfDesk v b →
    AreOfDesk v (bs ++ b ∷ [])
desk_more v [] b are is = (is, tt)
desk_more v (x ∷ bs) b are is = (are.0, desk_more v bs b are.1 is)

-- files that are served are so by more benches
pub all_served_more : (files : List File) (old new : List Bench) →
    ((p : ℕ) → is_served p old ≡ true → is_served p new ≡ true) → AreServed files old → AreServed files new
all_served_more [] old new more all = tt
all_served_more (f ∷ fs) old new more all = (more f.profile all.0, all_served_more fs old new more all.1)

-- one file more is served
pub one_served_more : (files : List File) (k : ℕ) (f : File) (benches : List Bench) →
    Some f ≡ slice_get files k → is_served f.profile benches ≡ true → AreServed (drop (suc k) files) benches →
    AreServed (drop k files) benches
one_served_more [] k f benches there own all = absurd (none-some f (sym there))
one_served_more (g ∷ fs) zero f benches there own all = ((rw (same_Some f g there) at own), all)
one_served_more (g ∷ fs) (suc k) f benches there own all = one_served_more fs k f benches there own all

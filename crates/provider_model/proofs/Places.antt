-- The blocks of a provider in memory, when its map changes. f gives the symbols of what the map has.
use Rattle.std.proofs.Common.{◌≡◌, ℕ, Bool, true, false, cond, not, ◌&&◌, List, slice_set, Option, Some, None, is_some, refl, sym, ap, ◌∙◌, subst, arith}
use Rattle.std.specs.Prelude.{◌==◌, if◌then◌else◌, IfNone}
use Rattle.std.specs.Option.{option_map}
use Rattle.std.specs.Ordering.{nat_cmp, is_eq}
use Rattle.std.specs.Cmp.{tied_then}
use Rattle.std.specs.BTreeMap.{is_at}
use Rattle.std.specs.Map.{lookup}
use Rattle.std.specs.List.{filter}
use Rattle.std.proofs.lemmas.Bool.Decides.{nat_tests}
use Rattle.std.proofs.lemmas.Map.Entries.{lookup-filter-keys}
use Rattle.device_defs.specs.Providers.{Held, with_block, without_block, without_object, with_symbol}
use Rattle.provider_model.specs.HeldBlocks.{place_cmp}

same_number : (a b : ℕ) → is_eq (nat_cmp a b) ≡ (b == a)
same_number a b = grind (arith, nat_tests)

-- a look-up finds the place that has both numbers
same_place : (object stripe o s : ℕ) → is_at (place_cmp (object, stripe)) (o, s)
    ≡ ((o == object) && (s == stripe))
same_place object stripe o s = sym (tied_then (nat_cmp object o) (nat_cmp stripe s))
    ∙ (λ i. same_number object o i && same_number stripe s i)

-- two values that agree at one place may stand there
split : {X : Type 0} (b : Bool) (A B C : X) → (b ≡ true → A ≡ B) → (if b then A else C) ≡ (if b then B else C)
split true A B C same = same refl
split false A B C same = refl

same_first : (o object s stripe : ℕ) → ((o == object) && (s == stripe)) ≡ true → o ≡ object
same_first o object s stripe is = grind (arith, nat_tests)

same_second : (o object s stripe : ℕ) → ((o == object) && (s == stripe)) ≡ true → s ≡ stripe
same_second o object s stripe is = grind (arith, nat_tests)

module _ {X : Type 0} (f : X → List ℕ) where
  abbrev seen : (ℕ × ℕ → Option X) → Held
  seen g o s = option_map f (g (o, s))

  moved : (b : Bool) (w x : Option X) → option_map f (cond b w x)
      ≡ (if b then option_map f w else option_map f x)
  moved true w x = refl
  moved false w x = refl

  module _ (g h : ℕ × ℕ → Option X) (object stripe : ℕ) (w : Option X)
      (is : (q : ℕ × ℕ) → h q ≡ cond (is_at (place_cmp (object, stripe)) q) w (g q)) where
    -- one place has another value, and all others stay
    pub updated : (o s : ℕ) →
        seen h o s ≡ (if (o == object) && (s == stripe) then option_map f w else seen g o s)
    updated o s = ap (λ (x : Option X). option_map f x) (is (o, s))
        ∙ ap (λ (b : Bool). option_map f (cond b w (g (o, s)))) (same_place object stripe o s)
        ∙ moved ((o == object) && (s == stripe)) w (g (o, s))

  -- a map with one more block is the store that a store leaves
  pub set : (g h : ℕ × ℕ → Option X) (object stripe : ℕ) (w : X) (block : List ℕ) →
      ((q : ℕ × ℕ) → h q ≡ cond (is_at (place_cmp (object, stripe)) q) (Some w) (g q)) → f w ≡ block
      → seen h ≡ with_block object stripe block (seen g)
  set g h object stripe w block is same = λ i o s. (updated g h object stripe (Some w) is o s
      ∙ ap (λ (l : List ℕ). if (o == object) && (s == stripe) then Some l else seen g o s) same) i

  -- what the entries have at a place
  abbrev find : List ((ℕ × ℕ) × X) → ℕ × ℕ → Option X
  find es q = lookup (is_at (place_cmp q)) es

  -- a map without a block is the store that lost it
  pub taken : (es rest : List ((ℕ × ℕ) × X)) (object stripe : ℕ) (b : Bool) (r : Option X) → b ≡ is_some r →
      IfNone r (rest ≡ es) →
      ((q : ℕ × ℕ) → find rest q ≡ cond (is_at (place_cmp (object, stripe)) q) None (find es q))
      → seen (find rest) ≡ (if b then without_block object stripe (seen (find es)) else seen (find es))
  taken es rest object stripe b None is same change =
      subst (λ (b : Bool). seen (find rest)
      ≡ (if b then without_block object stripe (seen (find es)) else seen (find es))) (sym is)
      (ap (λ (l : List ((ℕ × ℕ) × X)). seen (find l)) same)
  taken es rest object stripe b (Some x) is same change =
      subst (λ (b : Bool). seen (find rest)
      ≡ (if b then without_block object stripe (seen (find es)) else seen (find es))) (sym is)
      (λ i o s. updated (find es) (find rest) object stripe None change o s i)

  module _ (g h : ℕ × ℕ → Option X) (object stripe : ℕ) (b w : X) (there : Some b ≡ g (object, stripe))
      (is : (q : ℕ × ℕ) → h q ≡ cond (is_at (place_cmp (object, stripe)) q) (Some w) (g q)) where
    found : (o s : ℕ) → ((o == object) && (s == stripe)) ≡ true → Some (f b) ≡ seen g o s
    found o s at = ap (λ (x : Option X). option_map f x) there
        ∙ sym (λ i. seen g (same_first o object s stripe at i) (same_second o object s stripe at i))

    -- a map with one symbol changed is the store with that symbol
    pub put : (place symbol : ℕ) (r : Bool) → f w ≡ (if r then slice_set (f b) place symbol else f b) →
        seen h ≡ (if r then with_symbol object stripe place symbol (seen g) else seen g)
    put place symbol true w_is = λ i o s. (
        updated g h object stripe (Some w) is o s
        ∙ split ((o == object) && (s == stripe)) (Some (f w))
        (option_map (λ (l : List ℕ). slice_set l place symbol) (seen g o s)) (seen g o s)
        (λ at. ap (λ (l : List ℕ). Some l) w_is
        ∙ ap (λ (x : Option (List ℕ)). option_map (λ (l : List ℕ). slice_set l place symbol) x)
        (found o s at))
        ) i
    put place symbol false w_is = λ i o s. (
        updated g h object stripe (Some w) is o s
        ∙ split ((o == object) && (s == stripe)) (Some (f w)) (seen g o s) (seen g o s)
        (λ at. ap (λ (l : List ℕ). Some l) w_is ∙ found o s at)
        ∙ whole ((o == object) && (s == stripe)) (seen g o s)
        ) i
      where
        whole : (t : Bool) (x : Option (List ℕ)) → (if t then x else x) ≡ x
        whole true x = refl
        whole false x = refl

  -- the entries of all other objects
  abbrev others : ℕ → ℕ × ℕ → Bool
  others object k = not (k.0 == object)

  at_first : (o s object : ℕ) (k : ℕ × ℕ) → is_at (place_cmp (o, s)) k ≡ true →
      others object k ≡ not (o == object)
  at_first o s object k at =
      ap (λ (n : ℕ). not (n == object)) (same_first k.0 o k.1 s (sym (same_place o s k.0 k.1) ∙ at))

  dropped : (b : Bool) (x : Option X) → option_map f (cond (not b) x None)
      ≡ (if b then None else option_map f x)
  dropped true x = refl
  dropped false x = refl

  -- a map without an object's blocks is the store that a removal leaves
  pub taken_all : (es kept : List ((ℕ × ℕ) × X)) (object : ℕ) → kept ≡ filter (λ e. others object e.0) es
      → (λ o s. option_map f (lookup (is_at (place_cmp (o, s))) kept))
      ≡ without_object object (λ o s. option_map f (lookup (is_at (place_cmp (o, s))) es))
  taken_all es kept object is = λ i o s. (
      ap (λ (l : List ((ℕ × ℕ) × X)). option_map f (lookup (is_at (place_cmp (o, s))) l)) is
      ∙ ap (λ (x : Option X). option_map f x)
      (lookup-filter-keys (is_at (place_cmp (o, s))) (others object) (not (o == object))
      (at_first o s object) es)
      ∙ dropped (o == object) (lookup (is_at (place_cmp (o, s))) es)
      ) i

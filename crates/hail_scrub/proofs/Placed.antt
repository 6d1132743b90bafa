-- The file that a scrub works on.
use Rattle.hail_scrub.proofs.Words.{◌≡◌, ℕ, zero, suc, ◌<◌, Bool, List, [], ◌∷◌, length, map, Some, refl, ap, sym, subst, ◌∙◌, arith, slice_get, slice_set, get_or, option_map, length-map, slice_get-map, slice_get_read, slice_get_within, Object, present_blocks, turned, bench_kind, file_kind, Bench, Item, Spot, Cursor, Progress, scrub_left, item_object, bench_rows, size_in, phase_at, scrub_view, IsItem, IsSpot, StoresOnlyAt, IsAmid, IsProgress, IsOne, GoesPast}
use Rattle.hail_scrub.specs.declared.cursor.Cursor.TheVariants as cursor
use Rattle.hail_scrub.specs.Views as views
use Rattle.hail_scrub.proofs.Rests.{all_get}

-- ---- benches

-- another item of the same value at a place leaves the values
map_set_same : {X Y : Type 0} (f : X → Y) (xs : List X) (k : ℕ) (b c : X) → slice_get xs k ≡ Some b →
    f c ≡ f b → map f (slice_set xs k c) ≡ map f xs
map_set_same f [] k b c there same = refl
map_set_same {X = X} {Y = Y} f (x ∷ xs) zero b c there same =
    (let e : Some x ≡ Some b = there in let g : x ≡ b = cc in
    ap (λ (o : Y). o ∷ map f xs) (same ∙ ap f (sym g)))
map_set_same {Y = Y} f (x ∷ xs) (suc k) b c there same =
    ap (λ (l : List Y). f x ∷ l) (map_set_same f xs k b c there same)

-- another bench of the same kind leaves the kinds
pub kinds_stay : (bs : List Bench) (k : ℕ) (b c : Bench) → slice_get bs k ≡ Some b →
    bench_kind c ≡ bench_kind b → map bench_kind (slice_set bs k c) ≡ map bench_kind bs
kinds_stay bs k b c there same = map_set_same bench_kind bs k b c there same

-- a bench that serves a file, turned to its number, is one of its object
pub turned_is : (b : Bench) (master : List ℕ) (item : Item) → bench_kind b ≡ file_kind master item.file →
    turned b item.file.id ≡ item_object master item
turned_is b master item same = ap (λ (o : Object). record o { id = item.file.id }) same

module _ (p : Progress) (W : IsProgress p) (spot : Spot) (is : IsSpot p.items.items spot) where
  -- the file of a stripe has what all files have
  pub item_is : IsItem p.providers p.master.0 (map bench_kind p.benches.items) spot.item
  item_is = all_get (IsItem p.providers p.master.0 (map bench_kind p.benches.items)) p.items.items spot.place
      spot.item is.there W.items

  -- its object is one of the scrub's
  pub one_is : IsOne (map (item_object p.master.0) p.items.items) spot.item.file.id
      (item_object p.master.0 spot.item)
  one_is = record {
    place = spot.place;
    there = slice_get-map (item_object p.master.0) p.items.items spot.place
        ∙ ap (option_map (item_object p.master.0)) is.there;
    id_is = refl;
  }

  -- its bench is there
  pub bench_there : spot.item.bench < length p.benches.items
  bench_there =
      let l = slice_get_within (map bench_kind p.benches.items) spot.item.bench
      (file_kind p.master.0 spot.item.file)
      item_is.bench in
      omega (arith, l, length-map p.benches.items bench_kind)

  -- the bench that is read there
  pub bench_read : (b : Bench) → b ≡ get_or p.benches.items spot.item.bench b →
      slice_get p.benches.items spot.item.bench ≡ Some b
  bench_read b is = slice_get_read p.benches.items _ spot.item.bench b refl bench_there is

  -- and serves it
  pub bench_serves : (b : Bench) → slice_get p.benches.items spot.item.bench ≡ Some b →
      bench_kind b ≡ file_kind p.master.0 spot.item.file
  bench_serves b there =
      let e : Some (bench_kind b) ≡ Some (file_kind p.master.0 spot.item.file) =
      sym (ap (option_map bench_kind) there) ∙ sym (slice_get-map bench_kind p.benches.items spot.item.bench)
      ∙ item_is.bench in
      cc

-- ---- phases

-- no blocks
none_present : (size : ℕ) (flags : List Bool) (symbols : List ℕ) → length flags ≡ 0 →
    present_blocks size flags symbols ≡ []
none_present size [] symbols e = refl
none_present size (f ∷ flags) symbols e = absurd (omega (arith, e))

-- where a scrub is behind an action on a stripe
pub phase_behind : (p : Progress) (spot : Spot) (c : Cursor) (rows : List ℕ) → StoresOnlyAt spot c →
    length p.blocks.present.items ≡ 0 → bench_rows p.benches.items spot.item.bench ≡ rows →
    GoesPast spot.item.file.id spot.stripe rows (phase_at p c)
phase_behind p spot (cursor.Fetching other j) rows behind none is =
    none_present other.item.file.profile.size p.blocks.present.items p.blocks.symbols.items none
phase_behind p spot (cursor.Opening other) rows behind none is =
    none_present other.item.file.profile.size p.blocks.present.items p.blocks.symbols.items none
phase_behind p spot (cursor.Storing other j) rows behind none is = (
  ap (λ (s : Spot). s.item.file.id) behind,
  ap (λ (s : Spot). s.stripe) behind,
  ap (λ (s : Spot). bench_rows p.benches.items s.item.bench) behind ∙ is,
)
phase_behind p spot cursor.Ending rows behind none is = tt
phase_behind p spot cursor.Over rows behind none is = tt

-- where it is while it fetches
pub phase_amid : (p : Progress) (spot : Spot) (c : Cursor) → IsAmid spot c →
    phase_at p c ≡ views.Fetched spot.item.file.id spot.stripe
    (present_blocks spot.item.file.profile.size p.blocks.present.items p.blocks.symbols.items)
phase_amid p spot (cursor.Fetching other j) amid = ap (λ (s : Spot). views.Fetched s.item.file.id s.stripe
    (present_blocks s.item.file.profile.size p.blocks.present.items p.blocks.symbols.items)) amid
phase_amid p spot (cursor.Opening other) amid = ap (λ (s : Spot). views.Fetched s.item.file.id s.stripe
    (present_blocks s.item.file.profile.size p.blocks.present.items p.blocks.symbols.items)) amid
phase_amid p spot (cursor.Storing other j) amid = absurd amid
phase_amid p spot cursor.Ending amid = absurd amid
phase_amid p spot cursor.Over amid = absurd amid

-- and the size of its blocks
pub size_amid : (spot : Spot) (c : Cursor) → IsAmid spot c → size_in c ≡ spot.item.file.profile.size
size_amid spot (cursor.Fetching other j) amid = ap (λ (s : Spot). s.item.file.profile.size) amid
size_amid spot (cursor.Opening other) amid = ap (λ (s : Spot). s.item.file.profile.size) amid
size_amid spot (cursor.Storing other j) amid = absurd amid
size_amid spot cursor.Ending amid = absurd amid
size_amid spot cursor.Over amid = absurd amid

-- ---- steps

-- fewer steps are left
pub falls_by : (p q : Progress) → IsProgress p → IsProgress q → q.left < p.left →
    scrub_left (scrub_view q) < scrub_left (scrub_view p)
falls_by p q W V less =
    let a : p.left ≡ scrub_left (scrub_view p) = W.left in
    let b : q.left ≡ scrub_left (scrub_view q) = V.left in
    subst (λ (k : ℕ). k < scrub_left (scrub_view p)) b (subst (λ (k : ℕ). q.left < k) a less)

-- An opening of a scrub.
use Rattle.hail_scrub.proofs.Words.{◌≡◌, ℕ, ◌+◌, ◌*◌, ◌<◌, ◌≤◌, ◌==◌, ◌^◌, Bool, true, false, List, [], ◌∷◌, ◌++◌, length, map, Vec, Global, Some, refl, ap, sym, subst, ◌∙◌, arith, slice_get_within, slice_get, get_or, slice_index, with_item, if◌then◌else◌, All, flat_map, get-set_same, Object, SeenBlock, GivesSymbols, LosesRow, present_blocks, length-present_blocks, Provider, Action, Store, Work, bench_object, turned, bench_kind, file_kind, blocks_in, Bench, Blocks, Spot, Cursor, Progress, ScrubView, most_steps, store_of, stores_from, past_stripe, todo_at, item_object, rows_of, fetched_at, size_in, phase_at, scrub_view, IsItem, IsSpot, IsCursor, TakesOpening, IsProgress, off_in, stores_in, MakesNext}
use Rattle.std.proofs.Common.{vec_capacity}
use Rattle.column_codec.specs.declared.codec.Codec.{Codec}
use Rattle.hail_scrub.specs.declared.cursor.Cursor.TheVariants as cursor
use Rattle.hail_scrub.specs.declared.turn.ScrubAnswer.TheVariants as answer
use Rattle.hail_scrub.specs.declared.turn.ScrubTurn.TheVariants as turn
use Rattle.hail_scrub.specs.Compared.{HasBlocks, IsSurveyed}
use Rattle.hail_scrub.proofs.Given.{flat_map-below}
use Rattle.hail_scrub.proofs.Lefts.{left-append, left-work, left-stores}
use Rattle.hail_scrub.proofs.Rests.{numbers_all}
use Rattle.hail_scrub.proofs.Placed.{kinds_stay, turned_is, item_is, one_is, bench_read, bench_serves, phase_behind}

-- the stores are those of the blocks that are off
stores_are : (n : ℕ) (x : Object) (t : ℕ) (seen : List SeenBlock) (rows off : List ℕ) →
    ((j : ℕ) → j < n → slice_index off j ≡ off_in x t seen rows j) →
    stores_from n 0 off x.id t ≡ stores_in n x t seen rows
stores_are n x t seen rows off is = ap (flat_map (store_of off x.id t)) (numbers_all n)
    ∙ flat_map-below (store_of off x.id t)
    (λ j. if off_in x t seen rows j == 0 then [] else Store j x.id t ∷ []) 0 n
    (λ k l i. if is k (omega (arith, l)) i == 0 then [] else Store k x.id t ∷ [])

-- a choice of one or none is at most one
one_at_most : (b : Bool) → (if b then 0 else 1) ≤ 1
one_at_most true = omega arith
one_at_most false = omega arith

module _ (p : Progress) (W : IsProgress p) (spot : Spot) (here : p.cursor ≡ cursor.Opening spot) where
  -- the stripe is one of a file
  pub open_spot : IsSpot p.items.items spot
  open_spot = subst (IsCursor p.providers p.items.items p.off) here W.placed

  present_is : length p.blocks.present.items ≡ p.providers
  present_is = W.present ∙ ap (fetched_at p.providers) here

  symbols_is : length p.blocks.symbols.items ≡ p.providers * spot.item.file.profile.size
  symbols_is = W.symbols ∙ ap (λ (c : Cursor). fetched_at p.providers c * size_in c) here

  todo_is : todo_at p.providers p.items.items p.off p.cursor
      ≡ Work spot.item.file.id spot.stripe ∷ past_stripe p.providers p.items.items spot
  todo_is = ap (todo_at p.providers p.items.items p.off) here

  left_is : p.left ≡ 1 + p.providers + most_steps p.providers (past_stripe p.providers p.items.items spot)
  left_is = W.left ∙ ap (most_steps p.providers) todo_is
      ∙ left-work p.providers spot.item.file.id spot.stripe (past_stripe p.providers p.items.items spot)

  -- what is taken in has room
  pub open_left : p.providers + 1 ≤ p.left
  open_left = omega (arith, left_is)

  -- no more is left than fits
  pub open_most : p.left ≤ 2 ^ 50
  open_most = omega (arith, W.few_stripes)

  -- so many stripes fit
  pub open_stripes : p.found.stripes ≤ 2 ^ 50
  open_stripes = omega (arith, W.few_stripes)

  -- so many symbols of a provider
  pub open_symbols : (j : ℕ) → slice_index p.found.symbols j ≤ 2 ^ 50
  open_symbols j = let f = W.few_symbols j in omega (arith, f)

  -- and so many blocks of it
  pub open_blocks : (j : ℕ) → slice_index p.found.blocks j ≤ 2 ^ 50
  open_blocks j = let f = W.few_blocks j in omega (arith, f)

  abbrev seen : List SeenBlock
  seen = present_blocks spot.item.file.profile.size p.blocks.present.items p.blocks.symbols.items

  module _ (b : Blocks) (b0 : Bench) (present : b.present ≡ p.blocks.present)
      (symbols : b.symbols ≡ p.blocks.symbols) (size : b.size ≡ spot.item.file.profile.size)
      (is : b0 ≡ get_or p.benches.items spot.item.bench b0) where
    there : slice_get p.benches.items spot.item.bench ≡ Some b0
    there = bench_read p W spot open_spot b0 is

    serves : bench_kind b0 ≡ file_kind p.master.0 spot.item.file
    serves = bench_serves p W spot open_spot b0 there

    -- there is a block of each provider
    pub open_has : HasBlocks b0 b
    open_has =
        let n : b0.keys.file.shape.n ≡ p.providers =
        ap (λ (o : Object). o.shape.n) serves ∙ (item_is p W spot open_spot).providers in
        let s : b0.keys.file.profile.size ≡ spot.item.file.profile.size =
        ap (λ (o : Object). o.profile.size) serves in
        record {
          size = size ∙ sym s;
          present = ap (λ v. length v.items) present ∙ present_is ∙ sym n;
          symbols = ap (λ v. length v.items) symbols ∙ symbols_is ∙ (λ i. (sym n) i * (sym s) i);
        }

    seen_is : blocks_in b ≡ seen
    seen_is = (λ i. present_blocks (size i) (present i).items (symbols i).items)

    -- a row that is lost
    pub open_loses : (row : ℕ) (new : ScrubView) (ps : List Provider) → new.todo ≡ [] →
        LosesRow (turned b0 spot.item.file.id) spot.stripe (blocks_in b) row →
        MakesNext (scrub_view p) ps (turn.Done (answer.Lost spot.stripe row)) new ps
    open_loses row new ps over lost = record {
      action = Work spot.item.file.id spot.stripe;
      rest = past_stripe p.providers p.items.items spot;
      todo_is = todo_is;
      acts = (
        refl,
        record {
          x = item_object p.master.0 spot.item;
          one = one_is p W spot open_spot;
          providers_are = (item_is p W spot open_spot).providers;
          seen = seen;
          at_is = ap (phase_at p) here;
          count = length-present_blocks spot.item.file.profile.size p.blocks.present.items
              p.blocks.symbols.items ∙ present_is;
          lost = subst (λ (o : Object). LosesRow o spot.stripe seen row)
              (turned_is b0 p.master.0 spot.item serves)
              (subst (λ (l : List SeenBlock). LosesRow (turned b0 spot.item.file.id) spot.stripe l row)
              seen_is lost);
        },
        refl,
      );
      over = over;
    }

    module _ (b1 : Bench) (object : bench_object b1 ≡ turned b0 spot.item.file.id) (cd : Codec) where
      abbrev bs : Vec Bench Global
      bs = with_item p.benches spot.item.bench b1

      items_stay : All (IsItem p.providers p.master.0 (map bench_kind bs.items)) p.items.items
      items_stay = subst (λ (l : List Object). All (IsItem p.providers p.master.0 l) p.items.items)
          (sym (kinds_stay p.benches.items spot.item.bench b0 b1 there
          (ap (λ (o : Object). record o { id = 0 }) object))) W.items

      -- the scrub before it is known what came of it
      pub open_stays : IsProgress (record p { blocks = b; benches = bs; codec = cd })
      open_stays = record {
        few = W.few;
        few_items = W.few_items;
        items = items_stay;
        placed = W.placed;
        present = ap (λ v. length v.items) present ∙ W.present;
        symbols = ap (λ v. length v.items) symbols ∙ W.symbols;
        room_present = omega (arith, W.room_present, ap vec_capacity present);
        room_symbols = omega (arith, W.room_symbols, ap vec_capacity symbols);
        left = W.left;
        long_symbols = W.long_symbols;
        long_blocks = W.long_blocks;
        few_stripes = W.few_stripes;
        few_symbols = W.few_symbols;
        few_blocks = W.few_blocks;
      }

      -- ---- after it

      module _ (off : List ℕ)
          (found : IsSurveyed (turned b0 spot.item.file.id) spot.stripe (blocks_in b) b1.rows.items off)
          (q : Progress)
          (T : TakesOpening (record p { blocks = b; benches = bs; codec = cd }) spot off q) where
        abbrev after : Progress
        after = record p {
          blocks = q.blocks;
          benches = bs;
          codec = cd;
          off = off;
          found = q.found;
          left = q.left;
          cursor = q.cursor;
        }

        abbrev stores : List Action
        stores = stores_from p.providers 0 off spot.item.file.id spot.stripe

        none_left : length q.blocks.present.items ≡ 0
        none_left = ap length T.emptied.present

        left_after : q.left ≡ most_steps p.providers (stores ++ past_stripe p.providers p.items.items spot)
        left_after =
            let a = left-append p.providers stores (past_stripe p.providers p.items.items spot) in
            let s = left-stores p.providers 0 p.providers off spot.item.file.id spot.stripe in
            omega (arith, T.left spot.item.file.id spot.stripe, left_is, a, s)

        whole_after : IsProgress after
        whole_after = record {
          few = W.few;
          few_items = W.few_items;
          items = items_stay;
          placed = T.at.placed;
          present = none_left ∙ sym T.at.fresh;
          symbols = ap length T.emptied.symbols
              ∙ (let e : 0 ≡ 0 * size_in q.cursor = omega arith in e)
              ∙ ap (λ (k : ℕ). k * size_in q.cursor) (sym T.at.fresh);
          room_present = omega (arith, W.room_present, T.emptied.present_room, ap vec_capacity present);
          room_symbols = omega (arith, W.room_symbols, T.emptied.symbols_room, ap vec_capacity symbols);
          left = left_after ∙ ap (most_steps p.providers) (sym T.at.todo_is);
          long_symbols = T.found.long_symbols ∙ W.long_symbols;
          long_blocks = T.found.long_blocks ∙ W.long_blocks;
          few_stripes = omega (arith, W.few_stripes, T.falls, T.found.stripes_are);
          few_symbols = λ k. (let f = W.few_symbols k in let g = T.found.symbols_are k in
              let h = found.few k in omega (arith, f, g, h, T.falls));
          few_blocks = λ k. (let f = W.few_blocks k in let g = T.found.blocks_are k in
              let h = one_at_most (slice_index off k == 0) in omega (arith, f, g, h, T.falls));
        }

        -- the scrub is whole
        pub open_whole : IsProgress q
        open_whole = subst IsProgress (sym T.same) whole_after

        abbrev x : Object
        x = item_object p.master.0 spot.item

        off_are : (j : ℕ) → j < p.providers → slice_index off j ≡ off_in x spot.stripe seen b1.rows.items j
        off_are j below =
            let n : (turned b0 spot.item.file.id).shape.n ≡ p.providers =
            ap (λ (o : Object). o.shape.n) serves ∙ (item_is p W spot open_spot).providers in
            found.off_is j (subst (λ (k : ℕ). j < k) (sym n) below)
            ∙ (λ i. off_in (turned_is b0 p.master.0 spot.item serves i) spot.stripe (seen_is i) b1.rows.items j)

        -- and it is a step
        pub open_step : (ps : List Provider) → MakesNext (scrub_view p) ps turn.More (scrub_view q) ps
        open_step ps = subst (λ (z : Progress). MakesNext (scrub_view p) ps turn.More (scrub_view z) ps) (sym T.same)
            (record {
              action = Work spot.item.file.id spot.stripe;
              rest = past_stripe p.providers p.items.items spot;
              todo_is = todo_is;
              acts = (
                record {
                  x = x;
                  one = one_is p W spot open_spot;
                  providers_are = (item_is p W spot open_spot).providers;
                  seen = seen;
                  at_is = ap (phase_at p) here;
                  count = length-present_blocks spot.item.file.profile.size p.blocks.present.items
                      p.blocks.symbols.items ∙ present_is;
                  rows = b1.rows.items;
                  gives = subst (λ (o : Object). GivesSymbols o spot.stripe seen b1.rows.items)
                      (turned_is b0 p.master.0 spot.item serves) (subst (λ (l : List SeenBlock). GivesSymbols
                      (turned b0 spot.item.file.id) spot.stripe l b1.rows.items) seen_is found.gives);
                  todo_is = T.at.todo_is
                      ∙ ap (λ (l : List Action). l ++ past_stripe p.providers p.items.items spot)
                      (stores_are p.providers x spot.stripe seen b1.rows.items off off_are);
                  providers_stay = refl;
                  objects_stay = refl;
                  behind = phase_behind after spot q.cursor b1.rows.items T.behind none_left
                      (ap rows_of (get-set_same p.benches.items spot.item.bench b1
                      (slice_get_within p.benches.items spot.item.bench b0 there)));
                  stripes_are = T.found.stripes_are;
                  symbols_are = λ j below. T.found.symbols_are j
                      ∙ ap (λ (k : ℕ). slice_index p.found.symbols j + k) (off_are j below);
                  blocks_are = λ j below. T.found.blocks_are j
                      ∙ ap (λ (k : ℕ). slice_index p.found.blocks j + (if k == 0 then 0 else 1))
                      (off_are j below);
                  long_symbols = T.found.long_symbols ∙ W.long_symbols;
                  long_blocks = T.found.long_blocks ∙ W.long_blocks;
                },
                refl,
              );
              over = tt;
            })

-- A store of a scrub.
use Rattle.hail_scrub.proofs.Words.{◌≡◌, ℕ, ◌+◌, ◌-◌, ◌*◌, ◌<◌, List, [], ◌∷◌, ◌++◌, length, map, Vec, Global, Some, refl, ap, sym, subst, ◌∙◌, arith, slice_get_within, slice_get, slice_set, get_or, with_item, All, get-set_same, Object, column_of_symbols, Provider, Stores, FailsToStore, FindsNoMemory, Action, Store, bench_object, turned, bench_kind, file_kind, Bench, Spot, Cursor, Progress, ScrubView, most_steps, stores_from, past_stripe, todo_at, item_object, rows_of, fetched_at, size_in, phase_at, scrub_view, next_to_do, called_by, IsItem, IsSpot, IsCursor, CursorIsAt, StoresOnlyAt, IsProgress, MakesNext}
use Rattle.hail_scrub.specs.declared.cursor.Cursor.TheVariants as cursor
use Rattle.hail_scrub.specs.declared.turn.ScrubAnswer.TheVariants as answer
use Rattle.hail_scrub.specs.declared.turn.ScrubTurn.TheVariants as turn
use Rattle.hail_scrub.specs.Views as views
use Rattle.hail_scrub.proofs.Called.{called_store}
use Rattle.hail_scrub.proofs.Lefts.{left-cons}
use Rattle.hail_scrub.proofs.Rests.{stores_take}
use Rattle.hail_scrub.proofs.Placed.{kinds_stay, turned_is, item_is, one_is, bench_read, bench_serves, phase_behind}

module _ (p : Progress) (W : IsProgress p) (spot : Spot) (j : ℕ) (here : p.cursor ≡ cursor.Storing spot j) where
  at_place : IsCursor p.providers p.items.items p.off (cursor.Storing spot j)
  at_place = subst (IsCursor p.providers p.items.items p.off) here W.placed

  -- the stripe is one of a file
  pub store_spot : IsSpot p.items.items spot
  store_spot = at_place.0

  -- the provider is one of those in use
  pub store_within : j < p.providers
  store_within = at_place.1

  none_present : length p.blocks.present.items ≡ 0
  none_present = W.present ∙ ap (fetched_at p.providers) here

  none_symbols : length p.blocks.symbols.items ≡ 0
  none_symbols = W.symbols ∙ ap (λ (c : Cursor). fetched_at p.providers c * size_in c) here

  abbrev rest : List Action
  rest = stores_from p.providers (j + 1) p.off spot.item.file.id spot.stripe
      ++ past_stripe p.providers p.items.items spot

  -- its next action
  pub todo_is : todo_at p.providers p.items.items p.off p.cursor ≡ Store j spot.item.file.id spot.stripe ∷
      rest
  todo_is = ap (todo_at p.providers p.items.items p.off) here
      ∙ ap (λ (l : List Action). l ++ past_stripe p.providers p.items.items spot)
      (stores_take p.providers j p.off spot.item.file.id spot.stripe store_within at_place.2)

  -- it calls this provider
  pub called : called_by (next_to_do (scrub_view p)) ≡ Some j
  called = called_store (scrub_view p) j spot.item.file.id spot.stripe rest todo_is

  left_is : p.left ≡ 1 + most_steps p.providers rest
  left_is = W.left ∙ ap (most_steps p.providers) todo_is
      ∙ left-cons p.providers (Store j spot.item.file.id spot.stripe) rest refl

  -- a step is left
  pub store_some : 0 < p.left
  store_some = omega (arith, left_is)

  module _ (b0 : Bench) (is : b0 ≡ get_or p.benches.items spot.item.bench b0) where
    there : slice_get p.benches.items spot.item.bench ≡ Some b0
    there = bench_read p W spot store_spot b0 is

    serves : bench_kind b0 ≡ file_kind p.master.0 spot.item.file
    serves = bench_serves p W spot store_spot b0 there

    -- the provider is one of the bench's
    pub store_fits : j < b0.keys.file.shape.n
    store_fits =
        let n : b0.keys.file.shape.n ≡ p.providers =
        ap (λ (o : Object). o.shape.n) serves ∙ (item_is p W spot store_spot).providers in
        subst (λ (k : ℕ). j < k) (sym n) store_within

    abbrev x : Object
    x = item_object p.master.0 spot.item

    -- ---- after it

    module _ (b1 : Bench) (object : bench_object b1 ≡ turned b0 spot.item.file.id) where
      abbrev bs : Vec Bench Global
      bs = with_item p.benches spot.item.bench b1

      kinds : map bench_kind bs.items ≡ map bench_kind p.benches.items
      kinds = kinds_stay p.benches.items spot.item.bench b0 b1 there
          (ap (λ (o : Object). record o { id = 0 }) object)

      -- before it is known what came of it
      pub store_whole : IsProgress (record p { benches = bs })
      store_whole = record {
        few = W.few;
        few_items = W.few_items;
        items = subst (λ (l : List Object). All (IsItem p.providers p.master.0 l) p.items.items) (sym kinds)
            W.items;
        placed = W.placed;
        present = W.present;
        symbols = W.symbols;
        room_present = W.room_present;
        room_symbols = W.room_symbols;
        left = W.left;
        long_symbols = W.long_symbols;
        long_blocks = W.long_blocks;
        few_stripes = W.few_stripes;
        few_symbols = W.few_symbols;
        few_blocks = W.few_blocks;
      }

      module _ (c : Cursor) (at : CursorIsAt p.providers p.items.items p.off c rest)
          (behind : StoresOnlyAt spot c) where
        abbrev after : Progress
        after = record p { benches = bs; cursor = c; left = p.left - 1 }

        falls : p.left - 1 + 1 ≡ p.left
        falls = omega (arith, store_some)

        -- the scrub is whole
        pub store_done_whole : IsProgress after
        store_done_whole = record {
          few = W.few;
          few_items = W.few_items;
          items = subst (λ (l : List Object). All (IsItem p.providers p.master.0 l) p.items.items)
              (sym kinds) W.items;
          placed = at.placed;
          present = none_present ∙ sym at.fresh;
          symbols = none_symbols
              ∙ (let e : 0 ≡ 0 * size_in c = omega arith in e)
              ∙ ap (λ (k : ℕ). k * size_in c) (sym at.fresh);
          room_present = W.room_present;
          room_symbols = W.room_symbols;
          left = (let e : p.left - 1 ≡ most_steps p.providers rest = omega (arith, left_is) in
              e ∙ ap (most_steps p.providers) (sym at.todo_is));
          long_symbols = W.long_symbols;
          long_blocks = W.long_blocks;
          few_stripes = omega (arith, W.few_stripes, falls);
          few_symbols = λ k. (let f = W.few_symbols k in omega (arith, f, falls));
          few_blocks = λ k. (let f = W.few_blocks k in omega (arith, f, falls));
        }

        -- and it is a step
        pub store_done : (rows : b1.rows ≡ b0.rows) (ps qs : List Provider) (before after' : Provider) →
            slice_get ps j ≡ Some before → qs ≡ slice_set ps j after' →
            Stores spot.item.file.id spot.stripe
            (column_of_symbols (turned b0 spot.item.file.id) b0.rows.items j spot.stripe) before after' →
            MakesNext (scrub_view p) ps turn.More (scrub_view after) qs
        store_done rows ps qs before after' at_j others called = record {
          action = Store j spot.item.file.id spot.stripe;
          rest = rest;
          todo_is = todo_is;
          acts = record {
            x = x;
            one = one_is p W spot store_spot;
            rows = b0.rows.items;
            at_is = ap (phase_at p) here
                ∙ ap (λ o. views.Opened spot.item.file.id spot.stripe (rows_of o)) there;
            calls = record {
              before = before;
              after = after';
              there = at_j;
              others = others;
              called = subst (λ (o : Object). Stores spot.item.file.id spot.stripe
                  (column_of_symbols o b0.rows.items j spot.stripe) before after')
                  (turned_is b0 p.master.0 spot.item serves) called;
            };
            new_is = (λ i. record (scrub_view p) { todo = at.todo_is i; at = phase_at after c });
            behind = phase_behind after spot c b0.rows.items behind none_present
                (ap rows_of (get-set_same p.benches.items spot.item.bench b1
                (slice_get_within p.benches.items spot.item.bench b0 there))
                ∙ ap (λ v. v.items) rows);
          };
          over = tt;
        }

    -- a store that failed
    pub store_fails : (new : ScrubView) (ps qs : List Provider) (before after : Provider) → new.todo ≡ [] →
        slice_get ps j ≡ Some before → qs ≡ slice_set ps j after → FailsToStore before after →
        MakesNext (scrub_view p) ps (turn.Done (answer.ProviderFault j)) new qs
    store_fails new ps qs before after over at_j others called = record {
      action = Store j spot.item.file.id spot.stripe;
      rest = rest;
      todo_is = todo_is;
      acts = (
        refl,
        record { before = before; after = after; there = at_j; others = others; called = called },
      );
      over = over;
    }

    -- or found no memory
    pub store_finds_none : (new : ScrubView) (ps qs : List Provider) (before after : Provider) →
        new.todo ≡ [] → slice_get ps j ≡ Some before → qs ≡ slice_set ps j after →
        FindsNoMemory before after → MakesNext (scrub_view p) ps (turn.Done answer.Memory) new qs
    store_finds_none new ps qs before after over at_j others called = record {
      action = Store j spot.item.file.id spot.stripe;
      rest = rest;
      todo_is = todo_is;
      acts = record { before = before; after = after; there = at_j; others = others; called = called };
      over = over;
    }

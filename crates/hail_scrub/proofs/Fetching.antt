-- A fetch of a scrub.
use Rattle.hail_scrub.proofs.Words.{◌≡◌, ℕ, ◌+◌, ◌-◌, ◌*◌, ◌<◌, ◌≤◌, Bool, List, [], ◌∷◌, ◌++◌, length, Some, refl, ap, sym, subst, ◌∙◌, arith, length-append, vec_len, slice_get, slice_set, SeenBlock, present_blocks, length-present_blocks, Provider, Fetches, IsBlock, Action, Fetch, Work, given_of, Grows, HasRoom, Blocks, present_more, if_given, Spot, Cursor, Progress, most_steps, fetches_from, past_stripe, todo_at, item_object, fetched_at, size_in, phase_at, scrub_view, next_to_do, called_by, IsSpot, IsCursor, IsAmid, IsProgress, MakesNext}
use Rattle.std.proofs.Common.{vec_capacity}
use Rattle.std.proofs.Math.Nat.{mul-le-mul_left}
use Rattle.code_defs.proofs.Profiles.{size-bound}
use Rattle.code_points.specs.declared.profile.Profile.{Profile}
use Rattle.hail_scrub.specs.declared.cursor.Cursor.TheVariants as cursor
use Rattle.hail_scrub.specs.declared.turn.ScrubTurn.TheVariants as turn
use Rattle.hail_scrub.specs.Views as views
use Rattle.hail_scrub.proofs.Called.{called_fetch}
use Rattle.hail_scrub.proofs.Lefts.{left-cons}
use Rattle.hail_scrub.proofs.Rests.{fetches_here}
use Rattle.hail_scrub.proofs.Placed.{one_is, phase_amid, size_amid}

-- the size of a block
pub size_few : (profile : Profile) → profile.size ≤ 128
size_few profile = subst (λ (k : ℕ). k ≤ 128) (sym profile.size_is) (size-bound profile.number)

module _ (p : Progress) (W : IsProgress p) (spot : Spot) (j : ℕ) (here : p.cursor ≡ cursor.Fetching spot j) where
  at_place : IsCursor p.providers p.items.items p.off (cursor.Fetching spot j)
  at_place = subst (IsCursor p.providers p.items.items p.off) here W.placed

  -- the stripe is one of a file
  pub fetch_spot : IsSpot p.items.items spot
  fetch_spot = at_place.0

  -- the provider is one of those in use
  pub fetch_within : j < p.providers
  fetch_within = at_place.1

  present_is : length p.blocks.present.items ≡ j
  present_is = W.present ∙ ap (fetched_at p.providers) here

  symbols_is : length p.blocks.symbols.items ≡ j * spot.item.file.profile.size
  symbols_is = W.symbols ∙ ap (λ (c : Cursor). fetched_at p.providers c * size_in c) here

  abbrev rest : List Action
  rest = fetches_from p.providers (j + 1) spot.item.file.id spot.stripe
      ++ (Work spot.item.file.id spot.stripe ∷ past_stripe p.providers p.items.items spot)

  -- its next action
  pub todo_is : todo_at p.providers p.items.items p.off p.cursor ≡ Fetch j spot.item.file.id spot.stripe ∷
      rest
  todo_is = ap (todo_at p.providers p.items.items p.off) here
      ∙ ap (λ (l : List Action). l ++ (Work spot.item.file.id spot.stripe ∷ past_stripe p.providers p.items.items
      spot))
      (fetches_here p.providers j spot.item.file.id spot.stripe fetch_within)

  -- it calls this provider
  pub called : called_by (next_to_do (scrub_view p)) ≡ Some j
  called = called_fetch (scrub_view p) j spot.item.file.id spot.stripe rest todo_is

  left_is : p.left ≡ 1 + most_steps p.providers rest
  left_is = W.left ∙ ap (most_steps p.providers) todo_is
      ∙ left-cons p.providers (Fetch j spot.item.file.id spot.stripe) rest refl

  -- a step is left
  pub fetch_some : 0 < p.left
  fetch_some = omega (arith, left_is)

  -- there is room for the block
  pub fetch_room : (b : Blocks) → b.present ≡ p.blocks.present → b.symbols ≡ p.blocks.symbols →
      b.size ≡ spot.item.file.profile.size → HasRoom b
  fetch_room b present symbols size =
      let few = size_few spot.item.file.profile in
      let more : j + 1 ≤ p.providers = omega (arith, fetch_within) in
      let a = mul-le-mul_left spot.item.file.profile.size more in
      let c = mul-le-mul_left p.providers few in
      record {
        present = subst (λ v. vec_len v + 1 ≤ vec_capacity v) (sym present)
            (omega (arith, W.room_present, present_is, fetch_within, p.blocks.present.ok.0));
        symbols = subst (λ v. vec_len v + b.size ≤ vec_capacity v) (sym symbols)
            (subst (λ (k : ℕ). vec_len p.blocks.symbols + k ≤ vec_capacity p.blocks.symbols) (sym size)
            (omega (arith, W.room_symbols, symbols_is, a, c, p.blocks.symbols.ok.0)));
      }

  -- ---- after it

  module _ (b b' : Blocks) (c : Cursor) (found : Bool) (block : List ℕ)
      (present : b.present ≡ p.blocks.present) (symbols : b.symbols ≡ p.blocks.symbols)
      (size : b.size ≡ spot.item.file.profile.size) (grows : Grows b b' found block)
      (todo : todo_at p.providers p.items.items p.off c ≡ rest)
      (placed : IsCursor p.providers p.items.items p.off c)
      (count : fetched_at p.providers c ≡ j + 1) (amid : IsAmid spot c) where
    abbrev new : Progress
    new = record p { blocks = b'; cursor = c; left = p.left - 1 }

    falls : p.left - 1 + 1 ≡ p.left
    falls = omega (arith, fetch_some)

    -- the scrub is whole
    pub fetch_whole : IsProgress new
    fetch_whole =
        let flags = ap (λ v. length v.items) present in
        let all = ap (λ v. length v.items) symbols in
        let one = ap length grows.present_is ∙ length-append b.present.items (found ∷ []) in
        let more = ap length grows.symbols_is ∙ length-append b.symbols.items block in
        let each = size_amid spot c amid in
        let longer : length b'.symbols.items ≡ (j + 1) * spot.item.file.profile.size =
        omega (arith, more, all, symbols_is, grows.fits, size) in
        record {
          few = W.few;
          few_items = W.few_items;
          items = W.items;
          placed = placed;
          present = omega (arith, one, flags, present_is, count);
          symbols = longer ∙ (λ i. (sym count) i * (sym each) i);
          room_present = omega (arith, W.room_present, grows.present_room, ap vec_capacity present);
          room_symbols = omega (arith, W.room_symbols, grows.symbols_room, ap vec_capacity symbols);
          left = (let e : p.left - 1 ≡ most_steps p.providers rest = omega (arith, left_is) in
              e ∙ ap (most_steps p.providers) (sym todo));
          long_symbols = W.long_symbols;
          long_blocks = W.long_blocks;
          few_stripes = omega (arith, W.few_stripes, falls);
          few_symbols = λ k. (let f = W.few_symbols k in omega (arith, f, falls));
          few_blocks = λ k. (let f = W.few_blocks k in omega (arith, f, falls));
        }

    abbrev seen : List SeenBlock
    seen = present_blocks spot.item.file.profile.size p.blocks.present.items p.blocks.symbols.items

    -- the blocks are one more
    seen_more : present_blocks spot.item.file.profile.size b'.present.items b'.symbols.items
        ≡ seen ++ given_of found block ∷ []
    seen_more = (λ i. present_blocks spot.item.file.profile.size
        ((grows.present_is ∙ ap (λ v. v.items ++ found ∷ []) present) i)
        ((grows.symbols_is ∙ ap (λ v. v.items ++ block) symbols) i))
        ∙ present_more spot.item.file.profile.size p.blocks.present.items p.blocks.symbols.items block found
        (symbols_is ∙ ap (λ (k : ℕ). k * spot.item.file.profile.size) (sym present_is))
        (grows.fits ∙ size)

    -- and it is a step
    pub fetch_step : (ps qs : List Provider) (before after : Provider) → slice_get ps j ≡ Some before →
        qs ≡ slice_set ps j after →
        Fetches b.size spot.item.file.id spot.stripe before (given_of found block) after →
        MakesNext (scrub_view p) ps turn.More (scrub_view new) qs
    fetch_step ps qs before after there others called = record {
      action = Fetch j spot.item.file.id spot.stripe;
      rest = rest;
      todo_is = todo_is;
      acts = record {
        x = item_object p.master.0 spot.item;
        one = one_is p W spot fetch_spot;
        seen = seen;
        at_is = ap (phase_at p) here;
        count = length-present_blocks spot.item.file.profile.size p.blocks.present.items
            p.blocks.symbols.items
            ∙ present_is;
        block = given_of found block;
        block_is = if_given (IsBlock spot.item.file.profile.size) found block (record {
          size_is = grows.fits ∙ size;
          symbols = grows.numbers;
        });
        calls = record {
          before = before;
          after = after;
          there = there;
          others = others;
          called = subst (λ (k : ℕ). Fetches k spot.item.file.id spot.stripe before (given_of found block)
              after) size called;
        };
        new_is = (λ i. record (scrub_view p) {
          todo = todo i;
          at = (phase_amid new spot c amid
              ∙ ap (views.Fetched spot.item.file.id spot.stripe) seen_more) i;
        });
      };
      over = tt;
    }

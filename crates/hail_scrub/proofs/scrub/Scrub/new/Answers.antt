use Rattle.hail_scrub.proofs.Words.{◌≡◌, ℕ, ◌+◌, ◌*◌, List, Some, map, replicate, ap, sym, subst, refl, ◌∙◌, arith, slice_get, sum_by, All, get_or-zeros, FileShape, bench_kind, Item, Progress, IsItem, file_providers}
use Rattle.hail_scrub.proofs.Begins.{count_all, new_whole, new_scrub_is}
use Rattle.hail_scrub.proofs.scrub.Scrub.new.Goals as goal

pub take_all-requires : goal.take_all-requires
take_all-requires c =
    subst (λ (l : List FileShape). (k : ℕ) (f : FileShape) → slice_get l k ≡ Some f → f.shape.n ≡ file_providers l)
    (sym c.deref-2.ensures.value) (count_all c.args.files.items c.requires.one_count)

pub invariant_of-result : goal.invariant_of-result
invariant_of-result c =
    let count = c.providers_of-providers.ensures.count ∙ ap file_providers c.deref.ensures.value in
    let are = rw c.deref-2.ensures.value at c.in_ok-items.ensures.items in
    let at = rw c.deref-4.ensures.value at (c.file_at-cursor.ensures.at (replicate 16 0)) in
    let short = rw c.deref-2.ensures.value at c.in_ok-items.ensures.few in
    let none = λ (j : ℕ). get_or-zeros 16 j in
    let room = c.in_ok-blocks.ensures in
    new_whole _ c.providers_of-providers.ensures.few (omega (arith, short, c.requires.few)) at
    c.file_at-cursor.ensures.first room.present room.symbols refl none none refl refl
    (subst (λ (k : ℕ). All (IsItem k c.args.master.now.0 (map bench_kind c.in_ok-items.benches.items))
    c.in_ok-items.items.items) (sym count) are.whole)
    room.room_present room.room_symbols
    (c.count_left-left.ensures.left ∙ ap (λ (l : List Item). 1
    + sum_by (λ (item : Item). item.stripes * (2 * c.providers_of-providers.result + 1)) l)
    c.deref-3.ensures.value)
    c.count_left-left.ensures.most

pub returns-clause-begun : goal.returns-clause-begun
returns-clause-begun c = λ s m B.
    let count = c.providers_of-providers.ensures.count ∙ ap file_providers c.deref.ensures.value in
    let are = rw c.deref-2.ensures.value at c.in_ok-items.ensures.items in
    let at = rw c.deref-4.ensures.value at (c.file_at-cursor.ensures.at (replicate 16 0)) in
    let short = rw c.deref-2.ensures.value at c.in_ok-items.ensures.few in
    let none = λ (j : ℕ). get_or-zeros 16 j in
    let p : Progress = record {
      master = c.args.master.now;
      providers = c.providers_of-providers.result;
      items = c.in_ok-items.items;
      benches = c.in_ok-items.benches;
      codec = c.in_ok-codec.codec;
      blocks = c.in_ok-blocks.blocks;
      cursor = c.file_at-cursor.result;
      off = replicate 16 0;
      found = record { stripes = 0; symbols = replicate 16 0; blocks = replicate 16 0 };
      left = c.count_left-left.result;
    } in
    new_scrub_is p c.providers_of-providers.ensures.few (omega (arith, short, c.requires.few)) at
    c.file_at-cursor.ensures.first c.in_ok-blocks.ensures.present c.in_ok-blocks.ensures.symbols refl none none refl
    refl s c.args.files.items m (map bench_kind c.in_ok-items.benches.items) B c.requires.apart are count

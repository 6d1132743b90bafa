use Rattle.hail_scrub.proofs.Words.{◌≡◌, ◌+◌, ◌*◌, ◌≤◌, ◌^◌, take, sum_by, Item}
use Rattle.hail_scrub.proofs.begin.count_left.Given as goal

abbrev pub invariant-loop-item : goal.invariant-loop-item
invariant-loop-item l = record {
  left : l.left ≡ 1 + sum_by (λ (item : Item). item.stripes * (2 * l.providers + 1))
      (take l.item-index l.items);
  most : l.left ≤ 1 + l.item-index * (2 ^ 22 * 33);
}

use Rattle.vault_table.proofs.Words.{ap, sym, ◌∙◌, arith, subst, set, get_or, vec_len, list_all, Starts, begins_at, kept_names, is_kept_name}
use Rattle.std.proofs.Common.{◌≡◌, ℕ, ◌+◌, ◌%◌, ◌<◌, true, List, Option, None, length}
use Rattle.std.proofs.lemmas.List.{length-set}
use Rattle.vault_table.proofs.KeptNames.{length-names, names-set, kept-set, begins-set, marks-set, same-size}
use Rattle.vault_table.proofs.starts.Starts.end.Goals as goal

pub index-requires : goal.index-requires
index-requires c =
    let e : length c.args.self.now.names ≡ vec_len c.self.inside.sizes =
    ap (λ (s : Starts). length s.names) (sym c.self.view_is)
    ∙ (length-names c.self.inside.sizes.items c.self.inside.letters.items ∙ sym c.self.inside.sizes.ok.0) in
    omega (arith, c.requires, e)

pub index_mut-requires : goal.index_mut-requires
index_mut-requires c =
    let e : length c.args.self.now.names ≡ vec_len c.self.inside.sizes =
    ap (λ (s : Starts). length s.names) (sym c.self.view_is)
    ∙ (length-names c.self.inside.sizes.items c.self.inside.letters.items ∙ sym c.self.inside.sizes.ok.0) in
    omega (arith, c.requires, e)

pub invariant_of-self : goal.invariant_of-self
invariant_of-self c =
    let sizes = c.self.inside.sizes.items in
    let letters = c.self.inside.letters.items in
    let y = c.index.result.now % 128 + 128 in
    let here : length c.args.self.now.names ≡ length sizes =
    ap (λ (s : Starts). length s.names) (sym c.self.view_is) ∙ length-names sizes letters in
    let within : c.args.place < length sizes = omega (arith, c.requires, here) in
    let same : y % 128 ≡ get_or sizes c.args.place 0 % 128 =
    same-size sizes c.args.place c.index.result.now within c.index.ensures in
    let size = length-set sizes c.args.place y in
    record {
      letters = c.self.invariant.letters
          ∙ (sym (begins-set sizes c.args.place y (length sizes) same)
          ∙ ap (λ n. begins_at (set sizes c.args.place y) n) (sym size));
      names = subst (λ (l : List (Option (List ℕ))). list_all is_kept_name l ≡ true)
          (sym (names-set sizes letters c.args.place y within (omega arith) same))
          (kept-set (kept_names sizes letters) c.args.place c.self.invariant.names);
      marks = marks-set sizes c.self.inside.marks.items c.args.place y same c.self.invariant.marks;
      room_of_sizes = omega (arith, size, c.self.invariant.room_of_sizes);
      room_of_letters = c.self.invariant.room_of_letters;
      room_of_marks = c.self.invariant.room_of_marks;
    }

pub returns : goal.returns
returns c =
    let sizes = c.self.inside.sizes.items in
    let letters = c.self.inside.letters.items in
    let y = c.index.result.now % 128 + 128 in
    let here : length c.args.self.now.names ≡ length sizes =
    ap (λ (s : Starts). length s.names) (sym c.self.view_is) ∙ length-names sizes letters in
    let within : c.args.place < length sizes = omega (arith, c.requires, here) in
    let same : y % 128 ≡ get_or sizes c.args.place 0 % 128 =
    same-size sizes c.args.place c.index.result.now within c.index.ensures in
    ap (λ (l : List (Option (List ℕ))). record { names = l; spare = c.self.inside.spare })
    (names-set sizes letters c.args.place y within (omega arith) same)
    ∙ ap (λ (s : Starts). record { names = set s.names c.args.place None; spare = s.spare }) c.self.view_is

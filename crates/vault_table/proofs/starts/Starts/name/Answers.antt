use Rattle.vault_table.proofs.Words.{ap, sym, ◌∙◌, arith, started_from, Starts, begins_at, kept_names}
use Rattle.std.proofs.Common.{◌≡◌, ℕ, ◌<◌, ◌≤◌, List, length}
use Rattle.vault_table.proofs.KeptNames.{length-names, name-past, name-done, name-there, name-fits}
use Rattle.vault_table.proofs.starts.Starts.name.Goals as goal

-- what is seen is what is kept
pub returns-then-place-len : goal.returns-then-place-len
returns-then-place-len c =
    let names = kept_names c.self.inside.sizes.items c.self.inside.letters.items in
    let past : length names ≤ c.args.place =
    omega (
      arith,
      length-names c.self.inside.sizes.items c.self.inside.letters.items,
      c.len.ensures,
      c.self.inside.sizes.ok.0,
      c.if-place-len.true,
    ) in
    sym (name-past names c.args.place past)
    ∙ ap (λ (s : Starts). started_from s.names c.args.place) c.self.view_is

pub returns-then-size-ge128 : goal.returns-then-size-ge128
returns-then-size-ge128 c =
    let sizes = c.self.inside.sizes.items in
    let letters = c.self.inside.letters.items in
    let within : c.args.place < length sizes = omega
    (arith, c.if-place-len.false, c.len.ensures, c.self.inside.sizes.ok.0) in
    sym (name-done sizes letters c.args.place c.index-size.result.now within c.index-size.ensures
    c.if-size-ge128.true) ∙ ap (λ (s : Starts). started_from s.names c.args.place) c.self.view_is

pub name_at-requires : goal.name_at-requires
name_at-requires c =
    let sizes = c.self.inside.sizes.items in
    let within : c.args.place < length sizes = omega
    (arith, c.if-place-len.false, c.len.ensures, c.self.inside.sizes.ok.0) in
    let begin : c.begin_of-begin.result ≡ begins_at sizes c.args.place = c.begin_of-begin.ensures
    ∙ ap (λ (l : List ℕ). begins_at l c.args.place) c.deref.ensures.value in
    let fits = name-fits sizes c.args.place c.index-size.result.now within c.index-size.ensures
    c.if-size-ge128.false in
    omega (arith, begin, fits, c.self.invariant.letters, ap length c.deref-3.ensures.value)

pub returns : goal.returns
returns c =
    let sizes = c.self.inside.sizes.items in
    let letters = c.self.inside.letters.items in
    let within : c.args.place < length sizes = omega
    (arith, c.if-place-len.false, c.len.ensures, c.self.inside.sizes.ok.0) in
    let begin : c.begin_of-begin.result ≡ begins_at sizes c.args.place = c.begin_of-begin.ensures
    ∙ ap (λ (l : List ℕ). begins_at l c.args.place) c.deref.ensures.value in
    c.name_at.ensures ∙ (name-there sizes letters c.deref-3.result.now c.args.place c.index-size.result.now
    c.begin_of-begin.result within c.index-size.ensures c.if-size-ge128.false begin
    c.deref-3.ensures.value c.self.invariant.names
    ∙ ap (λ (s : Starts). started_from s.names c.args.place) c.self.view_is)

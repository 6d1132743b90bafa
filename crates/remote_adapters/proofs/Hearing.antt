-- Answers that were read one after the other.
use Rattle.std.proofs.Common.{◌≡◌, ℕ, ◌+◌, ◌≤◌, List, [], ◌++◌, length, Option, Some, None, sym, ap, ◌∙◌, append_assoc, length-append}
use Rattle.std.proofs.lemmas.List.Elements.{All-append}
use Rattle.std.specs.List.{All}
use Rattle.wire_defs.specs.Links.{Behind}
use Rattle.remote_adapters.specs.Yes.{HearsEach}

-- some are read, and then more
pub hears_more : (old mid new : Option Behind) (m n : ℕ) → HearsEach m old mid → HearsEach n mid new →
    HearsEach (m + n) old new
hears_more None None None m n f g = tt
hears_more None None (Some k) m n f g = absurd g
hears_more None (Some j) new m n f g = absurd f
hears_more (Some b) None new m n f g = absurd f
hears_more (Some b) (Some j) None m n f g = absurd g
hears_more (Some b) (Some j) (Some k) m n f g = record {
  said = f.said ++ g.said;
  as_many = length-append f.said g.said ∙ (let h : length f.said + length g.said ≡ m + n = cc (f.as_many, g.as_many) in h);
  yes = All-append (λ answer. answer ≡ 1) f.said g.said f.yes g.yes;
  due = f.due ∙ ap (λ (l : List ℕ). f.said ++ l) g.due ∙ sym (append_assoc f.said g.said k.due);
  provider = g.provider ∙ f.provider;
}

-- What is seen of one of two kinds.
--
--   by_kind f g c == f of the one, or g of the other, whichever stands there
--   is_second c   == whether the second stands there
use Rattle.std.specs.Prelude.{Bool, true, false}
use Rattle.provider_choice.specs.declared.choice.Choice.{Choice}
use Rattle.provider_choice.specs.declared.choice.Choice.TheVariants as choice

-- what is seen of the one that stands there
abbrev pub by_kind : {A B C : Type 0} → (A → C) → (B → C) → Choice A B → C
by_kind f g (choice.First a) = f a
by_kind f g (choice.Second b) = g b

-- whether the second stands there
abbrev pub is_second : {A B : Type 0} → Choice A B → Bool
is_second (choice.First a) = false
is_second (choice.Second b) = true

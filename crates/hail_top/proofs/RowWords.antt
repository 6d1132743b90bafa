-- The words of a row are as many as its first number says.
use Rattle.hail_top.proofs.Words.{◌≡◌, ℕ, List, [], ◌∷◌, length, arith, refl, ◌∙◌, Global, IsRowForm, RowOf, InitWith, PutUnder, PutAt, GetOf, DropOf, ListAll, AuditAll, RepairAll, UpgradeJournal, ScrubAll, PackJournal, IsForm}
use Rattle.std.proofs.Common.{Option, String}
use Rattle.command_defs.specs.Words.{AreSymbolWords}
use Rattle.command_defs.specs.Forms.{Command}
use Rattle.hail_top.specs.Rows.{HasItsSymbols}

length-AreSymbolWords : (words : List (String Global)) (symbols : List (Option ℕ)) →
    AreSymbolWords words symbols → length symbols ≡ length words
length-AreSymbolWords [] [] all = refl
length-AreSymbolWords [] (s ∷ symbols) all = absurd all
length-AreSymbolWords (w ∷ words) [] all = absurd all
length-AreSymbolWords (w ∷ words) (s ∷ symbols) all = omega (arith, length-AreSymbolWords words symbols all.1)

length-IsRowForm : (words : List (String Global)) (n l b : ℕ) (seen : List (Option ℕ)) →
    IsRowForm words n l b seen → length seen ≡ n
length-IsRowForm (c ∷ f ∷ s ∷ t ∷ words) n l b seen form = length-AreSymbolWords words seen form.5 ∙ form.4
length-IsRowForm [] n l b seen form = absurd form
length-IsRowForm (c ∷ []) n l b seen form = absurd form
length-IsRowForm (c ∷ f ∷ []) n l b seen form = absurd form
length-IsRowForm (c ∷ f ∷ s ∷ []) n l b seen form = absurd form

-- a row that words spell has as many symbols as it says
pub HasItsSymbols-IsForm : (words : List (String Global)) (command : Command) → IsForm words command →
    HasItsSymbols command
HasItsSymbols-IsForm words (RowOf n l b seen) form = length-IsRowForm words n l b seen form
HasItsSymbols-IsForm words (InitWith numbers) form = tt
HasItsSymbols-IsForm words (PutUnder name) form = tt
HasItsSymbols-IsForm words (PutAt name profile) form = tt
HasItsSymbols-IsForm words (GetOf name) form = tt
HasItsSymbols-IsForm words (DropOf name) form = tt
HasItsSymbols-IsForm words ListAll form = tt
HasItsSymbols-IsForm words AuditAll form = tt
HasItsSymbols-IsForm words RepairAll form = tt
HasItsSymbols-IsForm words UpgradeJournal form = tt
HasItsSymbols-IsForm words ScrubAll form = tt
HasItsSymbols-IsForm words PackJournal form = tt

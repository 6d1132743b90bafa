use Rattle.vault_open.proofs.Words.{◌≡◌, sym, subst, List, [], ◌∷◌, Record, entry_of, InitFault, IsFirstFault, IsFirstAnswer}
use Rattle.std.proofs.Common.{Result}
use Rattle.vault_open.proofs.FirstRecord.{fault-first}
use Rattle.vault_open.proofs.preparing.answer_with.Goals as goal

pub returns-in-Ok : goal.returns-in-Ok
returns-in-Ok c = λ rs is.
    let base = c.args.base in
    let none : rs ≡ [] = subst (λ (a : Result Unit InitFault). IsFirstAnswer base rs a) c.in-Ok.is is in
    subst (λ (l : List Record). IsFirstFault base (entry_of c.args.entry.now ∷ l) c.answer_to.result) (sym none)
    (subst (λ (why : InitFault). IsFirstFault base (entry_of c.args.entry.now ∷ []) why) (sym c.answer_to.ensures)
    (fault-first base c.args.entry.now))

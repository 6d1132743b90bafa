use Rattle.vault.proofs.Words.{◌∙◌, ap, sym, Vec, Global, Object, symbols_in, Symbol}
use Rattle.vault.proofs.tasks.PutTask.store.Goals as goal

-- the symbols of a stripe do not depend on the number of the object
pub invariant_of-self : goal.invariant_of-self
invariant_of-self g c =
    let gathered = c.gather.new.self in
    record {
      gathered = λ x is. ap (λ (rows : Vec Symbol Global). rows.items) c.store_stripe.ensures.rows
          ∙ gathered.gathered x is
          ∙ ap (λ (o : Object). symbols_in o gathered.bytes x) (sym c.store_stripe.ensures.object);
    }

use Rattle.vault.proofs.Words.{refl, ap, seen_action, called_provider}
use Rattle.vault_core.specs.Coming.{Acts}
use Rattle.vault.proofs.Called.{acts-as, calls-none, calls-provider, calls-nothing, calls-move}
use Rattle.vault.proofs.desk.Desk.act.Goals as goal

pub returns-in-WriteBody : goal.returns-in-WriteBody
returns-in-WriteBody g c = record {
  machine = λ w moment is_told stands. c.move_append.ensures.machine w moment _ is_told stands;
  calls = calls-move g.D.Disk g.P.Provider _ _ _ _ c.in-WriteBody.is c.move_append.ensures.tells
      c.move_append.ensures.called;
  moves = λ w entry stands wrote calls.
      (rw c.requires.next.value at (c.move_append.ensures.cells w entry _ stands wrote));
  acted = c.move_append.ensures.acted;
}

pub store-requires-clause-next : goal.store-requires-clause-next
store-requires-clause-next g c = rw c.in-Store.is at c.requires.next

pub store-requires-clause-there : goal.store-requires-clause-there
store-requires-clause-there g c =
    c.requires.there c.in-Store.provider (ap (λ a. called_provider (Acts (seen_action a))) c.in-Store.is)

pub returns-in-Store : goal.returns-in-Store
returns-in-Store g c = record {
  machine = λ w moment is_told stands. c.store.ensures.machine w moment _ _ is_told stands;
  calls = calls-provider g.D.Disk g.P.Provider _ _ _ _ (acts-as _ _ c.in-Store.is) c.in-Store.provider _ refl refl
      c.store.ensures.calls;
  moves = λ w entry stands given calls. calls-none _ _ (acts-as _ _ c.in-Store.is) refl calls;
  acted = c.store.ensures.acted;
}

pub fetch-requires-clause-next : goal.fetch-requires-clause-next
fetch-requires-clause-next g c = rw c.in-Fetch.is at c.requires.next

pub fetch-requires-clause-there : goal.fetch-requires-clause-there
fetch-requires-clause-there g c =
    c.requires.there c.in-Fetch.provider (ap (λ a. called_provider (Acts (seen_action a))) c.in-Fetch.is)

pub returns-in-Fetch : goal.returns-in-Fetch
returns-in-Fetch g c = record {
  machine = λ w moment is_told stands. c.fetch.ensures.machine w moment _ _ is_told stands;
  calls = calls-provider g.D.Disk g.P.Provider _ _ _ _ (acts-as _ _ c.in-Fetch.is) c.in-Fetch.provider _ refl refl
      c.fetch.ensures.calls;
  moves = λ w entry stands given calls. calls-none _ _ (acts-as _ _ c.in-Fetch.is) refl calls;
  acted = c.fetch.ensures.acted;
}

pub ask-requires-clause-next : goal.ask-requires-clause-next
ask-requires-clause-next g c = rw c.in-Ask.is at c.requires.next

pub ask-requires-clause-there : goal.ask-requires-clause-there
ask-requires-clause-there g c =
    c.requires.there c.in-Ask.provider (ap (λ a. called_provider (Acts (seen_action a))) c.in-Ask.is)

pub returns-in-Ask : goal.returns-in-Ask
returns-in-Ask g c = record {
  machine = λ w moment is_told stands. c.ask.ensures.machine w moment _ _ is_told stands;
  calls = calls-provider g.D.Disk g.P.Provider _ _ _ _ (acts-as _ _ c.in-Ask.is) c.in-Ask.provider _ refl refl
      c.ask.ensures.calls;
  moves = λ w entry stands given calls. calls-none _ _ (acts-as _ _ c.in-Ask.is) refl calls;
  acted = c.ask.ensures.acted;
}

pub remove-requires-clause-next : goal.remove-requires-clause-next
remove-requires-clause-next g c = rw c.in-Remove.is at c.requires.next

pub remove-requires-clause-there : goal.remove-requires-clause-there
remove-requires-clause-there g c =
    c.requires.there c.in-Remove.provider (ap (λ a. called_provider (Acts (seen_action a))) c.in-Remove.is)

pub returns-in-Remove : goal.returns-in-Remove
returns-in-Remove g c = record {
  machine = λ w moment is_told stands. c.remove.ensures.machine w moment _ _ is_told stands;
  calls = calls-provider g.D.Disk g.P.Provider _ _ _ _ (acts-as _ _ c.in-Remove.is) c.in-Remove.provider _ refl refl
      c.remove.ensures.calls;
  moves = λ w entry stands given calls. calls-none _ _ (acts-as _ _ c.in-Remove.is) refl calls;
  acted = c.remove.ensures.acted;
}

pub work-requires-clause-next : goal.work-requires-clause-next
work-requires-clause-next g c = rw c.in-Work.is at c.requires.next

pub returns-in-Work : goal.returns-in-Work
returns-in-Work g c = record {
  machine = λ w moment is_told stands. c.work.ensures.machine w moment _ stands;
  calls = calls-nothing g.D.Disk g.P.Provider _ _ _ _ (acts-as _ _ c.in-Work.is) refl refl;
  moves = λ w entry stands given calls. calls-none _ _ (acts-as _ _ c.in-Work.is) refl calls;
  acted = c.work.ensures.acted;
}

pub end-requires-clause-next : goal.end-requires-clause-next
end-requires-clause-next g c = rw c.in-End.is at c.requires.next

pub returns-in-End : goal.returns-in-End
returns-in-End g c = record {
  machine = λ w moment is_told stands. c.end.ensures.machine w moment _ stands;
  calls = calls-nothing g.D.Disk g.P.Provider _ _ _ _ (acts-as _ _ c.in-End.is) refl refl;
  moves = λ w entry stands given calls. calls-none _ _ (acts-as _ _ c.in-End.is) refl calls;
  acted = c.end.ensures.acted;
}

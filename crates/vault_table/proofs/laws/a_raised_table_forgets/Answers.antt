use Rattle.vault_table.proofs.Words.{refl, arith, nat_tests, started_as, IsFoldOf, started_at}
use Rattle.std.proofs.Common.{◌≡◌, ℕ, zero, suc}
use Rattle.record_defs.specs.Examples.{four, raised}
use Rattle.vault_table.specs.Examples.{raised_table}
use Rattle.vault_table.proofs.Fold.{is_packed}
use Rattle.vault_table.proofs.laws.a_raised_table_forgets.Goals as goal

none-started : (id : ℕ) → started_at raised_table id ≡ started_as raised id
none-started zero = refl
none-started (suc zero) = refl
none-started (suc (suc zero)) = refl
none-started (suc (suc (suc id))) = grind (arith, nat_tests)

is-folded : IsFoldOf raised raised_table
is-folded = record {
  setup = refl;
  version = refl;
  files = refl;
  started = none-started;
  id = refl;
  audit = refl;
  running = refl;
  due = refl;
}

pub returns-clause-accepted : goal.returns-clause-accepted
returns-clause-accepted c = (refl, (refl, (refl, (refl, (refl, (refl, (refl, (refl, tt))))))))

pub returns-clause-folded : goal.returns-clause-folded
returns-clause-folded c = is-folded

pub returns-clause-packed : goal.returns-clause-packed
returns-clause-packed c = is_packed raised_table raised four (returns-clause-accepted c) refl refl is-folded

-- The limits of a setup's numbers.
use Rattle.vault.proofs.Words.{◌≤◌, arith, IsTrue, Setup, SetUp, is_setup, is_in_grammar}
use Rattle.std.proofs.lemmas.Bool.Decides.{nat_tests}
use Rattle.hail_field.specs.Shape.{IsShape}

-- its shape is one of a field
pub setup-shape : (s : Setup) → IsTrue (is_setup s) → IsShape s.n s.l s.b
setup-shape s is = grind (arith, nat_tests, is)

some-picks : (s : Setup) → IsTrue (is_in_grammar (SetUp s)) → 1 ≤ s.picks
some-picks s is = grind (arith, nat_tests, is)

few-picks : (s : Setup) → IsTrue (is_in_grammar (SetUp s)) → s.picks ≤ 64
few-picks s is = grind (arith, nat_tests, is)

-- its picks are 1 to 64
pub setup-picks : (s : Setup) → IsTrue (is_in_grammar (SetUp s)) → (1 ≤ s.picks) × (s.picks ≤ 64)
setup-picks s is = (some-picks s is, few-picks s is)

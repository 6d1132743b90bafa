use Rattle.journal_pack.proofs.Words.{ℕ, Some, refl, sym, subst, inl, IfSome, firm, A, packed, IsAfterPack, read-firm, firm-image}
use Rattle.std.proofs.Common.{lit≤}
use Rattle.record_defs.specs.Spellings.{spelling}
use Rattle.record_defs.specs.Journal.{text}
use Rattle.record_defs.specs.Examples.{raised}
use Rattle.record_defs.proofs.AreaLaws.{text-active}
use Rattle.journal_pack.proofs.laws.a_raised_store_may_be_packed.Goals as goal

pub returns-clause-accepted : goal.returns-clause-accepted
returns-clause-accepted c = (refl, (refl, (refl, (refl, (refl, (refl, (refl, (refl, tt))))))))

pub returns-clause-left : goal.returns-clause-left
returns-clause-left c = λ image of. inl (firm-image A raised (firm (text raised)) image
    (read-firm (text raised) A raised (text-active raised refl)) of)

pub returns-clause-packs : goal.returns-clause-packs
unfolding spelling
returns-clause-packs c = λ p writes none. record {
  writes = writes;
  in_grammar = refl;
  apart = lit≤ tt;
  disk = subst (λ (n : ℕ). IfSome (Some (firm (text raised))) (IsAfterPack n A raised (packed raised))) (sym none)
      (read-firm (text raised) A raised (text-active raised refl));
}

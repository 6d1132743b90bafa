use Rattle.journal_core.proofs.Words.{◌+◌, length, replicate, Some, Ok, Err, WriteFault, refl, arith, firm, text, A, base_of, entries, text-active, gate_of, body_of, cells_after}
use Rattle.std.proofs.Common.{◌≡◌, true, false, ◌∷◌, lit≤}
use Rattle.stream_model.specs.declared.fault.WriteFault.TheVariants as write_fault
use Rattle.record_defs.specs.Examples.{four_set_up}
use Rattle.record_defs.specs.Spellings.{spelling}
use Rattle.journal_core.specs.declared.append.Append.{Append}
use Rattle.journal_core.proofs.AreaMoves.{begins-in}
use Rattle.journal_core.proofs.AreaStands.{read-firm}
use Rattle.journal_core.proofs.laws.an_append_may_turn.Goals as goal

-- an append at its start of a drop of the file a
first : Append
unfolding spelling
first = record {
  gate = base_of A + length (entries four_set_up);
  bytes = 4 ∷ 1 ∷ 97 ∷ 0 ∷ replicate 77 0;
  len = 4;
  moves = 0;
  within = lit≤ tt;
  fits = lit≤ tt;
}

-- an answer is no fault
not_err : (why : WriteFault) → Ok false ≡ Err why → ⊥
not_err why e = cc

pub returns : goal.returns
unfolding first spelling
returns c = (
  first,
  record first { moves = 1 },
  Some (cells_after 0 (gate_of first) (body_of first) (firm (text four_set_up))),
  record {
    records = refl;
    entry = refl;
    gate = refl;
    body = refl;
    disk = begins-in A four_set_up (body_of first) (firm (text four_set_up))
        (read-firm (text four_set_up) A four_set_up (text-active four_set_up refl));
  },
  omega arith,
  record {
    count = record {
      last = (λ e. absurd (let no : false ≡ true = e in cc), λ e. absurd (omega (arith, e)));
      next = refl;
      failed = tt;
    };
    gate = refl;
    body = refl;
  },
  record {
    does = refl;
    torn = λ e. absurd (not_err write_fault.Failed e);
    memory = λ e. absurd (not_err write_fault.Memory e);
    writes = λ e. absurd (not_err write_fault.Memory e);
  },
)

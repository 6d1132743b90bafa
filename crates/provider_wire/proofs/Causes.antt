-- When a count of faults rose in a call, from what its parts did.
use Rattle.provider_wire.proofs.Words.{◌≡◌, ◌≤◌, ℕ, refl, le_trans, IsErrOf, HasCause, WriteFault, ServeEnd, rose-before, end_after}
use Rattle.std.specs.Prelude.{Ok, Err}
use Rattle.stream_model.specs.declared.fault.WriteFault.TheVariants as write_fault
use Rattle.provider_wire.specs.declared.end.ServeEnd.TheVariants as serve_end

-- a call that is no fault says of its count only that it did not fall
pub no_fault : {before now : ℕ} {F : Type 0} → before ≤ now → (F → ⊥) → HasCause before now F
no_fault kept none = record { never_falls = kept; rose = λ fault. absurd (none fault) }

-- a last part that counts its faults, behind others in which the count did not fall
pub last_part : {a b c : ℕ} {F G : Type 0} → a ≤ b → HasCause b c F → (G → F) → HasCause a c G
last_part {a = a} {b = b} {c = c} kept last same = record {
  never_falls = le_trans kept last.never_falls;
  rose = λ fault. rose-before a b c kept last.never_falls (last.rose (same fault));
}

-- what a server says after a write is no fault of its source
pub after_is_no_source_fault : (fault : WriteFault) (end : ServeEnd) → end ≡ end_after fault
    → end ≡ serve_end.SourceFault → ⊥
after_is_no_source_fault write_fault.Failed end is other = cc (is, other)
after_is_no_source_fault write_fault.Memory end is other = cc (is, other)

-- it is a fault of its sink only where the write failed
pub sink_failed : {T : Type 0} (fault : WriteFault) (end : ServeEnd) → end ≡ end_after fault
    → end ≡ serve_end.SinkFault → IsErrOf {T = T} (Err fault) write_fault.Failed
sink_failed write_fault.Failed end is other = refl
sink_failed write_fault.Memory end is other = absurd (cc (is, other))

-- a value is no fault
pub not_failed : {T : Type 0} (x : T) → IsErrOf {E = WriteFault} (Ok x) write_fault.Failed → ⊥
not_failed x is = cc is

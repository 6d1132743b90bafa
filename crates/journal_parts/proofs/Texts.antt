-- A journal of one area is one whose first area is active.
use Rattle.std.specs.Prelude.{◌≡◌, ◌⊎◌, ℕ, ◌+◌, List, ◌∷◌, ◌++◌, length, take, drop}
use Rattle.std.proofs.Common.{refl, sym, ap, ◌∙◌, arith, inl, inr, append_assoc, take-append-drop, length-append}
use Rattle.record_defs.specs.Records.{Record}
use Rattle.record_defs.specs.Journal.{magic, before_gate}
use Rattle.record_defs.specs.Areas.{Area, A, B, entries, IsSwitched, StandsActive, EndsIn, BreaksIn, IsBadAt}
use Rattle.record_defs.proofs.AreaLaws.{before_gate-entries}
use Rattle.journal_core.specs.declared.fault.JournalFault.{JournalFault}
use Rattle.journal_core.specs.declared.fault.JournalFault.TheVariants as journal_fault
use Rattle.journal_core.specs.Lists.{newest_first}
use Rattle.journal_core.proofs.Meanings.{one_name, bad_is_none}
use Rattle.journal_core.proofs.Meanings.{one_meaning as one_active, one_place as one_bad_place}
use Rattle.journal_pack.specs.declared.active.Active.{Active}
use Rattle.journal_pack.specs.Actives.{IsReadActive, IsActiveFault}
use Rattle.journal_parts.specs.Texts.{IsText, EndsAtGate, BreaksAfterGate, FailsAt, IsReadFault}

-- bytes that begin with the magic name the first area
names_first : (bytes : List ℕ) → take 8 bytes ≡ magic → IsSwitched bytes A
names_first bytes front = record { switch = 49; front = front; names = refl }

-- they are the magic and what stands behind it
from_front : (bytes behind : List ℕ) → take 8 bytes ≡ magic → drop 8 bytes ≡ behind → bytes ≡ magic ++ behind
from_front bytes behind front back =
    sym (take-append-drop 8 bytes) ∙ ap (λ l. l ++ drop 8 bytes) front ∙ ap (λ l. magic ++ l) back

-- the first gates of records and what stands behind them
behind_entries : (rs : List Record) (behind : List ℕ) → magic ++ (entries rs ++ behind) ≡ before_gate rs ++ behind
behind_entries rs behind =
    sym (append_assoc magic (entries rs) behind) ∙ ap (λ l. l ++ behind) (sym (before_gate-entries rs))

-- how long the text is in front of a gate
length_before : (rs : List Record) → length (before_gate rs) ≡ 8 + length (entries rs)
length_before rs = ap length (before_gate-entries rs) ∙ length-append magic (entries rs)

-- what stands in the first area of such bytes is a text
text_of : (bytes : List ℕ) (rs : List Record) → take 8 bytes ≡ magic → StandsActive bytes A rs → IsText bytes rs
text_of bytes rs front s = record {
  in_grammar = s.holds.in_grammar;
  gate = s.holds.gate;
  rest = s.holds.rest;
  closed = s.holds.closed;
  bytes_are = from_front bytes (entries rs ++ s.holds.gate ∷ s.holds.rest) front s.holds.bytes_are
      ∙ behind_entries rs (s.holds.gate ∷ s.holds.rest);
}

-- what is read as the active area of such bytes
pub active_text : (bytes : List ℕ) (active : Active) → take 8 bytes ≡ magic → IsReadActive bytes active →
    IsText bytes (newest_first active.records.items)
active_text bytes active front is =
    go is.area (one_name bytes is.area A is.stands.active (names_first bytes front)) is.stands
  where
    go : (area : Area) → area ≡ A → StandsActive bytes area (newest_first active.records.items) →
        IsText bytes (newest_first active.records.items)
    go A e s = text_of bytes (newest_first active.records.items) front s
    go B e s = absurd cc

ends_at : (bytes : List ℕ) (at : ℕ) → take 8 bytes ≡ magic → EndsIn bytes A at → EndsAtGate bytes at
ends_at bytes at front e =
    let bytes_are : bytes ≡ before_gate e.records =
    from_front bytes (entries e.records) front e.bytes_are ∙ sym (before_gate-entries e.records) in
    record {
      records = e.records;
      in_grammar = e.in_grammar;
      bytes_are = bytes_are;
      place = e.place ∙ sym (length_before e.records) ∙ sym (ap length bytes_are);
    }

breaks_after : (bytes : List ℕ) (at : ℕ) → take 8 bytes ≡ magic → BreaksIn bytes A at → BreaksAfterGate bytes at
breaks_after bytes at front b =
    record {
      records = b.records;
      rest = b.rest;
      in_grammar = b.in_grammar;
      bytes_are = from_front bytes (entries b.records ++ 1 ∷ b.rest) front b.bytes_are
          ∙ behind_entries b.records (1 ∷ b.rest);
      none = b.none;
      place = (let l = length_before b.records in let p = b.place in omega (arith, l, p));
    }

fails : (bytes : List ℕ) (at : ℕ) → take 8 bytes ≡ magic → IsBadAt bytes at → FailsAt bytes at
fails bytes at front (inl none) = absurd (none.0 49 front)
fails bytes at front (inr f) =
    inr (go f.area (one_name bytes f.area A f.active (names_first bytes front)) f.fails)
  where
    go : (area : Area) → area ≡ A → EndsIn bytes area at ⊎ BreaksIn bytes area at →
        EndsAtGate bytes at ⊎ BreaksAfterGate bytes at
    go A e (inl ends) = inl (ends_at bytes at front ends)
    go A e (inr breaks) = inr (breaks_after bytes at front breaks)
    go B e broken = absurd cc

-- why the active area of such bytes was not read
pub active_fault : (bytes : List ℕ) (fault : JournalFault) → take 8 bytes ≡ magic → IsActiveFault bytes fault →
    IsReadFault bytes fault
active_fault bytes (journal_fault.Bad bad) front f = fails bytes bad.at front f
active_fault bytes journal_fault.Memory front f = f

-- the text of records stands behind the magic
behind_magic : (bytes behind : List ℕ) (rs : List Record) → bytes ≡ before_gate rs ++ behind →
    bytes ≡ magic ++ (entries rs ++ behind)
behind_magic bytes behind rs is = is ∙ sym (behind_entries rs behind)

-- a text is that of the first area, which is active
pub active_of : (bytes : List ℕ) (rs : List Record) → IsText bytes rs → StandsActive bytes A rs
active_of bytes rs t =
    let is = behind_magic bytes (t.gate ∷ t.rest) rs t.bytes_are in
    record {
      active = names_first bytes (ap (take 8) is);
      holds = record {
        in_grammar = t.in_grammar;
        gate = t.gate;
        rest = t.rest;
        closed = t.closed;
        bytes_are = ap (drop 8) is;
      };
    }

-- bytes that end at a gate, or break behind one, begin with the magic
broken_front : (bytes : List ℕ) (at : ℕ) → EndsAtGate bytes at ⊎ BreaksAfterGate bytes at →
    take 8 bytes ≡ magic
broken_front bytes at (inl e) = ap (take 8) (e.bytes_are ∙ before_gate-entries e.records)
broken_front bytes at (inr b) = ap (take 8) (behind_magic bytes (1 ∷ b.rest) b.records b.bytes_are)

-- and their first area fails there
broken_in : (bytes : List ℕ) (at : ℕ) → EndsAtGate bytes at ⊎ BreaksAfterGate bytes at →
    EndsIn bytes A at ⊎ BreaksIn bytes A at
broken_in bytes at (inl e) = inl (record {
  records = e.records;
  in_grammar = e.in_grammar;
  bytes_are = ap (drop 8) (e.bytes_are ∙ before_gate-entries e.records);
  place = e.place ∙ ap length e.bytes_are ∙ length_before e.records;
})
broken_in bytes at (inr b) = inr (record {
  records = b.records;
  rest = b.rest;
  in_grammar = b.in_grammar;
  bytes_are = ap (drop 8) (behind_magic bytes (1 ∷ b.rest) b.records b.bytes_are);
  none = b.none;
  place = (let l = length_before b.records in let p = b.place in omega (arith, l, p));
})

broken_bad : (bytes : List ℕ) (at : ℕ) → EndsAtGate bytes at ⊎ BreaksAfterGate bytes at → IsBadAt bytes at
broken_bad bytes at broken = inr (record {
  area = A;
  active = names_first bytes (broken_front bytes at broken);
  fails = broken_in bytes at broken;
})

-- bytes are the text of one list of records at most
pub one_list : (bytes : List ℕ) (rs qs : List Record) → IsText bytes rs → IsText bytes qs → rs ≡ qs
one_list bytes rs qs t u = (one_active bytes A A rs qs (active_of bytes rs t) (active_of bytes qs u)).1

-- bytes that fail at a place are no text
pub failing_no_text : (bytes : List ℕ) (at : ℕ) (rs : List Record) → FailsAt bytes at → IsText bytes rs → ⊥
failing_no_text bytes at rs (inl other) t = other.0 (ap (take 8) (behind_magic bytes (t.gate ∷ t.rest) rs t.bytes_are))
failing_no_text bytes at rs (inr broken) t =
    bad_is_none bytes at A rs (broken_bad bytes at broken) (active_of bytes rs t)

-- bytes fail at one place at most
pub one_place : (bytes : List ℕ) (at other : ℕ) → FailsAt bytes at → FailsAt bytes other → at ≡ other
one_place bytes at other (inl a) (inl b) = a.1 ∙ sym b.1
one_place bytes at other (inl a) (inr b) = absurd (a.0 (broken_front bytes other b))
one_place bytes at other (inr a) (inl b) = absurd (b.0 (broken_front bytes at a))
one_place bytes at other (inr a) (inr b) =
    one_bad_place bytes at other (broken_bad bytes at a) (broken_bad bytes other b)

-- A store that is set up on a disk that read no records: it did so before, and reads its one record after.
use Rattle.std.proofs.Common.{◌≡◌, inl, inr, ℕ, ◌+◌, ◌-◌, ◌≤◌, ◌&&◌, min, true, List, [], ◌∷◌, ◌++◌, length, take, drop, replicate, refl, sym, ap, ◌∙◌, subst, arith, append_assoc, length-append, length-take}
use Rattle.std.specs.Prelude.{IsTrue}
use Rattle.std.proofs.lemmas.List.{take-take, take-append-le, drop_at}
use Rattle.device_defs.specs.Cells.{Cells, reads, firm}
use Rattle.device_defs.specs.Disks.{spliced, written}
use Rattle.device_defs.proofs.Lasting.{reads-firm}
use Rattle.device_defs.proofs.WriteLaws.{reads-written}
use Rattle.record_defs.specs.Records.{Setup, SetUp, is_in_grammar, largest_journal}
use Rattle.record_defs.specs.Journal.{text}
use Rattle.record_defs.specs.Areas.{Area, A, base_of, entries, IsSwitched, StandsActive}
use Rattle.record_defs.proofs.Standing.{base-least, active-long, active-front}
use Rattle.opening_defs.specs.Journals.{IsFree, IsBlankIn, IsSetUpOn}

-- a disk that could be made blank read no records
pub blank-free : (old blank : Cells) (area : Area) → IsBlankIn old area blank → IsFree old
blank-free old blank area (IsBlankIn.short short first is) = inl short
blank-free old blank area (IsBlankIn.empty stands is) = inr (area, stands)

-- after a write within what a disk reads
pub reads-within : (at : ℕ) (bytes : List ℕ) (cells : Cells) → at ≤ length (reads cells) →
    reads (written at bytes cells) ≡ take at (reads cells) ++ (bytes ++ drop (at + length bytes) (reads cells))
reads-within at bytes cells within =
    let start : min at (length (reads cells)) ≡ at = omega (arith, within) in
    let gap : at - length (reads cells) ≡ 0 = omega (arith, within) in
    reads-written at bytes cells
    ∙ ap (λ (k : ℕ). spliced k (replicate (at - length (reads cells)) 0 ++ bytes) (reads cells)) start
    ∙ ap (λ (k : ℕ). spliced at (replicate k 0 ++ bytes) (reads cells)) gap

-- bytes name an area that begins within them
record HasArea (bytes : List ℕ) (area : Area) : Type 0 where
  active : IsSwitched bytes area
  within : base_of area ≤ length bytes

front-named : (bytes rest : List ℕ) → bytes ≡ text [] ++ rest → HasArea bytes A
front-named bytes rest is = record {
  active = record { switch = 49; front = ap (take 8) is; names = refl };
  within = omega (arith, ap length is, length-append (text []) rest);
}

-- so does a blank disk
blank-named : (old blank : Cells) (area : Area) → IsBlankIn old area blank → HasArea (reads blank) area
blank-named old blank area (IsBlankIn.short short first is) =
    subst (HasArea (reads blank)) (sym first) (front-named (reads blank) (drop 9 (reads old))
    (ap reads is ∙ reads-within 0 (text []) old (omega arith)))
blank-named old blank area (IsBlankIn.empty stands is) =
    let here = active-front largest_journal (reads old) area [] stands in
    subst (λ (c : Cells). HasArea (reads c) area) (sym is) (record {
      active = here.active;
      within = (let long = active-long (reads old) area [] here in omega (arith, long));
    })

module _ (s : Setup) (old new : Cells) (is : IsSetUpOn s old new) where
  -- a disk on which a store was set up read no records
  pub set_up-free : IsFree old
  set_up-free = blank-free old is.blank is.area is.blank_is

  abbrev body : List ℕ
  body = entries (SetUp s ∷ []) ++ 0 ∷ []

  abbrev base : ℕ
  base = base_of is.area

  abbrev rest : List ℕ
  rest = drop (base + length body) (reads is.blank)

  named : HasArea (reads is.blank) is.area
  named = blank-named old is.blank is.area is.blank_is

  reads-new : reads new ≡ take base (reads is.blank) ++ (body ++ rest)
  reads-new = ap reads is.cells_are ∙ reads-firm (reads (written base body is.blank))
      ∙ reads-within base body is.blank named.within

  front : length (take base (reads is.blank)) ≡ base
  front = (let within = named.within in omega (arith, length-take base (reads is.blank), within))

  -- no byte of it is loose
  pub set_up-firm : new ≡ firm (reads new)
  set_up-firm = is.cells_are
      ∙ ap firm (sym (ap reads is.cells_are ∙ reads-firm (reads (written base body is.blank))))

  -- it reads the setup as its one record
  pub set_up-stands : IsTrue (is_in_grammar (SetUp s)) → StandsActive (reads new) is.area (SetUp s ∷ [])
  set_up-stands spelled = record {
    active = record {
      switch = named.active.switch;
      front = ap (take 8) reads-new
          ∙ take-append-le 8 (take base (reads is.blank)) (body ++ rest)
          (omega (arith, front, base-least is.area))
          ∙ take-take 8 base (reads is.blank) (base-least is.area)
          ∙ named.active.front;
      names = named.active.names;
    };
    holds = record {
      in_grammar = (λ i. spelled i && true);
      gate = 0;
      rest = rest;
      closed = λ e. omega (arith, e);
      bytes_are = ap (drop base) reads-new
          ∙ drop_at (take base (reads is.blank)) (body ++ rest) base front
          ∙ append_assoc (entries (SetUp s ∷ [])) (0 ∷ []) rest;
    };
  }

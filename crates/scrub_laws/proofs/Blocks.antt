-- A block that is not off is the column.
use Rattle.scrub_laws.proofs.Words.{◌≡◌, ℕ, zero, suc, ◌<◌, ◌==◌, ◌⊎◌, List, length, Option, None, Some, ap, sym, ◌∙◌, inl, inr, arith, cases_Bool, eqb-true, Object, column_of_symbols, sized, differs, differs-none, cond_true, cond_false}
use Rattle.code_defs.specs.Profiles.{profile_of}
use Rattle.column_defs.proofs.ColumnLaws.{length-column_of_symbols}

-- a block of the size is held whole
sized-is : (size : ℕ) (held : Option (List ℕ)) (block : List ℕ) → Some block ≡ sized size held →
    (held ≡ Some block) × (length block ≡ size)
sized-is size None block h = absurd (let z : Some block ≡ None = h in cc)
sized-is size (Some c) block h = elim (cases_Bool (length c == size)) [
  | inl t ↦ (let e : Some block ≡ Some c = h ∙ cond_true (length c == size) (Some c) None t in
      let f : block ≡ c = cc in
      (ap Some (sym f), ap length f ∙ eqb-true (length c) size t))
  | inr o ↦ absurd (let e : Some block ≡ None = h ∙ cond_false (length c == size) (Some c) None o in cc)
]

-- each profile has blocks of some symbols
pub some-size : (profile : ℕ) → 0 < (profile_of profile).size
some-size (suc (suc (suc zero))) = omega arith
some-size profile = omega arith

-- a block that was given as it is held, and differs in no place, is the column
pub own-block : (object : Object) (given held : Option (List ℕ)) (symbols : List ℕ) (j t : ℕ) →
    0 < object.profile.size → (given ≡ sized object.profile.size held) ⊎ (given ≡ None) →
    differs given (column_of_symbols object symbols j t) ≡ 0 →
    held ≡ Some (column_of_symbols object symbols j t)
own-block object None held symbols j t some tells none =
    absurd (let e = length-column_of_symbols object symbols j t in omega (arith, e, none, some))
own-block object (Some block) held symbols j t some (inl e) none =
    (let w = sized-is object.profile.size held block e in
    w.0 ∙ ap Some (differs-none block (column_of_symbols object symbols j t)
    (w.1 ∙ sym (length-column_of_symbols object symbols j t)) none))
own-block object (Some block) held symbols j t some (inr e) none =
    absurd (let z : Some block ≡ None = e in cc)

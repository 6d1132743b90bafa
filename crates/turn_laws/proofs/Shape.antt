-- States whose vault was just opened over four providers are those that are spelled out.
use Rattle.std.proofs.Common.{◌≡◌, ℕ, zero, suc, ◌<◌, ◌==◌, List, [], ◌∷◌, length, Some, ap, sym, ◌∙◌, inl, inr, arith, if◌then◌else◌}
use Rattle.std.proofs.lemmas.Bool.{cases_Bool, eqb-true}
use Rattle.turn_laws.proofs.Words.{Provider, Record, Area, File, file_of, State, with_provider, IsJustOpened, provider_at, each, over, placed, spelled}
use Rattle.machine_defs.proofs.JobLists.{cond_true, cond_false}
use Rattle.state_laws.proofs.Packs.{file-alike}
use Rattle.job_laws.proofs.Alike.{plain}

-- ---- of four providers

-- of each number
pub always : (P : ℕ → Type 0) → P 0 → P 1 → P 2 → P 3 → ((j : ℕ) → P (suc (suc (suc (suc j))))) →
    (j : ℕ) → P j
always P a b c d e zero = a
always P a b c d e (suc zero) = b
always P a b c d e (suc (suc zero)) = c
always P a b c d e (suc (suc (suc zero))) = d
always P a b c d e (suc (suc (suc (suc j)))) = e j

-- of each number below four
pub four : (P : ℕ → Type 0) → P 0 → P 1 → P 2 → P 3 → (j : ℕ) → j < 4 → P j
four P a b c d = always (λ j. j < 4 → P j) (λ l. a) (λ l. b) (λ l. c) (λ l. d)
    (λ j l. absurd (omega (arith, l)))

-- a value that stands there already changes nothing
same_at : {X : Type 0} (f : ℕ → X) (j : ℕ) (x : X) → x ≡ f j → (k : ℕ) → (if k == j then x else f k) ≡ f k
same_at f j x e k = elim (cases_Bool (k == j)) [
  | inl t ↦ cond_true (k == j) x (f k) t ∙ (e ∙ ap f (sym (eqb-true k j t)))
  | inr n ↦ cond_false (k == j) x (f k) n
]

-- so it is of the bytes of an object
pub bytes_at-same : (bytes : ℕ → List ℕ) (j : ℕ) (xs : List ℕ) → xs ≡ bytes j →
    (λ id. if id == j then xs else bytes id) ≡ bytes
bytes_at-same bytes j xs e = λ i id. same_at bytes j xs e id i

-- what is there twice is one thing
pub from_some : {X : Type 0} (x y : X) → Some x ≡ Some y → x ≡ y
from_some x y e = cc

-- providers of which these four are the first ones
pub over-is : (ps : ℕ → Provider) (p q r s : Provider) → p ≡ ps 0 → q ≡ ps 1 → r ≡ ps 2 → s ≡ ps 3 →
    over ps p q r s ≡ ps
over-is ps p q r s a b c d =
    λ i k. (same_at (with_provider (with_provider (with_provider ps 3 s) 2 r) 1 q) 0 p a k
    ∙ (same_at (with_provider (with_provider ps 3 s) 2 r) 1 q b k
    ∙ (same_at (with_provider ps 3 s) 2 r c k ∙ same_at ps 3 s d k))) i

-- ---- the state

-- a state just opened over these records and providers is the one spelled out
pub placed-is : (area : Area) (rs : List Record) (bytes : ℕ → List ℕ) (p q r s : Provider) (w : State) →
    bytes ≡ w.bytes → IsJustOpened w area rs 1 0 (p ∷ q ∷ r ∷ s ∷ []) → placed area rs bytes p q r s w ≡ w
placed-is area rs bytes p q r s w same V = (let P : over w.providers p q r s ≡ w.providers = over-is
    w.providers p q r s (from_some p (w.providers 0) (V.handed.each 0 (omega arith)))
    (from_some q (w.providers 1) (V.handed.each 1 (omega arith)))
    (from_some r (w.providers 2) (V.handed.each 2 (omega arith)))
    (from_some s (w.providers 3) (V.handed.each 3 (omega arith))) in
    (λ i. record w {
      journal = sym V.journal i;
      area = sym V.area_is i;
      is_switching = sym V.at_rest.rest.unswitched i;
      bytes = same i;
      jobs = sym V.at_rest.rest.idle.0 i;
      next_job = sym V.at_rest.next i;
      alone = sym V.at_rest.rest.idle.3 i;
      append = sym V.at_rest.rest.idle.1 i;
      doubt = sym V.at_rest.rest.undoubted i;
      providers = P i;
      is_open = sym V.at_rest.opened i;
      is_barred = sym V.at_rest.rest.idle.2 i;
      disk_faults = sym V.faults_are i;
    }))

-- and so is what it sees, with its journal for its history
pub spelled-is : (area : Area) (rs : List Record) (bytes : ℕ → List ℕ) (held : List Provider) (w : State) →
    bytes ≡ w.bytes → IsJustOpened w area rs 1 0 (each (provider_at held)) →
    spelled area rs bytes held w ≡ plain w
spelled-is area rs bytes held w same V = ap plain (placed-is area rs bytes (provider_at held 0)
    (provider_at held 1) (provider_at held 2) (provider_at held 3) w same V)

-- a file has its bytes in a state just opened
pub file-long : (area : Area) (rs : List Record) (name : List ℕ) (file : File) (w : State)
    {ps : List Provider} → file_of rs name ≡ Some file → IsJustOpened w area rs 1 0 ps →
    length (w.bytes file.id) ≡ file.size
file-long area rs name file w is V = (V.at_rest.rest.files name file
    (sym (file-alike w.journal w.records name V.at_rest.rest.journal.alike)
    ∙ (ap (λ l. file_of l name) V.journal ∙ is))).1

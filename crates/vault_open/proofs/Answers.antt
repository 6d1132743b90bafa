-- What holds of an answer by its cause.
use Rattle.vault_open.proofs.Words.{◌≡◌, ℕ, List, Option, None, Some, sym, ap, subst, ◌∙◌, IfErr, IfSome, IsErrAnd, Cells, Setup, WriteFault, InitFault, init_answer, journal_read, IsInitFault, IsNoWrite, IsTextFault}
use Rattle.std.proofs.Common.{Ok, Err}
use Rattle.std.specs.Prelude.{Result}
use Rattle.stream_model.specs.declared.fault.WriteFault.TheVariants as write_fault
use Rattle.vault_open.specs.declared.fault.InitFault.TheVariants as init_fault

-- an answer that is an error with a given cause is this error
pub err-is : {T E : Type 0} (r : Result T E) (x : E) → IsErrAnd r (λ e. e ≡ x) → r ≡ Err x
err-is (Ok t) x is = absurd is
err-is (Err e) x is = ap (λ y. Err y) is

-- two errors that are one have one cause
pub err-same : {T E : Type 0} (x y : E) → ◌≡◌ {A = Result T E} (Err x) (Err y) → x ≡ y
err-same x y is = cc

-- a value is no error
pub ok-no-err : {T E : Type 0} (t : T) (x : E) → ◌≡◌ {A = Result T E} (Ok t) (Err x) → ⊥
ok-no-err t x is = cc

-- what follows from the error of an answer is a statement about that error
pub err-from : {T E : Type 0} (r : Result T E) (P Q : E → Type 0) → ((e : E) → P e → Q e) → IsErrAnd r P →
    IfErr r Q
err-from (Ok x) P Q step held = tt
err-from (Err e) P Q step held = step e held

-- an answer of an init whose cause is not its setup
pub unjudged : {T : Type 0} (r : Result T InitFault) (why : InitFault) → IsErrAnd r (λ e. e ≡ why) →
    (why ≡ init_fault.BadSetup → ⊥) → r ≡ Err init_fault.BadSetup → ⊥
unjudged (Ok x) why is other same = absurd is
unjudged (Err e) why is other same = other (let k : e ≡ init_fault.BadSetup = cc in sym is ∙ k)

-- a disk that failed is told as no bad setup
pub disk-unjudged : (f : WriteFault) → init_answer f ≡ init_fault.BadSetup → ⊥
disk-unjudged write_fault.Failed is = absurd (let e : init_fault.DiskFault ≡ init_fault.BadSetup = is in cc)
disk-unjudged write_fault.Memory is = absurd (let e : init_fault.Memory ≡ init_fault.BadSetup = is in cc)

-- a fault that lies in a disk's text is no bad setup
pub text-unjudged : (bytes : List ℕ) (why : InitFault) → IsTextFault bytes why → why ≡ init_fault.BadSetup → ⊥
text-unjudged bytes why fault is = subst (IsTextFault bytes) is fault

-- nor in the bytes of a disk
pub disk-told : (s : Setup) (told : Option Cells) (f : WriteFault) →
    IfSome told (λ cells. IsInitFault (journal_read cells) s (init_answer f))
disk-told s None f = tt
disk-told s (Some cells) write_fault.Failed = tt
disk-told s (Some cells) write_fault.Memory = tt

-- and behind it something may be written
pub disk-writes : (f : WriteFault) → IsNoWrite (init_answer f) → ⊥
disk-writes write_fault.Failed none = none
disk-writes write_fault.Memory none = none

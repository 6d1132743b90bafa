-- Tests tell what commands ask for.
use Rattle.effect_laws.proofs.Words.{◌≡◌, ℕ, Bool, true, List, [], ◌∷◌, ap, sym, subst, ◌∙◌, inl, inr, and_parts, false≢true, is_same_name, same-eq, same-refl, Kind, PutJob, DropJob, Event, Begin, BeginAt, IsPutBegin, Instruction, Once, RunJob, Touches, IsBeginFor, NoneAsksOn, PutsUnder, Drops, NoneAsksFor, NonePuts, NoneDrops, AsksPutsOnly}
use Rattle.std.proofs.Common.{not}
use Rattle.effect_laws.specs.Tests.{touches, puts_under, drops, asks, asks_none, puts_same, asks_puts_only}

-- one name is the same as itself
same : (n name : List ℕ) → n ≡ name → is_same_name n name ≡ true
same n name is = subst (λ m. is_same_name n m ≡ true) is (same-refl n)

touched : (name : List ℕ) (kind : Kind) → Touches name kind → touches name kind ≡ true
touched name (PutJob n bytes) is = same n name is
touched name (DropJob n) is = same n name is
touched name kind is = absurd is

put : (name : List ℕ) (kind : Kind) → PutsUnder name kind → puts_under name kind ≡ true
put name (PutJob n bytes) is = same n name is
put name kind is = absurd is

dropped : (name : List ℕ) (kind : Kind) → Drops name kind → drops name kind ≡ true
dropped name (DropJob n) is = same n name is
dropped name kind is = absurd is

-- an event that asks for a job of a kind is tested so
asked : (Meant : Kind → Type 0) (meant : Kind → Bool) → ((kind : Kind) → Meant kind → meant kind ≡ true) →
    (event : Event) → IsBeginFor Meant event → asks meant event ≡ true
asked Meant meant each (Begin kind) is = each kind is
asked Meant meant each (BeginAt profile name bytes) is = each (PutJob name bytes) is
asked Meant meant each event is = absurd is

-- the test tells it of commands
none_tested : (Meant : Kind → Type 0) (meant : Kind → Bool) → ((kind : Kind) → Meant kind → meant kind ≡ true) →
    (cs : List Instruction) → asks_none meant cs ≡ true → NoneAsksFor Meant cs
none_tested Meant meant each [] test = tt
none_tested Meant meant each (Once event ∷ cs) test =
    (let p = and_parts (not (asks meant event)) (asks_none meant cs) test in (
      (λ is. false≢true (ap not (sym (asked Meant meant each event is)) ∙ p.0)),
      none_tested Meant meant each cs p.1,
    ))
none_tested Meant meant each (RunJob job ∷ cs) test = none_tested Meant meant each cs test

for_on : (name : List ℕ) (cs : List Instruction) → NoneAsksFor (Touches name) cs → NoneAsksOn name cs
for_on name [] none = tt
for_on name (Once event ∷ cs) none = (none.0, for_on name cs none.1)
for_on name (RunJob job ∷ cs) none = for_on name cs none

pub tested_on : (name : List ℕ) (cs : List Instruction) → asks_none (touches name) cs ≡ true → NoneAsksOn name cs
tested_on name cs test = for_on name cs (none_tested (Touches name) (touches name) (touched name) cs test)

pub tested_puts : (name : List ℕ) (cs : List Instruction) → asks_none (puts_under name) cs ≡ true → NonePuts name cs
tested_puts name cs test = none_tested (PutsUnder name) (puts_under name) (put name) cs test

pub tested_drops : (name : List ℕ) (cs : List Instruction) → asks_none (drops name) cs ≡ true → NoneDrops name cs
tested_drops name cs test = none_tested (Drops name) (drops name) (dropped name) cs test

-- a put of the name is of these bytes
own_bytes : (name bytes other : List ℕ) (event : Event) → puts_same name bytes event ≡ true →
    IsPutBegin event name other → other ≡ bytes
own_bytes name bytes other event test (inl is) = same-eq other bytes (rw (is, same-refl name) at test)
own_bytes name bytes other event test (inr (profile, is)) = same-eq other bytes (rw (is, same-refl name) at test)

pub tested_only : (name bytes : List ℕ) (cs : List Instruction) → asks_puts_only name bytes cs ≡ true →
    AsksPutsOnly name bytes cs
tested_only name bytes [] test = tt
tested_only name bytes (Once event ∷ cs) test =
    (let p = and_parts (puts_same name bytes event) (asks_puts_only name bytes cs) test in (
      (λ other is. own_bytes name bytes other event p.0 is),
      tested_only name bytes cs p.1,
    ))
tested_only name bytes (RunJob job ∷ cs) test = tested_only name bytes cs test

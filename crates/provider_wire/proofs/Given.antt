-- What a fetch and an ask give, where they give something.
use Rattle.provider_wire.proofs.Words.{◌≡◌, ◌↔◌, ◌<◌, ◌^◌, ℕ, Bool, true, false, List, length, IsTrue, IfSome, All, Held, HasSize, FetchGives, AskGives}
use Rattle.std.proofs.Common.{Option, Some, None}
use Rattle.provider_model.proofs.Fetches.{given}

fetched : (held : Option Held) (size object stripe : ℕ) (out : List ℕ)
    → IfSome held (λ blocks. IsTrue true ↔ HasSize size (blocks object stripe)) →
    IfSome held (λ blocks. IsTrue true → blocks object stripe ≡ Some out)
    → length out ≡ size → All (λ symbol. symbol < 2 ^ 128) out → FetchGives size object stripe held (Some out)
fetched (Some held) size object stripe out found block long small =
    given size (held object stripe) true out found block
fetched None size object stripe out found block long small = record { size_is = long; symbols = small }

-- a block that a fetch found has the wanted size, and is the one held
pub fetched_block : (held : Option Held) (m size object stripe : ℕ) (out : List ℕ) (b : Bool) → m ≡ size →
    b ≡ true → IfSome held (λ blocks. IsTrue b ↔ HasSize m (blocks object stripe)) →
    IfSome held (λ blocks. IsTrue b → blocks object stripe ≡ Some out) → length out ≡ size →
    All (λ symbol. symbol < 2 ^ 128) out → FetchGives size object stripe held (Some out)
fetched_block held m size object stripe out true same is found block long small =
    fetched held size object stripe out (rw same at found) block long small
fetched_block held m size object stripe out false same is found block long small = absurd cc

-- a symbol that an ask gave is the honest answer
pub answered : (honest : (ℕ → Option (List ℕ)) → Option ℕ) (object symbol : ℕ) (held : Option Held)
    (answer : Option ℕ) → answer ≡ Some symbol → symbol < 2 ^ 128
    → IfSome held (λ blocks. answer ≡ honest (blocks object)) → AskGives honest object held (Some symbol)
answered honest object symbol (Some held) answer is small given = (rw is at given)
answered honest object symbol None answer is small given = small

-- How a name is kept: its bytes, and zeros behind them.
use Rattle.std.specs.Prelude.{◌≡◌, ℕ, ◌-◌, ◌≤◌, true, List, ◌++◌, length, take, drop, replicate}
use Rattle.std.proofs.Common.{sym, ap, subst, ◌∙◌, take-append-drop}
use Rattle.std.proofs.lemmas.List.{length-take-le}
use Rattle.record_codec.specs.declared.name.Name.TheInside.{Inside}
use Rattle.record_defs.specs.Records.{is_name}

-- the name that is kept
abbrev pub bytes_of : Inside → List ℕ
bytes_of a = take a.len a.bytes

-- a name of at most 64 bytes is kept in 64, the rest of them zero
pub record IsNameKept (a : Inside) : Type 0 where
  pub room : length a.bytes ≡ 64
  pub within : a.len ≤ 64
  pub is_name : is_name (take a.len a.bytes) ≡ true
  pub zeros : drop a.len a.bytes ≡ replicate (64 - a.len) 0

-- how a name is kept
abbrev pub kept : List ℕ → Inside
kept name = record { bytes = name ++ replicate (64 - length name) 0; len = length name }

-- a name that is kept gives its parts back
pub kept-bytes_of : (a : Inside) → IsNameKept a → kept (bytes_of a) ≡ a
kept-bytes_of a is =
    let len : length (take a.len a.bytes) ≡ a.len =
    length-take-le a.len a.bytes (subst (λ (n : ℕ). a.len ≤ n) (sym is.room) is.within) in
    let all : take a.len a.bytes ++ replicate (64 - length (take a.len a.bytes)) 0 ≡ a.bytes =
    ap (λ (k : ℕ). take a.len a.bytes ++ replicate (64 - k) 0) len ∙ ap
    (λ (l : List ℕ). take a.len a.bytes ++ l) (sym is.zeros) ∙ take-append-drop a.len a.bytes in
    (λ i. record { bytes = all i; len = len i })

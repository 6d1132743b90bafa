-- What a master key is.
use Rattle.vault_open.proofs.Words.{◌≡◌, ℕ, List, length, arith, IsTrue, is_master}
use Rattle.std.proofs.lemmas.Bool.Decides.{nat_tests}
use Rattle.record_codec.proofs.Fields.{IsBytes}
use Rattle.record_codec.proofs.Takes.{IsBytes-all}

-- 32 bytes are a master key
pub key-spelled : (key : List ℕ) → length key ≡ 32 → IsBytes key → IsTrue (is_master key)
key-spelled key long fits = grind (arith, nat_tests, long, IsBytes-all key fits)

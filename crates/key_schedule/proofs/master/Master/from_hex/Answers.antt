use Rattle.std.proofs.Common.{refl, sym, ap, ◌∙◌}
use Rattle.std.specs.Result.{is_ok}
use Rattle.hex.proofs.HexLemmas.{IsOk-decode_sized}
use Rattle.key_schedule.proofs.master.Master.from_hex.Goals as goal

-- decoding into 32 bytes succeeds exactly on 64 digits
pub returns-in-Ok-clause-found : goal.returns-in-Ok-clause-found
returns-in-Ok-clause-found c =
    let digits = IsOk-decode_sized c.args.text.now 32 in
    (λ _. digits.0 (sym (ap is_ok c.in-Ok.ensures)), λ _. refl)

pub returns-in-Err-clause-found : goal.returns-in-Err-clause-found
returns-in-Err-clause-found c =
    let digits = IsOk-decode_sized c.args.text.now 32 in
    (λ found. cc, λ h. ap is_ok c.in-Err.ensures ∙ digits.1 h)

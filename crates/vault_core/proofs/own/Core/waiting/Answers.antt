use Rattle.std.proofs.Common.{rules, sym}
use Rattle.vault_core.proofs.Gating.{place_len}
use Rattle.vault_core.proofs.Waiting.{waits_somewhere, waits_within, waits_told, stream_at}
use Rattle.vault_core.proofs.own.Core.waiting.Goals as goal

pub unreachable-requires : goal.unreachable-requires
unreachable-requires c = waits_somewhere c.args.self.now c.args.job c.requires c.in_default.ensures

pub index-requires : goal.index-requires
index-requires c = let l = place_len c.self.inside c.in-Some.place (waits_within c.self.inside
    c.args.job c.self.view_is c.requires c.in-Some.ensures) in search rules

pub unreachable-requires-in_default-told : goal.unreachable-requires-in_default-told
unreachable-requires-in_default-told c = waits_told c.self.inside c.args.job c.self.view_is c.requires
    c.in-Some.ensures c.index.ensures (sym c.in_default-told.is)

pub returns : goal.returns
returns c = stream_at c.args.job c.self.view_is c.self.invariant c.requires c.in-Some.ensures c.index.ensures
    (sym c.in-Some-told.is)

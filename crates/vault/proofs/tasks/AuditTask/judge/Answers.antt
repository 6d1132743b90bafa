use Rattle.vault.proofs.Words.{◌≡◌, ◌∙◌, refl, ap, arith}
use Rattle.std.proofs.Common.{length}
use Rattle.stripe_bench.proofs.Grown.{last_part, length-last}
use Rattle.vault.proofs.tasks.AuditTask.judge.Goals as goal

pub judge_round-requires-clause-rows : goal.judge_round-requires-clause-rows
judge_round-requires-clause-rows c = c.args.question.now.rows

pub judge_round-requires-clause-some_picks : goal.judge_round-requires-clause-some_picks
judge_round-requires-clause-some_picks c = c.args.question.now.some_picks

pub judge_round-requires-clause-few_picks : goal.judge_round-requires-clause-few_picks
judge_round-requires-clause-few_picks c = c.args.question.now.few_picks

pub judge_round-requires-clause-heard : goal.judge_round-requires-clause-heard
judge_round-requires-clause-heard c =
    let symbols = c.args.self.now.heard.symbols.items in
    let n = c.args.question.now.file.shape.n in
    ap length
    (last_part c.deref.result.now symbols c.len.result c.from.result n c.deref.ensures.value (omega arith)
    c.from.ensures)
    ∙ length-last symbols n (omega (arith, c.requires.there.heard))

pub judge_round-requires-clause-counts : goal.judge_round-requires-clause-counts
judge_round-requires-clause-counts c = c.requires.there.counts.n_is

pub judge_round-requires-clause-few : goal.judge_round-requires-clause-few
judge_round-requires-clause-few c = c.requires.there.counts.few

pub judge_round-requires-clause-room : goal.judge_round-requires-clause-room
judge_round-requires-clause-room c = c.requires.size

pub returns-clause-judged : goal.returns-clause-judged
returns-clause-judged c =
    let master = c.args.master.now.0 in
    let q = c.args.question.now in
    let symbols = c.args.self.now.heard.symbols.items in
    let whole : c.len.result ≡ length symbols = omega arith in
    record {
      judges = rw (last_part c.deref.result.now symbols c.len.result c.from.result q.file.shape.n
          c.deref.ensures.value whole c.from.ensures) at c.judge_round.ensures.judged;
      n_is = c.judge_round.ensures.n;
      padded = c.judge_round.ensures.padded;
      heard = refl;
    }

pub returns-clause-room : goal.returns-clause-room
returns-clause-room c = c.judge_round.ensures.room

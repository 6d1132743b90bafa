use Rattle.std.proofs.Common.{Some, ap}
use Rattle.stream_model.specs.InMemory.{SinkInMemory}
use Rattle.stream_model.proofs.memory.MemSinkSink.write.Goals as goal

pub returns-then-next-clause-err : goal.returns-then-next-clause-err
returns-then-next-clause-err c = ap (λ (s : SinkInMemory). Some s.written) c.self.view_is

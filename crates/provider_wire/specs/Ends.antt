-- What a server says at its end, as plain data, and what it says after a write that did nothing.
use Rattle.wire_defs.specs.Serving.{End, Finished, BadAt, TooMany, SourceFailed, SinkFailed, OutOfMemory}
use Rattle.stream_model.specs.declared.fault.WriteFault.{WriteFault}
use Rattle.stream_model.specs.declared.fault.WriteFault.TheVariants as write_fault
use Rattle.provider_wire.specs.declared.end.ServeEnd.{ServeEnd}
use Rattle.provider_wire.specs.declared.end.ServeEnd.TheVariants as end

-- what a server says at its end
abbrev pub end_of : ServeEnd → End
end_of end.Done = Finished
end_of (end.BadFrame at) = BadAt at
end_of end.TooLong = TooMany
end_of end.SourceFault = SourceFailed
end_of end.SinkFault = SinkFailed
end_of end.Memory = OutOfMemory

-- what it says after a write that failed, or found no memory
abbrev pub end_after : WriteFault → ServeEnd
end_after write_fault.Failed = end.SinkFault
end_after write_fault.Memory = end.Memory

use Rattle.std.proofs.Common.{take}
use Rattle.pdrecord.specs.Written.{IsWritten}
use Rattle.pdrecord.proofs.trace_text.recording_octets.Given as goal

abbrev pub invariant-loop-done : goal.invariant-loop-done
invariant-loop-done l = IsWritten l.with_trace (take l.done l.recording.lines) l.out.items

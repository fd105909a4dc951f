-- The packets recorded so far and those that are left make all that leave.
use Rattle.std.proofs.Common.{◌≡◌, ◌-◌, []}
use Rattle.pd_record.specs.Recorder.{comes}
use Rattle.pd_record.specs.Inner.{Sound}
use Rattle.pd_record.proofs.recorder.Recorder.record_departures_until_as_unmet.Given as goal

abbrev pub invariant-packets : goal.invariant-packets
invariant-packets l = record {
  sound : Sound l.self;
  base : l.self.base ≡ l.fn.self.base;
  left : comes (4096 - l.counter) l.line l.until l.before.items l.self ≡ comes 4096 l.line l.until [] l.fn.self;
}

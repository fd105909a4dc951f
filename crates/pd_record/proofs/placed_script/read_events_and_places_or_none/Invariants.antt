use Rattle.std.proofs.Common.{◌≡◌, ◌-◌, length, true}
use Rattle.pd_script.specs.Items.{is_end, next_is}
use Rattle.pd_script.specs.Script.{found_in, in_front}
use Rattle.pd_record.proofs.placed_script.read_events_and_places_or_none.Given as goal

abbrev pub invariant-events : goal.invariant-events
invariant-events l = record {
  found : in_front l.events.items (found_in (4096 - l.i) l.reader) ≡ found_in 4096 l.fn.reader;
  few : length l.events.items ≡ l.i;
  last : l.i ≡ 4096 → next_is is_end l.reader ≡ true;
}

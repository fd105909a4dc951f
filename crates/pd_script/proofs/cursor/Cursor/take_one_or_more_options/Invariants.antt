use Rattle.std.proofs.Common.{◌≡◌, length}
use Rattle.pd_script.specs.Items.{is_symbol}
use Rattle.pd_script.specs.Reader.{onto}
use Rattle.pd_script.specs.PacketReading.{repeated_at, next_option_at, some_options_at}
use Rattle.pd_script.proofs.cursor.Cursor.take_one_or_more_options.Given as goal

abbrev pub invariant-more : goal.invariant-more
invariant-more l = onto l.options (repeated_at (is_symbol 44) next_option_at l.self) ≡ some_options_at l.fn.self

abbrev pub decreases-more : goal.decreases-more
decreases-more l = length l.self

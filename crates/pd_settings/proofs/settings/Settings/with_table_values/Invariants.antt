-- Laying the entries that are left over the settings so far answers for the whole table.
use Rattle.std.proofs.Common.{◌≡◌}
use Rattle.toml.specs.View.{members_view}
use Rattle.pd_settings.specs.Table.{overlaid}
use Rattle.pd_settings.proofs.settings.Settings.with_table_values.Given as goal

abbrev pub invariant-loop-key : goal.invariant-loop-key
invariant-loop-key l =
    overlaid l.settings (members_view l.key-iterator) ≡ overlaid l.self (members_view l.table.entries)

-- A table is laid over the defaults, or refused with its first fault.
use Rattle.toml.specs.View.{table_view}
use Rattle.pd_settings.specs.Settings.{defaults}
use Rattle.pd_settings.proofs.Overlays.{overlaid_answers}
use Rattle.pd_settings.proofs.settings.Settings.from_table.Goals as goal

pub returns-clause-overlay : goal.returns-clause-overlay
returns-clause-overlay c = rw (c.with_table_values.ensures, c.new.ensures) (overlaid_answers defaults (table_view c.args.table.now))

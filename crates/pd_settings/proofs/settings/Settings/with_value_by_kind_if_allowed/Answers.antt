-- A number is changed as it is written.
use Rattle.pd_settings.proofs.settings.Settings.with_value_by_kind_if_allowed.Goals as goal

pub returns-in-Number : goal.returns-in-Number
returns-in-Number c = rw c.in-Number.is c.with_number_if_in_allowed_range.ensures

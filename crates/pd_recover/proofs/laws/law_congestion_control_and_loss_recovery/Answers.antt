-- The laws hold.
use Rattle.pd_recover.proofs.Begun.{begins_by_uses}
use Rattle.pd_recover.proofs.Proportion.{lets_out_in_proportion, counts_recovery, is_by_pipe}
use Rattle.pd_recover.proofs.Rests.{rests_in_recovery}
use Rattle.pd_recover.proofs.Sendable.{data_sendable, next_sendable}
use Rattle.pd_recover.proofs.SlowStart.{counts_octets, keeps_slow_start, restarts_when_idle, is_as_before}
use Rattle.pd_recover.proofs.Spared.{spares_sacked}
use Rattle.pd_recover.proofs.Windows.{stays_within}
use Rattle.pd_recover.proofs.laws.law_congestion_control_and_loss_recovery.Goals as goal

pub returns-clause-windows : goal.returns-clause-windows
returns-clause-windows c = stays_within

pub returns-clause-consulted_settings : goal.returns-clause-consulted_settings
returns-clause-consulted_settings c = begins_by_uses

pub returns-clause-counting : goal.returns-clause-counting
returns-clause-counting c = counts_octets

pub returns-clause-slow_start : goal.returns-clause-slow_start
returns-clause-slow_start c = keeps_slow_start

pub returns-clause-idle : goal.returns-clause-idle
returns-clause-idle c = restarts_when_idle

pub returns-clause-defaults : goal.returns-clause-defaults
returns-clause-defaults c = is_as_before

pub returns-clause-proportion : goal.returns-clause-proportion
returns-clause-proportion c = lets_out_in_proportion

pub returns-clause-counts : goal.returns-clause-counts
returns-clause-counts c = counts_recovery

pub returns-clause-pipe : goal.returns-clause-pipe
returns-clause-pipe c = is_by_pipe

pub returns-clause-rests : goal.returns-clause-rests
returns-clause-rests c = rests_in_recovery

pub returns-clause-sacked : goal.returns-clause-sacked
returns-clause-sacked c = spares_sacked

pub returns-clause-sendable : goal.returns-clause-sendable
returns-clause-sendable c = record { chosen = next_sendable; limited = data_sendable }

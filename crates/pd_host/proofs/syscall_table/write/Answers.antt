-- Sending leaves the rest of the state.
use Rattle.std.proofs.Common.{rules}
use Rattle.pd_host.proofs.syscall_table.write.Goals as goal

pub returns-in_err-send_all_windows_and_nagle_permit : goal.returns-in_err-send_all_windows_and_nagle_permit
returns-in_err-send_all_windows_and_nagle_permit c = λ s. let sent = c.in_err-send_all_windows_and_nagle_permit.ensures s in search rules

pub returns-in_ok-send_all_windows_and_nagle_permit : goal.returns-in_ok-send_all_windows_and_nagle_permit
returns-in_ok-send_all_windows_and_nagle_permit c = λ s. let sent = c.in_ok-send_all_windows_and_nagle_permit.ensures s in search rules

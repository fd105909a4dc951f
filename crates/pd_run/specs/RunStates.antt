-- The state of a run between two events.
use Rattle.std.specs.Prelude.{◌≡◌, ℕ, Bool, Option, None}
use Rattle.pd_settings.specs.declared.settings.Settings.{Settings}
use Rattle.pd_host.specs.Host.{HostView}
use Rattle.pd_host.specs.Laws.{IsUpTo}
use Rattle.pd_host.specs.declared.endpoint.SenderState.{SenderState}

-- the sender, in microseconds the clock, the base of relative times and the tolerance that the header sets, if it does, and
-- whether a packet was expected without one
pub record RunStateView : Type 0 where
  pub host : HostView
  pub clock : ℕ
  pub base : ℕ
  pub header_tolerance : Option ℕ
  pub used_tolerance : Bool

-- a sender's state is up to date at a moment, under the settings that its connection was begun under: these need not be held
-- any more
pub record KeepsTime (now : ℕ) (s : SenderState) : Type 0 where
  pub begun : Settings
  pub up_to : IsUpTo begun now s

-- the sender of a run that goes on is up to date at the run's clock
abbrev pub IsUpToDate : HostView → ℕ → Type 0
IsUpToDate host clock = host.end_reason ≡ None → KeepsTime clock host.state

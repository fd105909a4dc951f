-- Definitions that contracts of private functions cite and no public one does.
use Rattle.std.specs.Prelude.{ℕ, ◌≤◌, Option, IfNone}
use Rattle.std.specs.Option.{ForSome}
use Rattle.pd_host.specs.declared.established.Established.{Established}
use Rattle.pd_host.specs.declared.connection.Scaling.{Scaling}

-- no shift count is above 14 (RFC 7323, section 2.3)
abbrev pub IsScalable : Option Scaling → Type 0
IsScalable scaling = ForSome scaling (λ s. (s.own ≤ 14) × (s.peer ≤ 14))

-- the invariant of connections: no shift count is above 14, and in the handshake no octet after our SYN is acknowledged
pub record IsConnection (scaling : Option Scaling) (una : ℕ) (established : Option Established) : Type 0 where
  pub shifts : IsScalable scaling
  pub handshake : IfNone established (una ≤ 1)

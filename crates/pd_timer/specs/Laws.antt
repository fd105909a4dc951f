-- The laws of every timer that the rules reach.
use Rattle.std.specs.Prelude.{◌≡◌, ℕ, ◌+◌, ◌≤◌, None, IsSomeAnd}
use Rattle.pd_settings.specs.declared.settings.Settings.{Settings}
use Rattle.pd_timer.specs.Rto.{RtoView, initial, sampled, started, restarted, stopped, expired_rto, reinitialized}

-- a timer that goes by these settings, with its timeout within their bounds
pub record IsBoundedBy (settings : Settings) (t : RtoView) : Type 0 where
  pub least : t.min_rto_us ≡ settings.min_rto_us
  pub greatest : t.max_rto_us ≡ settings.max_rto_us
  pub not_below : settings.min_rto_us ≤ t.rto
  pub not_above : t.rto ≤ settings.max_rto_us

-- a rule keeps the timer's timeout within the bounds of the settings
abbrev pub KeepsBounds : (RtoView → RtoView) → Type 0
KeepsBounds rule = (settings : Settings) (t : RtoView) → IsBoundedBy settings t → IsBoundedBy settings (rule t)

-- the timeout lies within its bounds from the first on (RFC 6298, sections 2.4 and 2.5)
pub record StaysWithin : Type 0 where
  pub first : (settings : Settings) → IsBoundedBy settings (initial settings.min_rto_us settings.max_rto_us)
  pub measured : (r granularity : ℕ) → KeepsBounds (sampled r granularity)
  pub start : (now : ℕ) → KeepsBounds (started now)
  pub restart : (now : ℕ) → KeepsBounds (restarted now)
  pub stop : KeepsBounds stopped
  pub expiry : (now : ℕ) → KeepsBounds (expired_rto now)
  pub establishment : KeepsBounds reinitialized

-- the timer runs, and expires at the moment or up to the greatest timeout after it
abbrev pub RunsFrom : ℕ → RtoView → Type 0
RunsFrom now t = IsSomeAnd t.deadline (λ moment. (now ≤ moment) × (moment ≤ now + t.max_rto_us))

-- where a deadline is set at a moment, it lies at or after that, by at most the greatest timeout (RFC 6298, section 2.5)
pub record ExpiresInTime : Type 0 where
  pub start : (now : ℕ) (t : RtoView) → t.rto ≤ t.max_rto_us → t.deadline ≡ None → RunsFrom now (started now t)
  pub restart : (now : ℕ) (t : RtoView) → t.rto ≤ t.max_rto_us → RunsFrom now (restarted now t)
  pub expiry : (now : ℕ) (t : RtoView) → RunsFrom now (expired_rto now t)

-- an expiry never lowers RTO (RFC 6298, section 5.5: back off the timer)
abbrev pub BacksOff : Type 0
BacksOff = (now : ℕ) (t : RtoView) → t.rto ≤ t.max_rto_us → t.rto ≤ (expired_rto now t).rto

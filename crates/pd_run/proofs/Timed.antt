-- The sender of a run stays up to date, and what is known of its timer.
use Rattle.std.proofs.Common.{◌≡◌, ℕ, ◌+◌, ◌<◌, ◌≤◌, Option, Some, None, refl, sym, subst, arith}
use Rattle.std.specs.Prelude.{IfSome}
use Rattle.pd_settings.specs.declared.settings.Settings.{Settings}
use Rattle.pd_host.specs.Connection.{ConnectionView}
use Rattle.pd_host.specs.Expiries.{deadline_of}
use Rattle.pd_host.specs.InputLaws.{host_with_settings}
use Rattle.pd_host.specs.Laws.{IsUpTo, begun_under}
use Rattle.pd_host.specs.Host.{HostView, without_oldest}
use Rattle.pd_host.specs.declared.endpoint.SenderState.{SenderState}
use Rattle.pd_run.specs.Inner.{InputsOnlyUse, SenderIsLawful}
use Rattle.pd_run.specs.RunStates.{KeepsTime, IsUpToDate}
use Rattle.pd_run.proofs.Bounds.{IsKept}

-- where the next expiry lies
ahead : (now most at : ℕ) (o : Option ℕ) → IfSome o (λ x. (now < x) × (x ≤ now + most)) → o ≡ Some at → (now < at) × (at ≤ now + most)
ahead now most at None h is = absurd cc
ahead now most at (Some x) h is = let same : x ≡ at = cc in subst (λ (y : ℕ). (now < y) × (y ≤ now + most)) same h

-- it lies at most an hour ahead
pub due : (b : Settings) (now at : ℕ) (s : SenderState) → IsUpTo b now s → deadline_of s ≡ Some at → (now < at) × (at ≤ now + 3600000000)
due b now at s up is =
    let reach : (now < at) × (at ≤ now + b.max_rto_us) = ahead now b.max_rto_us at (deadline_of s) up.deadline is in
    let most : b.max_rto_us ≤ 3600000000 = b.max_rto_us_in_range.1 in
    (reach.0, omega (arith, reach.1, most))

-- under whatever settings the connection was begun
pub keeps_time : SenderIsLawful → IsKept KeepsTime
keeps_time laws = record {
  advances = λ now until s t le h came. record { begun = h.begun; up_to = laws.advances h.begun now until s t le h.up_to came };
  arrivals = λ segment now s t h came. record {
    begun = begun_under s.settings h.begun s.endpoint.connection;
    up_to = laws.arrivals h.begun segment now s t h.up_to came;
  };
  calls = λ call now s t answer h came. record { begun = h.begun; up_to = laws.calls h.begun call now s t answer h.up_to came };
  taking = λ now sender h. record { begun = h.begun; up_to = laws.taking h.begun now sender h.up_to };
  ordered = λ now s h. h.up_to.packets;
  soon = λ now at s h is. due h.begun now at s h.up_to is;
}

-- so is a host without its oldest packet,
pub host_taken : SenderIsLawful → (old new : HostView) (clock : ℕ) → IsUpToDate old clock → new ≡ without_oldest old → IsUpToDate new clock
host_taken laws old new clock up is =
    subst (λ host. IsUpToDate host clock) (sym is)
    (λ live. record { begun = (up live).begun; up_to = laws.taking (up live).begun clock old (up live).up_to })

-- and one that is put under other settings
pub host_rebound : SenderIsLawful → (old new : HostView) (settings : Settings) (clock : ℕ) → IsUpToDate old clock → new ≡ host_with_settings settings old
    → IsUpToDate new clock
host_rebound laws old new settings clock up is =
    subst (λ host. IsUpToDate host clock) (sym is)
    (λ live. record { begun = (up live).begun; up_to = laws.rebinding (up live).begun settings clock old.state (up live).up_to })

-- under the settings that are held

under_held : (held : Settings) (o : Option ConnectionView) → begun_under held held o ≡ held
under_held held None = refl
under_held held (Some c) = refl

abbrev pub IsHeld : ℕ → SenderState → Type 0
IsHeld now s = IsUpTo s.settings now s

held_by : (b : Settings) (now : ℕ) (t : SenderState) → t.settings ≡ b → IsUpTo b now t → IsHeld now t
held_by b now t same h = subst (λ x. IsUpTo x now t) (sym same) h

pub stays_held : SenderIsLawful → InputsOnlyUse → IsKept IsHeld
stays_held laws consulted_settings = record {
  advances = λ now until s t le h came.
      held_by s.settings until t (consulted_settings.advances_note until s t came).settings (laws.advances s.settings now until s t le h came);
  arrivals = λ segment now s t h came.
      held_by s.settings now t (consulted_settings.arrivals_note segment now s t came).settings
      (subst (λ x. IsUpTo x now t) (under_held s.settings s.endpoint.connection) (laws.arrivals s.settings segment now s t h came));
  calls = λ call now s t answer h came.
      held_by s.settings now t (consulted_settings.calls_note call now s t answer came).settings (laws.calls s.settings call now s t answer h came);
  taking = λ now sender h. laws.taking sender.state.settings now sender h;
  ordered = λ now s h. h.packets;
  soon = λ now at s h is. due s.settings now at s h is;
}

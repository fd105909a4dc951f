-- Where a run after a track begins, by what holds of it.
use Rattle.std.specs.Prelude.{◌≡◌, ℕ, ◌%◌, ◌≤◌, List}
use Rattle.pd_settings.specs.SettingSets.{Agree}
use Rattle.pd_settings.specs.declared.settings.Settings.{Settings}
use Rattle.pd_track.specs.Reuse.{TrackView, consulted_settings, kept, reached, skipped_after_track}

-- a text's run under settings may begin after so many events of a track's: there are none, or the track keeps the state
-- there; the lines with which both texts begin decide these events, and these consulted no setting that differs
pub record MayBegin (track : TrackView) (text : List (List ℕ)) (settings : Settings) (events : ℕ) : Type 0 where
  pub fourth : events % 4 ≡ 0
  pub passed : events ≤ reached track.text track.settings
  pub decided : events ≤ kept track.text text
  pub agree : Agree (consulted_settings track events) track.settings settings

-- it begins at the last place where it may
pub record BeginsLast (track : TrackView) (text : List (List ℕ)) (settings : Settings) (events : ℕ) : Type 0 where
  pub there : MayBegin track text settings events
  pub last : (other : ℕ) → MayBegin track text settings other → other ≤ events

-- each run after a track begins so
abbrev pub RunsBeginLast : Type 0
RunsBeginLast = (track : TrackView) (text : List (List ℕ)) (settings : Settings) → BeginsLast track text settings (skipped_after_track track text settings)

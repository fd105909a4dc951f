-- Books and jobs, as their callers see them.
use Rattle.std.specs.Prelude.{List, ◌∷◌, Option, Some, None}
pub use Rattle.pd_track.specs.Reuse.{JobView}
use Rattle.std.specs.Option.{option_map}
use Rattle.pd_settings.specs.declared.settings.Settings.{Settings}
use Rattle.pd_book.specs.TrackCache.{TrackCacheView}
use Rattle.pd_book.specs.declared.act.Act.{Act}
use Rattle.pd_book.specs.declared.act.Act.TheVariants.{Start}
use Rattle.pd_track.specs.declared.task.Task.{Task}

-- the settings at its opening and the acts that it recorded, the newest first
pub record History : Type 0 where
  pub opening : Settings
  pub past : List Act

-- a book: its history, and beside that the tracks that it keeps to spare steps
pub record BookView : Type 0 where
  pub history : History
  pub tracks : TrackCacheView

-- the task of a job, if one was handed out
abbrev pub handed_task : Option JobView → Option Task
handed_task job = option_map (λ (handed : JobView). handed.task) job

-- the history with one more act
abbrev pub after_act : History → Act → History
after_act history act = record { opening = history.opening; past = act ∷ history.past }

-- the history after a start: with its act where it gave a job
abbrev pub after_start : History → Option Task → History
after_start history None = history
after_start history (Some task) = after_act history (Start task.number task.name)

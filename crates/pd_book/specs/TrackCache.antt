-- The tracks that a book keeps beside its history.
use Rattle.std.specs.Prelude.{◌≡◌, ◌⊎◌, ℕ, nat_lt, Bool, true, false, List, Option, None, Some, if◌then◌else◌}
use Rattle.std.specs.Map.{lookup, remove_entry}
use Rattle.std.specs.Str.{bytes_eq}
use Rattle.lru.specs.LruCache.{lru_cache, promoted, put_entries}
use Rattle.pd_text.specs.Text.{common_prefix}
use Rattle.pd_track.specs.Reuse.{TrackView, JobView}
use Rattle.pd_track.specs.declared.task.Task.{Task}
use Rattle.pd_book.specs.declared.act.Ruling.{Ruling}
use Rattle.pd_book.specs.declared.act.Ruling.TheVariants.{Taken, Stale}

-- the names of scripts with what their tracks are of, the last used first, and how many are kept at most
pub record TrackCacheView : Type 0 where
  pub entries : List (List ℕ × TrackView)
  pub max_tracks : ℕ

-- the text and the settings of the track under a name, if one is kept
abbrev pub track_of : List ℕ → TrackCacheView → Option TrackView
track_of name cache = lookup (bytes_eq name) cache.entries

-- a track that is used moves to the front
abbrev pub marked_used : List ℕ → TrackCacheView → TrackCacheView
marked_used name cache = record { entries = promoted (bytes_eq name) cache.entries; max_tracks = cache.max_tracks }

-- a track that is kept is at the front, in place of the one of its name; a new name on a full shelf drops the last
abbrev pub cached_first : List ℕ → TrackView → TrackCacheView → TrackCacheView
cached_first name track cache = record {
  entries = put_entries bytes_eq (lru_cache cache.entries cache.max_tracks) name track;
  max_tracks = cache.max_tracks;
}

-- a name without its track
abbrev pub without_track : List ℕ → TrackCacheView → TrackCacheView
without_track name cache = record { entries = remove_entry (bytes_eq name) cache.entries; max_tracks = cache.max_tracks }

-- a start hands out the track of its script, and uses it
abbrev pub HandsOutTrack : Option JobView → TrackCacheView → TrackCacheView → Type 0
HandsOutTrack None old new = new ≡ old
HandsOutTrack (Some job) old new = (job.track ≡ track_of job.task.name old) × (new ≡ marked_used job.task.name old)

-- the text and the settings of a result's track
abbrev pub source_of : Task → TrackView
source_of done = record { text = done.text; settings = done.settings }

-- a track shares more first lines with a text than the one that is kept
abbrev pub shares_more_lines_than_cached : List (List ℕ) → TrackView → Option TrackView → Bool
shares_more_lines_than_cached text track None = true
shares_more_lines_than_cached text track (Some kept) = nat_lt (common_prefix kept.text text) (common_prefix track.text text)

-- the track of a result that is taken is kept; that of a stale one where its name stands and no kept track of that name
-- shares as many first lines with the present text
abbrev pub should_cache : Ruling → Option (List (List ℕ)) → Task → TrackCacheView → Bool
should_cache Taken present_text done cache = true
should_cache Stale None done cache = false
should_cache Stale (Some text) done cache = shares_more_lines_than_cached text (source_of done) (track_of done.name cache)

-- the tracks after a finish by its ruling: that of the result is put first where it is kept
abbrev pub cache_after_finish : Ruling → Option (List (List ℕ)) → Task → TrackCacheView → TrackCacheView
cache_after_finish ruled present_text done cache = if should_cache ruled present_text done cache then cached_first done.name (source_of done) cache else cache

-- a finish keeps the track of its result; where there is no memory to keep a track, none is
abbrev pub CachesTrack : Ruling → Option (List (List ℕ)) → Task → TrackCacheView → TrackCacheView → Type 0
CachesTrack ruled present_text done old new = (new ≡ cache_after_finish ruled present_text done old) ⊎ (new ≡ old)

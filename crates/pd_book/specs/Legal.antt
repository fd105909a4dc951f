-- Which lists of acts a book may have recorded.
use Rattle.std.specs.Prelude.{◌≡◌, ◌+◌, ◌<◌, ◌≤◌, ℕ, true, false, List, [], ◌∷◌, length, Some, None, IsSome}
use Rattle.pd_text.specs.Name.{is_valid_name}
use Rattle.pd_text.specs.Text.{AreLines, IsText}
use Rattle.pd_text.specs.Edit.{edit_refusal}
use Rattle.pd_settings.specs.Settings.{replaced}
use Rattle.pd_settings.specs.declared.settings.Settings.{Settings}
use Rattle.pd_book.specs.declared.act.Act.{Act}
use Rattle.pd_book.specs.declared.act.Act.TheVariants.{Add, Edit, Remove, Set, Start, Finish, Abandon}
use Rattle.pd_track.specs.declared.task.Task.{Task}
use Rattle.pd_book.specs.Acts.{texts, has_script, text_of, now, next, started, jobs, job, ruling}

-- the act meets its call's conditions after these acts:
-- an add gives a valid name that doesn't stand, where fewer than 1,024 scripts stand, and a text;
-- an edit and a remove name a script that stands; the edit inserts lines, fits the text and leaves one within the limits;
-- a set gives a setting a value of its range;
-- a start has the next number and names the first script that waits;
-- a finish and an abandonment name an outstanding job, and the finish has its ruling
abbrev pub MayBeRecorded : Settings → List Act → Act → Type 0
MayBeRecorded opening past (Add n t) = (is_valid_name n ≡ true) × (has_script past n ≡ false) × (length (texts past) < 1024) × IsText t
MayBeRecorded opening past (Edit n e) = (has_script past n ≡ true) × (edit_refusal (text_of past n) e ≡ None) × AreLines e.insert
MayBeRecorded opening past (Remove n) = has_script past n ≡ true
MayBeRecorded opening past (Set k v) = IsSome (replaced (now opening past) k v)
MayBeRecorded opening past (Start j n) = (j ≡ started past + 1) × (next past ≡ Some (n, text_of past n))
MayBeRecorded opening past (Finish j r) = (task : Task) × (job opening past j ≡ Some task) × (r ≡ ruling past task)
MayBeRecorded opening past (Abandon j) = (task : Task) × (job opening past j ≡ Some task)

-- the acts, each with room for the end of each outstanding job, are at most 65,536
abbrev pub HasRoom : Settings → List Act → Type 0
HasRoom opening past = length past + length (jobs opening past) ≤ 65536

-- each act met its call's conditions and had room
abbrev pub Legal : Settings → List Act → Type 0
Legal opening [] = Unit {0}
Legal opening (act ∷ older) = MayBeRecorded opening older act × Legal opening older × HasRoom opening (act ∷ older)

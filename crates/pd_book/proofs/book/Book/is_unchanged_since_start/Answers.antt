-- A script runs an outstanding job exactly where it has not changed since the start.
use Rattle.std.proofs.Common.{◌≡◌, ◌∙◌, List, Some, reverse, ap}
use Rattle.std.specs.Option.{option_map}
use Rattle.std.specs.Map.{lookup}
use Rattle.std.specs.Str.{bytes_eq}
use Rattle.pd_book.specs.declared.stored_script.StoredScript.{StoredScript}
use Rattle.pd_book.specs.Acts.{job, is_unchanged_since_start}
use Rattle.pd_book.specs.StoredScripts.{ScriptEntry, is_running_job}
use Rattle.pd_book.specs.History.{BookView}
use Rattle.pd_book.proofs.Replayed.{ruling_kept}
use Rattle.pd_book.proofs.book.Book.is_unchanged_since_start.Goals as goal

pub returns : goal.returns
returns c =
    let h = c.args.done.now in
    let past = reverse c.self.inside.records.acts.items in
    let there : job c.self.inside.opening past h.number ≡ Some h = ap (λ (x : BookView). job x.history.opening x.history.past h.number) c.self.view_is ∙ c.requires in
    let kept = ruling_kept c.self.inside.opening past h c.self.invariant.legal there in
    let is : c.is_running_job.result ≡ is_running_job (option_map (λ (s : StoredScript). s.state) (lookup (bytes_eq h.name) c.self.inside.records.scripts)) h.number = cc (c.is_running_job.ensures, c.name.ensures, c.number.ensures) in
    is ∙ (ap (λ (es : List ScriptEntry). is_running_job (option_map (λ (s : StoredScript). s.state) (lookup (bytes_eq h.name) es)) h.number) c.self.invariant.scripts
    ∙ (kept ∙ ap (λ (x : BookView). is_unchanged_since_start x.history.past h) c.self.view_is))

-- The kept rows are those that are shown, and their verdicts are runs.
use Rattle.std.proofs.Common.{◌≡◌, ◌∙◌, List, map, subst, ap, sym, reverse}
use Rattle.std.specs.List.{All}
use Rattle.pd_settings.specs.declared.settings.Settings.{Settings}
use Rattle.pd_book.specs.declared.report.Row.{Row}
use Rattle.pd_book.specs.Acts.{now}
use Rattle.pd_book.specs.Report.{ReportView, IsRunUnder, shown}
use Rattle.pd_book.specs.StoredScripts.{ScriptEntry, kept_row}
use Rattle.pd_book.specs.History.{BookView}
use Rattle.pd_book.proofs.Rows.{rows_kept, rows_run}
use Rattle.pd_book.proofs.book.Book.report.Goals as goal

pub new-requires : goal.new-requires
new-requires c =
    let past = reverse c.self.inside.records.acts.items in
    let opening = c.self.inside.opening in
    let rows : c.in_ok-rows.rows.items ≡ (shown opening past).rows =
    c.in_ok-rows.ensures ∙ (ap (λ (es : List ScriptEntry). map kept_row es) c.self.invariant.scripts ∙ sym (rows_kept opening past c.self.invariant.legal)) in
    subst (λ (s : Settings). All (IsRunUnder s) c.in_ok-rows.rows.items) (sym c.self.invariant.settings)
    (subst (λ (rs : List Row). All (IsRunUnder (now opening past)) rs) (sym rows) (rows_run opening past))

pub returns : goal.returns
returns c =
    let past = reverse c.self.inside.records.acts.items in
    let opening = c.self.inside.opening in
    let rows : c.in_ok-rows.rows.items ≡ (shown opening past).rows =
    c.in_ok-rows.ensures ∙ (ap (λ (es : List ScriptEntry). map kept_row es) c.self.invariant.scripts ∙ sym (rows_kept opening past c.self.invariant.legal)) in
    let under : Settings → List Row → ReportView = λ s rs. record { settings = s; rows = rs } in
    c.new.ensures ∙ (ap (under c.self.inside.settings) rows ∙ (ap (λ (s : Settings). under s (shown opening past).rows) c.self.invariant.settings
    ∙ ap (λ (x : BookView). shown x.history.opening x.history.past) c.self.view_is))

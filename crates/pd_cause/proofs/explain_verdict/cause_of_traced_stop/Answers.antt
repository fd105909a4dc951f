-- The event that stopped the run is one of those that were read.
use Rattle.std.proofs.Common.{◌≡◌, ◌<◌, List, length, slice_get, option_map, Some, IfOk, refl, sym, ap, subst, ◌∙◌, arith}
use Rattle.std.proofs.Math.ListN.{get_or}
use Rattle.std.proofs.lemmas.List.{length-map}
use Rattle.std.proofs.lemmas.Option.{slice_get_read, slice_get-map}
use Rattle.pd_lex.specs.declared.token.Place.{Place}
use Rattle.pd_settings.specs.declared.settings.Settings.{Settings}
use Rattle.pd_script.specs.Script.{script_of}
use Rattle.pd_script.specs.declared.parsed.Parsed.{Parsed}
use Rattle.pd_reparse.specs.Reading.{ReadingView, script_part, reading_of}
use Rattle.pd_reparse.specs.declared.parsed_event.ParsedEvent.{ParsedEvent}
use Rattle.pd_run.specs.Run.{verdict_in}
use Rattle.pd_run.specs.StopPoints.{line_of}
use Rattle.pd_run.specs.StopReason.{verdict_at}
use Rattle.pd_run.specs.declared.stop_point.StopPoint.{StopPoint}
use Rattle.pd_cause.specs.Causes.{IsCauseOf}
use Rattle.pd_cause.specs.Explained.{HasHistory, IsCauseIn}
use Rattle.pd_refusal.specs.Parts.{place_of_event_after_passed}
use Rattle.pd_cause.proofs.StopIsThere.{StopsWithin, stops_within, causes_in}
use Rattle.pd_cause.proofs.DroppedLemmas.{staged_stop}
use Rattle.pd_cause.proofs.explain_verdict.cause_of_traced_stop.Goals as goal

pub at-parsed_event-requires : goal.at-parsed_event-requires
at-parsed_event-requires c =
    let reading : ReadingView = c.args.reading.now in
    let parsed : Parsed = script_part reading in
    let settings : Settings = c.args.settings.now in
    let stop : StopPoint = c.args.traced.now.stop in
    let script : parsed ≡ script_of c.args.lines.now = ap script_part c.requires.reading ∙ c.law_readings_are_scripts.ensures c.args.lines.now in
    let lined : line_of (verdict_in settings parsed) ≡ Some c.args._line =
    subst (λ (p : Parsed). line_of (verdict_in settings p) ≡ Some c.args._line) (sym script) (ap line_of (sym c.requires.verdict) ∙ c.requires.line) in
    let there : StopsWithin c.args._line settings parsed stop =
    stops_within c.law_verdicts_have_reasons.ensures.verdicts settings parsed c.args._line stop lined c.requires.header c.requires.stop in
    let count : length parsed.events ≡ length reading.events = length-map reading.events (λ (d : ParsedEvent). d.event) in
    let read : length c.events.result.now ≡ length reading.events = ap (λ (ds : List ParsedEvent). length ds) c.events.ensures.value in
    omega (arith, there.0, count, read)

pub returns : goal.returns
returns c =
    let reading : ReadingView = c.args.reading.now in
    let parsed : Parsed = script_part reading in
    let settings : Settings = c.args.settings.now in
    let stop : StopPoint = c.args.traced.now.stop in
    let script : parsed ≡ script_of c.args.lines.now = ap script_part c.requires.reading ∙ c.law_readings_are_scripts.ensures c.args.lines.now in
    let lined : line_of (verdict_in settings parsed) ≡ Some c.args._line =
    subst (λ (p : Parsed). line_of (verdict_in settings p) ≡ Some c.args._line) (sym script) (ap line_of (sym c.requires.verdict) ∙ c.requires.line) in
    let there : StopsWithin c.args._line settings parsed stop =
    stops_within c.law_verdicts_have_reasons.ensures.verdicts settings parsed c.args._line stop lined c.requires.header c.requires.stop in
    let gives : verdict_at c.args._line stop.stop_reason ≡ c.args._verdict = there.1 ∙ (ap (verdict_in settings) script ∙ sym c.requires.verdict) in
    let count : length parsed.events ≡ length reading.events = length-map reading.events (λ (d : ParsedEvent). d.event) in
    let within : stop.passed < length reading.events = omega (arith, there.0, count) in
    let item : slice_get reading.events stop.passed ≡ Some c.at-parsed_event.result.now =
    slice_get_read reading.events (length reading.events) stop.passed c.at-parsed_event.result.now refl within
    (subst (λ (ds : List ParsedEvent). c.at-parsed_event.result.now ≡ get_or ds stop.passed c.at-parsed_event.result.now) c.events.ensures.value c.at-parsed_event.ensures) in
    let event : slice_get parsed.events stop.passed ≡ Some c.at-parsed_event.result.now.event =
    slice_get-map (λ (d : ParsedEvent). d.event) reading.events stop.passed ∙ ap (λ o. option_map (λ (d : ParsedEvent). d.event) o) item in
    let place : c.place_of_event_after_passed-place.result ≡ place_of_event_after_passed (reading_of c.args.lines.now) stop.passed =
    c.place_of_event_after_passed-place.ensures ∙ ap (λ (r : ReadingView). place_of_event_after_passed r stop.passed) c.requires.reading in
    subst (λ (p : Parsed). IfOk c.cause_with_origins_and_dropped.result (IsCauseIn c.args.lines.now c.args._line settings p c.args._verdict)) script
    (causes_in c.args.lines.now settings parsed c.args._line c.args._verdict stop c.at-parsed_event.result.now.event c.cause_with_origins_and_dropped.result c.requires.header
    (record { found = c.requires.stop; event = event; gives = gives })
    (subst (λ (p : Place). IfOk c.cause_with_origins_and_dropped.result (λ cause. IsCauseOf c.args.lines.now p c.at-parsed_event.result.now.event stop cause × HasHistory settings parsed stop cause)) place c.cause_with_origins_and_dropped.ensures))

pub last_dropped_segments_if_packet_stop-requires-clause-reached : goal.last_dropped_segments_if_packet_stop-requires-clause-reached
last_dropped_segments_if_packet_stop-requires-clause-reached c =
    let parsed : Parsed = script_part c.args.reading.now in
    let settings : Settings = c.args.settings.now in
    let stop : StopPoint = c.args.traced.now.stop in
    let script : parsed ≡ script_of c.args.lines.now = ap script_part c.requires.reading ∙ c.law_readings_are_scripts.ensures c.args.lines.now in
    let lined : line_of (verdict_in settings parsed) ≡ Some c.args._line =
    subst (λ (p : Parsed). line_of (verdict_in settings p) ≡ Some c.args._line) (sym script) (ap line_of (sym c.requires.verdict) ∙ c.requires.line) in
    let there : StopsWithin c.args._line settings parsed stop =
    stops_within c.law_verdicts_have_reasons.ensures.verdicts settings parsed c.args._line stop lined c.requires.header c.requires.stop in
    staged_stop settings parsed c.args._line stop c.requires.stop there.0

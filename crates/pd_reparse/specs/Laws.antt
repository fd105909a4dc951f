-- Laws of readings.
use Rattle.std.specs.Prelude.{◌≡◌, ℕ, ◌<◌, ◌≤◌, List, [], ◌∷◌, take}
use Rattle.pd_text.specs.Text.{AreLines, common_prefix}
use Rattle.pd_lex.specs.declared.token.Place.{Place}
use Rattle.pd_lex.specs.Places.{first_place}
use Rattle.pd_lex.specs.Lexing.{items}
use Rattle.pd_script.specs.declared.event_reader.NextEvent.TheVariants.{Got}
use Rattle.pd_script.specs.Next.{place_of_next_token_or_end, IsNextEvent}
use Rattle.pd_script.specs.Script.{script_of, after_header}
use Rattle.pd_reparse.specs.declared.parsed_event.ParsedEvent.{ParsedEvent}
use Rattle.pd_reparse.specs.Reading.{reading_of, script_part, kept_of}

-- the reading of a text, without what decided its events, is what the text is parsed as
abbrev pub ReadingsAreScripts : Type 0
ReadingsAreScripts = (lines : List (List ℕ)) → script_part (reading_of lines) ≡ script_of lines

-- the events that the equal first lines decide are in both texts, and the headers before them are equal
abbrev pub FirstEventsStay : Type 0
FirstEventsStay = (lines others : List (List ℕ)) (count : ℕ) → AreLines lines → AreLines others → 0 < count → count ≤ kept_of (common_prefix lines others) (reading_of lines) → ((reading_of lines).header ≡ (reading_of others).header) × (take count (reading_of lines).events ≡ take count (reading_of others).events)

-- so they do in what the texts are parsed as
abbrev pub FirstEventsOfScriptsStay : Type 0
FirstEventsOfScriptsStay = (lines others : List (List ℕ)) (count : ℕ) → AreLines lines → AreLines others → 0 < count → count ≤ kept_of (common_prefix lines others) (reading_of lines) → ((script_of lines).header ≡ (script_of others).header) × (take count (script_of lines).events ≡ take count (script_of others).events)

-- events one after the other from a place on: each is the next event there by the grammar, its reach is the line of
-- the token that follows it, and at that token's place the next one begins
unfoldable pub AreChained : List (List ℕ) → Place → List ParsedEvent → Type 0
AreChained lines place [] = Unit {0}
AreChained lines place (d ∷ ds) = IsNextEvent lines place (Got d.event d.after d.lookahead_line) × AreChained lines d.after ds

-- where the first token after a text's header stands
abbrev pub place_of_events : List (List ℕ) → Place
place_of_events lines = place_of_next_token_or_end (after_header (items lines first_place))

-- the events that a text is read as come one after the other, the first at the first token after the header
abbrev pub EventsAreChained : Type 0
EventsAreChained = (lines : List (List ℕ)) → AreLines lines → AreChained lines (place_of_events lines) (reading_of lines).events

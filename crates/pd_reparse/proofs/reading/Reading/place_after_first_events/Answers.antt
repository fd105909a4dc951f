-- The last of the first events.
use Rattle.std.proofs.Common.{◌≡◌, ◌-◌, List, get_or, ap, subst}
use Rattle.pd_reparse.specs.declared.parsed_event.ParsedEvent.{ParsedEvent}
use Rattle.pd_reparse.specs.Reading.{ReadingView}
use Rattle.pd_reparse.proofs.TakeLemmas.{last_taken}
use Rattle.pd_reparse.proofs.reading.Reading.place_after_first_events.Goals as goal

pub returns : goal.returns
returns c = λ start. last_taken c.args.count start c.args.self.now.events c.at.result.now c.requires.some c.requires.within (subst (λ (ds : List ParsedEvent). c.at.result.now ≡ get_or ds (c.args.count - 1) c.at.result.now) (ap (λ (r : ReadingView). r.events) c.self.view_is) c.at.ensures)

-- The law is a lemma over that of the items' places.
use Rattle.pd_reparse.proofs.Chained.{are_chained}
use Rattle.pd_reparse.proofs.laws.law_events_are_chained.Goals as goal

pub returns : goal.returns
returns c = are_chained c.law_lexing_from_event_start_gives_same_items.ensures

-- Where a refused token is marked.
use Rattle.std.specs.Prelude.{nat_lt, Bool, not, ◌&&◌, if◌then◌else◌}
use Rattle.pd_lex.specs.declared.token.Place.{Place}

-- a line lacks something at its end: an event begins in a later line, and what is before it is no whole script
abbrev pub is_lacking : Place → Place → Bool → Bool → Bool
is_lacking refused before begins_event is_whole = (begins_event && not is_whole) && nat_lt before.line refused.line

-- so the mark stands where the token before it ends; else where the refused token begins
abbrev pub mark_before_if_event_incomplete : Place → Place → Bool → Bool → Place
mark_before_if_event_incomplete refused before begins_event is_whole = if is_lacking refused before begins_event is_whole then before else refused

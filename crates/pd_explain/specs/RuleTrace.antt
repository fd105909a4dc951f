-- The rules of the sender that the events of a script come to, by their names.
use Rattle.std.specs.Prelude.{ℕ, ◌==◌, Bool, ◌&&◌, List, [], ◌∷◌, ◌++◌, drop, length, map, flat_map, slice_get, codes, Option, Some, None, is_none, option_map, if◌then◌else◌}
use Rattle.std.specs.Fmt.{decimal}
use Rattle.pd_settings.specs.declared.settings.Settings.{Settings}
use Rattle.pd_script.specs.Script.{script_of}
use Rattle.pd_script.specs.declared.packets.Packet.{Packet}
use Rattle.pd_script.specs.declared.script_events.Action.{Action}
use Rattle.pd_script.specs.declared.script_events.Action.TheVariants.{Inbound, Outbound, Call as Calls}
use Rattle.pd_script.specs.declared.script_events.Event.{Event}
use Rattle.pd_seg.specs.declared.segments.Sent.{Sent}
use Rattle.pd_seg.specs.declared.send_rule.SendRule.{SendRule}
use Rattle.pd_host.specs.ConnectionSnapshot.{connection_snapshot_in}
use Rattle.pd_host.specs.Expiries.{deadline_of, expiry_rule}
use Rattle.pd_host.specs.LossEvidence.{dup_ack_status_in, measured_in}
use Rattle.pd_host.specs.SendBlockers.{blocker_in}
use Rattle.pd_host.specs.declared.connection.segment_check.SegmentCheck.{SegmentCheck}
use Rattle.pd_host.specs.declared.connection.segment_check.SegmentCheck.TheVariants.{FirstAck}
use Rattle.pd_host.specs.declared.connection_snapshot.ConnectionSnapshot.{ConnectionSnapshot}
use Rattle.pd_host.specs.declared.connection_snapshot.WindowSnapshot.{WindowSnapshot}
use Rattle.pd_host.specs.declared.endpoint.SenderState.{SenderState}
use Rattle.pd_run.specs.Laws.{unmatched}
use Rattle.pd_run.specs.Run.{on_script}
use Rattle.pd_run.specs.Step.{RunStateView, on_step, step}
use Rattle.pd_cause.specs.Dropped.{deciding_check}
use Rattle.pd_explain.specs.RuleAcks.{ack_names, has_sack_evidence, is_with_sack, restart_name}
use Rattle.pd_explain.specs.RuleCalls.{blocker_name, call_name}
use Rattle.pd_explain.specs.RuleNames.{as_list, each_once, entered}
use Rattle.pd_explain.specs.RulePhases.{check_name, phases}
use Rattle.pd_explain.specs.RuleSegments.{block_names, initial_window_name, segment_names, syn_names}
use Rattle.pd_explain.specs.RuleTimer.{expiry_names, sample_names, timer_name}
use Rattle.pd_explain.specs.SendRules.{send_rule_name}
use Rattle.pd_explain.specs.declared.rule_trace.numbers.Numbers.{Numbers}

-- The numbers of a sender by which rules are found: those of its connection, what its timer measured and its next expiry, and
-- what it makes of a duplicate
abbrev pub numbers_in : SenderState → Numbers
numbers_in s = record {
  snapshot = connection_snapshot_in s;
  measured = measured_in s;
  deadline = deadline_of s;
  duplicate = dup_ack_status_in s;
}

-- A segment that arrives

-- the blocks count where SACK is known to be agreed: in a recovery with SACK, or by what a duplicate does
abbrev pub counted_block_names : Packet → Numbers → ConnectionSnapshot → ConnectionSnapshot → WindowSnapshot → List (List ℕ)
counted_block_names p b c d v = if is_with_sack v.recovery then names else (if has_sack_evidence b.duplicate then names else [])
  where
    names : List (List ℕ)
    names = block_names d.una c.top p.options

-- the sender takes it
abbrev pub taken_names : Settings → Packet → Numbers → Numbers → ConnectionSnapshot → ConnectionSnapshot → Option WindowSnapshot → Option WindowSnapshot → List (List ℕ)
taken_names settings p b a c d (Some v) (Some w) =
    ack_names settings.abc_limit b.duplicate c d v w ++ (sample_names b.measured a.measured c d ++ counted_block_names p b c d v)
taken_names settings p b a c d _ _ = []

-- a connection that begins without a sample has an RTO of three seconds (RFC 6298, section 5.7)
abbrev pub three_seconds_name : Numbers → ConnectionSnapshot → Option (List ℕ)
three_seconds_name a d = if is_none a.measured && d.rto_us == 3000000 then Some (codes "rfc6298.rto.three-seconds") else None

-- it establishes the connection: the first window, and the first sample or none
abbrev pub established_names : Settings → Numbers → Numbers → ConnectionSnapshot → ConnectionSnapshot → Option WindowSnapshot → List (List ℕ)
established_names settings b a c d (Some w) =
    initial_window_name settings.initial_window d.smss w.cwnd
    ∷ (sample_names b.measured a.measured c d ++ as_list (three_seconds_name a d))
established_names settings b a c d None = []

-- by the check that decides on it, and the connection before it and after it
abbrev pub arrival_names : Settings → Packet → Option SegmentCheck → Numbers → Numbers → List (List ℕ)
arrival_names settings p check b a = by check b.snapshot a.snapshot
  where
    by : Option SegmentCheck → Option ConnectionSnapshot → Option ConnectionSnapshot → List (List ℕ)
    by check None (Some d) = syn_names settings d.smss p.options
    by None (Some c) (Some d) = taken_names settings p b a c d c.windows d.windows
    by (Some FirstAck) (Some c) (Some d) = established_names settings b a c d d.windows
    by _ _ _ = []

-- An event

-- the rule of the oldest packet; where none is unmatched, that of the next expiry, if a connection was begun
abbrev pub rule_of_oldest_or_next : RunStateView → Option SendRule
rule_of_oldest_or_next r =
    if length (unmatched r) == 0 then option_map (λ c. expiry_rule c.established) r.host.state.endpoint.connection
    else option_map (λ sent. sent.rule) (slice_get (unmatched r) 0)

-- the packets that are put out from a run to a later one
abbrev pub put_out : RunStateView → RunStateView → List Sent
put_out r s = drop (length (unmatched r)) (unmatched s)

-- the rules by which the packets of an event left that passes: the one that it awaits, or those that its input, and expiries
-- before it, put out
abbrev pub send_rules_of : RunStateView → RunStateView → Action → List SendRule
send_rules_of r s (Outbound p) = as_list (rule_of_oldest_or_next r)
send_rules_of r s _ = map (λ (sent : Sent). sent.rule) (put_out r s)

-- the restart window of ordinary sending that a call begins
abbrev pub restart_names : Option ConnectionSnapshot → Option ConnectionSnapshot → List (List ℕ)
restart_names (Some c) (Some d) = by c.windows d.windows
  where
    by : Option WindowSnapshot → Option WindowSnapshot → List (List ℕ)
    by (Some v) (Some w) = as_list (restart_name d v w)
    by _ _ = []
restart_names _ _ = []

-- what an event does to the numbers; an expected packet does nothing but for the expiry that it awaits where none is unmatched
abbrev pub effect_names : Settings → Option SegmentCheck → Bool → Numbers → Numbers → Action → List (List ℕ)
effect_names settings check is_waiting b a (Inbound p) = arrival_names settings p check b a ++ as_list (timer_name b.deadline a.deadline)
effect_names settings check is_waiting b a (Calls call) = call_name call ∷ (restart_names b.snapshot a.snapshot ++ as_list (timer_name b.deadline a.deadline))
effect_names settings check is_waiting b a (Outbound p) = if is_waiting then expiry_names b.snapshot a.snapshot else []
effect_names settings check is_waiting b a _ = []

-- SMSS, once a connection was begun
abbrev pub smss_in : Option ConnectionSnapshot → ℕ
smss_in None = 0
smss_in (Some c) = c.smss

-- what an input puts out, and why it puts no more out
abbrev pub sending_names : RunStateView → RunStateView → Action → List (List ℕ)
sending_names r s (Outbound p) = []
sending_names r s _ =
    segment_names (smss_in (connection_snapshot_in s.host.state)) (put_out r s) ++ as_list (blocker_name (blocker_in s.host.state))

-- the rules that an event comes to, from a run to the one after it: of sending, the check of its segment, the phases that the
-- sender enters, and what the event does
abbrev pub rules_of_event : RunStateView → Event → RunStateView → List (List ℕ)
rules_of_event r e s =
    map send_rule_name (send_rules_of r s e.action)
    ++ (map check_name (as_list (deciding_check r e))
    ++ (entered (phases r.host.state) (phases s.host.state)
    ++ (effect_names s.host.state.settings (deciding_check r e) (length (unmatched r) == 0) (numbers_in r.host.state) (numbers_in s.host.state) e.action
    ++ sending_names r s e.action)))

-- A script

-- the line on an event that comes to some rules: who it is reported of, the event's line, and the names
abbrev pub rule_line : List ℕ → ℕ → List (List ℕ) → List ℕ
rule_line of line [] = []
rule_line of line names = of ++ (codes " line " ++ (decimal line ++ (codes " rules" ++ (flat_map (λ name. codes " " ++ name) names ++ codes "\n"))))

-- the lines on the events that pass, from a run on
abbrev pub rule_lines_from : List ℕ → List Event → RunStateView → List ℕ
rule_lines_from of [] r = []
rule_lines_from of (e ∷ es) r =
    on_step (λ s. rule_line of e.line (each_once (rules_of_event r e s)) ++ rule_lines_from of es s) (λ v. []) (step r e)

-- the lines on a text's run under settings
abbrev pub rule_lines : List ℕ → List (List ℕ) → Settings → List ℕ
rule_lines of text settings =
    on_script (λ line. []) (λ v. []) (rule_lines_from of (script_of text).events) settings (script_of text)

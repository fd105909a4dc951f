-- There is room for what the call asks for.
use Rattle.pd_run.proofs.Queued.{room_for}
use Rattle.pd_run.proofs.host_input.advance_host_and_call.Goals as goal

pub call-requires-clause-room : goal.call-requires-clause-room
call-requires-clause-room c =
    room_for c.law_sender_deadline_ahead_and_queue_bounded.ensures.queued_by_expiries c.law_sender_deadline_ahead_and_queue_bounded.ensures.asked_by_calls c.args.now c.args.call.now c.args.host.now c.advance.new.self _ c.in_ok-advance.ensures c.requires.short

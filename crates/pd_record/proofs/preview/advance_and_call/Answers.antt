-- There is room for what the call asks for.
use Rattle.pd_run.proofs.Queued.{room_for}
use Rattle.pd_record.proofs.preview.advance_and_call.Goals as goal

pub call-requires-clause-room : goal.call-requires-clause-room
call-requires-clause-room c =
    room_for c.law_send_buffer_growth_per_input_bounded.ensures.expiries c.law_send_buffer_growth_per_input_bounded.ensures.few c.args.at c.args.call.now c.args.host.now c.advance.new.self _ c.in_ok-advance.ensures c.requires.short

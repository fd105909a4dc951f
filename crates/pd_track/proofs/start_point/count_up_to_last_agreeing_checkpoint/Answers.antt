-- One state more doesn't serve.
use Rattle.std.proofs.Common.{◌*◌, ◌∙◌, sym, arith}
use Rattle.pd_settings.specs.SettingSets.{agrees}
use Rattle.pd_track.specs.Reuse.{consulted_settings}
use Rattle.pd_track.proofs.Served.{one_more}
use Rattle.pd_track.proofs.start_point.count_up_to_last_agreeing_checkpoint.Goals as goal

pub loop-i-preserved : goal.loop-i-preserved
loop-i-preserved c =
    one_more (λ j. agrees (consulted_settings c.args.track.now (4 * j)) c.args.track.now.settings c.args.settings.now) c.args.most c.loop-i.i (omega arith) c.loop-i.invariant
    (sym c.has_agreeing_settings_at_checkpoint.ensures ∙ c.if-has_agreeing_settings_at_checkpoint.false)

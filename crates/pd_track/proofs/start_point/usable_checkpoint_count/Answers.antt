-- The last state within the kept events that serves.
use Rattle.std.proofs.Common.{◌≡◌, ◌*◌, ◌/◌, min, true, ◌∙◌, ap, sym}
use Rattle.pd_settings.specs.SettingSets.{agrees}
use Rattle.pd_track.specs.Reuse.{consulted_settings}
use Rattle.pd_track.proofs.Served.{picked, zero_or}
use Rattle.pd_track.proofs.start_point.usable_checkpoint_count.Goals as goal

pub returns-clause-greatest : goal.returns-clause-greatest
returns-clause-greatest c =
    sym (picked c.args.track.now c.args.settings.now c.args.kept c.count_up_to_last_agreeing_checkpoint.result c.min.result
    (c.min.ensures ∙ ap (λ n. min (c.args.kept / 4) n) c.track_checkpoint_count.ensures) c.count_up_to_last_agreeing_checkpoint.ensures.within c.count_up_to_last_agreeing_checkpoint.ensures.none
    (zero_or c.count_up_to_last_agreeing_checkpoint.result (agrees (consulted_settings c.args.track.now (4 * c.count_up_to_last_agreeing_checkpoint.result)) c.args.track.now.settings c.args.settings.now ≡ true) c.count_up_to_last_agreeing_checkpoint.ensures.agreeing))

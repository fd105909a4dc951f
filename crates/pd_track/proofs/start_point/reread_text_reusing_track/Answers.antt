-- The track's reading is that of its text, which begins with these lines.
use Rattle.std.proofs.Common.{◌≡◌, sym, subst}
use Rattle.pd_text.specs.Text.{AreLines, common_prefix}
use Rattle.pd_reparse.proofs.First.{reads_front}
use Rattle.pd_track.proofs.start_point.reread_text_reusing_track.Goals as goal

pub reread-requires : goal.reread-requires
reread-requires c =
    reads_front c.args.track.now.text c.lines.result.now c.reading.result.now c.args.same
    (subst AreLines c.text.ensures c.law_invariant.ensures.1) c.reading.ensures
    (subst (λ t. c.args.same ≡ common_prefix c.args.track.now.text t) (sym c.lines.ensures) c.requires)

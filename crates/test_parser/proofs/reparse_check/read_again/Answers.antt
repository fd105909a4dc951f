-- The earlier reading is that of the text before, and as many first lines are those of the other text.
use Rattle.pd_reparse.proofs.First.{reads_front}
use Rattle.test_parser.proofs.reparse_check.read_again.Goals as goal

pub reread-requires : goal.reread-requires
reread-requires c = reads_front c.args.old.now c.args.new.now c.args.before.now c.same_front.result c.line.ensures.lines c.requires c.same_front.ensures

use Rattle.std.proofs.lemmas.Result.{on_ok_weaker}
use Rattle.pd_explain.proofs.BlockLemmas.{sent_by_line}
use Rattle.pd_explain.proofs.render.lines.put_sent_by_line_or_timer.Goals as goal

pub returns-in_ok-put_words-in-Line : goal.returns-in_ok-put_words-in-Line
returns-in_ok-put_words-in-Line c =
    on_ok_weaker c.put_number.result (λ last. sent_by_line c.args.trigger c.in-Line.line c.args.out.now.items c.put_words-in-Line.new.out.items c.put_number.new.out.items c.in-Line.is c.in_ok-put_words-in-Line.ensures last) c.put_number.ensures

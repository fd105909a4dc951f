use Rattle.pd_protocol.proofs.Writing.{says_from}
use Rattle.pd_protocol.proofs.output_stream.write_all_or_false.Goals as goal

pub returns : goal.returns
returns g c = says_from c.write_all_without_flush.result c.is_ok.result c.args.octets.now (g.E.Write.contents c.args.err.now) (g.E.Write.contents c.write_all_without_flush.new.writer) c.is_ok.ensures.value c.write_all_without_flush.ensures.ok c.write_all_without_flush.ensures.err

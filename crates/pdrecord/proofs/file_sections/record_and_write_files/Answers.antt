use Rattle.pdrecord.proofs.Sections.{so_ended, so_on}
use Rattle.pdrecord.proofs.file_sections.record_and_write_files.Goals as goal

pub loop-name-preserved : goal.loop-name-preserved
loop-name-preserved g c =
    so_on c.args.settings.now c.args.mode (g.F.FileSource.octets_in c.args.files.now) c.args.names.now c.loop-name.name-index _ c.loop-name.are_all_recorded c.in-Ok.is_recorded (g.W.Write.contents c.args.out.now) (g.W.Write.contents c.loop-name.out) (g.W.Write.contents c.record_and_write_file.new.out)
    c.loop-name-test.true c.loop-name.invariant c.in-Ok.ensures

pub returns-in-Err : goal.returns-in-Err
returns-in-Err g c =
    so_ended c.args.settings.now c.args.mode (g.F.FileSource.octets_in c.args.files.now) c.args.names.now c.loop-name.name-index _ c.loop-name.are_all_recorded c.in-Err.fault (g.W.Write.contents c.args.out.now) (g.W.Write.contents c.loop-name.out) (g.W.Write.contents c.record_and_write_file.new.out)
    c.loop-name-test.true c.loop-name.invariant c.in-Err.ensures

use Rattle.pdrecord.proofs.Sections.{writes_failed, writes_stopped}
use Rattle.pdrecord.proofs.file_sections.record_and_write_file.Goals as goal

pub returns-in_err-section : goal.returns-in_err-section
returns-in_err-section g c =
    writes_stopped c.args.settings.now c.args.mode (g.F.FileSource.octets_in c.args.files.now) c.args.name.now c.from_residual.result c.in_err-section.field-0.0 (g.W.Write.contents c.args.out.now)
    c.from_residual.ensures.1 c.in_err-section.ensures.only

pub returns-in_err-write_all_without_flush : goal.returns-in_err-write_all_without_flush
returns-in_err-write_all_without_flush g c =
    writes_failed c.args.settings.now c.args.mode (g.F.FileSource.octets_in c.args.files.now) c.args.name.now c.in_ok-section.section.is_recorded c.in_ok-section.section.octets.items (g.W.Write.contents c.args.out.now) (g.W.Write.contents c.write_all_without_flush.new.writer) c.from_residual-in_err-write_all_without_flush.result c.in_err-write_all_without_flush.field-0.0
    c.from_residual-in_err-write_all_without_flush.ensures.1 c.in_err-write_all_without_flush.ensures.only c.in_ok-section.ensures.section (rw c.as_slice.ensures.value at c.in_err-write_all_without_flush.ensures.err)

pub returns : goal.returns
returns g c =
    (c.in_ok-section.section.octets.items, c.in_ok-section.ensures.section, rw c.as_slice.ensures.value at c.in_ok-write_all_without_flush.ensures.ok)

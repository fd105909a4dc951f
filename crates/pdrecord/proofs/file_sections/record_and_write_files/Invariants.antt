-- The octets written so far are of the first files.
use Rattle.pdrecord.proofs.Sections.{SoFar}
use Rattle.pdrecord.proofs.file_sections.record_and_write_files.Given as goal

abbrev pub invariant-loop-name : goal.invariant-loop-name
invariant-loop-name g l =
    SoFar l.settings l.mode (g.F.FileSource.octets_in l.files) l.names l.name-index l.are_all_recorded (g.W.Write.contents l.initial.out) (g.W.Write.contents l.out)

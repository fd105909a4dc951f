-- The law is a lemma.
use Rattle.pd_reparse.proofs.Scripts.{reading_is_script}
use Rattle.pd_reparse.proofs.laws.law_readings_are_scripts.Goals as goal

pub returns : goal.returns
returns c = reading_is_script

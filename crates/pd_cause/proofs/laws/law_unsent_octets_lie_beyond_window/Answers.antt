-- The law is a lemma.
use Rattle.pd_cause.proofs.WindowLemmas.{named_windows_hold_so}
use Rattle.pd_cause.proofs.laws.law_unsent_octets_lie_beyond_window.Goals as goal

pub returns : goal.returns
returns c = named_windows_hold_so

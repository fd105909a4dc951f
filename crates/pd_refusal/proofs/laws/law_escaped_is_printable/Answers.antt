-- The law is a lemma.
use Rattle.pd_refusal.proofs.EscapeLemmas.{shown_is_printable_so}
use Rattle.pd_refusal.proofs.laws.law_escaped_is_printable.Goals as goal

pub returns : goal.returns
returns c = shown_is_printable_so

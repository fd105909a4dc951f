-- Less of the line is left each time.
use Rattle.std.proofs.Common.{length}
use Rattle.pd_refusal.proofs.refusals.blanks.skip_blanks_up_to_token_or_open_comment.Given as goal

abbrev pub decreases-octets : goal.decreases-octets
decreases-octets l = length l.rest

-- Settings without fields are the same where their tags are.
use Rattle.std.proofs.Common.{◌∙◌, rules, sym}
use denote.Enum.Bare.{same_true, true_same}
use Rattle.pd_settings.specs.contracts.keys.Key.{the_type}
use Rattle.pd_seat.proofs.verify.is_same_key.Goals as goal

pub returns : goal.returns
returns c = (λ t. same_true the_type (search rules) _ _ (sym c.eq.ensures ∙ t), λ e. c.eq.ensures ∙ true_same the_type _ _ e)

use Rattle.std.proofs.Common.{true, false, map, sym, subst, inl, inr, [], ◌≡◌, ◌≢◌, ◌⊎◌, ◌||◌, ◌∙◌}
use Rattle.clap.specs.Words.{App, app_of, kind_of, is_simple_and_free, HasMatchesOf}
use Rattle.clap.specs.declared.error.Error.{Error}
use Rattle.clap.specs.declared.error.kind.ErrorKind.TheVariants.{OutOfMemory}
use Rattle.pd_protocol.specs.OptionTable.{pdregress, word_faults, refusals, are_in_conflict, lack_explain}
use Rattle.pd_protocol.proofs.SettingsText.{free_pdregress, has_kind, passed_on, none_of}
use Rattle.pd_protocol.proofs.Together.{alone_too, refused_together, not_refused}
use Rattle.pd_protocol.proofs.parse_options.options.Goals as goal

pub returns-in_err-command : goal.returns-in_err-command
returns-in_err-command g c =
    let words = map g.S.AsStr.text c.args.words.now in
    let r = c.from_residual.result in
    let i = c.from_residual.ensures.1 in record {
      chosen_options = none_of _ r _ i;
      few = none_of _ r _ i;
      some = none_of _ r _ i;
      most = none_of _ r _ i;
      taken = none_of _ r _ i;
      refused = passed_on (λ (e : Error). (kind_of e ≡ OutOfMemory) ⊎ (refusals words ≢ [])) r c.in_err-command.field-0.0 i (inl c.in_err-command.ensures.memory);
    }

pub returns-in_err-matches : goal.returns-in_err-matches
returns-in_err-matches g c =
    let words = map g.S.AsStr.text c.args.words.now in
    let error = c.in_err-matches.field-0.0 in
    let r = c.from_residual-in_err-matches.result in
    let i = c.from_residual-in_err-matches.ensures.1 in
    let free = subst (λ (a : App). is_simple_and_free a ≡ true) (sym c.in_ok-command.ensures.words) free_pdregress in
    let refused = has_kind (word_faults (app_of c.in_ok-command.command) words) error (c.in_err-matches.ensures.kinds free) in
    let alone = subst (λ (a : App). (kind_of error ≡ OutOfMemory) ⊎ (word_faults a words ≢ [])) c.in_ok-command.ensures.words refused in record {
      chosen_options = none_of _ r _ i;
      few = none_of _ r _ i;
      some = none_of _ r _ i;
      most = none_of _ r _ i;
      taken = none_of _ r _ i;
      refused = passed_on (λ (e : Error). (kind_of e ≡ OutOfMemory) ⊎ (refusals words ≢ [])) r error i (alone_too pdregress (are_in_conflict words) (lack_explain words) words (kind_of error ≡ OutOfMemory) alone);
    }

pub returns-then-are_options_conflicting_or_lacking_explain : goal.returns-then-are_options_conflicting_or_lacking_explain
returns-then-are_options_conflicting_or_lacking_explain g c =
    let words = map g.S.AsStr.text c.args.words.now in
    let matched = subst (λ (a : App). HasMatchesOf a words c.in_ok-matches.matches) c.in_ok-command.ensures.words c.in_ok-matches.ensures.matches in
    let together : (are_in_conflict words || lack_explain words) ≡ true = sym (c.are_options_conflicting_or_lacking_explain.ensures words matched) ∙ c.if-are_options_conflicting_or_lacking_explain.true in record {
      chosen_options = tt;
      few = tt;
      some = tt;
      most = tt;
      taken = tt;
      refused = inr (refused_together pdregress (are_in_conflict words) (lack_explain words) words together);
    }

pub returns : goal.returns
returns g c =
    let words = map g.S.AsStr.text c.args.words.now in
    let free = subst (λ (a : App). is_simple_and_free a ≡ true) (sym c.in_ok-command.ensures.words) free_pdregress in
    let matched = subst (λ (a : App). HasMatchesOf a words c.in_ok-matches.matches) c.in_ok-command.ensures.words c.in_ok-matches.ensures.matches in
    let apart : (are_in_conflict words || lack_explain words) ≡ false = sym (c.are_options_conflicting_or_lacking_explain.ensures words matched) ∙ c.if-are_options_conflicting_or_lacking_explain.false in record {
      chosen_options = c.in_ok-chosen_options.ensures.chosen_options words matched;
      few = c.in_ok-chosen_options.ensures.few;
      some = c.in_ok-chosen_options.ensures.some;
      most = c.in_ok-chosen_options.ensures.most;
      taken = not_refused pdregress (are_in_conflict words) (lack_explain words) words (subst (λ (a : App). word_faults a words ≡ []) c.in_ok-command.ensures.words (c.in_ok-matches.ensures.kinds free)) apart;
      refused = tt;
    }

use Rattle.std.proofs.Common.{true, false, map, sym, subst, inr, [], ◌≡◌, ◌≢◌, ◌⊎◌, ◌||◌, ◌∙◌}
use Rattle.clap.specs.Words.{App, app_of, kind_of, is_simple_and_free, HasMatchesOf}
use Rattle.clap.specs.declared.error.Error.{Error}
use Rattle.clap.specs.declared.error.kind.ErrorKind.TheVariants.{OutOfMemory}
use Rattle.pd_protocol.specs.OptionTable.{word_faults}
use Rattle.pd_protocol.proofs.SettingsText.{has_kind, passed_on}
use Rattle.pd_protocol.proofs.Together.{alone_too, refused_together, not_refused}
use Rattle.pdrecord.specs.RecordArguments.{pdrecord, is_trace_beside_minimal, is_drop_missing_alone, refusals}
use Rattle.pdrecord.proofs.Words.{free_pdrecord}
use Rattle.pdrecord.proofs.record_options.parse_record_options.Goals as goal

pub returns-in_err-matches-clause-refused : goal.returns-in_err-matches-clause-refused
returns-in_err-matches-clause-refused g c =
    let arguments = map g.S.AsStr.text c.args.arguments.now in
    let error = c.in_err-matches.field-0.0 in
    let free = subst (λ (a : App). is_simple_and_free a ≡ true) (sym c.in_ok-command.ensures.arguments) free_pdrecord in
    let refused = has_kind (word_faults (app_of c.in_ok-command.command) arguments) error (c.in_err-matches.ensures.kinds free) in
    let alone = subst (λ (a : App). (kind_of error ≡ OutOfMemory) ⊎ (word_faults a arguments ≢ [])) c.in_ok-command.ensures.arguments refused in
    passed_on (λ (e : Error). (kind_of e ≡ OutOfMemory) ⊎ (refusals arguments ≢ [])) c.from_residual-in_err-matches.result error c.from_residual-in_err-matches.ensures.1 (alone_too pdrecord (is_trace_beside_minimal arguments) (is_drop_missing_alone arguments) arguments (kind_of error ≡ OutOfMemory) alone)

pub returns-then-are_options_conflicting-clause-refused : goal.returns-then-are_options_conflicting-clause-refused
returns-then-are_options_conflicting-clause-refused g c =
    let arguments = map g.S.AsStr.text c.args.arguments.now in
    let matched = subst (λ (a : App). HasMatchesOf a arguments c.in_ok-matches.matches) c.in_ok-command.ensures.arguments c.in_ok-matches.ensures.matches in
    let together : (is_trace_beside_minimal arguments || is_drop_missing_alone arguments) ≡ true = sym (c.are_options_conflicting.ensures arguments matched) ∙ c.if-are_options_conflicting.true in
    inr (refused_together pdrecord (is_trace_beside_minimal arguments) (is_drop_missing_alone arguments) arguments together)

pub returns-clause-options_of : goal.returns-clause-options_of
returns-clause-options_of g c =
    let arguments = map g.S.AsStr.text c.args.arguments.now in
    c.in_ok-options_of_matches.ensures arguments (subst (λ (a : App). HasMatchesOf a arguments c.in_ok-matches.matches) c.in_ok-command.ensures.arguments c.in_ok-matches.ensures.matches)

pub returns-clause-taken : goal.returns-clause-taken
returns-clause-taken g c =
    let arguments = map g.S.AsStr.text c.args.arguments.now in
    let free = subst (λ (a : App). is_simple_and_free a ≡ true) (sym c.in_ok-command.ensures.arguments) free_pdrecord in
    let matched = subst (λ (a : App). HasMatchesOf a arguments c.in_ok-matches.matches) c.in_ok-command.ensures.arguments c.in_ok-matches.ensures.matches in
    let apart : (is_trace_beside_minimal arguments || is_drop_missing_alone arguments) ≡ false = sym (c.are_options_conflicting.ensures arguments matched) ∙ c.if-are_options_conflicting.false in
    not_refused pdrecord (is_trace_beside_minimal arguments) (is_drop_missing_alone arguments) arguments (subst (λ (a : App). word_faults a arguments ≡ []) c.in_ok-command.ensures.arguments (c.in_ok-matches.ensures.kinds free)) apart

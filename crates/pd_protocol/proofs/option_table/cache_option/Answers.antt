use Rattle.std.proofs.Common.{rules, ap, Some, pos, ◌≡◌, ◌∙◌}
use Rattle.clap.specs.declared.builder.value_parser.ValueParser.{ValueParser}
use Rattle.clap.specs.declared.builder.value_parser.ValueParser.TheVariants as parser
use Rattle.pd_protocol.proofs.option_table.cache_option.Goals as goal

pub returns-clause-rule : goal.returns-clause-rule
returns-clause-rule c =
    let given = c.value_parser-2.ensures.given in
    let made : c.range.result ≡ parser.Signed (pos 1) (pos 1024) = rw (c.value_parser.ensures, c.new-2.ensures.start, c.new-2.ensures.end) at c.range.ensures in
    let is : given.0 ≡ parser.Signed (pos 1) (pos 1024) = given.2 ∙ made in
    let parser_is : c.value_parser-2.result.value_parser ≡ Some (parser.Signed (pos 1) (pos 1024)) = given.1 ∙ ap (λ (p : ValueParser). Some p) is in
    search (rules, parser_is)

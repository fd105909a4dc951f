-- The octets that were written are read back.
use Rattle.std.proofs.Common.{rules, ◌≡◌, ℕ, List, sym, subst}
use Rattle.pd_script.specs.Grammar.{IsExpectedResult}
use Rattle.pd_print.specs.Answers.{answer_text, expected_result_of}
use Rattle.pd_print.specs.RoundTrip.{IsReadAs}
use Rattle.pd_print.proofs.Events.{answer_back}
use Rattle.pd_print.proofs.answers.render_answer.Goals as goal

pub returns-clause-back : goal.returns-clause-back
returns-clause-back c =
    let text : c.put_answer.new.out.items ≡ answer_text c.args.answer = search rules in
    subst (λ (s : List ℕ). IsReadAs IsExpectedResult (λ line. expected_result_of c.args.answer) s) (sym text) (answer_back c.args.answer c.put_answer.ensures.small)

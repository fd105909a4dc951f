-- The octets that were written are read back.
use Rattle.std.proofs.Common.{rules, ◌≡◌, List, ℕ, sym, subst}
use Rattle.pd_script.specs.Grammar.{IsTime}
use Rattle.pd_print.specs.Numbers.{time_text}
use Rattle.pd_print.specs.RoundTrip.{IsReadAs}
use Rattle.pd_print.proofs.Events.{time_back}
use Rattle.pd_print.proofs.times.render_time.Goals as goal

pub returns-clause-back : goal.returns-clause-back
returns-clause-back c =
    let text : c.put_time.new.out.items ≡ time_text c.args.time = search rules in
    λ fits. subst (λ (s : List ℕ). IsReadAs IsTime (λ line. (line, c.args.time)) s) (sym text) (time_back c.args.time fits)

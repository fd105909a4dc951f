-- The octets that were written stand for the moment.
use Rattle.std.proofs.Common.{rules, ◌≡◌, ◌<◌, ◌^◌, ap, ◌∙◌, arith}
use Rattle.pd_script.specs.Values.{microseconds}
use Rattle.pd_print.specs.Numbers.{fixed_seconds_text}
use Rattle.pd_print.proofs.Seconds.{fixed_seconds_back}
use Rattle.pd_print.proofs.times.render_seconds_with_six_decimals.Goals as goal

pub returns-clause-back : goal.returns-clause-back
returns-clause-back c =
    let text : c.put_last_digits.new.out.items ≡ fixed_seconds_text c.args.time_us = search rules in
    let small : c.args.time_us < 2 ^ 64 = omega (arith, c.ranges.time_us.fits) in
    ap microseconds text ∙ fixed_seconds_back c.args.time_us small

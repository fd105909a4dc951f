use Rattle.std.proofs.Common.{◌≡◌, ◌∙◌, sym, ap, List, [], ◌∷◌, true, false, Ok}
use Rattle.std.proofs.lemmas.List.{append-nil}
use Rattle.std.proofs.lemmas.Result.{err_from_is_err_and}
use Rattle.pd_script.specs.declared.packets.PacketOption.{PacketOption}
use Rattle.pd_script.specs.Items.{is_symbol, next_is}
use Rattle.pd_script.specs.Reader.{Read, onto}
use Rattle.pd_script.specs.PacketReading.{repeated_at, option_at, next_option_at, some_options_at}
use Rattle.pd_script.proofs.ArgumentSteps.{onto-append}
use Rattle.pd_script.proofs.Repeating.{repeat_goes, repeat_err, repeat_stops}
use Rattle.pd_script.proofs.PacketLaws.{next_option_less, options_err, options_begin}
use Rattle.pd_script.proofs.Taking.{err_leaves}
use Rattle.pd_script.proofs.cursor.Cursor.take_one_or_more_options.Goals as goal

pub returns-in_err-take_packet_option : goal.returns-in_err-take_packet_option
returns-in_err-take_packet_option c =
    let p = err_from_is_err_and c.from_residual.result c.from_residual.ensures.1 in
    rw (p.1, p.2) (err_leaves c.in_err-take_packet_option.field-0.0 c.take_packet_option.new.self (option_at c.args.self.now) (some_options_at c.args.self.now) (rw c.in_err-take_packet_option.was at c.take_packet_option.ensures) (λ e. options_err c.args.self.now c.take_packet_option.new.self e))

pub more-init : goal.more-init
more-init c =
    let got = rw c.in_ok-take_packet_option.was at c.take_packet_option.ensures in
    rw (c.in_ok-push.ensures, c.new-options.ensures) (options_begin c.args.self.now c.take_packet_option.new.self c.in_ok-take_packet_option.field-0 got)

pub returns-in_err-packet_option : goal.returns-in_err-packet_option
returns-in_err-packet_option c =
    let p = err_from_is_err_and c.from_residual-in_err-packet_option.result c.from_residual-in_err-packet_option.ensures.1 in
    let next : next_is (is_symbol 44) c.more.self ≡ true = cc (c.is_symbol.ensures, c.more-test.true) in
    rw (p.1, p.2) (err_leaves c.in_err-packet_option.field-0.0 c.take_option_after_comma.new.self (next_option_at c.more.self) (some_options_at c.args.self.now) (rw c.in_err-packet_option.was at c.take_option_after_comma.ensures) (λ e. sym c.more.invariant ∙ ap (λ (r : Read (List PacketOption)). onto c.more.options r) (repeat_err (is_symbol 44) next_option_at next_option_less c.more.self c.take_option_after_comma.new.self next e)))

pub more-preserved : goal.more-preserved
more-preserved c =
    let got = rw c.in_ok-packet_option.was at c.take_option_after_comma.ensures in
    let next : next_is (is_symbol 44) c.more.self ≡ true = cc (c.is_symbol.ensures, c.more-test.true) in
    let G = repeat_goes (is_symbol 44) next_option_at next_option_less c.more.self c.take_option_after_comma.new.self c.in_ok-packet_option.packet_option next got in
    rw c.in_ok-push-2.ensures (onto-append c.more.options (c.in_ok-packet_option.packet_option ∷ []) (repeated_at (is_symbol 44) next_option_at c.take_option_after_comma.new.self) ∙ ap (λ (r : Read (List PacketOption)). onto c.more.options r) (sym G.0) ∙ c.more.invariant)

pub returns : goal.returns
returns c =
    let next : next_is (is_symbol 44) c.more.self ≡ false = cc (c.is_symbol.ensures, c.more-test.false) in
    let none : List PacketOption = [] in
    sym c.more.invariant ∙ ap (λ (r : Read (List PacketOption)). onto c.more.options r) (repeat_stops (is_symbol 44) next_option_at next_option_less c.more.self next) ∙ ap (λ (bs : List PacketOption). Ok (bs, c.more.self)) (append-nil c.more.options)

pub more-smaller : goal.more-smaller
more-smaller c =
    let got = rw c.in_ok-packet_option.was at c.take_option_after_comma.ensures in
    let next : next_is (is_symbol 44) c.more.self ≡ true = cc (c.is_symbol.ensures, c.more-test.true) in
    let G = repeat_goes (is_symbol 44) next_option_at next_option_less c.more.self c.take_option_after_comma.new.self c.in_ok-packet_option.packet_option next got in
    G.1

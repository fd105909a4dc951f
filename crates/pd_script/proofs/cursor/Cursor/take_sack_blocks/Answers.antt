use Rattle.std.proofs.Common.{◌≡◌, ◌∙◌, sym, ap, List, [], ◌∷◌, true, false, Ok}
use Rattle.std.proofs.lemmas.List.{append-nil}
use Rattle.std.proofs.lemmas.Result.{err_from_is_err_and}
use Rattle.pd_script.specs.declared.packets.SackBlock.{SackBlock}
use Rattle.pd_script.specs.Items.{is_next_int_within_u32, next_is}
use Rattle.pd_script.specs.Reader.{Read, onto}
use Rattle.pd_script.specs.PacketReading.{repeated_at, block_at, blocks_at}
use Rattle.pd_script.proofs.ArgumentSteps.{onto-append}
use Rattle.pd_script.proofs.Repeating.{repeat_goes, repeat_err, repeat_stops}
use Rattle.pd_script.proofs.PacketLaws.{block_less, blocks_err, blocks_begin}
use Rattle.pd_script.proofs.Taking.{err_leaves}
use Rattle.pd_script.proofs.cursor.Cursor.take_sack_blocks.Goals as goal

pub returns-in_err-take_sack_block : goal.returns-in_err-take_sack_block
returns-in_err-take_sack_block c =
    let p = err_from_is_err_and c.from_residual.result c.from_residual.ensures.1 in
    rw (p.1, p.2) (err_leaves c.in_err-take_sack_block.field-0.0 c.take_sack_block.new.self (block_at c.args.self.now) (blocks_at c.args.self.now) (rw c.in_err-take_sack_block.was at c.take_sack_block.ensures) (λ e. blocks_err c.args.self.now c.take_sack_block.new.self e))

pub more-init : goal.more-init
more-init c =
    let got = rw c.in_ok-take_sack_block.was at c.take_sack_block.ensures in
    rw (c.in_ok-push.ensures, c.new-blocks.ensures) (blocks_begin c.args.self.now c.take_sack_block.new.self c.in_ok-take_sack_block.field-0 got)

pub returns-in_err-sack_block : goal.returns-in_err-sack_block
returns-in_err-sack_block c =
    let p = err_from_is_err_and c.from_residual-in_err-sack_block.result c.from_residual-in_err-sack_block.ensures.1 in
    let next : next_is is_next_int_within_u32 c.more.self ≡ true = cc (c.is_next_int_within_u32.ensures, c.more-test.true) in
    rw (p.1, p.2) (err_leaves c.in_err-sack_block.field-0.0 c.take_sack_block-in-more.new.self (block_at c.more.self) (blocks_at c.args.self.now) (rw c.in_err-sack_block.was at c.take_sack_block-in-more.ensures) (λ e. sym c.more.invariant ∙ ap (λ (r : Read (List SackBlock)). onto c.more.blocks r) (repeat_err is_next_int_within_u32 block_at block_less c.more.self c.take_sack_block-in-more.new.self next e)))

pub more-preserved : goal.more-preserved
more-preserved c =
    let got = rw c.in_ok-sack_block.was at c.take_sack_block-in-more.ensures in
    let next : next_is is_next_int_within_u32 c.more.self ≡ true = cc (c.is_next_int_within_u32.ensures, c.more-test.true) in
    let G = repeat_goes is_next_int_within_u32 block_at block_less c.more.self c.take_sack_block-in-more.new.self c.in_ok-sack_block.sack_block next got in
    rw c.in_ok-push-2.ensures (onto-append c.more.blocks (c.in_ok-sack_block.sack_block ∷ []) (repeated_at is_next_int_within_u32 block_at c.take_sack_block-in-more.new.self) ∙ ap (λ (r : Read (List SackBlock)). onto c.more.blocks r) (sym G.0) ∙ c.more.invariant)

pub returns : goal.returns
returns c =
    let next : next_is is_next_int_within_u32 c.more.self ≡ false = cc (c.is_next_int_within_u32.ensures, c.more-test.false) in
    let none : List SackBlock = [] in
    sym c.more.invariant ∙ ap (λ (r : Read (List SackBlock)). onto c.more.blocks r) (repeat_stops is_next_int_within_u32 block_at block_less c.more.self next) ∙ ap (λ (bs : List SackBlock). Ok (bs, c.more.self)) (append-nil c.more.blocks)

-- The segment that is chosen can be sent.
use Rattle.std.proofs.Common.{◌≡◌, Option, sym, subst, ap, ◌∙◌}
use Rattle.std.specs.Prelude.{IfSome}
use Rattle.pd_recover.specs.declared.next_segment.NextSegment.{NextSegment}
use Rattle.pd_recover.specs.NextSeg.{IsSendable, segment_of, first_by_next_seg_rules, next_send}
use Rattle.pd_recover.proofs.Chosen.{if_some}
use Rattle.pd_recover.proofs.Sendable.{next_sendable}
use Rattle.pd_recover.proofs.congestion.Cong.next_send.Goals as goal

pub returns-clause-sendable : goal.returns-clause-sendable
returns-clause-sendable c =
    let P : NextSegment → Type 0 = λ sent. IsSendable c.args.board.now (segment_of sent) in
    let Q : Option NextSegment → Type 0 = λ o. IfSome o P in
    let e : c.first_by_next_seg_rules.result ≡ next_send c.args.rwnd c.args.board.now c.args.self.now =
    c.first_by_next_seg_rules.ensures ∙ ap (λ o. first_by_next_seg_rules o c.args.board.now c.args.self.now) c.board_new_segment_at_top_if_whole_in_rwnd-unsent.ensures.value in
    subst Q (sym e) (if_some P (next_send c.args.rwnd c.args.board.now c.args.self.now) (next_sendable c.args.rwnd c.args.board.now c.args.self.now c.board_new_segment_at_top_if_whole_in_rwnd-unsent.ensures.known))

-- The octets that are sent again lie among those that were sent.
use Rattle.std.proofs.Common.{◌≡◌, ℕ, ◌≤◌, sym, Some, arith}
use Rattle.pd_board.specs.Retransmit.{next_lost, find_unsacked_octet_by_nextseg_rule_3}
use Rattle.pd_board.specs.Board.{BoardView}
use Rattle.pd_recover.proofs.Found.{least}
use Rattle.pd_recover.proofs.congestion.Cong.first_by_next_seg_rules.Goals as goal

lost_within : (high_rxt x : ℕ) (s : BoardView) → next_lost high_rxt s ≡ Some x → (s.una ≤ x) × (x ≤ s.top)
lost_within high_rxt x s e = let h = least _ s.una s.top x e in (h.from, omega (arith, h.to))

hole_within : (high_rxt x : ℕ) (s : BoardView) → find_unsacked_octet_by_nextseg_rule_3 high_rxt s ≡ Some x → (s.una ≤ x) × (x ≤ s.top)
hole_within high_rxt x s e = let h = least _ s.una s.top x e in (h.from, omega (arith, h.to))

pub run_at-requires-clause-low : goal.run_at-requires-clause-low
run_at-requires-clause-low c = (lost_within _ _ c.args.board.now (sym c.in-Some.ensures)).0

pub run_at-requires-clause-high : goal.run_at-requires-clause-high
run_at-requires-clause-high c = (lost_within _ _ c.args.board.now (sym c.in-Some.ensures)).1

pub run_at-requires-in-Some-find_unsacked_octet_by_nextseg_rule_3-clause-low :
    goal.run_at-requires-in-Some-find_unsacked_octet_by_nextseg_rule_3-clause-low
run_at-requires-in-Some-find_unsacked_octet_by_nextseg_rule_3-clause-low c = (hole_within _ _ c.args.board.now (sym c.in-Some-find_unsacked_octet_by_nextseg_rule_3.ensures)).0

pub run_at-requires-in-Some-find_unsacked_octet_by_nextseg_rule_3-clause-high :
    goal.run_at-requires-in-Some-find_unsacked_octet_by_nextseg_rule_3-clause-high
run_at-requires-in-Some-find_unsacked_octet_by_nextseg_rule_3-clause-high c = (hole_within _ _ c.args.board.now (sym c.in-Some-find_unsacked_octet_by_nextseg_rule_3.ensures)).1

-- The octets that are inserted are SACKed too.
use Rattle.std.proofs.Common.{◌≡◌, ◌≤◌, ℕ, Bool, ◌||◌, ◌&&◌, refl, sym, ap, ◌∙◌, arith, ◌+◌, ◌^◌}
use Rattle.std.specs.Prelude.{nat_le, nat_lt, Result, Ok, Err, OnOk, IfOk}
use Rattle.std.proofs.lemmas.Bool.Decides.{nat_tests}
use Rattle.pd_board.specs.contracts.board.Board.{the_view}
use Rattle.pd_board.specs.Board.{with_sacked_block, has_new}
use Rattle.pd_board.specs.Ranges.{in_ranges}
use Rattle.pd_board.proofs.Shown.{marked_is, has_new_is, has_none_new}
use Rattle.pd_board.proofs.Searching.{wider}
use Rattle.pd_board.proofs.board.Board.mark.Goals as goal

no_block : (f b x : ℕ) (was : Bool) → b ≤ f → was ≡ (was || (nat_le f x && nat_lt x b))
no_block f b x was h = grind (arith, nat_tests)

pub returns-then-block-first-clause-ok : goal.returns-then-block-first-clause-ok
returns-then-block-first-clause-ok c =
    let i = c.self.inside in
    sym c.self.view_is
    ∙ marked_is (in_ranges i.ranges) (the_view i) refl (in_ranges i.ranges) c.args.block c.max-first.result c.max-first.ensures
    (λ x. no_block c.max-first.result c.args.block.end x (in_ranges i.ranges x) c.if-block-first.true)
    ∙ ap (with_sacked_block c.args.block) c.self.view_is

pub returns-then-block-first-clause-new : goal.returns-then-block-first-clause-new
returns-then-block-first-clause-new c =
    let i = c.self.inside in
    sym (has_none_new (in_ranges i.ranges) (the_view i) refl c.args.block c.max-first.result c.max-first.ensures c.if-block-first.true)
    ∙ ap (has_new c.args.block) c.self.view_is

on_ok : {T E P Q : Type 0} → (r : Result T E) → (P → Q) → OnOk r P → OnOk r Q
on_ok (Ok v) f h = f h
on_ok (Err e) f h = h

if_ok : {T E : Type 0} → {P Q : T → Type 0} → (r : Result T E) → ((v : T) → P v → Q v) → IfOk r P → IfOk r Q
if_ok (Ok v) f h = f v h
if_ok (Err e) f h = h

pub returns-else-is_err-clause-ok : goal.returns-else-is_err-clause-ok
returns-else-is_err-clause-ok c =
    let i = c.self.inside in
    on_ok c.insert-inserted.result
    (λ h. marked_is (in_ranges i.ranges) (the_view i) refl (in_ranges c.insert-inserted.new.self) c.args.block c.max-first.result c.max-first.ensures h ∙ ap (with_sacked_block c.args.block) c.self.view_is)
    c.insert-inserted.ensures.octets

pub returns-else-is_err-clause-new : goal.returns-else-is_err-clause-new
returns-else-is_err-clause-new c =
    let i = c.self.inside in
    let top : i.top ≡ c.args.self.now.top = ap (λ s. s.top) c.self.view_is in
    if_ok c.insert-inserted.result
    (λ new h. h ∙ sym (has_new_is (in_ranges i.ranges) (the_view i) refl c.args.block c.max-first.result c.max-first.ensures (omega arith) (omega arith)) ∙ ap (has_new c.args.block) c.self.view_is)
    c.insert-inserted.ensures.new

pub insert-inserted-requires-clause-ranges : goal.insert-inserted-requires-clause-ranges
insert-inserted-requires-clause-ranges c = wider c.self.inside.una (c.self.inside.top + 1) (2 ^ 31) c.self.inside.ranges (omega arith) c.self.invariant.ranges

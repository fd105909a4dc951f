-- One range more.
use Rattle.std.proofs.Common.{◌≡◌, ℕ, ◌-◌, max, List, drop, arith, ap, nat_le, cond}
use Rattle.std.specs.List.{sum_by}
use Rattle.pd_seg.specs.declared.sack_spans.Span.{Span}
use Rattle.pd_board.specs.Runs.{among}
use Rattle.pd_board.proofs.Sets.{size_where-le}
use Rattle.pd_board.proofs.Counted.{octets_of, runs_of}
use Rattle.pd_board.proofs.Searching.{none, sum_in, past_in}
use Rattle.pd_board.proofs.queries.count_sacked_octets_and_runs_from.Goals as goal

pub overflow_add-octets : goal.overflow_add-octets
overflow_add-octets c =
    let rs : List Span = c.args.ranges.now.spans.items in
    let f : Span → ℕ = λ r. r.end - max r.start c.args.first in
    let all = octets_of c.args.una rs c.args.first c.args.top c.requires.ranges.apart in
    let few = size_where-le (among rs) c.args.first c.args.top in
    let more = sum_in f rs c.deref-range-items.result.now c.loop-range.range-index none c.deref-range-items.ensures.value c.loop-range-test.true in
    omega (arith, all, few, more, c.loop-range.invariant.octets, c.max.ensures, c.saturating_sub-octets.ensures)

pub returns-clause-octets : goal.returns-clause-octets
returns-clause-octets c =
    let rs : List Span = c.args.ranges.now.spans.items in
    let f : Span → ℕ = λ r. r.end - max r.start c.args.first in
    let all = octets_of c.args.una rs c.args.first c.args.top c.requires.ranges.apart in
    let empty : sum_by f (drop c.loop-range.range-index rs) ≡ 0 = ap (sum_by f) (past_in rs c.deref-range-items.result.now c.loop-range.range-index c.deref-range-items.ensures.value c.loop-range-test.false) in
    omega (arith, all, empty, c.loop-range.invariant.octets)

pub returns-clause-runs : goal.returns-clause-runs
returns-clause-runs c =
    let rs : List Span = c.args.ranges.now.spans.items in
    let f : Span → ℕ = λ r. cond (nat_le c.args.first r.start) 1 0 in
    let all = runs_of c.args.una c.args.una rs c.args.first c.args.top (omega arith) c.requires.low c.requires.ranges.apart in
    let empty : sum_by f (drop c.loop-range.range-index rs) ≡ 0 = ap (sum_by f) (past_in rs c.deref-range-items.result.now c.loop-range.range-index c.deref-range-items.ensures.value c.loop-range-test.false) in
    omega (arith, all, empty, c.loop-range.invariant.runs)

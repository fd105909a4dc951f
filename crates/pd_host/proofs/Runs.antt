-- Where a segment that is sent again ends.
use Rattle.std.proofs.Common.{◌≡◌, ℕ, ◌≤◌, Option, None, Some, refl, ap, arith}
use Rattle.std.specs.Prelude.{unwrap_or}
use Rattle.pd_board.specs.Retransmit.{run_at, most_from}
use Rattle.pd_board.specs.Octets.{contains, least_where}
use Rattle.pd_board.specs.Board.{BoardView, IsBoardView, with_none_sacked}
use Rattle.pd_seg.specs.declared.sack_spans.Span.{Span}
use Rattle.pd_recover.proofs.Found.{least}

-- between its start and the number after the highest octet sent
pub run_within : (x : ℕ) (s : BoardView) → x ≤ s.top → (x ≤ (run_at x s).end) × ((run_at x s).end ≤ s.top)
run_within x s sent = by (least_where (contains s.sacked) x (most_from x s)) refl
  where
    by : (o : Option ℕ) → least_where (contains s.sacked) x (most_from x s) ≡ o
        → (x ≤ unwrap_or o (most_from x s)) × (unwrap_or o (most_from x s) ≤ s.top)
    by None e = (omega (arith, sent), omega arith)
    by (Some r) e = let h = least (contains s.sacked) x (most_from x s) r e in (h.from, omega (arith, h.to))

-- so the one that an expiry sends again
pub again_within : (b s : BoardView) (una : ℕ) (segment : Span) → IsBoardView b → una ≡ b.una → s ≡ with_none_sacked b → segment ≡ run_at una s
    → (s.una ≤ segment.end) × (segment.end ≤ s.end)
again_within b s una segment known at same run =
    let first : s.una ≡ b.una = ap (λ (t : BoardView). t.una) same in
    let top : s.top ≡ b.top = ap (λ (t : BoardView). t.top) same in
    let last : s.end ≡ b.end = ap (λ (t : BoardView). t.end) same in
    let end : segment.end ≡ (run_at una s).end = ap (λ (x : Span). x.end) run in
    let within = run_within una s (omega (arith, at, top, known.una_next, known.next_top)) in
    (omega (arith, at, first, end, within.0), omega (arith, top, last, end, within.1, known.top_end))

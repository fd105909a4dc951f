-- The blocks of one option further.
use Rattle.std.proofs.Common.{◌≡◌, refl, sym, ap, ◌∙◌, ℕ, ◌+◌, ◌<◌, Bool, List, [], ◌∷◌, ◌++◌, drop, get_or, length}
use Rattle.std.proofs.lemmas.List.{drop_more}
use Rattle.pd_board.specs.Board.{BoardView}
use Rattle.pd_seg.specs.declared.option_list.SegOption.{SegOption}
use Rattle.pd_seg.specs.declared.option_list.SegOption.TheVariants.{Mss, Wscale, SackOk, Nop, Eol, Timestamp, Sack}
use Rattle.pd_seg.specs.declared.sack_spans.Span.{Span}
use Rattle.pd_host.specs.AckEffects.{with_block_marked, with_blocks_marked, blocks_in, blocks_of}
use Rattle.pd_host.specs.Handshake.{before_eol}

told_both : (blocks others : List Span) (t : BoardView × Bool) → with_blocks_marked (blocks ++ others) t ≡ with_blocks_marked others (with_blocks_marked blocks t)
told_both [] others t = refl
told_both (block ∷ blocks) others t = told_both blocks others (with_block_marked block t)

one_more : (o : SegOption) (rest : List SegOption) (t : BoardView × Bool) → (o ≡ Eol → ⊥)
    → with_blocks_marked (blocks_of (before_eol (o ∷ rest))) t ≡ with_blocks_marked (blocks_of (before_eol rest)) (with_blocks_marked (blocks_in o) t)
one_more (Mss x) rest t not_end = refl
one_more (Wscale x) rest t not_end = refl
one_more SackOk rest t not_end = refl
one_more Nop rest t not_end = refl
one_more Eol rest t not_end = absurd (not_end refl)
one_more (Timestamp x y) rest t not_end = refl
one_more (Sack blocks) rest t not_end = told_both blocks (blocks_of (before_eol rest)) t

-- an option further
pub one_further : (options : List SegOption) (i : ℕ) (o : SegOption) (t u whole : BoardView × Bool)
    → i < length options → o ≡ get_or options i o → (o ≡ Eol → ⊥) → u ≡ with_blocks_marked (blocks_in o) t
    → with_blocks_marked (blocks_of (before_eol (drop i options))) t ≡ whole
    → with_blocks_marked (blocks_of (before_eol (drop (i + 1) options))) u ≡ whole
one_further options i o t u whole within here not_end so_far same =
    ap (with_blocks_marked (blocks_of (before_eol (drop (i + 1) options)))) so_far
    ∙ sym (one_more o (drop (i + 1) options) t not_end)
    ∙ sym (ap (λ (os : List SegOption). with_blocks_marked (blocks_of (before_eol os)) t) (drop_more options i o within ∙ ap (λ (x : SegOption). x ∷ drop (i + 1) options) (sym here)))
    ∙ same

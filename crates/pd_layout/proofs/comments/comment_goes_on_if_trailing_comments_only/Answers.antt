-- Each turn goes past a comment.
use Rattle.std.proofs.Common.{◌≡◌, ◌∙◌, List, ℕ, Bool, Option, Some, None, true, false, take, drop, length, bytes_eq, codes, ap, sym, arith}
use Rattle.std.specs.Option.{option_map_or}
use Rattle.pd_layout.specs.Canonical.{trail, find_rest_after_comment_end}
use Rattle.pd_layout.proofs.CommentEnds.{trail_inside, trail_opens}
use Rattle.pd_layout.proofs.comments.comment_goes_on_if_trailing_comments_only.Goals as goal

-- what is read after the comment that a line begins with
past : (line comment : List ℕ) (o : Option (List ℕ)) → bytes_eq (take 3 line) (codes " /*") ≡ true → comment ≡ drop 3 line → o ≡ find_rest_after_comment_end comment
    → trail false line ≡ option_map_or (λ rest. trail false rest) o (Some true)
past line comment o begins is said =
    trail_opens line begins
    ∙ (ap (trail true) (sym is)
    ∙ (trail_inside comment
    ∙ ap (λ (p : Option (List ℕ)). option_map_or (λ rest. trail false rest) p (Some true)) (sym said)))

pub loop-comment-preserved : goal.loop-comment-preserved
loop-comment-preserved c =
    sym (past c.loop-comment.rest.now c.in-Some.comment.now (Some c.in-Some-find_rest_after_comment_end.after.now) c.in-Some.ensures.cases.0 c.in-Some.ensures.cases.1 (c.in-Some-find_rest_after_comment_end.ensures.what))
    ∙ c.loop-comment.invariant

pub returns-in-None : goal.returns-in-None
returns-in-None c =
    sym (past c.loop-comment.rest.now c.in-Some.comment.now None c.in-Some.ensures.cases.0 c.in-Some.ensures.cases.1 (c.in-None.ensures.what))
    ∙ c.loop-comment.invariant

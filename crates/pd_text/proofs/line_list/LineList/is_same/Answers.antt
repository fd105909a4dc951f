-- Lists of one length are the same exactly where their equal front is whole.
use Rattle.std.proofs.Common.{◌≡◌, ℕ, nat_eq, length, IsTrue, List, arith, subst}
use Rattle.std.proofs.lemmas.Bool.Decides.{nat_tests}
use Rattle.pd_text.specs.Text.{common_prefix}
use Rattle.pd_text.proofs.SameLines.{front_whole, whole_front}
use Rattle.pd_text.proofs.line_list.LineList.is_same.Goals as goal

pub returns-then-len : goal.returns-then-len
returns-then-len c =
    let xs = c.args.self.now in
    let ys = c.args.other.now in
    let lens : length xs ≡ length ys = grind (arith, nat_tests, c.len-else-has_equal_octets_and_ends.ensures.len, c.len.ensures.len, c.if-len.true) in
    let there : IsTrue (nat_eq c.same_front.result c.len-then-len.result) → xs ≡ ys = λ h. whole_front xs ys lens (grind (arith, nat_tests, h, c.same_front.ensures, c.len-then-len.ensures.len)) in
    let back : xs ≡ ys → IsTrue (nat_eq c.same_front.result c.len-then-len.result) = λ h. (let whole : common_prefix xs ys ≡ length xs = subst (λ (zs : List (List ℕ)). common_prefix xs zs ≡ length xs) h (front_whole xs) in grind (arith, nat_tests, whole, c.same_front.ensures, c.len-then-len.ensures.len)) in
    (there, back)

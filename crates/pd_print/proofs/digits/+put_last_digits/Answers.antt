-- One digit after the others.
use Rattle.std.proofs.Common.{◌≡◌, ℕ, ◌+◌, ◌-◌, ◌/◌, ◌%◌, List, [], ◌∷◌, ◌++◌, sym, ap, ◌∙◌, append_assoc}
use Rattle.pd_print.specs.Numbers.{digits_of}
use Rattle.pd_print.proofs.DigitLemmas.{digits_of-more, positive}
use Rattle.pd_print.proofs.digits.+put_last_digits.Goals as goal

pub returns : goal.returns
returns t c =
    let last : List ℕ = (48 + c.args.number % 10) ∷ [] in
    let pushed : c.push.new.self.items ≡ c.put_last_digits.new.out.items ++ last = c.in_ok-push.ensures.items in
    pushed
    ∙ (ap (λ (s : List ℕ). s ++ last) c.in_ok-put_last_digits.ensures
    ∙ (append_assoc c.args.out.now.items (digits_of (c.args.places - 1) (c.args.number / 10)) last
    ∙ ap (λ (s : List ℕ). c.args.out.now.items ++ s) (sym (digits_of-more c.args.places c.args.number (positive c.args.places c.if-places-eq0.false)))))

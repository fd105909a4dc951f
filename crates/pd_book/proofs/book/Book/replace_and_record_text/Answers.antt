-- The book after an edit is the replay of its acts.
use Rattle.std.proofs.Common.{◌∙◌, ◌+◌, ◌≤◌, reverse, ap, sym, arith, length}
use Rattle.std.specs.Map.{lookup}
use Rattle.std.specs.Str.{bytes_eq}
use Rattle.std.proofs.lemmas.List.{length-reverse}
use Rattle.pd_text.specs.Edit.{edited}
use Rattle.pd_book.specs.Acts.{texts, text_of}
use Rattle.pd_book.specs.History.{BookView}
use Rattle.pd_book.specs.Refusals.{line_edit_refusal, taken_room}
use Rattle.pd_book.proofs.Calls.{edit_kept, has_room}
use Rattle.pd_book.proofs.book.Book.replace_and_record_text.Goals as goal

pub invariant_of-self-3 : goal.invariant_of-self-3
invariant_of-self-3 c =
    let n = c.args.name.now in
    let past = c.args.self.now.history.past in
    let d = c.args.edit in
    let acts = c.self.inside.records.acts.items in
    let room = has_room 1 c.args.self.now.history c.requires.room in
    let few : length (reverse acts) + length c.self.inside.records.tasks.items + 1 ≤ 65536 = omega (arith, ap length c.self.invariant.tasks, ap (λ (x : BookView). taken_room x.history) c.self.view_is, room) in
    edit_kept c.self.inside.opening (reverse acts) _ c.self.inside.settings c.self.inside.records.scripts _ c.self.inside.records.tasks.items c.self.inside.last_number _ _ n d c.in_ok-text.text
    c.self.invariant
    (ap (λ (x : BookView). line_edit_refusal (lookup (bytes_eq n) (texts x.history.past)) d) c.self.view_is ∙ c.requires.allowed)
    c.requires.inserted
    (c.in_ok-text.ensures ∙ (c.requires.text ∙ ap (λ (x : BookView). edited (text_of x.history.past n) d) (sym c.self.view_is)))
    c.replace_text_and_make_pending.ensures.written
    c.replace_text_and_make_pending.ensures.distinct
    (c.record_act.ensures.past ∙ cc (c.in_ok-reserve.ensures.items, c.in_ok-share_stored_name_or_given.ensures))
    few
    (omega (arith, c.in_ok-reserve.ensures.ok, c.record_act.ensures.capacity, length-reverse acts, c.in_ok-reserve.ensures.len, c.len.ensures))

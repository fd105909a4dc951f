-- A name that does not stand is not kept, and the book after an add is the replay of its acts.
use Rattle.std.proofs.Common.{◌≡◌, ◌∙◌, ◌+◌, ◌≤◌, refl, false, None, length, ap, reverse, arith}
use Rattle.std.proofs.lemmas.List.{length-reverse}
use Rattle.pd_book.specs.declared.act.Act.TheVariants as act
use Rattle.pd_book.specs.Acts.{has_script}
use Rattle.pd_book.specs.History.{History, BookView}
use Rattle.pd_book.specs.Refusals.{history_full_fault_unless_space_for, refusal_if_name_bad_taken_or_too_many, add_refusal}
use Rattle.pd_book.proofs.Calls.{recorded, has_room}
use Rattle.pd_book.proofs.Faithful.{absent-kept}
use Rattle.pd_book.proofs.Legality.{add_legal, both_none}
use Rattle.pd_book.proofs.book.Book.insert_and_record_script.Goals as goal

pub add-requires : goal.add-requires
add-requires c =
    let name = c.args.name in
    let history : History = record { opening = c.self.inside.opening; past = reverse c.self.inside.records.acts.items } in
    let allowed : add_refusal history name ≡ None = ap (λ (x : BookView). add_refusal x.history name) c.self.view_is ∙ c.requires.allowed in
    let may = (add_legal history c.self.invariant.legal name c.args.text c.law_invariant.ensures allowed).0 in
    rw c.self.invariant.scripts (absent-kept name history.opening history.past may.1)

pub invariant_of-self-2 : goal.invariant_of-self-2
invariant_of-self-2 c =
    let acts = c.self.inside.records.acts.items in
    let name = c.args.name in
    let text = c.args.text in
    let history : History = record { opening = c.self.inside.opening; past = reverse acts } in
    let allowed : add_refusal history name ≡ None = ap (λ (x : BookView). add_refusal x.history name) c.self.view_is ∙ c.requires.allowed in
    let may = (add_legal history c.self.invariant.legal name text c.law_invariant.ensures allowed).0 in
    let room = has_room 1 history (both_none (refusal_if_name_bad_taken_or_too_many history.past name) (history_full_fault_unless_space_for 1 history) allowed).1 in
    let few : length (reverse acts) + length c.self.inside.records.tasks.items + 1 ≤ 65536 = omega (arith, ap length c.self.invariant.tasks, room) in
    recorded c.self.inside.opening (reverse acts) _ c.self.inside.settings _ c.self.inside.records.scripts _ c.self.inside.records.tasks.items c.self.inside.last_number _ _ (act.Add name text)
    c.self.invariant
    may
    refl refl c.self.invariant.settings
    (c.in_ok-add.ensures.ok ∙ cc (c.self.invariant.scripts))
    (c.record_act.ensures.past ∙ cc (c.in_ok-reserve.ensures.items, c.in_ok-share.ensures, c.in_ok-share-2.ensures))
    few
    (omega (arith, c.in_ok-reserve.ensures.ok, c.record_act.ensures.capacity, length-reverse acts, c.in_ok-reserve.ensures.len, c.len.ensures))

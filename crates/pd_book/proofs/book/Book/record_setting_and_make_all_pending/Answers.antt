-- The book after a set is the replay of its acts.
use Rattle.std.proofs.Common.{◌≡◌, ◌∙◌, ◌+◌, ◌≤◌, Option, Some, List, ◌∷◌, refl, sym, ap, reverse, length, arith, unwrap_or}
use Rattle.std.specs.Prelude.{IsSome}
use Rattle.std.proofs.lemmas.List.{length-reverse}
use Rattle.pd_settings.specs.declared.settings.Settings.{Settings}
use Rattle.pd_settings.specs.Settings.{replaced}
use Rattle.pd_book.specs.declared.act.Act.{Act}
use Rattle.pd_book.specs.declared.act.Act.TheVariants as act
use Rattle.pd_book.specs.Acts.{now}
use Rattle.pd_book.specs.StoredScripts.{all_pending}
use Rattle.pd_book.specs.History.{BookView}
use Rattle.pd_book.specs.Refusals.{taken_room}
use Rattle.pd_book.proofs.Calls.{recorded, has_room}
use Rattle.pd_book.proofs.book.Book.record_setting_and_make_all_pending.Goals as goal

pub invariant_of-self-2 : goal.invariant_of-self-2
invariant_of-self-2 c =
    let acts = c.self.inside.records.acts.items in
    let opening = c.self.inside.opening in
    let set = act.Set c.args.key c.args.value in
    let room = has_room 1 c.args.self.now.history c.requires.room in
    let few : length (reverse acts) + length c.self.inside.records.tasks.items + 1 ≤ 65536 = omega (arith, ap length c.self.invariant.tasks, ap (λ (x : BookView). taken_room x.history) c.self.view_is, room) in
    let new : replaced (now opening (reverse acts)) c.args.key c.args.value ≡ Some c.args.settings =
    ap (λ (x : BookView). replaced (now x.history.opening x.history.past) c.args.key c.args.value) c.self.view_is ∙ c.requires.settings in
    recorded opening (reverse acts) _ c.self.inside.settings c.args.settings c.self.inside.records.scripts _ c.self.inside.records.tasks.items c.self.inside.last_number _ _ set
    c.self.invariant
    (rw new refl)
    refl refl
    (sym (ap (λ (o : Option Settings). unwrap_or o (now opening (reverse acts))) new))
    (c.make_all_pending.ensures ∙ ap all_pending c.self.invariant.scripts)
    (c.record_act.ensures.past ∙ ap (λ (l : List Act). set ∷ reverse l) c.in_ok-reserve.ensures.items)
    few
    (omega (arith, c.in_ok-reserve.ensures.ok, c.record_act.ensures.capacity, length-reverse acts, c.in_ok-reserve.ensures.len, c.len.ensures))

-- The events after some, and after others after these.
use Rattle.std.proofs.Common.{◌≡◌, ◌↔◌, List, [], ◌++◌, Option, Some, None, sym, subst, append_assoc, append-nil}
use denote.Bor.{Bor}
use Rattle.pd_script.specs.declared.script_events.Event.{Event}
use Rattle.pd_layout.specs.ReadAs.{AreSameEvents}
use Rattle.pd_record.specs.Inner.{GoesAfter}
use Rattle.pd_record.specs.Recording.{events_in, events_of_all}
use Rattle.pd_record.specs.Recorder.{EventRecordingView}
use Rattle.pd_record.specs.declared.recorded.RecordedEvent.{RecordedEvent}

-- after some, and after others after these
pub goes_on : (es xs ys : List Event) (after : Bor (List Event)) (o : Option (Bor (List Event)))
    → GoesAfter es xs (Some after) → GoesAfter after.now ys o → GoesAfter es (xs ++ ys) o
goes_on es xs ys after None first second = λ rest h.
    second rest ((first (ys ++ rest)).0 (subst (λ (list : List Event). AreSameEvents es list) (append_assoc xs ys rest) h))
goes_on es xs ys after (Some last) first second = λ rest. (
  λ h. (second rest).0 ((first (ys ++ rest)).0 (subst (λ (list : List Event). AreSameEvents es list) (append_assoc xs ys rest) h)),
  λ h. subst (λ (list : List Event). AreSameEvents es list) (sym (append_assoc xs ys rest)) ((first (ys ++ rest)).1 ((second rest).1 h)),
)

-- where what is left doesn't begin with the last of them, they differ
pub not_recorded : (es left : List Event) (per_event others : List EventRecordingView) (last : List RecordedEvent)
    → ((rest : List Event) → AreSameEvents es (events_of_all per_event ++ rest) ↔ AreSameEvents left (events_of_all others ++ rest)) → others ≡ []
    → GoesAfter left (events_in last) None → AreSameEvents es (events_of_all per_event ++ events_in last) → ⊥
not_recorded es left per_event others last so_far all none h =
    none [] (subst (λ (list : List Event). AreSameEvents left list) (sym (append-nil (events_in last)))
    (subst (λ (list : List EventRecordingView). AreSameEvents left (events_of_all list ++ events_in last)) all ((so_far (events_in last)).0 h)))

-- The packets that leave, one by one.
use Rattle.std.proofs.Common.{◌≡◌, ℕ, suc, nat_le, List, [], ◌∷◌, ◌++◌, Option, Some, None, Ok, Err, refl, ap, ◌∙◌}
use Rattle.pd_seg.specs.declared.segments.Sent.{Sent}
use Rattle.pd_record.specs.Recorder.{RecorderView, then_do, leaves_next, departs, with_unmet, comes, comes_on}
use Rattle.pd_record.specs.declared.record_error.RecordError.{RecordError}
use Rattle.pd_record.specs.declared.record_error.RecordError.TheVariants.{TooManyEvents}
use Rattle.pd_record.specs.declared.recorded.RecordedEvent.{RecordedEvent}

pub none_left : (o : Option Sent) → ((x : Sent) → o ≡ Some x → ⊥) → o ≡ None
none_left None h = refl
none_left (Some x) h = absurd (h x refl)

-- the packet that leaves next, up to a moment
abbrev Next : ℕ → RecorderView → Option Sent
Next until t = leaves_next (λ due. nat_le due until) t.run

pub comes_zero : (n line until : ℕ) (before : List RecordedEvent) (t : RecorderView) → n ≡ 0 → comes n line until before t ≡ Err TooManyEvents
unfolding comes
comes_zero n line until before t h = rw h

pub comes_over : (n m line until : ℕ) (before : List RecordedEvent) (t : RecorderView) → n ≡ suc m → Next until t ≡ None
    → comes n line until before t ≡ Ok (t, before)
unfolding comes
comes_over n m line until before t more h = rw more (ap (comes_on (comes m line until) line before t) h)

pub comes_got : (n m line until : ℕ) (before : List RecordedEvent) (t u : RecorderView) (sent : Sent) (x : RecordedEvent)
    → n ≡ suc m → Next until t ≡ Some sent → departs t line sent ≡ Ok (u, x)
    → comes n line until before t ≡ comes m line until (before ++ x ∷ []) (with_unmet u sent.at)
unfolding comes
comes_got n m line until before t u sent x more h left =
    rw more (ap (comes_on (comes m line until) line before t) h
    ∙ ap (then_do (λ (y : RecorderView × RecordedEvent). comes m line until (before ++ y.1 ∷ []) (with_unmet y.0 sent.at))) left)

pub comes_refused : (n m line until : ℕ) (before : List RecordedEvent) (t : RecorderView) (sent : Sent) (refusal : RecordError)
    → n ≡ suc m → Next until t ≡ Some sent → departs t line sent ≡ Err refusal
    → comes n line until before t ≡ Err refusal
unfolding comes
comes_refused n m line until before t sent refusal more h left =
    rw more (ap (comes_on (comes m line until) line before t) h
    ∙ ap (then_do (λ (y : RecorderView × RecordedEvent). comes m line until (before ++ y.1 ∷ []) (with_unmet y.0 sent.at))) left)

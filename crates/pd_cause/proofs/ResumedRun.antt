-- A run that is taken up in a state on its way stops where the whole run does.
use Rattle.std.proofs.Common.{◌≡◌, ℕ, zero, suc, ◌+◌, List, [], ◌∷◌, drop, slice_get, Option, Some, None, Result, Ok, Err, refl, sym, ap, subst, ◌∙◌, arith}
use Rattle.pd_settings.specs.declared.settings.Settings.{Settings}
use Rattle.pd_script.specs.declared.parsed.Parsed.{Parsed}
use Rattle.pd_script.specs.declared.script_events.Event.{Event}
use Rattle.pd_run.specs.Laws.{IsUnderway, StartsUnderway, StepsGoOn}
use Rattle.pd_run.specs.Run.{start_of, states_from, states_in}
use Rattle.pd_run.specs.Step.{RunStateView, on_step, step}
use Rattle.pd_run.specs.StopPoints.{stop_from, stop_in}
use Rattle.pd_run.specs.StopReason.{ReasonsGiveVerdicts}
use Rattle.pd_run.specs.declared.verdict.Verdict.{Verdict}
use Rattle.pd_run.proofs.States.{states_underway}
use Rattle.pd_run.proofs.StopsFound.{silent, stop_after}
use Rattle.pd_cause.specs.Inner.{IsResumed}

-- a stop of a run after an event that passes is a stop of the rest of it
pub stops_later : ReasonsGiveVerdicts → (line n : ℕ) (es : List Event) (r s : RunStateView) (e : Event) → step r e ≡ Ok s
    → stop_from line n (e ∷ es) r ≡ stop_from line (n + 1) es s
stops_later law line n es r s e h =
    stop_after line n (e ∷ es) es r s e refl (silent law line r s e h) h

stops_after : ReasonsGiveVerdicts → (line n : ℕ) (es : List Event) (m : ℕ) (r s : RunStateView) → slice_get (states_from es r) m ≡ Some s
    → stop_from line n es r ≡ stop_from line (n + suc m) (drop (suc m) es) s
stops_after law line n [] m r s h = absurd cc
stops_after law line n (e ∷ es) m r s h = go (λ k t. stops_after law line (n + 1) es k t s) m (step r e) refl h
  where
    at_ok : ((k : ℕ) (t : RunStateView) → slice_get (states_from es t) k ≡ Some s → stop_from line (n + 1) es t ≡ stop_from line (n + 1 + suc k) (drop (suc k) es) s)
        → (m : ℕ) (t : RunStateView) → step r e ≡ Ok t → slice_get (t ∷ states_from es t) m ≡ Some s
        → stop_from line n (e ∷ es) r ≡ stop_from line (n + suc m) (drop (suc m) (e ∷ es)) s
    at_ok ih zero t o h =
        let same : t ≡ s = cc in
        subst (λ (u : RunStateView). stop_from line n (e ∷ es) r ≡ stop_from line (n + 1) es u) same (stops_later law line n es r t e o)
    at_ok ih (suc m) t o h =
        let later : n + 1 + suc m ≡ n + suc (suc m) = omega arith in
        stops_later law line n es r t e o
        ∙ subst (λ (k : ℕ). stop_from line (n + 1) es t ≡ stop_from line k (drop (suc m) es) s) later (ih m t h)

    go : ((k : ℕ) (t : RunStateView) → slice_get (states_from es t) k ≡ Some s → stop_from line (n + 1) es t ≡ stop_from line (n + 1 + suc k) (drop (suc k) es) s)
        → (m : ℕ) (o : Result RunStateView Verdict) → step r e ≡ o → slice_get (on_step (λ t. t ∷ states_from es t) (λ v. []) o) m ≡ Some s
        → stop_from line n (e ∷ es) r ≡ stop_from line (n + suc m) (drop (suc m) (e ∷ es)) s
    go ih m (Ok t) o h = at_ok ih m t o h
    go ih m (Err v) o h = absurd cc

none_before : (n : ℕ) → 0 + n ≡ n
none_before n = omega arith

states_begun : (settings : Settings) (p : Parsed) (r : RunStateView) → p.fault ≡ None → start_of p.header.items settings ≡ Ok r
    → states_in settings p ≡ states_from p.events r
states_begun settings p r fault start = rw (fault, start) refl

pub stop_begun : (settings : Settings) (p : Parsed) (r : RunStateView) (line : ℕ) → start_of p.header.items settings ≡ Ok r
    → stop_in line settings p ≡ stop_from line 0 p.events r
stop_begun settings p r line start = rw start refl

-- the state of a script's run after so many events takes it up
pub taken_up : ReasonsGiveVerdicts → StartsUnderway → StepsGoOn → (settings : Settings) (p : Parsed) (m n : ℕ) (s : RunStateView)
    → n ≡ suc m → slice_get (states_in settings p) m ≡ Some s → IsResumed settings p n s
taken_up law starts steps settings p m n s count found =
    subst (λ (k : ℕ). IsResumed settings p k s) (sym count) (by_fault p.fault refl)
  where
    by_start : p.fault ≡ None → (came : Result RunStateView Verdict) → start_of p.header.items settings ≡ came → IsResumed settings p (suc m) s
    by_start fault (Err v) is = absurd (let none = rw (fault, is) at found in cc)
    by_start fault (Ok r) is =
        let there : slice_get (states_from p.events r) m ≡ Some s =
        ap (λ (rs : List RunStateView). slice_get rs m) (sym (states_begun settings p r fault is)) ∙ found in
        record {
          stage = rw is there;
          underway = subst (λ (k : ℕ). IsUnderway k s) (none_before (suc m)) (states_underway steps p.events 0 m r s (starts p.header.items settings r is) there);
          stops = λ line. stop_begun settings p r line is
              ∙ (stops_after law line 0 p.events m r s there
              ∙ ap (λ (k : ℕ). stop_from line k (drop (suc m) p.events) s) (none_before (suc m)));
        }

    by_fault : (o : Option ℕ) → p.fault ≡ o → IsResumed settings p (suc m) s
    by_fault (Some line) is = absurd (let none = rw is at found in cc)
    by_fault None is = by_start is (start_of p.header.items settings) refl

-- The settings held in kept states.
use Rattle.std.proofs.Common.{◌≡◌, ℕ, zero, suc, ◌+◌, ◌*◌, refl, sym, ap, subst, ◌∙◌, ◌⊎◌, inl, inr, List, [], ◌∷◌, ◌++◌, map, take, slice_get, Option, None, Some, Result, Ok, Err}
use Rattle.std.specs.List.{AllByRecursion}
use Rattle.pd_settings.specs.Settings.{value_at}
use Rattle.pd_settings.specs.SettingSets.{Agree, Includes}
use Rattle.pd_settings.specs.declared.settings.Settings.{Settings}
use Rattle.pd_settings.specs.declared.setting_set.SettingSet.{SettingSet}
use Rattle.pd_script.specs.Script.{script_of}
use Rattle.pd_script.specs.declared.parsed.Parsed.{Parsed}
use Rattle.pd_script.specs.declared.script_events.Event.{Event}
use Rattle.pd_run.specs.Consulted.{consulted_settings_of, run_with_settings, StepsNote}
use Rattle.pd_run.specs.Run.{start_of, states_from, states_in, states_of}
use Rattle.pd_run.specs.Step.{RunStateView, on_step, step}
use Rattle.pd_run.specs.declared.verdict.Verdict.{Verdict}
use Rattle.pd_run.proofs.Consulted.{agree_on_fewer, includes_itself, includes_too}
use Rattle.pd_track.specs.Reuse.{AgreeWhereConsulted, every_fourth}
use Rattle.pd_track.proofs.Fourths.{fourths_take}

-- Lists

all_imp : (P Q : RunStateView → Type 0) (rs : List RunStateView) → ((r : RunStateView) → P r → Q r) → AllByRecursion P rs → AllByRecursion Q rs
all_imp P Q [] g h = tt
all_imp P Q (r ∷ rs) g h = (g r h.0, all_imp P Q rs g h.1)

all_both : (P Q R : RunStateView → Type 0) (rs : List RunStateView) → ((r : RunStateView) → P r → Q r → R r) → AllByRecursion P rs → AllByRecursion Q rs → AllByRecursion R rs
all_both P Q R [] g h k = tt
all_both P Q R (r ∷ rs) g h k = (g r h.0 k.0, all_both P Q R rs g h.1 k.1)

all_append : (P : RunStateView → Type 0) (rs ss : List RunStateView) → AllByRecursion P rs → AllByRecursion P ss → AllByRecursion P (rs ++ ss)
all_append P [] ss h k = k
all_append P (r ∷ rs) ss h k = (h.0, all_append P rs ss h.1 k)

all_take : (P : RunStateView → Type 0) (n : ℕ) (rs : List RunStateView) → AllByRecursion P rs → AllByRecursion P (take n rs)
all_take P zero rs h = tt
all_take P (suc n) [] h = tt
all_take P (suc n) (r ∷ rs) h = (h.0, all_take P n rs h.1)

all_fourths : (P : RunStateView → Type 0) (j : ℕ) (rs : List RunStateView) → AllByRecursion P rs → AllByRecursion P (every_fourth j rs)
all_fourths P j [] h = tt
all_fourths P zero (r ∷ rs) h = (h.0, all_fourths P 3 rs h.1)
all_fourths P (suc j) (r ∷ rs) h = all_fourths P j rs h.1

all_at : (P : RunStateView → Type 0) (rs : List RunStateView) (n : ℕ) (r : RunStateView) → AllByRecursion P rs → slice_get rs n ≡ Some r → P r
all_at P [] n r h is = absurd cc
all_at P (s ∷ rs) zero r h is = let same : s ≡ r = cc in subst P same h.0
all_at P (s ∷ rs) (suc n) r h is = all_at P rs n r h.1 is

-- Sets of settings

agree_equal : (u : SettingSet) (a b : Settings) → a ≡ b → Agree u a b
agree_equal u a b h key e = ap (λ (s : Settings). value_at s key) h

agree_across : (u : SettingSet) (a b c : Settings) → Agree u a b → Agree u a c → Agree u b c
agree_across u a b c h k key e = sym (h key e) ∙ k key e

-- Runs

-- the states of a run hold the settings that it is under
stay : StepsNote → (es : List Event) (r : RunStateView) (settings : Settings) → r.host.state.settings ≡ settings
    → AllByRecursion (λ (s : RunStateView). s.host.state.settings ≡ settings) (states_from es r)
stay law [] r settings h = tt
stay law (e ∷ es) r settings h = go (λ t. stay law es t settings) (step r e) refl
  where
    go : ((t : RunStateView) → t.host.state.settings ≡ settings → AllByRecursion (λ (s : RunStateView). s.host.state.settings ≡ settings) (states_from es t))
        → (o : Result RunStateView Verdict) → step r e ≡ o
        → AllByRecursion (λ (s : RunStateView). s.host.state.settings ≡ settings) (on_step (λ t. t ∷ states_from es t) (λ v. []) o)
    go rest (Ok t) o = let same : t.host.state.settings ≡ settings = (law r t e o).0 ∙ h in (same, rest t same)
    go rest (Err v) o = tt

-- so what it keeps agrees with them
pub new_held : StepsNote → (es : List Event) (r : RunStateView) (settings : Settings) → r.host.state.settings ≡ settings → AgreeWhereConsulted settings (every_fourth 3 (states_from es r))
new_held law es r settings h =
    all_fourths (λ (s : RunStateView). Agree (consulted_settings_of s) settings s.host.state.settings) 3 (states_from es r)
    (all_imp (λ (s : RunStateView). s.host.state.settings ≡ settings) (λ (s : RunStateView). Agree (consulted_settings_of s) settings s.host.state.settings) (states_from es r)
    (λ s e. agree_equal (consulted_settings_of s) settings s.host.state.settings (sym e)) (stay law es r settings h))

pub held_more : (settings : Settings) (before after : List RunStateView) → AgreeWhereConsulted settings before → AgreeWhereConsulted settings after → AgreeWhereConsulted settings (before ++ after)
held_more settings before after = all_append (λ (s : RunStateView). Agree (consulted_settings_of s) settings s.host.state.settings) before after

pub held_first : (settings : Settings) (n : ℕ) (checkpoints : List RunStateView) → AgreeWhereConsulted settings checkpoints → AgreeWhereConsulted settings (take n checkpoints)
held_first settings n checkpoints = all_take (λ (s : RunStateView). Agree (consulted_settings_of s) settings s.host.state.settings) n checkpoints

pub held_at : (settings : Settings) (checkpoints : List RunStateView) (n : ℕ) (s : RunStateView) → AgreeWhereConsulted settings checkpoints → slice_get checkpoints n ≡ Some s → Agree (consulted_settings_of s) settings s.host.state.settings
held_at settings checkpoints n s = all_at (λ (s : RunStateView). Agree (consulted_settings_of s) settings s.host.state.settings) checkpoints n s

-- a state has consulted all that those before it have
abbrev AreBefore : RunStateView → List RunStateView → Type 0
AreBefore s rs = AllByRecursion (λ (t : RunStateView). Includes (consulted_settings_of s) (consulted_settings_of t)) rs

come_before : StepsNote → (es : List Event) (m : ℕ) (r s : RunStateView) → slice_get (states_from es r) m ≡ Some s
    → Includes (consulted_settings_of s) (consulted_settings_of r) × AreBefore s (take (suc m) (states_from es r))
come_before law [] m r s h = absurd cc
come_before law (e ∷ es) m r s h = go (come_before law es) m (step r e) refl h
  where
    go : ((m : ℕ) (r s : RunStateView) → slice_get (states_from es r) m ≡ Some s → Includes (consulted_settings_of s) (consulted_settings_of r) × AreBefore s (take (suc m) (states_from es r)))
        → (m : ℕ) (o : Result RunStateView Verdict) → step r e ≡ o → slice_get (on_step (λ t. t ∷ states_from es t) (λ v. []) o) m ≡ Some s
        → Includes (consulted_settings_of s) (consulted_settings_of r) × AreBefore s (take (suc m) (on_step (λ t. t ∷ states_from es t) (λ v. []) o))
    go rest zero (Ok t) o h =
        let same : t ≡ s = cc in
        subst (λ (u : RunStateView). Includes (consulted_settings_of u) (consulted_settings_of r) × AreBefore u (t ∷ [])) same ((law r t e o).1, (includes_itself (consulted_settings_of t), tt))
    go rest (suc m) (Ok t) o h =
        let later = rest m t s h in
        (includes_too (consulted_settings_of s) (consulted_settings_of t) (consulted_settings_of r) later.0 (law r t e o).1, (later.0, later.1))
    go rest m (Err v) o h = absurd cc

-- a run has no states on its way, or those from a first one
begun : (settings : Settings) (p : Parsed) → (states_in settings p ≡ []) ⊎ ((r : RunStateView) × (states_in settings p ≡ states_from p.events r))
begun settings p = by_fault p.fault refl
  where
    by_start : p.fault ≡ None → (o : Result RunStateView Verdict) → start_of p.header.items settings ≡ o
        → (states_in settings p ≡ []) ⊎ ((r : RunStateView) × (states_in settings p ≡ states_from p.events r))
    by_start none (Ok r) is = inr (r, rw (none, is) refl)
    by_start none (Err v) is = inl (rw (none, is) refl)

    by_fault : (o : Option ℕ) → p.fault ≡ o → (states_in settings p ≡ []) ⊎ ((r : RunStateView) × (states_in settings p ≡ states_from p.events r))
    by_fault None is = by_start is (start_of p.header.items settings) refl
    by_fault (Some line) is = inl (rw is refl)

first_of_run : StepsNote → (settings : Settings) (p : Parsed) (m : ℕ) (s : RunStateView) → slice_get (states_in settings p) m ≡ Some s
    → AreBefore s (take (suc m) (states_in settings p))
first_of_run law settings p m s h = go (begun settings p)
  where
    go : ((states_in settings p ≡ []) ⊎ ((r : RunStateView) × (states_in settings p ≡ states_from p.events r))) → AreBefore s (take (suc m) (states_in settings p))
    go (inl none) = subst (λ (rs : List RunStateView). AreBefore s (take (suc m) rs)) (sym none) tt
    go (inr some) =
        subst (λ (rs : List RunStateView). AreBefore s (take (suc m) rs)) (sym some.1)
        (come_before law p.events m some.0 s (subst (λ (rs : List RunStateView). slice_get rs m ≡ Some s) some.1 h)).1

unmapped : (settings : Settings) (s : RunStateView) (rs : List RunStateView) → AreBefore s (map (run_with_settings settings) rs) → AreBefore s rs
unmapped settings s [] h = tt
unmapped settings s (r ∷ rs) h = (h.0, unmapped settings s rs h.1)

-- the first states that a run kept, up to one of them
pub kept_before_last : StepsNote → (text : List (List ℕ)) (settings : Settings) (q : ℕ) (s : RunStateView) (checkpoints : List RunStateView)
    → slice_get (states_of text settings) (4 * q + 3) ≡ Some (run_with_settings settings s)
    → map (run_with_settings settings) checkpoints ≡ take (suc q) (every_fourth 3 (states_of text settings))
    → AreBefore s checkpoints
kept_before_last law text settings q s checkpoints found are =
    unmapped settings s checkpoints
    (subst (AreBefore s) (sym (are ∙ fourths_take 3 q (4 * q + 3) (states_of text settings) refl))
    (all_fourths (λ (t : RunStateView). Includes (consulted_settings_of s) (consulted_settings_of t)) 3 (take (suc (4 * q + 3)) (states_of text settings))
    (first_of_run law settings (script_of text) (4 * q + 3) (run_with_settings settings s) found)))

-- where other settings agree on what was consulted up to the last of them, what is held in all of them agrees with those too
pub held_too : (old new : Settings) (s : RunStateView) (checkpoints : List RunStateView) → AreBefore s checkpoints → Agree (consulted_settings_of s) old new → AgreeWhereConsulted old checkpoints → AgreeWhereConsulted new checkpoints
held_too old new s checkpoints before agree held =
    all_both (λ (t : RunStateView). Includes (consulted_settings_of s) (consulted_settings_of t)) (λ (t : RunStateView). Agree (consulted_settings_of t) old t.host.state.settings)
    (λ (t : RunStateView). Agree (consulted_settings_of t) new t.host.state.settings) checkpoints
    (λ t includes holds. agree_across (consulted_settings_of t) old new t.host.state.settings (agree_on_fewer (consulted_settings_of s) (consulted_settings_of t) old new includes agree) holds)
    before held

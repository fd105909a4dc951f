-- A run of a script, its verdict, and the states on its way.
use Rattle.std.specs.Prelude.{◌≡◌, ℕ, ◌+◌, false, Option, Some, None, is_none, List, [], ◌∷◌, find, Result, Ok, Err}
use Rattle.std.specs.List.{filter_map, last_or}
use Rattle.pd_settings.specs.declared.settings.Settings.{Settings}
use Rattle.pd_script.specs.Script.{script_of}
use Rattle.pd_script.specs.declared.parsed.Parsed.{Parsed}
use Rattle.pd_script.specs.declared.script_events.Event.{Event}
use Rattle.pd_script.specs.declared.script_header.HeaderItem.{HeaderItem}
use Rattle.pd_script.specs.declared.script_header.HeaderKind.{HeaderKind}
use Rattle.pd_script.specs.declared.script_header.HeaderKind.TheVariants.{Tolerance}
use Rattle.pd_host.specs.Host.{fresh_host}
use Rattle.pd_run.specs.Step.{RunStateView, on_step, step}
use Rattle.pd_run.specs.declared.verdict.Verdict.{Verdict}
use Rattle.pd_run.specs.declared.verdict.Verdict.TheVariants.{Pass, Syntax, Unsupported}

-- the microseconds of a valid `--tolerance_usecs`
abbrev pub tolerance_written : HeaderKind → Option ℕ
tolerance_written (Tolerance t) = Some t
tolerance_written _ = None

-- the same of a header item
abbrev pub tolerance_in : HeaderItem → Option ℕ
tolerance_in item = tolerance_written item.kind

-- the state before the first event: a fresh host, and the last tolerance of the header. The first header item that is no
-- valid tolerance isn't run
abbrev pub start_of : List HeaderItem → Settings → Result RunStateView Verdict
start_of header settings = started (find (λ item. is_none (tolerance_in item)) header)
  where
    started : Option HeaderItem → Result RunStateView Verdict
    started (Some item) = Err (Unsupported item.line)
    started None = Ok (record {
      host = fresh_host settings;
      clock = 0;
      base = 0;
      header_tolerance = last_or None (filter_map tolerance_in header);
      used_tolerance = false;
    })

-- a fresh host at the beginning of a run whose header sets this tolerance
abbrev pub fresh_run : Option ℕ → Settings → RunStateView
fresh_run header_tolerance settings = record { host = fresh_host settings; clock = 0; base = 0; header_tolerance = header_tolerance; used_tolerance = false }

-- the result of a header for its run under any settings: the tolerance that it sets, or the verdict of the item that isn't run
abbrev pub LetsBegin : List HeaderItem → Result (Option ℕ) Verdict → Type 0
LetsBegin header (Ok header_tolerance) = (settings : Settings) → start_of header settings ≡ Ok (fresh_run header_tolerance settings)
LetsBegin header (Err verdict) = (settings : Settings) → start_of header settings ≡ Err verdict

-- the states after one, two, .. events, up to the stop
abbrev pub states_from : List Event → RunStateView → List RunStateView
states_from [] r = []
states_from (e ∷ es) r = on_step (λ s. s ∷ states_from es s) (λ v. []) (step r e)

-- the verdict of the events that are left, after n events
abbrev pub verdict_from : ℕ → List Event → RunStateView → Verdict
verdict_from n [] r = Pass n
verdict_from n (e ∷ es) r = on_step (verdict_from (n + 1) es) (λ v. v) (step r e)

-- the number of events up to the stop, the stop's included
abbrev pub stepped_from : List Event → RunStateView → ℕ
stepped_from [] r = 0
stepped_from (e ∷ es) r = 1 + on_step (stepped_from es) (λ v. 0) (step r e)

-- the verdict of a script that was read: a refused text is a syntax fault at its line and takes no steps
abbrev pub on_script : {A : Type 0} → (ℕ → A) → (Verdict → A) → (RunStateView → A) → Settings → Parsed → A
on_script {A} refused stopped run settings parsed = on_fault parsed.fault
  where
    on_start : Result RunStateView Verdict → A
    on_start (Ok r) = run r
    on_start (Err v) = stopped v

    on_fault : Option ℕ → A
    on_fault (Some line) = refused line
    on_fault None = on_start (start_of parsed.header.items settings)

-- the verdict of a script that was read, run from its first event on a fresh host
abbrev pub verdict_in : Settings → Parsed → Verdict
verdict_in settings parsed = on_script (λ line. Syntax line) (λ v. v) (verdict_from 0 parsed.events) settings parsed

-- the number of events that its run takes, the stop's included
abbrev pub stepped_in : Settings → Parsed → ℕ
stepped_in settings parsed = on_script (λ line. 0) (λ v. 0) (stepped_from parsed.events) settings parsed

-- the states after them, up to the stop
abbrev pub states_in : Settings → Parsed → List RunStateView
states_in settings parsed = on_script (λ line. []) (λ v. []) (states_from parsed.events) settings parsed

-- the verdict of a text under settings, run from its first event on a fresh host
abbrev pub verdict_of : List (List ℕ) → Settings → Verdict
verdict_of text settings = verdict_in settings (script_of text)

-- how many events its run takes, the stop's included
abbrev pub stepped_of : List (List ℕ) → Settings → ℕ
stepped_of text settings = stepped_in settings (script_of text)

-- the states after its events, up to the stop
abbrev pub states_of : List (List ℕ) → Settings → List RunStateView
states_of text settings = states_in settings (script_of text)

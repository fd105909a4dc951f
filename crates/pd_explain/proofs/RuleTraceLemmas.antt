-- The lines on the rules that events come to, event by event, and names that stand once.
use Rattle.std.proofs.Common.{◌≡◌, ℕ, zero, suc, ◌+◌, ◌-◌, ◌<◌, ◌≤◌, ◌||◌, Bool, List, [], ◌∷◌, ◌++◌, length, map, drop, take, fold, slice_get, bytes_eq, Bor, Option, Some, option_map, Ok, Err, refl, sym, ap, ◌∙◌, append-nil, arith}
use Rattle.std.specs.List.{list_any}
use Rattle.std.proofs.lemmas.Grind.{flat_map-append}
use Rattle.std.proofs.lemmas.List.{take_more, map-append}
use Rattle.std.proofs.lemmas.List.Sums.{fold-append}
use Rattle.std.proofs.lemmas.Option.{slice_get_within, slice_get_past, slice_get-map, get_or_from_slice_get}
use Rattle.pd_script.specs.declared.script_events.Event.{Event}
use Rattle.pd_seg.specs.declared.segments.Sent.{Sent}
use Rattle.pd_seg.specs.declared.send_rule.SendRule.{SendRule}
use Rattle.pd_run.specs.Step.{RunStateView, on_step, step}
use Rattle.pd_run.specs.declared.verdict.Verdict.{Verdict}
use Rattle.pd_explain.specs.Inner.{names_of, unmatched_rules_from}
use Rattle.pd_explain.specs.RuleNames.{as_list, each_once, is_named, with_name}
use Rattle.pd_explain.specs.RuleSegments.{segment_name, segment_names}
use Rattle.pd_explain.specs.RuleTrace.{rule_line, rule_lines_from, rules_of_event}
use Rattle.pd_explain.specs.SendRules.{send_rule_name}

-- a name is among those that are lent where it is among their values
pub named_among : (names : List (Bor (List ℕ))) (name : List ℕ) → list_any (λ (each : Bor (List ℕ)). bytes_eq each.now name) names ≡ is_named (names_of names) name
named_among [] name = refl
named_among (each ∷ names) name = ap (λ (b : Bool). bytes_eq each.now name || b) (named_among names name)

slice_get_drop : {A : Type 0} → (n m : ℕ) (xs : List A) → slice_get (drop n xs) m ≡ slice_get xs (n + m)
slice_get_drop zero m xs = let same : m ≡ 0 + m = omega arith in ap (λ (k : ℕ). slice_get xs k) same
slice_get_drop (suc n) m [] = slice_get_past [] m (omega arith) ∙ sym (slice_get_past [] (suc n + m) (omega arith))
slice_get_drop (suc n) m (x ∷ xs) =
    let same : suc (n + m) ≡ suc n + m = omega arith in
    slice_get_drop n m xs ∙ ap (λ (k : ℕ). slice_get (x ∷ xs) k) same

-- the rule of one packet more
pub rule_noted : (from place : ℕ) (packets : List Sent) (sent : Sent) (old before new : List (List ℕ)) → from ≤ place → slice_get packets place ≡ Some sent
    → before ≡ fold with_name old (map send_rule_name (take (place - from) (unmatched_rules_from from packets)))
    → new ≡ with_name before (send_rule_name sent.rule)
    → new ≡ fold with_name old (map send_rule_name (take (place + 1 - from) (unmatched_rules_from from packets)))
rule_noted from place packets sent old before new le there h e =
    let n : ℕ = place - from in
    let rules : List SendRule = unmatched_rules_from from packets in
    let next : place + 1 - from ≡ n + 1 = omega (arith, le) in
    let here : from + n ≡ place = omega (arith, le) in
    let at : slice_get rules n ≡ Some sent.rule =
    slice_get-map (λ (s : Sent). s.rule) (drop from packets) n
    ∙ ap (λ (o : Option Sent). option_map (λ (s : Sent). s.rule) o) (slice_get_drop from n packets ∙ (ap (λ (k : ℕ). slice_get packets k) here ∙ there)) in
    let within : n < length rules = slice_get_within rules n sent.rule at in
    let more : take (n + 1) rules ≡ take n rules ++ sent.rule ∷ [] =
    take_more rules n sent.rule within ∙ ap (λ (y : SendRule). take n rules ++ y ∷ []) (get_or_from_slice_get rules n sent.rule sent.rule at) in
    let all : fold with_name old (map send_rule_name (take (place + 1 - from) rules)) ≡ with_name (fold with_name old (map send_rule_name (take n rules))) (send_rule_name sent.rule) =
    ap (λ (k : ℕ). fold with_name old (map send_rule_name (take k rules))) next
    ∙ (ap (λ (l : List SendRule). fold with_name old (map send_rule_name l)) more
    ∙ (ap (λ (l : List (List ℕ)). fold with_name old l) (map-append send_rule_name (take n rules) (sent.rule ∷ []))
    ∙ fold-append with_name old (map send_rule_name (take n rules)) (send_rule_name sent.rule ∷ []))) in
    e ∙ (ap (λ (b : List (List ℕ)). with_name b (send_rule_name sent.rule)) h ∙ sym all)

-- the name of the segment of one packet more, if it has one
pub segment_noted : (smss from place : ℕ) (packets : List Sent) (sent : Sent) (old before new : List (List ℕ)) → from ≤ place → slice_get packets place ≡ Some sent
    → before ≡ fold with_name old (segment_names smss (take (place - from) (drop from packets)))
    → new ≡ fold with_name before (as_list (segment_name smss sent.segment))
    → new ≡ fold with_name old (segment_names smss (take (place + 1 - from) (drop from packets)))
segment_noted smss from place packets sent old before new le there h e =
    let n : ℕ = place - from in
    let put : List Sent = drop from packets in
    let next : place + 1 - from ≡ n + 1 = omega (arith, le) in
    let here : from + n ≡ place = omega (arith, le) in
    let at : slice_get put n ≡ Some sent = slice_get_drop from n packets ∙ (ap (λ (k : ℕ). slice_get packets k) here ∙ there) in
    let within : n < length put = slice_get_within put n sent at in
    let more : take (n + 1) put ≡ take n put ++ sent ∷ [] =
    take_more put n sent within ∙ ap (λ (y : Sent). take n put ++ y ∷ []) (get_or_from_slice_get put n sent sent at) in
    let names : List (List ℕ) = as_list (segment_name smss sent.segment) in
    let all : fold with_name old (segment_names smss (take (place + 1 - from) put)) ≡ fold with_name (fold with_name old (segment_names smss (take n put))) names =
    ap (λ (k : ℕ). fold with_name old (segment_names smss (take k put))) next
    ∙ (ap (λ (l : List Sent). fold with_name old (segment_names smss l)) more
    ∙ (ap (λ (l : List (List ℕ)). fold with_name old l) (flat_map-append (λ (s : Sent). as_list (segment_name smss s.segment)) (take n put) (sent ∷ []))
    ∙ (fold-append with_name old (segment_names smss (take n put)) (names ++ [])
    ∙ ap (λ (l : List (List ℕ)). fold with_name (fold with_name old (segment_names smss (take n put))) l) (append-nil names)))) in
    e ∙ (ap (λ (b : List (List ℕ)). fold with_name b names) h ∙ sym all)

-- the line of an event that passes, and those of the others
pub lines_after : (of : List ℕ) (es rest : List Event) (r s : RunStateView) (e : Event) → es ≡ e ∷ rest → step r e ≡ Ok s
    → rule_lines_from of es r ≡ rule_line of e.line (each_once (rules_of_event r e s)) ++ rule_lines_from of rest s
lines_after of es rest r s e split h =
    ap (λ (l : List Event). rule_lines_from of l r) split
    ∙ ap (on_step (λ (t : RunStateView). rule_line of e.line (each_once (rules_of_event r e t)) ++ rule_lines_from of rest t) (λ (v : Verdict). [])) h

-- none from a stop on
pub none_after : (of : List ℕ) (es rest : List Event) (r : RunStateView) (e : Event) (v : Verdict) → es ≡ e ∷ rest → step r e ≡ Err v → rule_lines_from of es r ≡ []
none_after of es rest r e v split h =
    ap (λ (l : List Event). rule_lines_from of l r) split
    ∙ ap (on_step (λ (t : RunStateView). rule_line of e.line (each_once (rules_of_event r e t)) ++ rule_lines_from of rest t) (λ (v : Verdict). [])) h

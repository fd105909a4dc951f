use Rattle.std.proofs.Common.{codes, ap, refl, List, ℕ, Bor, ◌∙◌}
use Rattle.pd_protocol.specs.OptionTable.{pdregress, worker_count_or_zero, cache_size_in_range_or_64}
use Rattle.pd_protocol.proofs.SettingsText.{simple_pdregress, chosen_text}
use Rattle.pd_protocol.proofs.parse_options.chosen_options.Goals as goal

pub returns-clause-chosen_options : goal.returns-clause-chosen_options
returns-clause-chosen_options c = λ words matched.
    let text = λ (id : List ℕ). chosen_text pdregress id c.args.matches.now words simple_pdregress matched in
    let settings = ap (λ (b : Bor (List ℕ)). b.now) c.unwrap_or.ensures ∙ text (codes "settings") c.get_str.result _ c.get_str.ensures refl in
    let workers = ap (λ (b : Bor (List ℕ)). b.now) c.unwrap_or-2.ensures ∙ text (codes "workers") c.get_str-2.result _ c.get_str-2.ensures refl in
    let cache = ap (λ (b : Bor (List ℕ)). b.now) c.unwrap_or-3.ensures ∙ text (codes "cache") c.get_str-3.result _ c.get_str-3.ensures refl in (
      settings,
      c.worker_count_or_zero.ensures.count ∙ ap worker_count_or_zero (c.as_bytes.ensures.value ∙ workers),
      c.cache_size_in_range_or_64.ensures.size ∙ ap cache_size_in_range_or_64 (c.as_bytes-2.ensures.value ∙ cache),
      rw (c.has_flag.ensures words matched, c.has_flag-2.ensures words matched, c.in_ok-explain.ensures words matched) refl,
    )

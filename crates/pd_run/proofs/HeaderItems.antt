-- A header item that is a valid tolerance is passed over, and is the last one so far.
use Rattle.std.proofs.Common.{◌≡◌, ℕ, ◌+◌, ◌<◌, Option, Some, is_none, List, ◌∷◌, length, get_or, drop, find, refl, ap, sym, ◌∙◌}
use Rattle.std.proofs.lemmas.List.{drop_more}
use Rattle.std.specs.List.{filter_map, last_or, cons_option}
use Rattle.pd_script.specs.declared.script_header.HeaderItem.{HeaderItem}
use Rattle.pd_script.specs.declared.script_header.HeaderKind.TheVariants.{Tolerance}
use Rattle.pd_run.specs.Run.{tolerance_written, tolerance_in}

abbrev pub first_refused : List HeaderItem → Option HeaderItem
first_refused items = find (λ item. is_none (tolerance_in item)) items

abbrev pub last_written : Option ℕ → List HeaderItem → Option ℕ
last_written t items = last_or t (filter_map tolerance_in items)

passed_over : (item : HeaderItem) (rest : List HeaderItem) (m : ℕ) → tolerance_in item ≡ Some m → first_refused (item ∷ rest) ≡ first_refused rest
passed_over item rest m is = rw is refl

header_tolerance : (item : HeaderItem) (rest : List HeaderItem) (t : Option ℕ) (m : ℕ) → tolerance_in item ≡ Some m → last_written t (item ∷ rest) ≡ last_written (Some m) rest
header_tolerance item rest t m is = ap (λ (o : Option ℕ). last_or t (cons_option o (filter_map tolerance_in rest))) is

pub one_more_item : (items : List HeaderItem) (i m : ℕ) (t whole : Option ℕ) (d : HeaderItem) (first : Option HeaderItem)
    → i < length items → (get_or items i d).kind ≡ Tolerance m
    → first_refused (drop i items) ≡ first → last_written t (drop i items) ≡ whole
    → (first_refused (drop (i + 1) items) ≡ first) × (last_written (Some m) (drop (i + 1) items) ≡ whole)
one_more_item items i m t whole d first within kind refused last =
    let split : drop i items ≡ get_or items i d ∷ drop (i + 1) items = drop_more items i d within in
    let is : tolerance_in (get_or items i d) ≡ Some m = ap tolerance_written kind in
    let over : first_refused (get_or items i d ∷ drop (i + 1) items) ≡ first_refused (drop (i + 1) items) = passed_over (get_or items i d) (drop (i + 1) items) m is in
    let next : last_written t (get_or items i d ∷ drop (i + 1) items) ≡ last_written (Some m) (drop (i + 1) items) = header_tolerance (get_or items i d) (drop (i + 1) items) t m is in
    (sym over ∙ (sym (ap first_refused split) ∙ refused), sym next ∙ (sym (ap (last_written t) split) ∙ last))

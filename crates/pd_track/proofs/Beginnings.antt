-- A run after a track begins at the last place where it may.
use Rattle.std.proofs.Common.{◌≡◌, ℕ, ◌%◌, ◌≤◌, ◌==◌, ◌&&◌, Bool, true, false, nat_le, refl, sym, subst, arith, ◌⊎◌, inl, inr, List}
use Rattle.std.proofs.lemmas.Bool.Decides.{nat_tests}
use Rattle.pd_settings.specs.SettingSets.{agrees}
use Rattle.pd_settings.specs.declared.settings.Settings.{Settings}
use Rattle.pd_settings.proofs.Agreements.{agrees_is}
use Rattle.pd_track.specs.Laws.{MayBegin, RunsBeginLast}
use Rattle.pd_track.specs.Reuse.{TrackView, greatest, is_usable, consulted_settings, kept, reached}
use Rattle.pd_track.proofs.Greatest.{greatest_within, greatest_passes, greatest_last}

all_three : (a b c : Bool) → ((a && b) && c) ≡ true → (a ≡ true) × (b ≡ true) × (c ≡ true)
all_three true true true h = (refl, refl, refl)
all_three true true false h = absurd cc
all_three true false c h = absurd cc
all_three false b c h = absurd cc

three : (a b c : Bool) → a ≡ true → b ≡ true → c ≡ true → ((a && b) && c) ≡ true
three true true true h k l = refl
three true true false h k l = absurd cc
three true false c h k l = absurd cc
three false b c h k l = absurd cc

module _ (track : TrackView) (text : List (List ℕ)) (settings : Settings) where
  serving_may : (n : ℕ) → n ≤ kept track.text text → is_usable track settings n ≡ true → MayBegin track text settings n
  serving_may n le h =
      let each = all_three (n % 4 == 0) (nat_le n (reached track.text track.settings)) (agrees (consulted_settings track n) track.settings settings) h in
      record {
        fourth = (let e : (n % 4 == 0) ≡ true = each.0 in grind (arith, nat_tests));
        passed = (let e : nat_le n (reached track.text track.settings) ≡ true = each.1 in grind (arith, nat_tests));
        decided = le;
        agree = (agrees_is (consulted_settings track n) track.settings settings).0 each.2;
      }

  first_may : (n : ℕ) → n ≡ 0 → MayBegin track text settings n
  first_may n is = subst (MayBegin track text settings) (sym is) (record {
    fourth = refl;
    passed = omega arith;
    decided = omega arith;
    agree = (agrees_is (consulted_settings track 0) track.settings settings).0 refl;
  })

  may_serves : (n : ℕ) → MayBegin track text settings n → is_usable track settings n ≡ true
  may_serves n may =
      three (n % 4 == 0) (nat_le n (reached track.text track.settings)) (agrees (consulted_settings track n) track.settings settings)
      (let e : n % 4 ≡ 0 = may.fourth in grind (arith, nat_tests))
      (let e : n ≤ reached track.text track.settings = may.passed in grind (arith, nat_tests))
      ((agrees_is (consulted_settings track n) track.settings settings).1 may.agree)

  begins : ((greatest (is_usable track settings) (kept track.text text) ≡ 0) ⊎ (is_usable track settings (greatest (is_usable track settings) (kept track.text text)) ≡ true))
      → MayBegin track text settings (greatest (is_usable track settings) (kept track.text text))
  begins (inl none) = first_may (greatest (is_usable track settings) (kept track.text text)) none
  begins (inr some) =
      serving_may (greatest (is_usable track settings) (kept track.text text)) (greatest_within (is_usable track settings) (kept track.text text)) some

pub runs_begin_last : RunsBeginLast
runs_begin_last track text settings = record {
  there = begins track text settings (greatest_passes (is_usable track settings) (kept track.text text));
  last = λ others may. greatest_last (is_usable track settings) (kept track.text text) others may.decided (may_serves track text settings others may);
}

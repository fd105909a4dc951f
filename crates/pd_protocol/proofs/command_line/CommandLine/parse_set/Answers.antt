use Rattle.std.proofs.Common.{arith, rules, ◌≡◌, ℕ, ◌<◌, ◌≤◌, length, List, [], ◌∷◌, Bor, map, refl}
use Rattle.pd_protocol.specs.CommandLines.{sets}
use Rattle.pd_protocol.specs.declared.command_line.CommandLine.TheVariants.{Bad}
use Rattle.pd_protocol.proofs.command_line.CommandLine.parse_set.Goals as goal
use Rattle.pd_protocol.proofs.command_line.CommandLine.parse_set.Goals.{in_default-via-then-words-lt2, in_default-via-else-words-lt2+else-words-lt3}

few : (words : List (Bor (List ℕ))) → length words < 2 → Bad ≡ sets (map (λ w. w.now) words)
few [] h = refl
few (word ∷ []) h = refl
few (key ∷ value ∷ words) h = absurd (omega (arith, h))

more : (words : List (Bor (List ℕ))) → 3 ≤ length words → Bad ≡ sets (map (λ w. w.now) words)
more [] h = refl
more (word ∷ []) h = refl
more (key ∷ value ∷ []) h = absurd (omega (arith, h))
more (key ∷ value ∷ word ∷ words) h = refl

pub returns-in_default : goal.returns-in_default
returns-in_default c = elim c.in_default.branch [
  | in_default-via-then-words-lt2 w ↦ few c.args.words.now (search rules)
  | in_default-via-else-words-lt2+else-words-lt3 w ↦ more c.args.words.now (search rules)
]

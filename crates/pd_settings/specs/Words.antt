-- The words that a setting can be set to.
use Rattle.std.specs.Prelude.{codes, ℕ, List, [], ◌∷◌, Option, Some, None, find}
use Rattle.std.specs.Str.{bytes_eq}
use Rattle.pd_settings.specs.declared.initial_window.InitialWindow.{InitialWindow}
use Rattle.pd_settings.specs.declared.initial_window.InitialWindow.TheVariants.{Rfc5681, Rfc6928}
use Rattle.pd_settings.specs.declared.recovery_algorithm.RecoveryAlgorithm.{RecoveryAlgorithm}
use Rattle.pd_settings.specs.declared.recovery_algorithm.RecoveryAlgorithm.TheVariants.{Rfc6675, Rfc9937}
use Rattle.pd_settings.specs.declared.values.Value.{Value}
use Rattle.pd_settings.specs.declared.values.Value.TheVariants.{WindowRule, Algorithm, Other}

-- the word that a rule for the initial window is written by
abbrev pub window_word : InitialWindow → List ℕ
window_word Rfc5681 = codes "rfc5681"
window_word Rfc6928 = codes "rfc6928"

-- the rule of a word
abbrev pub window_named : List ℕ → Option InitialWindow
window_named word = find (λ window. bytes_eq (window_word window) word) (Rfc5681 ∷ Rfc6928 ∷ [])

-- the word that a rule for the rate of loss recovery is written by
abbrev pub algorithm_word : RecoveryAlgorithm → List ℕ
algorithm_word Rfc6675 = codes "rfc6675"
algorithm_word Rfc9937 = codes "rfc9937"

-- the rule of a word
abbrev pub algorithm_named : List ℕ → Option RecoveryAlgorithm
algorithm_named word = find (λ algorithm. bytes_eq (algorithm_word algorithm) word) (Rfc6675 ∷ Rfc9937 ∷ [])

-- the value of such a rule; a word that no setting takes is neither
abbrev pub algorithm_value : Option RecoveryAlgorithm → Value
algorithm_value None = Other
algorithm_value (Some algorithm) = Algorithm algorithm

-- the value of a word that is no rule for the initial window
abbrev pub algorithm_word_value : List ℕ → Value
algorithm_word_value word = algorithm_value (algorithm_named word)

-- the value of a rule for the initial window, and of another word
abbrev pub window_value : Value → Option InitialWindow → Value
window_value otherwise None = otherwise
window_value otherwise (Some window) = WindowRule window

-- the value of a word
abbrev pub word_value : List ℕ → Value
word_value word = window_value (algorithm_word_value word) (window_named word)

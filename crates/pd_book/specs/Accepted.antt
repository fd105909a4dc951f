-- Which acts may come after a legal history: exactly those of calls that aren't refused.
use Rattle.std.specs.Prelude.{◌≡◌, ◌↔◌, ℕ, List, ◌∷◌, Some, None, IsSome}
use Rattle.pd_text.specs.Text.{AreLines, IsText}
use Rattle.pd_text.specs.declared.line_edit.LineEdit.{LineEdit}
use Rattle.pd_settings.specs.Keys.{key_named}
use Rattle.pd_settings.specs.declared.keys.Key.{Key}
use Rattle.pd_settings.specs.declared.values.Value.{Value}
use Rattle.pd_book.specs.declared.act.Act.{Act}
use Rattle.pd_book.specs.declared.act.Act.TheVariants.{Add, Edit, Remove, Set, Start, Finish, Abandon}
use Rattle.pd_book.specs.declared.act.Ruling.{Ruling}
use Rattle.pd_track.specs.declared.task.Task.{Task}
use Rattle.pd_book.specs.Acts.{job, ruling}
use Rattle.pd_book.specs.Legal.{Legal}
use Rattle.pd_book.specs.History.{History}
use Rattle.pd_book.specs.Refusals.{add_refusal, edit_refusal, remove_refusal, set_refusal, next_job, start_refusal}

-- the history with this act is legal
abbrev pub IsLegalWith : History → Act → Type 0
IsLegalWith history act = Legal history.opening (act ∷ history.past)

-- an add of a text that isn't refused
abbrev pub AddsAreLegal : History → Type 0
AddsAreLegal history =
    (name : List ℕ) → (text : List (List ℕ)) → IsText text → add_refusal history name ≡ None → Legal history.opening (Add name text ∷ history.past)

-- an edit that inserts lines and isn't refused
abbrev pub EditsAreLegal : History → Type 0
EditsAreLegal history =
    (name : List ℕ) → (edit : LineEdit) → AreLines edit.insert → edit_refusal history name edit ≡ None → Legal history.opening (Edit name edit ∷ history.past)

-- a remove that isn't refused
abbrev pub RemovesAreLegal : History → Type 0
RemovesAreLegal history = (name : List ℕ) → remove_refusal history name ≡ None → Legal history.opening (Remove name ∷ history.past)

-- a set that isn't refused
abbrev pub SetsAreLegal : History → Type 0
SetsAreLegal history =
    (name : List ℕ) → (key : Key) → (value : Value) → key_named name ≡ Some key → set_refusal history name value ≡ None
    → Legal history.opening (Set key value ∷ history.past)

-- a legal add gives a text and isn't refused
abbrev pub LegalAddsAreAccepted : History → Type 0
LegalAddsAreAccepted history =
    (name : List ℕ) → (text : List (List ℕ)) → IsLegalWith history (Add name text) → IsText text × (add_refusal history name ≡ None)

-- a legal edit inserts lines and isn't refused
abbrev pub LegalEditsAreAccepted : History → Type 0
LegalEditsAreAccepted history =
    (name : List ℕ) → (edit : LineEdit) → IsLegalWith history (Edit name edit) → AreLines edit.insert × (edit_refusal history name edit ≡ None)

-- a legal remove isn't refused
abbrev pub LegalRemovesAreAccepted : History → Type 0
LegalRemovesAreAccepted history = (name : List ℕ) → IsLegalWith history (Remove name) → remove_refusal history name ≡ None

-- a legal set isn't refused
abbrev pub LegalSetsAreAccepted : History → Type 0
LegalSetsAreAccepted history =
    (name : List ℕ) → (key : Key) → (value : Value) → key_named name ≡ Some key → IsLegalWith history (Set key value) → set_refusal history name value ≡ None

-- a start is legal exactly where it is that of the job which is handed out, and isn't refused
abbrev pub StartsAreLegal : History → Type 0
StartsAreLegal history =
    (number : ℕ) → (name : List ℕ)
    → IsLegalWith history (Start number name)
    ↔ ((task : Task) × (next_job history ≡ Some task) × (start_refusal history ≡ None) × (number ≡ task.number) × (name ≡ task.name))

-- a finish is exactly where its job is outstanding and this is the ruling
abbrev pub FinishesAreLegal : History → Type 0
FinishesAreLegal history =
    (number : ℕ) → (ruled : Ruling)
    → IsLegalWith history (Finish number ruled) ↔ ((task : Task) × (job history.opening history.past number ≡ Some task) × (ruled ≡ ruling history.past task))

-- an abandonment is exactly where its job is outstanding
abbrev pub AbandonsAreLegal : History → Type 0
AbandonsAreLegal history = (number : ℕ) → IsLegalWith history (Abandon number) ↔ IsSome (job history.opening history.past number)

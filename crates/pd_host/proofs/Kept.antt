-- Properties of all that comes of a rule, and of a repetition.
use Rattle.std.proofs.Common.{◌≡◌, ℕ, zero, suc, Bool, true, false, if◌then◌else◌, Option, Some, None, Result, Ok, Err, refl, subst}
use Rattle.std.specs.Prelude.{is_some}
use Rattle.pd_host.specs.Host.{then_on}
use Rattle.pd_host.specs.Sending.{repeated, on_found}
use Rattle.pd_host.specs.declared.halts.Halt.{Halt}
use Rattle.pd_host.specs.declared.halts.Halt.TheVariants.{Limit}

-- what holds of both branches holds of the choice
pub by_test : {A : Type 0} (P : A → Type 0) (b : Bool) (x y : A) → (b ≡ true → P x) → (b ≡ false → P y) → P (if b then x else y)
by_test P true x y then_holds else_holds = then_holds refl
by_test P false x y then_holds else_holds = else_holds refl

-- it holds of the state that came, if one did
abbrev pub Comes : {S : Type 0} → (S → Type 0) → Result S Halt → Type 0
Comes P (Ok s) = P s
Comes P (Err halt) = Unit {0}

pub came : {S : Type 0} (P : S → Type 0) (r : Result S Halt) (t : S) → Comes P r → r ≡ Ok t → P t
came P r t h e = subst (Comes P) e h

pub comes_more : {S : Type 0} (P Q : S → Type 0) → ((s : S) → P s → Q s) → (r : Result S Halt) → Comes P r → Comes Q r
comes_more P Q more (Ok s) h = more s h
comes_more P Q more (Err halt) h = tt

pub comes_then : {A B : Type 0} (P : A → Type 0) (Q : B → Type 0) (next : A → Result B Halt)
    → ((a : A) → P a → Comes Q (next a))
    → (r : Result A Halt) → Comes P r → Comes Q (then_on next r)
comes_then P Q next go (Ok a) h = go a h
comes_then P Q next go (Err halt) h = tt

pub nothing_found : {X : Type 0} (o : Option X) → is_some o ≡ false → o ≡ None
nothing_found None e = refl
nothing_found (Some x) e = absurd cc

-- it holds where a repetition ends, and nothing more is found there
abbrev pub AtEnd : {S X : Type 0} → (S → Type 0) → (S → Option X) → S → Type 0
AtEnd P find s = P s × (find s ≡ None)

next_keeps : {S X : Type 0} (P : S → Type 0) (find : S → Option X) (act : X → S → S) (rest : S → Result S Halt)
    → ((s : S) (x : X) → P s → find s ≡ Some x → P (act x s))
    → ((s : S) → P s → Comes (AtEnd P find) (rest s))
    → (s : S) → P s → (o : Option X) → find s ≡ o → Comes (AtEnd P find) (on_found rest act s o)
next_keeps P find act rest step go s h None e = (h, e)
next_keeps P find act rest step go s h (Some x) e = go (act x s) (step s x h e)

-- what each step keeps holds at the end
pub repeated_keeps : {S X : Type 0} (P : S → Type 0) (find : S → Option X) (act : X → S → S)
    → ((s : S) (x : X) → P s → find s ≡ Some x → P (act x s))
    → (n : ℕ) (s : S) → P s → Comes (AtEnd P find) (repeated find act n s)
repeated_keeps P find act step zero s h =
    by_test (Comes (AtEnd P find)) (is_some (find s)) (Err Limit) (Ok s) (λ _. tt) (λ e. (h, nothing_found (find s) e))
repeated_keeps P find act step (suc n) s h =
    next_keeps P find act (repeated find act n) step (λ u hu. repeated_keeps P find act step n u hu) s h (find s) refl

pub repeated_holds : {S X : Type 0} (P : S → Type 0) (find : S → Option X) (act : X → S → S)
    → ((s : S) (x : X) → P s → find s ≡ Some x → P (act x s))
    → (n : ℕ) (s : S) → P s → Comes P (repeated find act n s)
repeated_holds P find act step n s h =
    comes_more (AtEnd P find) P (λ t end_reason. end_reason.0) (repeated find act n s) (repeated_keeps P find act step n s h)

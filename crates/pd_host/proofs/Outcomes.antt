-- Properties of a step that is repeated.
use Rattle.std.proofs.Common.{◌≡◌, ℕ, zero, suc, Bool, true, false, Option, None, Some, is_some, Result, Ok, Err, if◌then◌else◌, refl, ap, subst, ◌∙◌}
use Rattle.pd_host.specs.Host.{then_on}
use Rattle.pd_host.specs.Sending.{repeated, on_found}
use Rattle.pd_host.specs.declared.halts.Halt.{Halt}
use Rattle.pd_host.specs.declared.halts.Halt.TheVariants.{Limit}

-- what holds of the state that came, if one came
abbrev pub Leaves : {S : Type 0} → (S → Type 0) → Result S Halt → Type 0
Leaves P (Ok s) = P s
Leaves P (Err halt) = Unit {0}

pub came : {S : Type 0} (P : S → Type 0) (r : Result S Halt) (t : S) → r ≡ Ok t → Leaves P r → P t
came P r t h holds = subst (Leaves P) h holds

-- what follows from that holds too
pub leaves_too : {S : Type 0} (P Q : S → Type 0) (r : Result S Halt) → ((s : S) → P s → Q s) → Leaves P r → Leaves Q r
leaves_too P Q (Ok s) more holds = more s holds
leaves_too P Q (Err halt) more holds = tt

pub either : {S : Type 0} (P : S → Type 0) (b : Bool) (x y : Result S Halt) → Leaves P x → Leaves P y → Leaves P (if b then x else y)
either P true x y first second = first
either P false x y first second = second

pub then_leaves : {S U : Type 0} (P : S → Type 0) (Q : U → Type 0) (next : S → Result U Halt) (r : Result S Halt)
    → Leaves P r → ((s : S) → P s → Leaves Q (next s)) → Leaves Q (then_on next r)
then_leaves P Q next (Ok s) holds more = more s holds
then_leaves P Q next (Err halt) holds more = tt

-- Nothing more is found where all is done

-- an end, or too much
abbrev ends : {S : Type 0} → Bool → S → Result S Halt
ends more s = if more then Err Limit else Ok s

stopped : {S X : Type 0} (P : S → Type 0) (o : Option X) (s : S) → P s → Leaves P (ends (is_some o) s)
stopped P None s holds = holds
stopped P (Some x) s holds = tt

further : {S X : Type 0} (P : S → Type 0) (act : X → S → S) (rest : S → Result S Halt)
    → ((t : S) → P t → Leaves P (rest t))
    → (s : S) (o : Option X) → ((x : X) → o ≡ Some x → P (act x s)) → P s → Leaves P (on_found rest act s o)
further P act rest more s None step holds = holds
further P act rest more s (Some x) step holds = more (act x s) (step x refl)

-- what each act keeps holds at the end
pub kept : {S X : Type 0} (P : S → Type 0) (find : S → Option X) (act : X → S → S)
    → ((x : X) (s : S) → find s ≡ Some x → P s → P (act x s))
    → (n : ℕ) (s : S) → P s → Leaves P (repeated find act n s)
kept P find act step zero s holds = stopped P (find s) s holds
kept P find act step (suc n) s holds =
    further P act (repeated find act n) (kept P find act step n) s (find s) (λ x e. step x s e holds) holds

end_reason : {S X : Type 0} (find : S → Option X) (s : S) (o : Option X) → find s ≡ o → Leaves (λ t. find t ≡ None) (ends (is_some o) s)
end_reason find s None e = e
end_reason find s (Some x) e = tt

after : {S X : Type 0} (find : S → Option X) (act : X → S → S) (rest : S → Result S Halt)
    → ((t : S) → Leaves (λ u. find u ≡ None) (rest t))
    → (s : S) (o : Option X) → find s ≡ o → Leaves (λ u. find u ≡ None) (on_found rest act s o)
after find act rest more s None e = e
after find act rest more s (Some x) e = more (act x s)

-- at the end nothing is found
pub done : {S X : Type 0} (find : S → Option X) (act : X → S → S) (n : ℕ) (s : S) → Leaves (λ t. find t ≡ None) (repeated find act n s)
done find act zero s = end_reason find s (find s) refl
done find act (suc n) s = after find act (repeated find act n) (done find act n) s (find s) refl

-- The same from another state

-- what came, seen from there
abbrev pub mapped : {S U : Type 0} → (S → U) → Result S Halt → Result U Halt
mapped f (Ok s) = Ok (f s)
mapped f (Err halt) = Err halt

pub either_mapped : {S U : Type 0} (f : S → U) (b : Bool) (x y : Result S Halt) (v w : Result U Halt)
    → v ≡ mapped f x → w ≡ mapped f y → (if b then v else w) ≡ mapped f (if b then x else y)
either_mapped f true x y v w first second = first
either_mapped f false x y v w first second = second

pub then_mapped : {S U : Type 0} (f : S → S) (g : U → U) (next : S → Result U Halt) (r : Result S Halt)
    → ((s : S) → next (f s) ≡ mapped g (next s)) → then_on next (mapped f r) ≡ mapped g (then_on next r)
then_mapped f g next (Ok s) same = same s
then_mapped f g next (Err halt) same = refl

ended_alike : {S X : Type 0} (f : S → S) (s : S) (o : Option X)
    → ends (is_some o) (f s) ≡ mapped f (ends (is_some o) s)
ended_alike f s None = refl
ended_alike f s (Some x) = refl

further_alike : {S X : Type 0} (f : S → S) (act : X → S → S) (rest : S → Result S Halt)
    → ((x : X) (s : S) → act x (f s) ≡ f (act x s))
    → ((s : S) → rest (f s) ≡ mapped f (rest s))
    → (s : S) (o : Option X) → on_found rest act (f s) o ≡ mapped f (on_found rest act s o)
further_alike f act rest same more s None = refl
further_alike f act rest same more s (Some x) = ap rest (same x s) ∙ more (act x s)

-- where the same is found, and doing it comes to the same, all of it does
pub alike : {S X : Type 0} (f : S → S) (find : S → Option X) (act : X → S → S)
    → ((s : S) → find (f s) ≡ find s)
    → ((x : X) (s : S) → act x (f s) ≡ f (act x s))
    → (n : ℕ) (s : S) → repeated find act n (f s) ≡ mapped f (repeated find act n s)
alike f find act found same zero s =
    ap (λ o. ends (is_some o) (f s)) (found s) ∙ ended_alike f s (find s)
alike f find act found same (suc n) s =
    ap (on_found (repeated find act n) act (f s)) (found s)
    ∙ further_alike f act (repeated find act n) same (alike f find act found same n) s (find s)

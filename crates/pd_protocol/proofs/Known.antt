-- Properties of the octets to come, and of those written, where they are known.
use Rattle.std.proofs.Common.{ℕ, List, [], ◌++◌, Option, Some, None, IfSome, append_assoc, append-nil, ap, sym, ◌∙◌}
use Rattle.std.specs.Io.KnownBytes.{Appends}
use Rattle.pd_protocol.specs.Input.{IfKnown}

pub known_map : (P Q : List ℕ → List ℕ → Type 0) (old new : Option (List ℕ)) → ((o n : List ℕ) → P o n → Q o n) → IfKnown P old new → IfKnown Q old new
known_map P Q None new f h = tt
known_map P Q (Some o) None f h = h
known_map P Q (Some o) (Some n) f h = f o n h

pub known_then : (P Q S : List ℕ → List ℕ → Type 0) (a b c : Option (List ℕ)) → ((x y z : List ℕ) → P x y → Q y z → S x z) → IfKnown P a b → IfKnown Q b c → IfKnown S a c
known_then P Q S None b c f h k = tt
known_then P Q S (Some x) None c f h k = absurd h
known_then P Q S (Some x) (Some y) None f h k = absurd k
known_then P Q S (Some x) (Some y) (Some z) f h k = f x y z h k

pub known_same : (P : List ℕ → List ℕ → Type 0) (a : Option (List ℕ)) → ((x : List ℕ) → P x x) → IfKnown P a a
known_same P None f = tt
known_same P (Some x) f = f x

-- two calls in a row give a fact of what was to come before them
pub fact_then : (P Q : List ℕ → List ℕ → Type 0) (S : List ℕ → Type 0) (a b c : Option (List ℕ)) → ((x y z : List ℕ) → P x y → Q y z → S x) → IfKnown P a b → IfKnown Q b c → IfSome a S
fact_then P Q S None b c f h k = tt
fact_then P Q S (Some x) None c f h k = absurd h
fact_then P Q S (Some x) (Some y) None f h k = absurd k
fact_then P Q S (Some x) (Some y) (Some z) f h k = f x y z h k

-- a call and a fact of what is to come after it give a fact of what was to come before it
pub fact_before : (P : List ℕ → List ℕ → Type 0) (Q S : List ℕ → Type 0) (a b : Option (List ℕ)) → ((x y : List ℕ) → P x y → Q y → S x) → IfKnown P a b → IfSome b Q → IfSome a S
fact_before P Q S None b f h k = tt
fact_before P Q S (Some x) None f h k = absurd h
fact_before P Q S (Some x) (Some y) f h k = f x y h k

pub fact_always : (S : List ℕ → Type 0) (a : Option (List ℕ)) → ((x : List ℕ) → S x) → IfSome a S
fact_always S None f = tt
fact_always S (Some x) f = f x

pub appends_then : (a b c : Option (List ℕ)) (x y : List ℕ) → Appends a b x → Appends b c y → Appends a c (x ++ y)
appends_then None b c x y h k = tt
appends_then (Some p) None c x y h k = absurd h
appends_then (Some p) (Some q) None x y h k = absurd k
appends_then (Some p) (Some q) (Some r) x y h k = k ∙ (ap (λ (w : List ℕ). w ++ y) h ∙ append_assoc p x y)

-- nothing was written
pub appends_none : (w : Option (List ℕ)) → Appends w w []
appends_none None = tt
appends_none (Some octets) = sym (append-nil octets)

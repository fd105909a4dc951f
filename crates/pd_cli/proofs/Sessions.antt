-- A session, step by step.
use Rattle.std.proofs.Common.{◌≡◌, inl, inr, ℕ, Bool, List, [], ◌∷◌, ◌++◌, Option, Some, None, Result, Ok, Err, refl, sym, ap, subst, ◌∙◌, append_assoc, append-nil, IfSome, IfErr, IsErrAnd, OnOk, OnErr, take, drop}
use Rattle.std.specs.Io.KnownBytes.{Appends}
use Rattle.std.proofs.lemmas.List.{take-append-drop}
use Rattle.pd_protocol.specs.Input.{IfKnown, to_come}
use Rattle.pd_protocol.specs.Commands.{InputItem, does, stops, commands}
use Rattle.pd_protocol.specs.NextCommand.{Gives, FaultIn}
use Rattle.pd_protocol.specs.declared.command.Command.{Command}
use Rattle.pd_protocol.specs.declared.command.Command.TheVariants.{Settle}
use Rattle.pd_protocol.specs.declared.faults.ServeFault.{ServeFault}
use Rattle.pd_protocol.specs.declared.faults.ServeFault.TheVariants.{Write}
use Rattle.pd_protocol.proofs.Known.{appends_then, known_then, fact_before, appends_none}
use Rattle.pd_cli.specs.Sessions.{PrintsAll, EndsBy, ServesBy, HasAnswered, DoesBy, SettlesBy}

-- ---- one command

pub does_from : {S : Type 0} (prints : S → Command → List ℕ → S → Type 0) (fails : ServeFault → S → Command → S → Type 0) (r : Result (Unit {0}) ServeFault) (old new : S) (command : Command) (octets : List ℕ) (w w1 : Option (List ℕ))
    → OnOk r (Appends w w1 octets) → OnErr r ((n : ℕ) × Appends w w1 (take n octets)) → IfErr r (λ e. e ≡ Write) → prints old command octets new → (b : List ℕ) × Appends w w1 b × DoesBy prints fails r old command new b
does_from prints fails (Ok u) old new command octets w w1 h k e p = (octets, h, p)
does_from prints fails (Err fault) old new command octets w w1 h k e p =
    (take k.0 octets, k.1, inr (e, drop k.0 octets, subst (λ (o : List ℕ). prints old command o new) (sym (take-append-drop k.0 octets)) p))

-- a command without a reply writes nothing
pub does_none : {S : Type 0} (prints : S → Command → List ℕ → S → Type 0) (fails : ServeFault → S → Command → S → Type 0) (r : Result (Unit {0}) ServeFault) (fault : ServeFault) (old new : S) (command : Command) (w : Option (List ℕ))
    → IsErrAnd r (λ x. x ≡ fault) → fails fault old command new → (b : List ℕ) × Appends w w b × DoesBy prints fails r old command new b
does_none prints fails (Ok u) fault old new command w i f = absurd i
does_none prints fails (Err x) fault old new command w i f = rw i ([], appends_none w, inl (refl, f))

pub settles_from : {S : Type 0} (prints : S → Command → List ℕ → S → Type 0) (fails : ServeFault → S → Command → S → Type 0) (passes : S → Bool) (r : Result Bool ServeFault) (fault : ServeFault) (old new : S) (octets : List ℕ) (w w1 : Option (List ℕ))
    → IsErrAnd r (λ x. x ≡ fault) → (n : ℕ) × Appends w w1 (take n octets) → fault ≡ Write → prints old Settle octets new → (b : List ℕ) × Appends w w1 b × SettlesBy prints fails passes r old new b
settles_from prints fails passes (Ok p) fault old new octets w w1 i k e f = absurd i
settles_from prints fails passes (Err x) fault old new octets w w1 i k e f =
    rw i (take k.0 octets, k.1, inr (e, drop k.0 octets, subst (λ (o : List ℕ). prints old Settle o new) (sym (take-append-drop k.0 octets)) f))

pub settles_none : {S : Type 0} (prints : S → Command → List ℕ → S → Type 0) (fails : ServeFault → S → Command → S → Type 0) (passes : S → Bool) (r : Result Bool ServeFault) (fault : ServeFault) (old new : S) (w : Option (List ℕ))
    → IsErrAnd r (λ x. x ≡ fault) → fails fault old Settle new → (b : List ℕ) × Appends w w b × SettlesBy prints fails passes r old new b
settles_none prints fails passes (Ok p) fault old new w i f = absurd i
settles_none prints fails passes (Err x) fault old new w i f = rw i ([], appends_none w, inl (refl, f))

-- ---- the items that were done, and those to come

abbrev pub ComesTo : List InputItem → List ℕ → List ℕ → Type 0
ComesTo done o n = commands o ≡ done ++ commands n

-- what was done and written so far
abbrev pub SoFar : {S : Type 0} → (S → Command → List ℕ → S → Type 0) → S → S → Option (List ℕ) → Option (List ℕ) → Option (List ℕ) → Option (List ℕ) → Type 0
SoFar prints state now before after all left = (octets : List ℕ) × Appends before after octets × (done : List InputItem) × PrintsAll prints state done octets now × IfKnown (ComesTo done) all left

none_done : (all : Option (List ℕ)) → IfKnown (ComesTo []) all (to_come ([], 1048576) all)
none_done None = tt
none_done (Some octets) = refl

pub so_first : {S : Type 0} (prints : S → Command → List ℕ → S → Type 0) (state : S) (line_reader : List ℕ × ℕ) (w all : Option (List ℕ)) → line_reader ≡ ([], 1048576) → SoFar prints state state w w all (to_come line_reader all)
so_first prints state line_reader w all e = rw e ([], appends_none w, [], (refl, refl), none_done all)

-- one command more
pub prints_then : {S : Type 0} (prints : S → Command → List ℕ → S → Type 0) (a b c : S) (items : List InputItem) (command : Command) (octets more : List ℕ) → PrintsAll prints a items octets b → prints b command more c
    → PrintsAll prints a (items ++ does command ∷ []) (octets ++ more) c
prints_then prints a b c [] command octets more h p = rw h.0 (more, [], c, subst (λ x. prints x command more c) h.1 p, (refl, refl), sym (append-nil more))
prints_then prints a b c (stops fault ∷ items) command octets more h p = absurd h
prints_then prints a b c (does first ∷ items) command octets more h p =
    let (printed, rest, next, q, r, e) = h in
    (printed, rest ++ more, next, q, prints_then prints next b c items command rest more r p, ap (λ (o : List ℕ). o ++ more) e ∙ append_assoc printed rest more)

items_then : (x y z : List InputItem) (first : List InputItem) (item : InputItem) → x ≡ first ++ y → y ≡ item ∷ z → x ≡ (first ++ item ∷ []) ++ z
items_then x y z first item e f = e ∙ (ap (λ (l : List InputItem). first ++ l) f ∙ sym (append_assoc first (item ∷ []) z))

pub so_more : {S : Type 0} (prints : S → Command → List ℕ → S → Type 0) (state now next : S) (command : Command) (more : List ℕ) (w0 w w1 all u v : Option (List ℕ)) → SoFar prints state now w0 w all u → IfKnown (Gives (Some command)) u v → Appends w w1 more → prints now command more next
    → SoFar prints state next w0 w1 all v
so_more prints state now next command more w0 w w1 all u v s g a p = (
  s.0 ++ more,
  appends_then w0 w w1 s.0 more s.1 a,
  s.2 ++ does command ∷ [],
  prints_then prints state now next s.2 command s.0 more s.3 p,
  known_then (ComesTo s.2) (Gives (Some command)) (ComesTo (s.2 ++ does command ∷ [])) all u v (λ x y z h k. items_then (commands x) (commands y) (commands z) s.2 (does command) h k) s.4 g,
)

-- ---- where a session ends

-- the next command, whatever follows it
abbrev pub Next : Command → List ℕ → Type 0
Next command o = (items : List InputItem) × (commands o ≡ does command ∷ items)

pub next_some : (command : Command) (u v : Option (List ℕ)) → IfKnown (Gives (Some command)) u v → IfSome u (Next command)
next_some command None v h = tt
next_some command (Some x) None h = absurd h
next_some command (Some x) (Some y) h = (commands y, h)

pub next_none : (u v : Option (List ℕ)) → IfKnown (Gives None) u v → IfSome u (λ o. commands o ≡ does Settle ∷ [])
next_none None v h = tt
next_none (Some x) None h = absurd h
next_none (Some x) (Some y) h = h

next_last : (u : Option (List ℕ)) → IfSome u (λ o. commands o ≡ does Settle ∷ []) → IfSome u (Next Settle)
next_last None h = tt
next_last (Some x) h = ([], h)

-- a fault in the input, or while it is read
pub fault_serves : {S : Type 0} (prints : S → Command → List ℕ → S → Type 0) (fails : ServeFault → S → Command → S → Type 0) (passes : S → Bool) (r : Result Bool ServeFault) (fault : ServeFault) (state now : S) (w0 w all u : Option (List ℕ))
    → IsErrAnd r (λ x. x ≡ fault) → SoFar prints state now w0 w all u → IfSome u (λ o. FaultIn fault (commands o)) → ServesBy prints fails passes r all w0 w state now
fault_serves prints fails passes (Ok p) fault state now w0 w all u i s f = absurd i
fault_serves prints fails passes (Err x) fault state now w0 w all u i s f =
    rw i (s.0, s.1, fact_before (ComesTo s.2) (λ o. FaultIn fault (commands o)) (λ input. EndsBy prints fails passes (Err fault) s.0 state (commands input) now) all u (λ x y h k. inl (now, commands y, (s.2, h, s.3), inl (k, refl))) s.4 f)

-- a command that had no reply, or whose reply was not written
stop_ends : {S : Type 0} (prints : S → Command → List ℕ → S → Type 0) (fails : ServeFault → S → Command → S → Type 0) (passes : S → Bool) (fault : ServeFault) (state now new : S) (done : List InputItem) (command : Command) (octets more x y : List ℕ)
    → PrintsAll prints state done octets now → ComesTo done x y → Next command y → DoesBy prints fails (Err fault) now command new more → EndsBy prints fails passes (Err fault) (octets ++ more) state (commands x) new
stop_ends prints fails passes fault state now new done command octets more x y p h k (inl d) =
    rw (d.0, append-nil octets) (inl (now, commands y, (done, h, p), inr (command, k.0, k.1, d.1)))
stop_ends prints fails passes fault state now new done command octets more x y p h k (inr d) =
    let all = prints_then prints state now new done command octets (more ++ d.1) p d.2 in
    inr (d.0, d.1, k.0, (done ++ does command ∷ [], items_then (commands x) (commands y) k.0 done (does command) h k.1, subst (λ (o : List ℕ). PrintsAll prints state (done ++ does command ∷ []) o new) (sym (append_assoc octets more d.1)) all))

pub stop_serves : {S : Type 0} (prints : S → Command → List ℕ → S → Type 0) (fails : ServeFault → S → Command → S → Type 0) (passes : S → Bool) (fault : ServeFault) (state now new : S) (command : Command) (more : List ℕ) (w0 w w1 all u : Option (List ℕ))
    → SoFar prints state now w0 w all u → IfSome u (Next command) → Appends w w1 more → DoesBy prints fails (Err fault) now command new more → ServesBy prints fails passes (Err fault) all w0 w1 state new
stop_serves prints fails passes fault state now new command more w0 w w1 all u s g a d = (
  s.0 ++ more,
  appends_then w0 w w1 s.0 more s.1 a,
  fact_before (ComesTo s.2) (Next command) (λ input. EndsBy prints fails passes (Err fault) (s.0 ++ more) state (commands input) new) all u (λ x y h k. stop_ends prints fails passes fault state now new s.2 command s.0 more x y s.3 h k d) s.4 g,
)

pub out_serves : {S : Type 0} (prints : S → Command → List ℕ → S → Type 0) (fails : ServeFault → S → Command → S → Type 0) (passes : S → Bool) (r : Result Bool ServeFault) (fault : ServeFault) (state now new : S) (command : Command) (more : List ℕ) (w0 w w1 all u : Option (List ℕ))
    → IsErrAnd r (λ x. x ≡ fault) → SoFar prints state now w0 w all u → IfSome u (Next command) → Appends w w1 more → DoesBy prints fails (Err fault) now command new more → ServesBy prints fails passes r all w0 w1 state new
out_serves prints fails passes (Ok p) fault state now new command more w0 w w1 all u i s g a d = absurd i
out_serves prints fails passes (Err x) fault state now new command more w0 w w1 all u i s g a d = rw i (stop_serves prints fails passes fault state now new command more w0 w w1 all u s g a d)

-- the end of the input
end_ends : {S : Type 0} (prints : S → Command → List ℕ → S → Type 0) (fails : ServeFault → S → Command → S → Type 0) (passes : S → Bool) (passed : Bool) (state now new : S) (done : List InputItem) (octets more x y : List ℕ)
    → PrintsAll prints state done octets now → ComesTo done x y → commands y ≡ does Settle ∷ [] → prints now Settle more new → passed ≡ passes new → EndsBy prints fails passes (Ok passed) (octets ++ more) state (commands x) new
end_ends prints fails passes passed state now new done octets more x y p h k q e = (rw (h ∙ ap (λ (l : List InputItem). done ++ l) k) (prints_then prints state now new done Settle octets more p q), e)

pub end_serves : {S : Type 0} (prints : S → Command → List ℕ → S → Type 0) (fails : ServeFault → S → Command → S → Type 0) (passes : S → Bool) (r : Result Bool ServeFault) (state now new : S) (more : List ℕ) (w0 w w1 all u : Option (List ℕ))
    → SoFar prints state now w0 w all u → IfSome u (λ o. commands o ≡ does Settle ∷ []) → Appends w w1 more → SettlesBy prints fails passes r now new more → ServesBy prints fails passes r all w0 w1 state new
end_serves prints fails passes (Ok passed) state now new more w0 w w1 all u s g a d = (
  s.0 ++ more,
  appends_then w0 w w1 s.0 more s.1 a,
  fact_before (ComesTo s.2) (λ o. commands o ≡ does Settle ∷ []) (λ input. EndsBy prints fails passes (Ok passed) (s.0 ++ more) state (commands input) new) all u (λ x y h k. end_ends prints fails passes passed state now new s.2 s.0 more x y s.3 h k d.0 d.1) s.4 g,
)
end_serves prints fails passes (Err fault) state now new more w0 w w1 all u s g a d = stop_serves prints fails passes fault state now new Settle more w0 w w1 all u s (next_last u g) a d

-- ---- what was answered, whether the input is known or not

pub now_answered : {S : Type 0} (prints : S → Command → List ℕ → S → Type 0) (fails : ServeFault → S → Command → S → Type 0) (state now : S) (w0 w all u : Option (List ℕ)) → SoFar prints state now w0 w all u → HasAnswered prints fails state now
now_answered prints fails state now w0 w all u s = (s.2, s.0, now, s.3, inl refl)

does_answered : {S : Type 0} (prints : S → Command → List ℕ → S → Type 0) (fails : ServeFault → S → Command → S → Type 0) (fault : ServeFault) (state now new : S) (done : List InputItem) (command : Command) (octets more : List ℕ)
    → PrintsAll prints state done octets now → DoesBy prints fails (Err fault) now command new more → HasAnswered prints fails state new
does_answered prints fails fault state now new done command octets more p (inl d) = (done, octets, now, p, inr (fault, command, d.1))
does_answered prints fails fault state now new done command octets more p (inr d) =
    (done ++ does command ∷ [], octets ++ (more ++ d.1), new, prints_then prints state now new done command octets (more ++ d.1) p d.2, inl refl)

pub stop_answered : {S : Type 0} (prints : S → Command → List ℕ → S → Type 0) (fails : ServeFault → S → Command → S → Type 0) (fault : ServeFault) (state now new : S) (command : Command) (more : List ℕ) (w0 w all u : Option (List ℕ))
    → SoFar prints state now w0 w all u → DoesBy prints fails (Err fault) now command new more → HasAnswered prints fails state new
stop_answered prints fails fault state now new command more w0 w all u s d = does_answered prints fails fault state now new s.2 command s.0 more s.3 d

pub end_answered : {S : Type 0} (prints : S → Command → List ℕ → S → Type 0) (fails : ServeFault → S → Command → S → Type 0) (passes : S → Bool) (r : Result Bool ServeFault) (state now new : S) (more : List ℕ) (w0 w all u : Option (List ℕ))
    → SoFar prints state now w0 w all u → SettlesBy prints fails passes r now new more → HasAnswered prints fails state new
end_answered prints fails passes (Ok passed) state now new more w0 w all u s d = (s.2 ++ does Settle ∷ [], s.0 ++ more, new, prints_then prints state now new s.2 Settle s.0 more s.3 d.0, inl refl)
end_answered prints fails passes (Err fault) state now new more w0 w all u s d = does_answered prints fails fault state now new s.2 Settle s.0 more s.3 d

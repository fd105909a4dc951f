-- Reading from left to right with one item of lookahead: a value and what is left, or what is left at the fault.
use Rattle.std.specs.Prelude.{Bool, List, [], ◌∷◌, ◌++◌, Result, Ok, Err, if◌then◌else◌}
use Rattle.pd_lex.specs.Tokens.{Item}
use Rattle.pd_script.specs.Items.{next_is}

-- the result of reading: a value and the items that are left, or the items that are left at the fault
abbrev pub Read : Type 0 → Type 0
Read A = Result (A × List Item) (List Item)

-- a reader of values, from the items that are left
abbrev pub Reader : Type 0 → Type 0
Reader A = List Item → Read A

-- a reader goes on with what was read; a fault stays
abbrev pub then_read : {A B : Type 0} → Read A → (A → Reader B) → Read B
then_read (Ok x) f = f x.0 x.1
then_read (Err rest) f = Err rest

-- one after the other
infixl 10 ◌>>=◌
abbrev pub ◌>>=◌ : {A B : Type 0} → Reader A → (A → Reader B) → Reader B
(p >>= f) ts = then_read (p ts) f

-- a value, and nothing is read
abbrev pub done : {A : Type 0} → A → Reader A
done x ts = Ok (x, ts)

-- one item that passes a test
abbrev pub one : (Item → Bool) → Reader Item
one test [] = Err []
one test (t ∷ ts) = if test t then Ok (t, ts) else Err (t ∷ ts)

-- the first where the next item passes the test, else the second
abbrev pub when : {A : Type 0} → (Item → Bool) → Reader A → Reader A → Reader A
when test p q ts = if next_is test ts then p ts else q ts

-- the effect of an item on the state of a machine: it is refused, it is the last with the last values, or it leads on with
-- some
pub data Move (S A : Type 0) : Type 0 where
  stuck : Move S A
  ends : List A → Move S A
  goes : S → List A → Move S A

-- values in front of those that are read
abbrev pub onto : {A : Type 0} → List A → Read (List A) → Read (List A)
onto front (Ok x) = Ok (front ++ x.0, x.1)
onto front (Err rest) = Err rest

-- the result of a machine at an item, by the effect on its state; a refused item is the fault
abbrev pub moved : {S A : Type 0} → (S → Read (List A)) → Item → List Item → Move S A → Read (List A)
moved others t ts stuck = Err (t ∷ ts)
moved others t ts (ends last) = Ok (last, ts)
moved others t ts (goes state values) = onto values (others state)

-- the result of a machine from a state on, to its last item
unfoldable pub machine_at : {S A : Type 0} → (S → Item → Move S A) → S → Reader (List A)
machine_at move state [] = Err []
machine_at move state (t ∷ ts) = moved (λ next. machine_at move next ts) t ts (move state t)

-- Scripts, and where a text that is none goes wrong.
use Rattle.std.specs.Prelude.{◌≡◌, ℕ, ◌≤◌, true, false, List, [], ◌∷◌, ◌++◌, length, Option, Some, None, ◌⊎◌, All}
use Rattle.pd_lex.specs.Tokens.{Item, line_of, AreItemsOf}
use Rattle.pd_script.specs.Items.{is_header, is_end, starts_event_or_end, next_is, IsPlain}
use Rattle.pd_script.specs.Header.{header_item, HasEnd}
use Rattle.pd_script.specs.Grammar.{IsEvent}
use Rattle.pd_script.specs.declared.script_header.HeaderItem.{HeaderItem}
use Rattle.pd_script.specs.declared.script_events.Event.{Event}
use Rattle.pd_script.specs.declared.parsed.Parsed.{Parsed}

-- options and commands, one after the other, and what is left
abbrev pub IsHeader : List HeaderItem → List Item → List Item → Type 0
IsHeader [] ts rest = ts ≡ rest
IsHeader (h ∷ hs) ts rest = (t : Item) × (others : List Item) × (ts ≡ t ∷ others) × (is_header t ≡ true) × (h ≡ header_item t) × IsHeader hs others rest

-- events, one after the other, and what is left
abbrev pub AreEvents : List Event → List Item → List Item → Type 0
AreEvents [] ts rest = ts ≡ rest
AreEvents (e ∷ es) ts rest = (middle : List Item) × IsEvent e ts middle × AreEvents es middle rest

-- a script: a header, at most 4,096 events, and the end
pub record IsScript (header : List HeaderItem) (events : List Event) (ts : List Item) : Type 0 where
  pub after : List Item
  pub end : Item
  pub begins : IsHeader header ts after
  pub goes : AreEvents events after (end ∷ [])
  pub ends : is_end end ≡ true
  pub limit : length events ≤ 4096

-- items that begin a script
pub record Begins (front : List Item) : Type 0 where
  pub more : List Item
  pub header : List HeaderItem
  pub events : List Event
  pub script : IsScript header events (front ++ more)

-- the first item at which no script goes on: what is before it begins a script, which goes on with plain tokens alone,
-- and with it nothing does
pub record IsFault (front : List Item) (t : Item) : Type 0 where
  pub before : Begins front
  pub plain : All IsPlain before.more
  pub none : Begins (front ++ t ∷ []) → ⊥

-- the script that is kept at a fault: all of the header before it, and the events before it whose next token is before it too
pub record IsKept (header : List HeaderItem) (events : List Event) (front : List Item) : Type 0 where
  pub after : List Item
  pub others : List Item
  pub begins : IsHeader header front after
  pub whole : next_is is_header after ≡ false
  pub goes : AreEvents events after others
  pub reached : (events ≡ []) ⊎ (next_is starts_event_or_end others ≡ true)
  pub last : (e : Event) (rest : List Item) → IsEvent e others rest → next_is starts_event_or_end rest ≡ false

-- the items are a script that was read, or they were read up to their fault
abbrev pub IsReadTo : List Item → Parsed → Option ℕ → Type 0
IsReadTo ts parsed None = IsScript parsed.header.items parsed.events ts
IsReadTo ts parsed (Some line) = (front : List Item) × (t : Item) × (rest : List Item) × (ts ≡ front ++ t ∷ rest) × (line ≡ line_of t) × IsFault front t × IsKept parsed.header.items parsed.events front

-- so they were, and the header has its end
abbrev pub IsRead : List Item → Parsed → Option ℕ → Type 0
IsRead ts parsed fault = HasEnd ts parsed.header × IsReadTo ts parsed fault

-- the script that a text is read as
abbrev pub IsScriptOf : List (List ℕ) → Parsed → Type 0
IsScriptOf lines parsed = (ts : List Item) × AreItemsOf lines ts × IsRead ts parsed parsed.fault

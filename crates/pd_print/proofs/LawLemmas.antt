-- The laws of what is written.
use Rattle.std.proofs.Common.{◌≡◌, ℕ, true, List, [], ◌∷◌, refl, sym, subst, arith}
use Rattle.std.specs.List.{list_all}
use Rattle.pd_text.specs.Text.{has_no_newline}
use Rattle.pd_lex.specs.Places.{first_place, IsPlace}
use Rattle.pd_lex.specs.Tokens.{Item, ending}
use Rattle.pd_lex.specs.Lexing.{items}
use Rattle.pd_lex.proofs.Items.{items_past}
use Rattle.pd_lex.proofs.Cut.{items_cut}
use Rattle.pd_script.specs.declared.script_events.Event.{Event}
use Rattle.pd_script.specs.Grammar.{IsEvent}
use Rattle.pd_script.specs.Faults.{IsScript, IsScriptOf}
use Rattle.pd_script.specs.Laws.{NoOthersAreGrammatical}
use Rattle.pd_seg.specs.declared.option_list.SegOption.{SegOption}
use Rattle.pd_match.specs.declared.kinds.Kind.TheVariants as kind
use Rattle.pd_match.specs.Agreement.{HasOptions}
use Rattle.pd_print.specs.Sent.{options_of}
use Rattle.pd_print.specs.RoundTrip.{line_after, IsReadAs}
use Rattle.pd_print.specs.Laws.{script_of_one_event, LinesAreScripts, SentPacketsAgree}

module _ (event : ℕ → Event) (octets : List ℕ) (plain : has_no_newline octets ≡ true) (back : IsReadAs IsEvent event octets) where
  lines : List (List ℕ)
  lines = octets ∷ []

  is_one_line : list_all has_no_newline (octets ∷ []) ≡ true
  is_one_line = rw plain refl

  first : IsPlace (octets ∷ []) first_place
  first = record { from_one = omega arith; within = omega arith; at = omega arith }

  read : IsEvent (event 1) (items (octets ∷ []) first_place) (ending 1 ∷ [])
  read =
      let h = back (octets ∷ []) first_place is_one_line first (omega arith) refl in
      subst (λ (ts : List Item). IsEvent (event 1) (items (octets ∷ []) first_place) ts) (items_past (octets ∷ []) is_one_line (line_after first_place) (omega arith)) h

  script : IsScript [] (event 1 ∷ []) (items (octets ∷ []) first_place)
  script = record { after = items (octets ∷ []) first_place; end = ending 1; begins = refl; goes = (ending 1 ∷ [], read, refl); ends = refl; limit = omega arith }

  pub script_alone : IsScriptOf (octets ∷ []) (script_of_one_event (event 1))
  script_alone = (items (octets ∷ []) first_place, items_cut (octets ∷ []), (refl, script))

pub lines_are_scripts_by : NoOthersAreGrammatical → LinesAreScripts
lines_are_scripts_by law event octets plain back = sym (law (octets ∷ []) (script_of_one_event (event 1)) (script_alone event octets plain back))

all_options : (os : List SegOption) → HasOptions (options_of os) os
all_options [] = refl
all_options (o ∷ os) = refl

pub sent_packets_agree_so : SentPacketsAgree
sent_packets_agree_so sent tolerance kind.Time = tt
sent_packets_agree_so sent tolerance kind.Flags = refl
sent_packets_agree_so sent tolerance kind.Seq = (refl, (refl, refl))
sent_packets_agree_so sent tolerance kind.Ack = refl
sent_packets_agree_so sent tolerance kind.Win = refl
sent_packets_agree_so sent tolerance kind.Options = all_options sent.segment.options
sent_packets_agree_so sent tolerance kind.Result = tt
sent_packets_agree_so sent tolerance kind.Missing = tt
sent_packets_agree_so sent tolerance kind.Backwards = tt

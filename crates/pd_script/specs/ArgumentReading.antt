-- How the arguments of a call and a note are read, token by token.
use Rattle.std.specs.Prelude.{ℕ, ◌&&◌, ◌||◌, ◌==◌, Bool, true, false, List, [], ◌∷◌, length, Option, Some, None, Ok, Err, if◌then◌else◌}
use Rattle.pd_lex.specs.Tokens.{Item, lexeme, ending, bad}
use Rattle.pd_script.specs.Items.{is_int_of_any_size, is_word, is_symbol, text_of, next_is}
use Rattle.pd_lex.specs.Numbers.{capped_number}
use Rattle.pd_script.specs.Values.{sign, constant_by_name_or_unknown}
use Rattle.pd_script.specs.Brackets.{pairs_after}
use Rattle.pd_script.specs.Reader.{Read, Reader, Move, stuck, ends, goes}
use Rattle.pd_script.specs.declared.calls.Argument.{Argument}
use Rattle.pd_script.specs.declared.calls.Argument.TheVariants as arguments
use Rattle.pd_script.specs.declared.brackets.Bracket.{Bracket}
use Rattle.pd_script.specs.declared.argument_builder.BracketContext.{BracketContext}
use Rattle.pd_script.specs.declared.argument_builder.ArgumentBuilder.{ArgumentBuilder}
use Rattle.pd_script.specs.declared.argument_builder.ArgumentBuilder.TheVariants as argument_builder

-- an argument of one token
abbrev pub single_token_builder : Item → ArgumentBuilder
single_token_builder t = if is_int_of_any_size t then argument_builder.Single (arguments.Int (capped_number (text_of t))) else (if is_word t then argument_builder.Single (arguments.Constant (constant_by_name_or_unknown (text_of t))) else (if is_symbol (sign "[") t then argument_builder.Opened else argument_builder.Mixed))

-- an argument with one token more
abbrev pub extended_builder : ArgumentBuilder → Item → ArgumentBuilder
extended_builder argument_builder.Empty t = single_token_builder t
extended_builder argument_builder.Opened t = if is_int_of_any_size t then argument_builder.Numbered (capped_number (text_of t)) else argument_builder.Mixed
extended_builder (argument_builder.Numbered n) t = if is_symbol (sign "]") t then argument_builder.Element n else argument_builder.Mixed
extended_builder _ t = argument_builder.Mixed

-- the argument that its tokens make
abbrev pub built_argument : ArgumentBuilder → Argument
built_argument (argument_builder.Single a) = a
built_argument (argument_builder.Element n) = arguments.Element n
built_argument _ = arguments.Other

-- no token yet
abbrev pub is_empty : ArgumentBuilder → Bool
is_empty argument_builder.Empty = true
is_empty _ = false

-- where an argument begins
abbrev pub at_start : BracketContext
at_start = record { pairs = []; builder = argument_builder.Empty }

-- a token goes on with an argument, where its brackets fit the pairs that are open
abbrev pub extended_to : ArgumentBuilder → Item → Option (List Bracket) → Move BracketContext Argument
extended_to builder t None = stuck
extended_to builder t (Some open_pairs) = goes (record { pairs = open_pairs; builder = extended_builder builder t }) []

-- an argument has at least one token
abbrev pub parted : ArgumentBuilder → Move BracketContext Argument → Move BracketContext Argument
parted builder move = if is_empty builder then stuck else move

-- a token of the arguments, by the pairs that are open and by what the argument is so far: at most 16 pairs may be open
abbrev pub move_within : List Bracket → ArgumentBuilder → Item → Move BracketContext Argument
move_within [] builder t =
    if is_symbol (sign ")") t then parted builder (ends (built_argument builder ∷ []))
    else (if is_symbol (sign ",") t then parted builder (goes at_start (built_argument builder ∷ []))
    else extended_to builder t (pairs_after 16 [] t))
move_within (b ∷ open_pairs) builder t = extended_to builder t (pairs_after 16 (b ∷ open_pairs) t)

-- outside all pairs a comma parts the arguments, and the call's own bracket ends them
abbrev pub argument_move : BracketContext → Item → Move BracketContext Argument
argument_move i t = move_within i.pairs i.builder t

-- a token that is a part of an argument
abbrev pub part_by : ArgumentBuilder → Item → List Item → Option (List Bracket) → Read BracketContext
part_by builder t ts None = Err (t ∷ ts)
part_by builder t ts (Some open_pairs) = Ok (record { pairs = open_pairs; builder = extended_builder builder t }, ts)

-- the next item as a part of an argument
abbrev pub part_at : BracketContext → Reader BracketContext
part_at i [] = Err []
part_at i (t ∷ ts) = part_by i.builder t ts (pairs_after 16 i.pairs t)

-- the rest after a token
abbrev pub after_token : List Item → List Item
after_token [] = []
after_token (lexeme x ∷ ts) = ts
after_token (ending line ∷ ts) = ending line ∷ ts
after_token (bad line ∷ ts) = bad line ∷ ts

-- between two arguments or after the last: outside all pairs, before a comma or the bracket that ends them
abbrev pub is_between : BracketContext → List Item → Bool
is_between i ts = (length i.pairs == 0) && (next_is (is_symbol (sign ")")) ts || next_is (is_symbol (sign ",")) ts)

-- a token goes on with a note, where its brackets fit the pairs that are open
abbrev pub note_extended_to : Option (List Bracket) → Move (List Bracket) ℕ
note_extended_to None = stuck
note_extended_to (Some pairs) = goes pairs []

-- within a note: outside all other pairs its own bracket ends it, which counts among the 16
abbrev pub note_move : List Bracket → Item → Move (List Bracket) ℕ
note_move [] t = if is_symbol (sign ")") t then ends [] else note_extended_to (pairs_after 15 [] t)
note_move (b ∷ pairs) t = note_extended_to (pairs_after 15 (b ∷ pairs) t)

-- a token within a note
abbrev pub note_part_by : Item → List Item → Option (List Bracket) → Read (List Bracket)
note_part_by t ts None = Err (t ∷ ts)
note_part_by t ts (Some pairs) = Ok (pairs, ts)

-- the next item as a part of a note
abbrev pub note_part_at : List Bracket → Reader (List Bracket)
note_part_at pairs [] = Err []
note_part_at pairs (t ∷ ts) = note_part_by t ts (pairs_after 15 pairs t)

-- before the bracket that ends a note
abbrev pub is_last : List Bracket → List Item → Bool
is_last pairs ts = (length pairs == 0) && next_is (is_symbol (sign ")")) ts

-- The lines of commands.
use Rattle.std.specs.Prelude.{ℕ, ◌&&◌, nat_le, List, [], ◌∷◌, length, if◌then◌else◌, codes}
use Rattle.std.specs.Str.{bytes_eq}
use Rattle.pd_protocol.specs.Words.{words_of, is_count, number_of, value_of}
use Rattle.pd_protocol.specs.declared.command_line.CommandLine.{CommandLine}
use Rattle.pd_protocol.specs.declared.command_line.CommandLine.TheVariants.{Empty, Bad, Add, Edit, Remove, Set, Show, Settle}

-- add NAME COUNT
abbrev pub adds : List (List ℕ) → CommandLine
adds (name ∷ count ∷ []) = if is_count count then Add name (number_of count) else Bad
adds words = Bad

-- edit NAME FROM REMOVE COUNT
abbrev pub edits : List (List ℕ) → CommandLine
edits (name ∷ from ∷ remove ∷ count ∷ []) =
    if is_count from && is_count remove && is_count count then Edit name (number_of from) (number_of remove) (number_of count) else Bad
edits words = Bad

-- remove NAME
abbrev pub removes : List (List ℕ) → CommandLine
removes (name ∷ []) = Remove name
removes words = Bad

-- set KEY VALUE
abbrev pub sets : List (List ℕ) → CommandLine
sets (key ∷ value ∷ []) = Set key (value_of value)
sets words = Bad

-- a command without further words
abbrev pub bad_if_arguments : CommandLine → List (List ℕ) → CommandLine
bad_if_arguments command_line [] = command_line
bad_if_arguments command_line words = Bad

-- the command of a line with these words
abbrev pub command_line_by : List (List ℕ) → CommandLine
command_line_by [] = Empty
command_line_by (word ∷ words) =
    if bytes_eq word (codes "add") then adds words else (
    if bytes_eq word (codes "edit") then edits words else (
    if bytes_eq word (codes "remove") then removes words else (
    if bytes_eq word (codes "set") then sets words else (
    if bytes_eq word (codes "show") then bad_if_arguments Show words else (
    if bytes_eq word (codes "settle") then bad_if_arguments Settle words else Bad)))))

-- the command of a line; one of more than 256 octets is bad
abbrev pub command_line_of : List ℕ → CommandLine
command_line_of line = if nat_le (length line) 256 then command_line_by (words_of line) else Bad

-- How the TCP options of a packet are written.
use Rattle.std.specs.Prelude.{codes, ℕ, List, [], ◌∷◌, ◌++◌, flat_map}
use Rattle.std.specs.Fmt.{decimal}
use Rattle.pd_script.specs.declared.packets.SackBlock.{SackBlock}
use Rattle.pd_script.specs.declared.packets.PacketOption.{PacketOption}
use Rattle.pd_script.specs.declared.packets.PacketOption.TheVariants as options
use Rattle.pd_script.specs.declared.packets.Options.{Options}
use Rattle.pd_script.specs.declared.packets.Options.TheVariants as lists

-- a SACK block and the blank before it
abbrev pub block_text : SackBlock → List ℕ
block_text b = codes " " ++ decimal b.left ++ (codes ":" ++ decimal b.right)

-- an option
abbrev pub option_text : PacketOption → List ℕ
option_text (options.Mss n) = codes "mss " ++ decimal n
option_text (options.Wscale n) = codes "wscale " ++ decimal n
option_text options.SackOk = codes "sackOK"
option_text options.Nop = codes "nop"
option_text options.Eol = codes "eol"
option_text (options.Timestamp v e) = codes "TS val " ++ decimal v ++ (codes " ecr " ++ decimal e)
option_text (options.Sack blocks) = codes "sack" ++ flat_map block_text blocks

-- an option and the comma before it
abbrev pub next_option_text : PacketOption → List ℕ
next_option_text o = codes "," ++ option_text o

-- options with commas between them
abbrev pub list_text : List PacketOption → List ℕ
list_text [] = []
list_text (o ∷ os) = option_text o ++ flat_map next_option_text os

-- the options of a packet in angle brackets, with a blank before them; nothing where none are written
abbrev pub options_text : Options → List ℕ
options_text lists.Absent = []
options_text lists.Any = codes " <...>"
options_text (lists.Listed os) = codes " <" ++ list_text os ++ codes ">"

-- Which items spell a packet.
use Rattle.std.specs.Prelude.{codes, ℕ, ◌-◌, Bool, true, false, List, [], ◌∷◌, Option, Some, None, unwrap_or, ⊤}
use Rattle.pd_script.specs.Items.{is_int_from, is_int_of, is_named, is_flags, is_option, text_of}
use Rattle.pd_script.specs.Values.{number, flags_of, with_ack, find_option_by_name}
use Rattle.pd_script.specs.Spelling.{Spelling, one_of, made, in_turn, ◌>>=◌, either, IsSymbol, IsInt, IsDots, Repeats}
use Rattle.pd_script.specs.declared.names.OptionName.{OptionName}
use Rattle.pd_script.specs.declared.names.OptionName.TheVariants as names
use Rattle.pd_script.specs.declared.packets.PacketFlags.{PacketFlags}
use Rattle.pd_script.specs.declared.packets.SackBlock.{SackBlock}
use Rattle.pd_script.specs.declared.packets.PacketOption.{PacketOption}
use Rattle.pd_script.specs.declared.packets.PacketOption.TheVariants as options
use Rattle.pd_script.specs.declared.packets.Options.{Options}
use Rattle.pd_script.specs.declared.packets.Options.TheVariants as lists
use Rattle.pd_script.specs.declared.packets.Packet.{Packet}

-- ---- tokens

-- a whole number that is at least another
abbrev pub IsIntFrom : ℕ → Spelling ℕ
IsIntFrom least = one_of (is_int_from least) (λ t. number (text_of t))

-- a whole number that is just this one
abbrev pub IsIntOf : ℕ → Spelling ℕ
IsIntOf n = one_of (is_int_of n) (λ t. number (text_of t))

-- this word
abbrev pub IsNamed : List ℕ → Spelling ⊤
IsNamed name = one_of (is_named name) (λ t. tt)

-- a word of the letters F, S, R, P, U, E, W and C
abbrev pub IsLetters : Spelling PacketFlags
IsLetters = one_of is_flags (λ t. flags_of (text_of t))

-- a word that names a TCP option
abbrev pub IsOptionName : Spelling OptionName
IsOptionName = one_of is_option (λ t. unwrap_or (find_option_by_name (text_of t)) names.Nop)

-- ---- flags

-- `-`
abbrev pub IsNoFlags : Spelling PacketFlags
IsNoFlags = do
  minus ← IsSymbol "-"
  made (flags_of [])

-- the point, which is the ACK flag
abbrev pub IsPoint : PacketFlags → Spelling PacketFlags
IsPoint f = do
  point ← IsSymbol "."
  made (with_ack f)

-- letters of flags, and a point after them if there is one
abbrev pub IsLettered : Spelling PacketFlags
IsLettered = do
  f ← IsLetters
  either (IsPoint f) (made f)

-- the flags of a packet: `-` for none, the point alone, or letters with or without it
unfoldable pub IsFlags : Spelling PacketFlags
IsFlags = either IsNoFlags (either (IsPoint (flags_of [])) IsLettered)

-- ---- numbers

-- the start, `:`, an end that is at least the start, and in brackets the length, which is end less start
unfoldable pub IsOctets : Spelling (ℕ × ℕ × ℕ)
IsOctets = do
  start ← IsInt
  colon ← IsSymbol ":"
  end ← IsIntFrom start
  opening ← IsSymbol "("
  len ← IsIntOf (end - start)
  closing ← IsSymbol ")"
  made (start, end, len)

-- a word and a number
abbrev pub IsNumbered : List ℕ → Spelling (Option ℕ)
IsNumbered name = do
  word ← IsNamed name
  n ← IsInt
  made (Some n)

-- `ack` and a number, which may be left out
unfoldable pub IsAck : Spelling (Option ℕ)
IsAck = either (IsNumbered (codes "ack")) (made None)

-- an inbound packet has a window, an outbound one may
unfoldable pub IsWin : Bool → Spelling (Option ℕ)
IsWin true = IsNumbered (codes "win")
IsWin false = either (IsNumbered (codes "win")) (made None)

-- ---- options

-- a SACK block: its left edge, `:` and its right edge (RFC 2018, section 3)
abbrev pub IsBlock : Spelling SackBlock
IsBlock = do
  left ← IsInt
  colon ← IsSymbol ":"
  right ← IsInt
  made (record { left = left; right = right })

-- one block or more
unfoldable pub AreBlocks : Spelling (List SackBlock)
AreBlocks = do
  b ← IsBlock
  bs ← Repeats IsBlock
  made (b ∷ bs)

-- the parts after `TS`: `val` and `ecr`, each with a number (RFC 7323, section 3.2)
abbrev pub IsTimestamp : Spelling PacketOption
IsTimestamp = do
  val ← IsNamed (codes "val")
  v ← IsInt
  ecr ← IsNamed (codes "ecr")
  e ← IsInt
  made (options.Timestamp v e)

-- the parts after the name of an option
unfoldable pub IsOptionRest : OptionName → Spelling PacketOption
IsOptionRest names.Mss = in_turn IsInt (λ n. made (options.Mss n))
IsOptionRest names.Wscale = in_turn IsInt (λ n. made (options.Wscale n))
IsOptionRest names.SackOk = made options.SackOk
IsOptionRest names.Nop = made options.Nop
IsOptionRest names.Eol = made options.Eol
IsOptionRest names.Timestamp = IsTimestamp
IsOptionRest names.Sack = in_turn AreBlocks (λ bs. made (options.Sack bs))

-- a TCP option: its name and what follows it
unfoldable pub IsOption : Spelling PacketOption
IsOption = do
  name ← IsOptionName
  IsOptionRest name

-- a comma and an option
abbrev pub IsNextOption : Spelling PacketOption
IsNextOption = do
  comma ← IsSymbol ","
  IsOption

-- one option or more, parted by commas
unfoldable pub AreOptions : Spelling (List PacketOption)
AreOptions = do
  o ← IsOption
  os ← Repeats IsNextOption
  made (o ∷ os)

-- options and `>`
abbrev pub IsListed : Spelling Options
IsListed = do
  os ← AreOptions
  closing ← IsSymbol ">"
  made (lists.Listed os)

-- `>` alone: an empty list
abbrev pub IsUnlisted : Spelling Options
IsUnlisted = do
  closing ← IsSymbol ">"
  made (lists.Listed [])

-- `...` for any options
abbrev pub IsAnyOptions : Spelling Options
IsAnyOptions = do
  dots ← IsDots
  closing ← IsSymbol ">"
  made lists.Any

-- a list of options, empty or not, up to `>`
abbrev pub IsList : Spelling Options
IsList = either IsUnlisted IsListed

-- an inbound packet has no `...`
abbrev pub IsInsideOptions : Bool → Spelling Options
IsInsideOptions true = IsList
IsInsideOptions false = either IsAnyOptions IsList

-- options in angle brackets
abbrev pub IsBracketedOptions : Bool → Spelling Options
IsBracketedOptions inbound = do
  opening ← IsSymbol "<"
  IsInsideOptions inbound

-- the options of a packet; no angle brackets mean none
unfoldable pub IsOptions : Bool → Spelling Options
IsOptions inbound = either (IsBracketedOptions inbound) (made lists.Absent)

-- ---- packets

-- a packet: its flags, its octets, an ack number, a window and options
unfoldable pub IsPacket : Bool → Spelling Packet
IsPacket inbound = do
  flags ← IsFlags
  octets ← IsOctets
  ack ← IsAck
  win ← IsWin inbound
  options ← IsOptions inbound
  made (record { flags = flags; start = octets.0; end = octets.1; length = octets.2; ack = ack; win = win; options = options })

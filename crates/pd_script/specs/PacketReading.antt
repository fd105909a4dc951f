-- The parts of packets, read from left to right.
use Rattle.std.specs.Prelude.{codes, ℕ, zero, suc, ◌-◌, Bool, true, false, List, [], ◌∷◌, length, Option, Some, None, unwrap_or, ⊤}
use Rattle.pd_lex.specs.Tokens.{Item}
use Rattle.pd_script.specs.Items.{is_next_int_within_u32, is_int_from, is_int_of, is_named, is_flags, is_option, is_dots, is_symbol, text_of}
use Rattle.pd_script.specs.Values.{sign, number, flags_of, with_ack, find_option_by_name}
use Rattle.pd_script.specs.Reader.{Reader, ◌>>=◌, done, one, when}
use Rattle.pd_script.specs.TokenReading.{symbol_at, int_at, dots_at}
use Rattle.pd_script.specs.declared.names.OptionName.{OptionName}
use Rattle.pd_script.specs.declared.names.OptionName.TheVariants as names
use Rattle.pd_script.specs.declared.packets.PacketFlags.{PacketFlags}
use Rattle.pd_script.specs.declared.packets.SackBlock.{SackBlock}
use Rattle.pd_script.specs.declared.packets.PacketOption.{PacketOption}
use Rattle.pd_script.specs.declared.packets.PacketOption.TheVariants as options
use Rattle.pd_script.specs.declared.packets.Options.{Options}
use Rattle.pd_script.specs.declared.packets.Options.TheVariants as lists
use Rattle.pd_script.specs.declared.packets.Packet.{Packet}

-- ---- tokens

-- a whole number that is at least another
abbrev pub int_from_at : ℕ → Reader ℕ
int_from_at least = do
  t ← one (is_int_from least)
  done (number (text_of t))

-- a whole number that is just this one
abbrev pub int_of_at : ℕ → Reader ℕ
int_of_at n = do
  t ← one (is_int_of n)
  done (number (text_of t))

-- this word
abbrev pub named_at : List ℕ → Reader ⊤
named_at name = do
  t ← one (is_named name)
  done tt

-- a word of flags' letters
abbrev pub letters_at : Reader PacketFlags
letters_at = do
  t ← one is_flags
  done (flags_of (text_of t))

-- a word that names a TCP option
abbrev pub option_name_at : Reader OptionName
option_name_at = do
  t ← one is_option
  done (unwrap_or (find_option_by_name (text_of t)) names.Nop)

-- ---- one after the other, each where the next item passes the test; at most so many

-- at most so many of them, each where the next item passes the test
unfoldable pub repeated_within : {A : Type 0} → ℕ → (Item → Bool) → Reader A → Reader (List A)
repeated_within zero test p = done []
repeated_within (suc n) test p = when test
    (do
      x ← p
      xs ← repeated_within n test p
      done (x ∷ xs))
    (done [])

-- any number of them: each takes an item at least
unfoldable pub repeated_at : {A : Type 0} → (Item → Bool) → Reader A → Reader (List A)
repeated_at test p ts = repeated_within (length ts) test p ts

-- ---- flags

-- `-`: no flags
abbrev pub no_flags_at : Reader PacketFlags
no_flags_at = do
  line ← symbol_at (sign "-")
  done (flags_of [])

-- the point, which is the ACK flag, beside other flags
abbrev pub point_at : PacketFlags → Reader PacketFlags
point_at f = do
  line ← symbol_at (sign ".")
  done (with_ack f)

-- letters of flags, and a point after them if there is one
abbrev pub lettered_at : Reader PacketFlags
lettered_at = do
  f ← letters_at
  when (is_symbol (sign ".")) (point_at f) (done f)

-- the flags of a packet
unfoldable pub flags_at : Reader PacketFlags
flags_at = when (is_symbol (sign "-")) no_flags_at (when (is_symbol (sign ".")) (point_at (flags_of [])) lettered_at)

-- ---- numbers

-- the start, the end and the length
unfoldable pub octets_at : Reader (ℕ × ℕ × ℕ)
octets_at = do
  start ← int_at
  colon ← symbol_at (sign ":")
  end ← int_from_at start
  opening ← symbol_at (sign "(")
  len ← int_of_at (end - start)
  closing ← symbol_at (sign ")")
  done (start, end, len)

-- this word and a number
abbrev pub numbered_at : List ℕ → Reader (Option ℕ)
numbered_at name = do
  line ← named_at name
  n ← int_at
  done (Some n)

-- the ack number, which may be left out
unfoldable pub ack_at : Reader (Option ℕ)
ack_at = when (is_named (codes "ack")) (numbered_at (codes "ack")) (done None)

-- the window, which an inbound packet has and an outbound one may leave out
unfoldable pub win_at : Bool → Reader (Option ℕ)
win_at true = numbered_at (codes "win")
win_at false = when (is_named (codes "win")) (numbered_at (codes "win")) (done None)

-- ---- options

-- a SACK block: its left edge, `:` and its right edge
abbrev pub block_at : Reader SackBlock
block_at = do
  left ← int_at
  colon ← symbol_at (sign ":")
  right ← int_at
  done (record { left = left; right = right })

-- one block or more
unfoldable pub blocks_at : Reader (List SackBlock)
blocks_at = do
  b ← block_at
  bs ← repeated_at is_next_int_within_u32 block_at
  done (b ∷ bs)

-- the parts after `TS`: `val` and `ecr`, each with a number
abbrev pub timestamp_at : Reader PacketOption
timestamp_at = do
  val ← named_at (codes "val")
  v ← int_at
  ecr ← named_at (codes "ecr")
  e ← int_at
  done (options.Timestamp v e)

-- the parts after the name of an option
unfoldable pub option_rest_at : OptionName → Reader PacketOption
option_rest_at names.Mss = int_at >>= (λ n. done (options.Mss n))
option_rest_at names.Wscale = int_at >>= (λ n. done (options.Wscale n))
option_rest_at names.SackOk = done options.SackOk
option_rest_at names.Nop = done options.Nop
option_rest_at names.Eol = done options.Eol
option_rest_at names.Timestamp = timestamp_at
option_rest_at names.Sack = blocks_at >>= (λ bs. done (options.Sack bs))

-- a TCP option: its name and what follows it
unfoldable pub option_at : Reader PacketOption
option_at = do
  name ← option_name_at
  option_rest_at name

-- a comma and an option
abbrev pub next_option_at : Reader PacketOption
next_option_at = do
  comma ← symbol_at (sign ",")
  option_at

-- one option or more, parted by commas
unfoldable pub some_options_at : Reader (List PacketOption)
some_options_at = do
  o ← option_at
  os ← repeated_at (is_symbol (sign ",")) next_option_at
  done (o ∷ os)

-- options and `>`
abbrev pub listed_at : Reader Options
listed_at = do
  os ← some_options_at
  closing ← symbol_at (sign ">")
  done (lists.Listed os)

-- `>` alone: an empty list
abbrev pub unlisted_at : Reader Options
unlisted_at = do
  closing ← symbol_at (sign ">")
  done (lists.Listed [])

-- `...` and `>`: any options
abbrev pub any_options_at : Reader Options
any_options_at = do
  dots ← dots_at
  closing ← symbol_at (sign ">")
  done lists.Any

-- a list of options, empty or not, up to `>`
abbrev pub list_at : Reader Options
list_at = when (is_symbol (sign ">")) unlisted_at listed_at

-- an inbound packet has its options listed
abbrev pub inside_options_at : Bool → Reader Options
inside_options_at true = list_at
inside_options_at false = when is_dots any_options_at list_at

-- options in angle brackets
abbrev pub bracketed_options_at : Bool → Reader Options
bracketed_options_at inbound = do
  opening ← symbol_at (sign "<")
  inside_options_at inbound

-- the options of a packet; no angle brackets mean none
unfoldable pub options_at : Bool → Reader Options
options_at inbound = when (is_symbol (sign "<")) (bracketed_options_at inbound) (done lists.Absent)

-- ---- packets

-- a packet, inbound or not
unfoldable pub packet_at : Bool → Reader Packet
packet_at inbound = do
  flags ← flags_at
  octets ← octets_at
  ack ← ack_at
  win ← win_at inbound
  options ← options_at inbound
  done (record { flags = flags; start = octets.0; end = octets.1; length = octets.2; ack = ack; win = win; options = options })

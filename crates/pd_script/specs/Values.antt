-- The values of the octets of a token.
use Prim.Native.String.{String}
use Rattle.std.specs.Prelude.{codes, get_or, ℕ, ◌+◌, ◌==◌, ◌||◌, Bool, true, false, not, Option, List, [], ◌∷◌, ◌++◌, take, drop, replicate, find, unwrap_or}
use Rattle.std.specs.List.{prefix_len, list_any}
use Rattle.std.specs.Str.{bytes_eq}
use Rattle.std.specs.Str.Parse.{digits_value}
use Rattle.pd_script.specs.declared.calls.Function.{Function}
use Rattle.pd_script.specs.declared.calls.Function.TheVariants as functions
use Rattle.pd_script.specs.declared.calls.Constant.{Constant}
use Rattle.pd_script.specs.declared.calls.Constant.TheVariants as constants
use Rattle.pd_script.specs.declared.calls.ErrorName.{ErrorName}
use Rattle.pd_script.specs.declared.calls.ErrorName.TheVariants as errors
use Rattle.pd_script.specs.declared.names.OptionName.{OptionName}
use Rattle.pd_script.specs.declared.names.OptionName.TheVariants as options
use Rattle.pd_script.specs.declared.packets.PacketFlags.{PacketFlags}

-- the octet of a character of ASCII
abbrev pub sign : String → ℕ
sign text = get_or (codes text) 0 0

-- the number of a run of digits
abbrev pub number : List ℕ → ℕ
number text = digits_value 10 text

-- the number of hexadecimal digits after `0x`
abbrev pub saturated_hex_number : List ℕ → ℕ
saturated_hex_number text = digits_value 16 (drop 2 text)

-- how many octets are before the point
abbrev pub len_before_point : List ℕ → ℕ
len_before_point text = prefix_len (λ octet. not (octet == sign ".")) text

-- the digits before the point
abbrev pub whole_digits : List ℕ → List ℕ
whole_digits text = take (len_before_point text) text

-- the six decimals after the point; those not written are zeros, further ones are dropped
abbrev pub microseconds_of_decimals : List ℕ → List ℕ
microseconds_of_decimals text = take 6 (drop (len_before_point text + 1) text ++ replicate 6 (sign "0"))

-- the microseconds of seconds in digits, or in digits with a point
unfoldable pub microseconds : List ℕ → ℕ
microseconds text = number (whole_digits text ++ microseconds_of_decimals text)

-- the name of a call
abbrev pub function_name : Function → List ℕ
function_name functions.Socket = codes "socket"
function_name functions.Bind = codes "bind"
function_name functions.Listen = codes "listen"
function_name functions.Accept = codes "accept"
function_name functions.Setsockopt = codes "setsockopt"
function_name functions.Fcntl = codes "fcntl"
function_name functions.Write = codes "write"
function_name functions.Close = codes "close"
function_name functions.Unknown = []

-- the calls that have names
abbrev pub named_functions : List Function
named_functions = functions.Socket ∷ functions.Bind ∷ functions.Listen ∷ functions.Accept ∷ functions.Setsockopt ∷ functions.Fcntl ∷ functions.Write ∷ functions.Close ∷ []

-- the call of a name
unfoldable pub function_by_name_or_unknown : List ℕ → Function
function_by_name_or_unknown text = unwrap_or (find (λ f. bytes_eq (function_name f) text) named_functions) functions.Unknown

-- the name of a constant
abbrev pub constant_name : Constant → List ℕ
constant_name constants.SockStream = codes "SOCK_STREAM"
constant_name constants.IpprotoTcp = codes "IPPROTO_TCP"
constant_name constants.SolSocket = codes "SOL_SOCKET"
constant_name constants.SolTcp = codes "SOL_TCP"
constant_name constants.SoReuseaddr = codes "SO_REUSEADDR"
constant_name constants.TcpNodelay = codes "TCP_NODELAY"
constant_name constants.FSetfl = codes "F_SETFL"
constant_name constants.Unknown = []

-- the constants that have names
abbrev pub named_constants : List Constant
named_constants = constants.SockStream ∷ constants.IpprotoTcp ∷ constants.SolSocket ∷ constants.SolTcp ∷ constants.SoReuseaddr ∷ constants.TcpNodelay ∷ constants.FSetfl ∷ []

-- the constant of a name
unfoldable pub constant_by_name_or_unknown : List ℕ → Constant
constant_by_name_or_unknown text = unwrap_or (find (λ c. bytes_eq (constant_name c) text) named_constants) constants.Unknown

-- the name of an error
abbrev pub error_name : ErrorName → List ℕ
error_name errors.Ebadf = codes "EBADF"
error_name errors.Einval = codes "EINVAL"
error_name errors.Eagain = codes "EAGAIN"
error_name errors.Epipe = codes "EPIPE"
error_name errors.Unknown = []

-- the errors that have names
abbrev pub named_errors : List ErrorName
named_errors = errors.Ebadf ∷ errors.Einval ∷ errors.Eagain ∷ errors.Epipe ∷ []

-- the error of a name
unfoldable pub error_by_name_or_unknown : List ℕ → ErrorName
error_by_name_or_unknown text = unwrap_or (find (λ e. bytes_eq (error_name e) text) named_errors) errors.Unknown

-- the name of a TCP option
abbrev pub option_name : OptionName → List ℕ
option_name options.Mss = codes "mss"
option_name options.Wscale = codes "wscale"
option_name options.SackOk = codes "sackOK"
option_name options.Nop = codes "nop"
option_name options.Eol = codes "eol"
option_name options.Timestamp = codes "TS"
option_name options.Sack = codes "sack"

-- the TCP options that have names
abbrev pub named_options : List OptionName
named_options = options.Mss ∷ options.Wscale ∷ options.SackOk ∷ options.Nop ∷ options.Eol ∷ options.Timestamp ∷ options.Sack ∷ []

-- the TCP option of a name
unfoldable pub find_option_by_name : List ℕ → Option OptionName
find_option_by_name text = find (λ o. bytes_eq (option_name o) text) named_options

-- the letters of flags: F, S, R, P, U, E, W and C
abbrev pub is_flag_letter : ℕ → Bool
is_flag_letter octet = (octet == sign "F") || (octet == sign "S") || (octet == sign "R") || (octet == sign "P") || (octet == sign "U") || (octet == sign "E") || (octet == sign "W") || (octet == sign "C")

-- the flags that letters name, without the point
unfoldable pub flags_of : List ℕ → PacketFlags
flags_of text = record {
  syn = list_any (λ octet. octet == sign "S") text;
  fin = list_any (λ octet. octet == sign "F") text;
  rst = list_any (λ octet. octet == sign "R") text;
  psh = list_any (λ octet. octet == sign "P") text;
  ack = false;
  other = list_any (λ octet. (octet == sign "U") || (octet == sign "E") || (octet == sign "W") || (octet == sign "C")) text;
}

-- with the point
abbrev pub with_ack : PacketFlags → PacketFlags
with_ack f = record f { ack = true }

-- The lines of a trace.
use Rattle.std.specs.Prelude.{ℕ, ◌+◌, ◌-◌, ◌==◌, Bool, false, ◌&&◌, ◌||◌, nat_lt, List, [], ◌∷◌, length, take, drop, Option, Some, None, bytes_eq, codes}
use Rattle.std.specs.Char.{is_ascii_digit, is_ascii_alphanumeric}
use Rattle.std.specs.List.{slice_split, list_all, position}

-- digits
abbrev pub are_digits : List ℕ → Bool
are_digits word = list_all is_ascii_digit word

-- a point, and digits
abbrev pub is_point_and_digits : List ℕ → Bool
is_point_and_digits [] = false
is_point_and_digits (octet ∷ digits) = octet == 46 && are_digits digits

-- seconds with six decimals
abbrev pub is_seconds_with_six_decimals : List ℕ → Bool
is_seconds_with_six_decimals word = let point = length word - 7 in nat_lt 0 point && are_digits (take point word) && is_point_and_digits (drop point word)

-- the name of a state
abbrev pub is_tcp_state_name_but_syn_sent : List ℕ → Bool
is_tcp_state_name_but_syn_sent word =
    bytes_eq word (codes "CLOSED") || bytes_eq word (codes "LISTEN") || bytes_eq word (codes "SYN-RECEIVED")
    || bytes_eq word (codes "ESTABLISHED") || bytes_eq word (codes "FIN-WAIT-1") || bytes_eq word (codes "FIN-WAIT-2")
    || bytes_eq word (codes "CLOSE-WAIT") || bytes_eq word (codes "CLOSING") || bytes_eq word (codes "LAST-ACK")
    || bytes_eq word (codes "TIME-WAIT")

-- letters, digits and points
abbrev pub are_letters_digits_and_points : List ℕ → Bool
are_letters_digits_and_points word = list_all (λ octet. is_ascii_alphanumeric octet || octet == 46) word

-- the same, and at least one
abbrev pub is_nonempty_letters_digits_and_points : List ℕ → Bool
is_nonempty_letters_digits_and_points word = nat_lt 0 (length word) && are_letters_digits_and_points word

-- a name with its colon, and a value
abbrev pub is_value_after_name_with_colon : List ℕ → List ℕ → Bool
is_value_after_name_with_colon word name = bytes_eq (take (length name) word) name && is_nonempty_letters_digits_and_points (drop (length name) word)

-- the name of an octet number or a window, a colon and a value
abbrev pub is_sequence_or_window_fact : List ℕ → Bool
is_sequence_or_window_fact word =
    is_value_after_name_with_colon word (codes "una:") || is_value_after_name_with_colon word (codes "next:") || is_value_after_name_with_colon word (codes "top:") || is_value_after_name_with_colon word (codes "end:")
    || is_value_after_name_with_colon word (codes "cwnd:") || is_value_after_name_with_colon word (codes "ssthresh:") || is_value_after_name_with_colon word (codes "rwnd:")

-- the name of a count, a colon and a value
abbrev pub is_count_fact : List ℕ → Bool
is_count_fact word =
    is_value_after_name_with_colon word (codes "FlightSize:") || is_value_after_name_with_colon word (codes "pipe:") || is_value_after_name_with_colon word (codes "prr_delivered:")
    || is_value_after_name_with_colon word (codes "prr_out:") || is_value_after_name_with_colon word (codes "DupAcks:")

-- the name of another fact, a colon and a value
abbrev pub is_connection_timer_or_recovery_fact : List ℕ → Bool
is_connection_timer_or_recovery_fact word =
    is_value_after_name_with_colon word (codes "connection:") || is_value_after_name_with_colon word (codes "RTO:") || is_value_after_name_with_colon word (codes "expiry:")
    || is_value_after_name_with_colon word (codes "recovery:") || is_value_after_name_with_colon word (codes "sent_by:")

-- the name of a fact, a colon and a value
abbrev pub is_fact : List ℕ → Bool
is_fact word = is_sequence_or_window_fact word || is_count_fact word || is_connection_timer_or_recovery_fact word

-- facts, parted by single blanks
abbrev pub are_facts : List ℕ → Bool
are_facts words = list_all is_fact (slice_split (λ octet. octet == 32) words)

-- the first blank
abbrev pub find_first_space : List ℕ → Option ℕ
find_first_space octets = position (λ octet. octet == 32) octets

-- a state, and facts after a blank
abbrev pub is_state_and_facts_at : Option ℕ → List ℕ → Bool
is_state_and_facts_at None words = is_tcp_state_name_but_syn_sent words
is_state_and_facts_at (Some at) words = is_tcp_state_name_but_syn_sent (take at words) && are_facts (drop (at + 1) words)

-- a moment, and after a blank a state and facts
abbrev pub is_trace_body_at : Option ℕ → List ℕ → Bool
is_trace_body_at None words = false
is_trace_body_at (Some at) words = let rest = drop (at + 1) words in is_seconds_with_six_decimals (take at words) && is_state_and_facts_at (find_first_space rest) rest

-- the opening of a line of a trace
abbrev pub opening : List ℕ
opening = codes "//= at "

-- a line of a trace: its opening, and words parted by single blanks
abbrev pub is_single_trace_line : List ℕ → Bool
is_single_trace_line line = let words = drop 7 line in bytes_eq (take 7 line) opening && is_trace_body_at (find_first_space words) words

-- The rules of options and of segments that an event comes to.
use Rattle.std.specs.Prelude.{ℕ, ◌-◌, ◌*◌, ◌==◌, nat_lt, nat_le, Bool, true, false, not, ◌&&◌, ◌||◌, List, [], ◌∷◌, ◌++◌, codes, flat_map, Option, Some, None, if◌then◌else◌}
use Rattle.std.specs.List.{list_any}
use Rattle.pd_settings.specs.declared.initial_window.InitialWindow.{InitialWindow}
use Rattle.pd_settings.specs.declared.initial_window.InitialWindow.TheVariants.{Rfc5681, Rfc6928}
use Rattle.pd_settings.specs.declared.settings.Settings.{Settings}
use Rattle.pd_script.specs.declared.packets.Options.{Options}
use Rattle.pd_script.specs.declared.packets.Options.TheVariants.{Listed}
use Rattle.pd_script.specs.declared.packets.PacketOption.{PacketOption}
use Rattle.pd_script.specs.declared.packets.PacketOption.TheVariants.{Mss, Wscale, SackOk, Eol, Sack}
use Rattle.pd_script.specs.declared.packets.SackBlock.{SackBlock}
use Rattle.pd_seg.specs.declared.segments.Sent.{Sent}
use Rattle.pd_seg.specs.declared.segments.Segment.{Segment}
use Rattle.pd_host.specs.declared.connection_snapshot.ConnectionSnapshot.{ConnectionSnapshot}
use Rattle.pd_host.specs.declared.connection_snapshot.WindowSnapshot.{WindowSnapshot}
use Rattle.pd_explain.specs.RuleNames.{as_list, present}

-- The options of a SYN

abbrev pub is_eol : PacketOption → Bool
is_eol Eol = true
is_eol _ = false

abbrev pub is_mss : PacketOption → Bool
is_mss (Mss octets) = true
is_mss _ = false

abbrev pub is_sack_ok : PacketOption → Bool
is_sack_ok SackOk = true
is_sack_ok _ = false

abbrev pub is_wscale : PacketOption → Bool
is_wscale (Wscale count) = true
is_wscale _ = false

-- a shift count above 14 (RFC 7323, section 2.3)
abbrev pub is_large_wscale : PacketOption → Bool
is_large_wscale (Wscale count) = nat_lt 14 count
is_large_wscale _ = false

-- SMSS is the setting, the peer's, or 536 where the peer names none (RFC 9293, section 3.7.1)
abbrev pub smss_name : ℕ → ℕ → List PacketOption → List ℕ
smss_name mss smss options =
    if smss == mss then codes "rfc9293.smss.ours" else (if list_any is_mss options then codes "rfc9293.smss.peers" else codes "rfc9293.smss.default")

-- SACK is agreed where the peer offers it and the setting allows it (RFC 2018, section 2)
abbrev pub sack_name : Bool → List PacketOption → List ℕ
sack_name sack options =
    if list_any is_sack_ok options then (if sack then codes "rfc2018.sack.agreed" else codes "rfc2018.sack.switched-off") else codes "rfc2018.sack.not-offered"

-- window scaling is agreed where the peer offers it (RFC 7323, sections 2.2 and 2.3)
abbrev pub scaling_name : List PacketOption → List ℕ
scaling_name options =
    if list_any is_large_wscale options then codes "rfc7323.scaling.above-14"
    else (if list_any is_wscale options then codes "rfc7323.scaling.agreed" else codes "rfc7323.scaling.not-offered")

-- all names of a SYN's options; where the end of the list is among them, that alone (RFC 9293, section 3.2)
abbrev pub names_of_listed : Settings → ℕ → List PacketOption → List (List ℕ)
names_of_listed settings smss options =
    if list_any is_eol options then codes "rfc9293.options.end-of-list" ∷ []
    else (smss_name settings.mss smss options ∷ sack_name settings.sack options ∷ scaling_name options ∷ [])

abbrev pub syn_names : Settings → ℕ → Options → List (List ℕ)
syn_names settings smss (Listed options) = names_of_listed settings smss options
syn_names settings smss _ = names_of_listed settings smss []

-- The end of the handshake

-- the first congestion window, a segment where the SYN/ACK was sent again (RFC 5681, section 3.1; RFC 6928, section 2)
abbrev pub initial_window_name_by : InitialWindow → ℕ → ℕ → List ℕ
initial_window_name_by Rfc6928 smss cwnd = codes "rfc6928.initial-window"
initial_window_name_by Rfc5681 smss cwnd =
    if cwnd == 2 * smss then codes "rfc5681.initial-window.two-segments"
    else (if cwnd == 3 * smss then codes "rfc5681.initial-window.three-segments" else codes "rfc5681.initial-window.four-segments")

abbrev pub initial_window_name : InitialWindow → ℕ → ℕ → List ℕ
initial_window_name rule smss cwnd = if cwnd == smss then codes "rfc5681.initial-window.one-segment" else initial_window_name_by rule smss cwnd

-- The blocks of a SACK option, with SND.UNA and the number after all that was sent (RFC 2018, sections 3 and 5)

abbrev pub is_empty_block : SackBlock → Bool
is_empty_block block = nat_le block.right block.left

abbrev pub is_above_top : ℕ → SackBlock → Bool
is_above_top top block = nat_lt top block.right

-- a block of what was acknowledged before (RFC 2883)
abbrev pub is_below_una : ℕ → SackBlock → Bool
is_below_una una block = nat_le block.right una

-- a block that counts
abbrev pub is_counted : ℕ → ℕ → SackBlock → Bool
is_counted una top block = nat_lt block.left block.right && (nat_le block.right top && nat_lt una block.right)

abbrev pub has_empty_block : PacketOption → Bool
has_empty_block (Sack blocks) = list_any is_empty_block blocks
has_empty_block _ = false

abbrev pub has_block_above_top : ℕ → PacketOption → Bool
has_block_above_top top (Sack blocks) = list_any (is_above_top top) blocks
has_block_above_top top _ = false

abbrev pub has_block_below_una : ℕ → PacketOption → Bool
has_block_below_una una (Sack blocks) = list_any (is_below_una una) blocks
has_block_below_una una _ = false

abbrev pub has_counted_block : ℕ → ℕ → PacketOption → Bool
has_counted_block una top (Sack blocks) = list_any (is_counted una top) blocks
has_counted_block una top _ = false

-- the options have such a block
abbrev pub empty_block_name : List PacketOption → Option (List ℕ)
empty_block_name options = if list_any has_empty_block options then Some (codes "rfc2018.block.empty") else None

abbrev pub above_top_name : ℕ → List PacketOption → Option (List ℕ)
above_top_name top options = if list_any (has_block_above_top top) options then Some (codes "rfc2018.block.above-top") else None

abbrev pub below_una_name : ℕ → List PacketOption → Option (List ℕ)
below_una_name una options = if list_any (has_block_below_una una) options then Some (codes "rfc2883.block.below-una") else None

abbrev pub counted_block_name : ℕ → ℕ → List PacketOption → Option (List ℕ)
counted_block_name una top options = if list_any (has_counted_block una top) options then Some (codes "rfc2018.block.counted") else None

-- all names of blocks; none where the end of the list is among the options
abbrev pub names_of_blocks : ℕ → ℕ → List PacketOption → List (List ℕ)
names_of_blocks una top options =
    if list_any is_eol options then []
    else present (empty_block_name options ∷ above_top_name top options ∷ below_una_name una options ∷ counted_block_name una top options ∷ [])

abbrev pub block_names : ℕ → ℕ → Options → List (List ℕ)
block_names una top (Listed options) = names_of_blocks una top options
block_names una top _ = []

-- Segments that an input puts out

-- the segment with the FIN, or one with octets by its size and PSH (RFC 9293, sections 3.4 and 3.9.1.2)
abbrev pub segment_name : ℕ → Segment → Option (List ℕ)
segment_name smss segment =
    if segment.flags.fin then (if segment.end - segment.start == 0 then Some (codes "rfc9293.fin.alone") else Some (codes "rfc9293.fin.with-data"))
    else (if segment.end - segment.start == 0 then None
    else (if segment.flags.psh then Some (codes "rfc9293.segment.push")
    else (if segment.end - segment.start == smss then Some (codes "rfc9293.segment.full") else Some (codes "rfc9293.segment.part"))))

abbrev pub segment_names : ℕ → List Sent → List (List ℕ)
segment_names smss packets = flat_map (λ (sent : Sent). as_list (segment_name smss sent.segment)) packets

-- The rule that is given for what a sender doesn't run is right of it.
use Rattle.std.proofs.Common.{◌≡◌, ◌==◌, Bool, true, false, not, ◌&&◌, ◌||◌, if◌then◌else◌, Some, None, is_some, nat_lt, refl, sym, ap, ◌∙◌, true≢false}
use Rattle.pd_seg.specs.declared.segments.Segment.{Segment}
use Rattle.pd_host.specs.Arrivals.{has_in_window_fin_out_of_order}
use Rattle.pd_host.specs.Connection.{ConnectionView}
use Rattle.pd_host.specs.Handshake.{is_listening, is_syn_alone, is_peer_mss_supported, length_of, offered_mss}
use Rattle.pd_host.specs.declared.descriptors.ListenState.{ListenState}
use Rattle.pd_refusal.specs.Rules.{HoldsOfFirst, OpeningsHaveRules, is_closed_by, HoldsOn, ContentsHaveRules}
use Rattle.pd_refusal.specs.declared.rules.unsupported_inputs.UnsupportedInput.TheVariants.{NotListening, NotSyn, SmallMss, Payload, SecondSyn, StrayFin, AfterReset, AfterFins}

-- a first segment, by its tests
opening : (l : ListenState) (s : Segment) (listens alone at_start empty large : Bool)
    → is_listening l ≡ listens
    → is_syn_alone s.flags ≡ alone
    → (s.start == 0) ≡ at_start
    → (length_of s == 0) ≡ empty
    → is_peer_mss_supported (offered_mss s.options) ≡ large
    → (listens && (alone && (at_start && (empty && large)))) ≡ false
    → HoldsOfFirst l s (if not listens then NotListening else (if alone && (at_start && empty) then SmallMss else NotSyn))
opening l s false a b c m hl ha hb hc hm e = hl
opening l s true false b c m hl ha hb hc hm e = ap (λ v. v && ((s.start == 0) && (length_of s == 0))) ha
opening l s true true false c m hl ha hb hc hm e =
    ap (λ v. v && ((s.start == 0) && (length_of s == 0))) ha ∙ ap (λ v. v && (length_of s == 0)) hb
opening l s true true true false m hl ha hb hc hm e =
    ap (λ v. v && ((s.start == 0) && (length_of s == 0))) ha ∙ ap (λ v. v && (length_of s == 0)) hb ∙ hc
opening l s true true true true m hl ha hb hc hm e = hm ∙ e

pub openings_have_rules : OpeningsHaveRules
openings_have_rules l s e =
    opening l s (is_listening l) (is_syn_alone s.flags) (s.start == 0) (length_of s == 0) (is_peer_mss_supported (offered_mss s.options)) refl refl refl refl refl e

-- a segment on a connection, by its tests
contents : {X : Type 0} (x : X) (c : ConnectionView) (s : Segment) (filled syn foreign_syntax closed is_reset : Bool)
    → nat_lt 0 (length_of s) ≡ filled
    → s.flags.syn ≡ syn
    → has_in_window_fin_out_of_order c s ≡ foreign_syntax
    → is_closed_by c ≡ closed
    → c.is_reset ≡ is_reset
    → is_some (if filled || (syn || (foreign_syntax || closed)) then Some x else None) ≡ true
    → HoldsOn c s (if filled then Payload else (if syn then SecondSyn else (if not closed then StrayFin else (if is_reset then AfterReset else AfterFins))))
contents x c s true syn foreign_syntax closed is_reset hd hs ht hc hr e = hd
contents x c s false true foreign_syntax closed is_reset hd hs ht hc hr e = hs
contents x c s false false foreign_syntax true true hd hs ht hc hr e = hr
contents x c s false false foreign_syntax true false hd hs ht hc hr e = (hc, hr)
contents x c s false false true false is_reset hd hs ht hc hr e = ht
contents x c s false false false false is_reset hd hs ht hc hr e = absurd (true≢false (sym e))

pub contents_have_rules : ContentsHaveRules
contents_have_rules c s e =
    contents _ c s (nat_lt 0 (length_of s)) s.flags.syn (has_in_window_fin_out_of_order c s) (is_closed_by c) c.is_reset refl refl refl refl refl e

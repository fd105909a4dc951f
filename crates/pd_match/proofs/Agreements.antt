-- The test of each field decides whether the packet agrees in it.
use Rattle.std.proofs.Common.{◌≡◌, ℕ, ◌≤◌, Bool, ◌&&◌, leb, ◌==◌, List, [], ◌∷◌, map, Option, Some, None, refl, ap, arith}
use Rattle.std.specs.Bool.{Decides}
use Rattle.std.specs.Cmp.{booleans_Decides}
use Rattle.std.proofs.lemmas.Bool.Decides.{Decides-and, Decides-eqb, nat_tests}
use Rattle.pd_script.specs.declared.packets.SackBlock.{SackBlock}
use Rattle.pd_script.specs.declared.packets.PacketFlags as script
use Rattle.pd_script.specs.declared.packets.Options.{Options}
use Rattle.pd_script.specs.declared.packets.Options.TheVariants.{Absent, Any, Listed}
use Rattle.pd_script.specs.declared.packets.Packet.{Packet}
use Rattle.pd_script.specs.declared.packets.PacketOption.{PacketOption}
use Rattle.pd_script.specs.declared.packets.PacketOption.TheVariants as written
use Rattle.pd_seg.specs.declared.flags.Flags.{Flags}
use Rattle.pd_seg.specs.declared.option_list.SegOption.{SegOption}
use Rattle.pd_seg.specs.declared.option_list.SegOption.TheVariants as sent
use Rattle.pd_seg.specs.declared.sack_spans.Span.{Span}
use Rattle.pd_seg.specs.declared.segments.Sent.{Sent}
use Rattle.pd_match.specs.declared.kinds.Kind.{Kind}
use Rattle.pd_match.specs.declared.kinds.Kind.TheVariants as kind
use Rattle.pd_match.specs.Packets.{passes, in_time, same_if_written, same_flags, each_pair, same_block, same_option, same_options}
use Rattle.pd_match.specs.Agreement.{Agrees, IsInTime, MatchesIfWritten, HasOptions, block_of, option_of, flags_of}

decides_le : (a b : ℕ) → Decides (leb a b) (a ≤ b)
decides_le a b = (λ e. grind (arith, nat_tests), λ h. grind (arith, nat_tests))

in_time_decides : (time_range : Option (ℕ × ℕ)) (at tolerance : ℕ) → Decides (in_time time_range at tolerance) (IsInTime time_range at tolerance)
in_time_decides None at tolerance = (λ e. tt, λ h. refl)
in_time_decides (Some time_range) at tolerance = Decides-and _ _ (decides_le _ _) (decides_le _ _)

if_written_decides : (w : Option ℕ) (n : ℕ) → Decides (same_if_written w n) (MatchesIfWritten w n)
if_written_decides None n = (λ e. tt, λ h. refl)
if_written_decides (Some w) n = Decides-eqb w n

-- two lists are equal where each pair in one place is
pairs_decide : {A B : Type 0} (test : A → B → Bool) (f : B → A) (each : (x : A) (y : B) → Decides (test x y) (x ≡ f y))
    (xs : List A) (ys : List B) → Decides (each_pair test xs ys) (xs ≡ map f ys)
pairs_decide test f each [] [] = (λ e. refl, λ h. refl)
pairs_decide test f each [] (y ∷ ys) = (λ e. absurd cc, λ h. absurd cc)
pairs_decide test f each (x ∷ xs) [] = (λ e. absurd cc, λ h. absurd cc)
pairs_decide test f each (x ∷ xs) (y ∷ ys) =
    let one : Decides (test x y && each_pair test xs ys) ((x ≡ f y) × (xs ≡ map f ys)) =
    Decides-and (test x y) (each_pair test xs ys) (each x y) (pairs_decide test f each xs ys) in (
      λ e. let both : (x ≡ f y) × (xs ≡ map f ys) = one.0 e in cc,
      λ h. let head : x ≡ f y = cc in let tail : xs ≡ map f ys = cc in one.1 (head, tail),
    )

block_decides : (w : SackBlock) (s : Span) → Decides (same_block w s) (w ≡ block_of s)
block_decides w s =
    let one : Decides (same_block w s) ((w.left ≡ s.start) × (w.right ≡ s.end)) = Decides-and _ _ (Decides-eqb _ _) (Decides-eqb _ _) in (
      λ e. let both = one.0 e in λ i. record { left = both.0 i; right = both.1 i },
      λ h. one.1 (ap (λ (b : SackBlock). b.left) h, ap (λ (b : SackBlock). b.right) h),
    )

option_decides : (w : PacketOption) (s : SegOption) → Decides (same_option w s) (w ≡ option_of s)
option_decides (written.Mss w) (sent.Mss s) = (λ e. ap written.Mss ((Decides-eqb w s).0 e), λ h. (Decides-eqb w s).1 (cc))
option_decides (written.Wscale w) (sent.Wscale s) = (λ e. ap written.Wscale ((Decides-eqb w s).0 e), λ h. (Decides-eqb w s).1 (cc))
option_decides written.SackOk sent.SackOk = (λ e. refl, λ h. refl)
option_decides written.Nop sent.Nop = (λ e. refl, λ h. refl)
option_decides written.Eol sent.Eol = (λ e. refl, λ h. refl)
option_decides (written.Timestamp w x) (sent.Timestamp s t) =
    let one : Decides ((w == s) && (x == t)) ((w ≡ s) × (x ≡ t)) = Decides-and _ _ (Decides-eqb w s) (Decides-eqb x t) in
    (λ e. let both : (w ≡ s) × (x ≡ t) = one.0 e in cc, λ h. one.1 (cc, cc))
option_decides (written.Sack w) (sent.Sack s) =
    let one : Decides (each_pair same_block w s) (w ≡ map block_of s) = pairs_decide same_block block_of block_decides w s in
    (λ e. ap written.Sack (one.0 e), λ h. one.1 (cc))
option_decides _ _ = (λ e. absurd cc, λ h. absurd cc)

options_decide : (w : Options) (s : List SegOption) → Decides (same_options w s) (HasOptions w s)
options_decide Any s = (λ e. tt, λ h. refl)
options_decide Absent [] = (λ e. refl, λ h. refl)
options_decide Absent (y ∷ ys) = (λ e. absurd cc, λ h. absurd cc)
options_decide (Listed w) s = pairs_decide same_option option_of option_decides w s

flags_decide : (w : script.PacketFlags) (s : Flags) → Decides (same_flags w s) (flags_of w ≡ s)
flags_decide w s =
    let bits : Decides (same_flags w s) ((w.syn ≡ s.syn) × ((w.fin ≡ s.fin) × ((w.rst ≡ s.rst) × ((w.psh ≡ s.psh) × (w.ack ≡ s.ack))))) =
    Decides-and _ _ (booleans_Decides _ _) (Decides-and _ _ (booleans_Decides _ _) (Decides-and _ _ (booleans_Decides _ _) (Decides-and _ _ (booleans_Decides _ _) (booleans_Decides _ _)))) in (
      λ e. let all = bits.0 e in λ i. record { syn = all.0 i; fin = all.1.0 i; rst = all.1.1.0 i; psh = all.1.1.1.0 i; ack = all.1.1.1.1 i },
      λ h. bits.1 (
        ap (λ (f : Flags). f.syn) h,
        (ap (λ (f : Flags). f.fin) h, (ap (λ (f : Flags). f.rst) h, (ap (λ (f : Flags). f.psh) h, ap (λ (f : Flags). f.ack) h))),
      ),
    )

pub passes_decides : (packet : Packet) (time_range : Option (ℕ × ℕ)) (s : Sent) (tolerance : ℕ) (k : Kind)
    → Decides (passes packet time_range s tolerance k) (Agrees packet time_range s tolerance k)
passes_decides packet time_range s tolerance kind.Time = in_time_decides time_range s.at tolerance
passes_decides packet time_range s tolerance kind.Flags = flags_decide packet.flags s.segment.flags
passes_decides packet time_range s tolerance kind.Seq =
    Decides-and _ _ (Decides-eqb _ _) (Decides-and _ _ (Decides-eqb _ _) (Decides-eqb _ _))
passes_decides packet time_range s tolerance kind.Ack = if_written_decides packet.ack s.segment.ack
passes_decides packet time_range s tolerance kind.Win = if_written_decides packet.win s.segment.win
passes_decides packet time_range s tolerance kind.Options = options_decide packet.options s.segment.options
passes_decides packet time_range s tolerance _ = (λ e. tt, λ h. refl)

-- A packet is put out exactly where the outbox has a place.
use Rattle.std.proofs.Common.{◌≡◌, ℕ, suc, ◌-◌, ◌<◌, Bool, true, false, if◌then◌else◌, nat_lt, length, List, [], ◌∷◌, ◌++◌, Result, Ok, Err, refl, sym, subst, arith, length-append}
use Rattle.std.proofs.lemmas.Bool.Decides.{nat_tests}
use Rattle.pd_seg.specs.declared.segments.Segment.{Segment}
use Rattle.pd_seg.specs.declared.segments.Sent.{Sent}
use Rattle.pd_seg.specs.declared.send_rule.SendRule.{SendRule}
use Rattle.pd_host.specs.InputResults.{Gives}
use Rattle.pd_host.specs.Host.{with_packet}
use Rattle.pd_host.specs.declared.halts.HostEnd.{HostEnd}
use Rattle.pd_host.specs.declared.halts.Halt.{Halt}
use Rattle.pd_host.specs.declared.halts.Halt.TheVariants.{Limit}

-- the packets with one more
abbrev pub and_packet : ℕ → SendRule → Segment → List Sent → List Sent
and_packet now rule segment packets = packets ++ record { segment = segment; at = now; rule = rule } ∷ []

abbrev placed : {A : Type 0} → Bool → A → Result A Halt
placed b more = if b then Ok more else Err Limit

placed_ok : {A : Type 0} → (b : Bool) (more new : A) → placed b more ≡ Ok new → (b ≡ true) × (new ≡ more)
placed_ok true more new h = (refl, cc)
placed_ok false more new h = absurd cc

is_below : (n : ℕ) → nat_lt n 1024 ≡ true → n < 1024
is_below n h = grind (arith, nat_tests)

-- the packet follows the others, and takes one place
pub put_ok : (now : ℕ) (rule : SendRule) (segment : Segment) (packets new : List Sent) → with_packet now rule segment packets ≡ Ok new
    → (length packets < 1024) × (new ≡ and_packet now rule segment packets)
put_ok now rule segment packets new h =
    let p = placed_ok (nat_lt (length packets) 1024) (and_packet now rule segment packets) new h in
    (is_below (length packets) p.0, p.1)

-- a place less is left
pub one_place_less : (now : ℕ) (rule : SendRule) (segment : Segment) (packets : List Sent) → length packets < 1024
    → 1024 - length packets ≡ suc (1024 - length (and_packet now rule segment packets))
one_place_less now rule segment packets l = omega (arith, length-append {A = Sent})

-- the same outcome gives the same
pub gives_same : {S : Type 0} → (outcome other : Result S Halt) (r : Result (Unit {0}) HostEnd) (new : S) → outcome ≡ other → Gives other r new → Gives outcome r new
gives_same {S} outcome other r new e h = subst (λ (o : Result S Halt). Gives o r new) (sym e) h

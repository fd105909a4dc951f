-- Small inputs by the definitions.
use Rattle.std.proofs.Common.{◌≡◌, ℕ, List, [], ◌++◌, Ok, Err, true, codes, refl}
use Rattle.std.specs.Fmt.{digits}
use Rattle.pd_settings.specs.Settings.{defaults}
use Rattle.pd_protocol.specs.declared.faults.ServeFault.TheVariants.{BadCommand, Truncated}
use Rattle.pd_cli.specs.Output.{output}

abbrev of_one : List ℕ
of_one = codes "total 1 pass 0 fail 0 syntax 0 unsupported 0 limit 0 pending 1\n"

no_input : output defaults [] ≡ record { written = codes "total 0 pass 0 fail 0 syntax 0 unsupported 0 limit 0 pending 0\n"; end = Ok true }
unfolding digits
no_input = refl

pending : output defaults (codes "add a 0\nshow\nx") ≡ record { written = codes "a pending\n" ++ of_one; end = Err BadCommand }
unfolding digits
pending = refl

refusals : output defaults (codes "add a 0\r\nadd a 0\nadd b! 1\n\nedit a 12 1 0\nedit b 1 0 0\nremove b\nset mss 10\nset foo 1\n\n   \nadd a 0000000\n")
    ≡ record { written = codes "refused 6 NameTaken\nrefused 5 BadName\nrefused 1 BadRange\nrefused 7 NoSuchScript\nrefused 7 NoSuchScript\nrefused 4 BadValue\nrefused 3 UnknownKey\n"; end = Err BadCommand }
unfolding mathlib.Core.Logic.Dec.and native.Mathlib.Decide.dec_le
refusals = refl

cut_short : output defaults (codes "add a 3\n0 socket(..., SOCK_STREAM, IPPROTO_TCP) = 3\n") ≡ record { written = []; end = Err Truncated }
cut_short = refl

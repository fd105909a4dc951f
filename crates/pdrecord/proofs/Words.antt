-- The options of the program that records are simple ones.
use Rattle.std.proofs.Common.{◌≡◌, true, refl}
use Rattle.clap.specs.Words.{is_simple, is_simple_and_free}
use Rattle.clap.proofs.OnLiterals.{clap_on_literals}
use Rattle.pdrecord.specs.RecordArguments.{pdrecord}

pub simple_pdrecord : is_simple pdrecord ≡ true
unfolding clap_on_literals
simple_pdrecord = refl

pub free_pdrecord : is_simple_and_free pdrecord ≡ true
unfolding clap_on_literals
free_pdrecord = refl

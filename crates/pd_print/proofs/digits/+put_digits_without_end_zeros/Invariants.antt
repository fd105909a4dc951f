-- One place less.
use Rattle.pd_print.proofs.digits.+put_digits_without_end_zeros.Given as goal

abbrev pub decreases-put_digits_without_end_zeros : goal.decreases-put_digits_without_end_zeros
decreases-put_digits_without_end_zeros l = l.places

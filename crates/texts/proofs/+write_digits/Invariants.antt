-- `texts::write_digits` calls itself on the number of the tens. The measure is the number.
use Rattle.texts.proofs.+write_digits.Given as goal

abbrev pub decreases-write_digits : goal.decreases-write_digits
decreases-write_digits l = l.number

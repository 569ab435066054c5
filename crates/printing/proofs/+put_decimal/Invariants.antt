-- `lines::put_decimal`: the measure is the number: its tenth is less. Assumes nothing.
use Rattle.printing.proofs.+put_decimal.Given as goal

abbrev pub decreases-put_decimal : goal.decreases-put_decimal
decreases-put_decimal l = l.n

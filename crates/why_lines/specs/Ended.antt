-- Internal: what ends the lines of a capture.
use Rattle.std.specs.Prelude.{ℕ}
use Rattle.reason.specs.declared.Why.{Why}
use Rattle.reason.specs.declared.Why.TheVariants.{Refused, Nothing, Open, Because}

-- what the last line says of an answer that has no reason
abbrev pub open_number : Why → ℕ
open_number (Refused x) = 0
open_number Nothing = 0
open_number Open = 1
open_number (Because r) = 0

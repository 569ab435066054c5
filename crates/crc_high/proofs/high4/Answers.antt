-- `crc_high::high4` meets its contract: what its five tables ensure, put together.
-- Assumes nothing.
use mathlib.Core.Path.{◌∙◌, ap₂, sym}
use lib.Bits.{bit_xor}
use Rattle.crc.proofs.Slices.{five}
use Rattle.crc_high.proofs.high4.Goals as goal

pub returns : goal.returns
returns c =
    ap₂ bit_xor c.e32.ensures (ap₂ bit_xor c.e38.ensures (ap₂ bit_xor c.e44.ensures (ap₂ bit_xor c.e50.ensures c.e57.ensures)))
    ∙ sym (five 64 7 c.args.x)

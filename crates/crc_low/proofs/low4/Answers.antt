-- `crc_low::low4` meets its contract: what its five tables ensure, put together.
-- Assumes nothing.
use mathlib.Core.Path.{◌∙◌, ap₂, sym}
use lib.Bits.{bit_xor}
use Rattle.crc.proofs.Slices.{five}
use Rattle.crc_low.proofs.low4.Goals as goal

pub returns : goal.returns
returns c =
    ap₂ bit_xor c.e0.ensures (ap₂ bit_xor c.e6.ensures (ap₂ bit_xor c.e12.ensures (ap₂ bit_xor c.e18.ensures c.e25.ensures)))
    ∙ sym (five 64 39 c.args.x)

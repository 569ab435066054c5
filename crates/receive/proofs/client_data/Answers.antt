-- `receive::client_data` meets its contract. Assumes nothing.
use Rattle.std.proofs.Common.{◌≡◌, ℕ, ◌+◌, ◌-◌, take, drop, sym, ap, ◌∙◌, arith}
use Rattle.receive.proofs.Handed.{part-inside, part_beyond, part-long}
use Rattle.receive.proofs.client_data.Goals as goal

pub returns-then-octets-at : goal.returns-then-octets-at
returns-then-octets-at c = sym (part_beyond _ _ c.if-octets-at.true)

pub returns-then-octets-at-2 : goal.returns-then-octets-at-2
returns-then-octets-at-2 c = sym (part-long _ _ c.if-octets-at.false c.if-octets-at-2.true)

pub returns : goal.returns
returns c =
    let a = c.args in
    let p = a.part in
    let os = a.octets.now in
    ap (λ (n : ℕ). take n (drop p.at os)) (let e : p.at + p.len - p.at ≡ p.len = omega arith in e) ∙ sym (part-inside os p (omega arith))

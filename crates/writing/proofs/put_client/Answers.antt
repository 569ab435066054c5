-- `writing::put_client` meets its contract: four writes, by `◌⨾◌`, with what `field_sent` ensures put into the third. Assumes nothing.
use native.Mathlib.Omega.{arith}
use Prim.Native.Nat.{ℕ, ◌+◌, ◌*◌, ◌≤◌}
use mathlib.Core.Path.{◌≡◌, ap}
use mathlib.Core.List.{List}
use lib.ListN.{length}
use Rattle.line.specs.Octets.{high_first}
use Rattle.splice.proofs.Laws.{◌⨾◌, put_as}
use Rattle.station.specs.declared.Settings.{Settings}
use Rattle.writing.specs.declared.Client.{Client}
use Rattle.writing.specs.Pieces.{head_of}
use Rattle.writing.specs.Frames.{tags_sent, tag_octets, padded, client_body}
use Rattle.writing.proofs.Pieces.{head_size, client_pieces}
use Rattle.writing.proofs.Sizes.{length_mapped, two, padded_size, client-body_size}
use Rattle.writing.proofs.TagLaws.{tag_length, tags_count}
use borrow.Author.Rules.{rules}
use Rattle.writing.proofs.put_client.Goals as goal

-- how long the pieces are
sizes : (s : Settings) (k : Client) (d : List ℕ) → length k.dest.0 ≡ 6 → length s.own.0 ≡ 6 → length k.tags ≡ 8 → k.count ≤ 8
    → (length (head_of k.dest.0 s.own) ≡ 20) × (length (tag_octets (tags_sent k)) ≡ 4 * k.count)
    × (length (client_body s k d) ≡ 14 + 4 * k.count + length (padded d))
sizes s k d dest own eight few =
    let tags = tags_count k eight few in (
      head_size k.dest.0 s.own dest own,
      omega (arith, tag_length (tags_sent k)),
      omega (arith, client-body_size s k d dest own, padded_size d),
    )

pub put_head-a-requires : goal.put_head-a-requires
put_head-a-requires c =
    omega (arith, sizes c.args.s c.args.client c.args.d.now (search rules) (search rules) (search (length_mapped, rules)) c.requires.2)

pub put_own_tags-b-requires : goal.put_own_tags-b-requires
put_own_tags-b-requires c =
    omega (arith, sizes c.args.s c.args.client c.args.d.now (search rules) (search rules) (search (length_mapped, rules)) c.requires.2)

pub put_number-c-requires : goal.put_number-c-requires
unfolding tags_sent
put_number-c-requires c =
    omega (arith, sizes c.args.s c.args.client c.args.d.now (search rules) (search rules) (search (length_mapped, rules)) c.requires.2)

pub put_data-requires : goal.put_data-requires
unfolding tags_sent
put_data-requires c =
    let number = rw two at c.put_number-c.ensures.goes in
    omega (arith, sizes c.args.s c.args.client c.args.d.now (search rules) (search rules) (search (length_mapped, rules)) c.requires.2)

pub returns : goal.returns
unfolding tags_sent
returns c =
    let number = put_as (ap high_first c.field_sent.ensures) c.put_number-c.ensures in
    rw (client_pieces c.args.s c.args.client c.args.d.now) at (c.put_head-a.ensures ⨾ c.put_own_tags-b.ensures ⨾ number ⨾ c.put_data.ensures)

-- Document 01, "Address rule", with the job's own entries "in place of the four listed ones" (document 02, item 10), and document 02, item 7: which address
-- let a frame in. `ms` is what the job has of the table: no other entry has a part in either. That the number is above 0 exactly where the rule accepts is a
-- theorem, `way-accepts` (proofs/Ways).
use Rattle.std.specs.Prelude.{ℕ, ◌+◌, Bool, cond, ◌||◌, List, None, Option, Some}
use Rattle.line.specs.Octets.{same_octets}
use Rattle.station.specs.declared.Address.{Address}
use Rattle.station.specs.declared.Settings.{Settings}
use Rattle.address.specs.Address.{broadcast_address}
use Rattle.table.specs.Entries.{among, first_mine}

-- "Promiscuous accepts all. Else broadcast … is accepted exactly if its setting is on; a listed broadcast address never matches. Else the
-- destination must equal the own address or a listed one"
unfoldable pub accepts : Settings → List (Option Address) → List ℕ → Bool
accepts s ms d =
    s.promiscuous
    || cond (same_octets d broadcast_address) s.broadcast (same_octets d s.own.0 || among d ms)

-- ---- document 02, item 7: "The address comparison must say: 1 own, … the first listed entry that matches, 6 broadcast, 7 promiscuous only, 0 not
-- accepted."

-- "7 promiscuous only, 0 not accepted"
abbrev pub otherwise_way : Bool → ℕ
otherwise_way promiscuous = cond promiscuous 7 0

-- item 10: "Item 7's numbers become 16 plus the entry for listed ones."
abbrev pub entry_way : Option ℕ → Bool → ℕ
entry_way (Some k) promiscuous = 16 + k
entry_way None promiscuous = otherwise_way promiscuous

-- "Own address and list are tried before promiscuous; broadcast is 6 if its setting is on, else 7 or 0, listed or not."
unfoldable pub way : Settings → List (Option Address) → List ℕ → ℕ
way s ms d =
    cond (same_octets d broadcast_address)
    (cond s.broadcast 6 (otherwise_way s.promiscuous))
    (cond (same_octets d s.own.0) 1 (entry_way (first_mine d 0 ms) s.promiscuous))

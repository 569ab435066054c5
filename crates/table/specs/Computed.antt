-- Internal: for a case that antt computes, `unfolding computed` opens every definition of this crate and of those below. It says nothing itself.
use Rattle.table.specs.Entries.{holder_by, address_at, entry_at, entries_from, entries_of, first_entry, free_entry, own_at, mine, held, names, among, first_mine}
use Rattle.table.specs.Calls.{empty_table, freed, taken, entry_octets, put_entry, is_listed, add_refusals, remove_refusals, put_at, changed, added, removed}
use Rattle.table.specs.Tests.{bad_job, again, twice, overfull, bad_table}
use Rattle.table.specs.Way.{accepts, way}
use Rattle.address.specs.Computed as address

unfoldable entries : Unit {0}
unfolding address.computed holder_by address_at entry_at entries_from entries_of first_entry free_entry own_at mine held names among first_mine
entries = tt

unfoldable calls : Unit {0}
unfolding entries empty_table freed taken entry_octets put_entry is_listed add_refusals remove_refusals put_at changed added removed
calls = tt

unfoldable pub computed : Unit {0}
unfolding calls bad_job again twice overfull bad_table accepts way
computed = tt

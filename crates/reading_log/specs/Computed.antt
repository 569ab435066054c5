-- Internal: for a case that antt computes, `unfolding computed` opens every definition of this crate and of those below. It says nothing itself.
use Rattle.reading_log.specs.Log.{low_octets, octets_of_record, record_of, is_used, counts, slot_at, slots_in, slots, all_used, used_ones, used_count, remaining}
use Rattle.reading_log.specs.Log.{up_to_last, extent, joined, at_front, compacted, bad_log, append_refusals, record_refusals, log_refusals}
use Rattle.reading_log.specs.Log.{roomy, appended, append_checked, appending, record_checked, record_read, number_checked, used_records}
use Rattle.reading_log.specs.Room.{delete_checked, deleting, has_outcome, deleted_all, count_of, delete_all_checked, deleting_all, compact_checked, compacting}
use Rattle.reading_log.specs.Readers.{skipped, next_used, step_of, next_step, reader_of, hand_out}
use Rattle.line.specs.Octets.{low_first}
use Rattle.line.specs.Computed as line

unfoldable records : Unit {0}
unfolding line.computed low_first low_octets octets_of_record record_of is_used counts slot_at slots_in slots all_used used_ones used_count remaining
records = tt

unfoldable compaction : Unit {0}
unfolding records up_to_last extent joined at_front compacted bad_log append_refusals record_refusals log_refusals roomy appended
compaction = tt

unfoldable calls : Unit {0}
unfolding compaction append_checked appending record_checked record_read number_checked used_records delete_checked deleting
calls = tt

unfoldable room : Unit {0}
unfolding calls has_outcome deleted_all count_of delete_all_checked deleting_all compact_checked compacting
room = tt

unfoldable pub computed : Unit {0}
unfolding room skipped next_used step_of next_step reader_of hand_out
computed = tt

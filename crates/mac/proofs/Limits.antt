-- Claim 1: the starred cases of "Both sides of the limits", one list under one statement, closed by computation. Assumes nothing.
use lib.Dec.{T}
use Rattle.receive.specs.Computed as receive
use Rattle.send.specs.Computed as send
use Rattle.mac.specs.Demand3.{frame_sent, row_frames, send_next, send_row}
use Rattle.mac.specs.Limits.{own_octets, limited_to, settings_in, client, sent_with, symbols_sent, run_with, body_with, tagged_with, unchecked, answer_said, read_as, reads_tagged, outcome_read, outcomes_read, takes, row_of, gaps_in_row, after_row, group, put, held_by, to_group, heard, refused_by, starred, all_true}

pub limits : T (all_true starred)
unfolding receive.computed send.computed frame_sent row_frames send_next send_row own_octets limited_to settings_in client sent_with symbols_sent run_with body_with tagged_with unchecked answer_said read_as reads_tagged outcome_read outcomes_read takes row_of gaps_in_row after_row group put held_by to_group heard refused_by starred all_true
limits = tt

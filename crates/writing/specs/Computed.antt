-- Internal: for a case that antt computes, `unfolding computed` opens every definition of this crate and of those below. It says nothing itself.
use Rattle.writing.specs.Frames.{tag_octets, tags_sent, field_sent, padded, client_body, gap, on_line, client_symbols, pause_body, class_quanta, pfc_body, pause_symbols, pfc_symbols, idle_symbols}
use Rattle.writing.specs.Gaps.{gap_at, gap_on, symbols_on}
use Rattle.fcs.specs.Computed as fcs
use Rattle.control.specs.Computed as control

unfoldable pub computed : Unit {0}
unfolding fcs.computed control.computed tag_octets tags_sent field_sent padded client_body gap on_line client_symbols pause_body class_quanta pfc_body pause_symbols pfc_symbols idle_symbols gap_at gap_on symbols_on
computed = tt

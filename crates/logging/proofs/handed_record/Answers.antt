-- `logging::handed_record` meets its contract: what is found by the frame's own layout is the frame's. Assumes nothing.
use native.Mathlib.Omega.{arith}
use Prim.Native.Nat.{ℕ, ◌+◌}
use mathlib.Core.Path.{◌≡◌, ap, ap₂, ◌∙◌}
use mathlib.Core.List.{List}
use lib.ListN.{length}
use Rattle.station.specs.declared.Outcome.TheVariants.{HandedOut}
use Rattle.fields.proofs.Places.{layout-field, layout-place}
use Rattle.frame.specs.Frame.{data_from, frame_data}
use Rattle.frame.specs.Length.{handed_of, client_data, handed_length}
use Rattle.frame.proofs.Length.{data_length, handed-le}
use Rattle.table.specs.Entries.{own_entries}
use Rattle.control.specs.Control.{way_carried}
use Rattle.receive.specs.Reading.{handed_part}
use Rattle.logging.proofs.Loops.{laid_record}
use Rattle.logging.proofs.handed_record.Goals as goal
use Rattle.logging.proofs.handed_record.Goals.{After-frame_way, After-handed_length-handed}

-- how many octets are handed out: by the layout, and so those of the frame's client data
handed-is : (c : After-handed_length-handed) → let a = c.args in
    c.handed_length-handed.result ≡ length (handed_of a.s.checking a.l.field (data_from a.l.place a.f.now))
handed-is c =
    let a = c.args in
    c.handed_length-handed.ensures ∙ ap (λ (d : List ℕ). length (handed_of a.s.checking a.l.field d)) c.frame_data.ensures

handed-own : (c : After-handed_length-handed) → let a = c.args in c.handed_length-handed.result ≡ (handed_part a.s HandedOut (a.start + 8) a.f.now).len
unfolding handed_part handed_length client_data frame_data
handed-own c =
    let a = c.args in
    let f = a.f.now in
    let e = c.requires.1 in
    handed-is c ∙ ap₂ (λ (n p : ℕ). length (handed_of a.s.checking n (data_from p f))) (layout-field _ f e) (layout-place _ f e)

pub status-word-requires : goal.status-word-requires
status-word-requires c =
    let a = c.args in
    let small = c.requires.0 in
    (small, omega (arith, handed-is c, handed-le a.l.field (data_from a.l.place a.f.now) a.s.checking, data_length a.l.place a.f.now))

-- the number of the address: outcome 11 carries the frame's
way-is : (c : After-frame_way) → let a = c.args in
    c.frame_way.result ≡ way_carried a.s (own_entries a.job a.table.now) HandedOut a.f.now
unfolding way_carried
way-is c = c.frame_way.ensures

pub returns : goal.returns
returns c =
    let a = c.args in
    c.record_at.ensures
    ∙ laid_record a.s _ a.start a.f.now HandedOut _ _ _ _ c.requires.1 (way-is (goal.at.returns c).After-frame_way) (handed-own (goal.at.returns c).After-handed_length-handed) c.status-word.ensures

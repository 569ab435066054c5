-- `send::check_idle` meets its contract: each way out passes the rows that did not hold and stops at the one that did. Assumes nothing.
use Rattle.std.specs.Prelude.{Ok}
use Prim.Native.Nat.{ℕ}
use mathlib.Core.Path.{◌≡◌, refl, sym, ◌∙◌}
use Rattle.line.specs.Table.{first}
use Rattle.line.proofs.Tables.{first-other}
use Rattle.station.specs.declared.Refusal.TheVariants.{BadBuffers, BadPlace, NoRoom}
use Rattle.writing.specs.Frames.{idle_symbols}
use Rattle.send.specs.Sending.{no_room, idle_refusals, idle_checked}
use Rattle.writing.proofs.Sizes.{idle_size}
use Rattle.send.proofs.Refusals.{after, row_holds_lem, row_passed, inside, room_by}
use Rattle.send.proofs.check_idle.Goals as goal
use Rattle.send.proofs.check_idle.Goals.{After-no_room, Else-bad_buffers, Else-bad_place, Else-no_room, Start}

abbrev past : ℕ → Start → Type 0
past n c = first ((let a = c.args in idle_refusals a.octets.now a.marks.now a.place (idle_symbols a.n))) ≡ first (after n ((let a = c.args in idle_refusals a.octets.now a.marks.now a.place (idle_symbols a.n))))

past-1 : (c : Else-bad_buffers) → past 1 (goal.at.Else-bad_buffers c).Start
unfolding idle_refusals
past-1 c = row_passed BadBuffers _ refl c.bad_buffers.ensures c.if-bad_buffers.false

past-2 : (c : Else-bad_place) → past 2 (goal.at.Else-bad_place c).Start
unfolding idle_refusals
past-2 c = row_passed BadPlace _ (past-1 (goal.at.Else-bad_place c).Else-bad_buffers) c.bad_place.ensures c.if-bad_place.false

-- the room that is asked for is that of the Idles
room : (c : After-no_room) → let a = c.args in c.no_room.result ≡ no_room a.octets.now a.place (idle_symbols a.n)
room c = let a = c.args in c.no_room.ensures ∙ room_by a.octets.now a.place _ _ (idle_size a.n)

past-3 : (c : Else-no_room) → past 3 (goal.at.Else-no_room c).Start
unfolding idle_refusals
past-3 c = row_passed NoRoom _ (past-2 (goal.at.Else-no_room c).Else-bad_place) (room (goal.at.Else-no_room c).After-no_room) c.if-no_room.false

pub returns-then-bad_buffers : goal.returns-then-bad_buffers
unfolding idle_checked idle_refusals
returns-then-bad_buffers c = row_holds_lem BadBuffers _ refl c.bad_buffers.ensures c.if-bad_buffers.true

pub returns-then-bad_place : goal.returns-then-bad_place
unfolding idle_checked idle_refusals
returns-then-bad_place c = row_holds_lem BadPlace _ (past-1 (goal.at.returns-then-bad_place c).Else-bad_buffers) c.bad_place.ensures c.if-bad_place.true

pub no_room-requires : goal.no_room-requires
no_room-requires c = inside _ _ (sym c.bad_place.ensures ∙ c.if-bad_place.false)

pub returns-then-no_room : goal.returns-then-no_room
unfolding idle_checked idle_refusals
returns-then-no_room c = row_holds_lem NoRoom _ (past-2 (goal.at.returns-then-no_room c).Else-bad_place) (room (goal.at.returns-then-no_room c).After-no_room) c.if-no_room.true

pub returns : goal.returns
unfolding idle_checked idle_refusals
returns c = sym (past-3 c ∙ first-other (Ok tt))

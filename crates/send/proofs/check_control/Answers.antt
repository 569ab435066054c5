-- `send::check_control` meets its contract: each way out passes the rows that did not hold and stops at the one that did. Assumes nothing.
use Rattle.std.specs.Prelude.{Ok}
use Rattle.station.specs.Numbers.{Checked}
use Prim.Native.Nat.{ℕ, ◌+◌, ◌≤◌}
use native.Mathlib.Omega.{arith}
use mathlib.Core.Path.{◌≡◌, refl, sym, ap, ◌∙◌}
use mathlib.Core.List.{List}
use lib.ListN.{length}
use Rattle.line.specs.Limits.{most_symbols, least_body, around_body}
use Rattle.line.specs.Table.{Table, first}
use Rattle.line.proofs.Tables.{first-other}
use Rattle.station.specs.declared.Refusal.TheVariants.{BadSettings, BadBuffers, BadPlace, OtherFlow, NoRoom, HighDeficit}
use Rattle.writing.specs.declared.Gap.{Gap}
use Rattle.writing.specs.Gaps.{gap_on, symbols_on}
use Rattle.writing.proofs.GapLaws.{some-gap, gap_is, size_is}
use Rattle.send.specs.Sending.{no_room, control_refusals}
use Rattle.send.proofs.Refusals.{after, row_passed, frame_stops, frame-goes, same_length, inside-port, room_by}
use Rattle.send.proofs.check_control.Goals as goal
use Rattle.send.proofs.check_control.Goals.{After-gap_behind-gap, After-no_room, Else-bad_buffers, Else-bad_settings, Else-bad_start, Else-high_deficit, Else-no_room, Else-not-asked, Start}

-- the table of any frame of which the FCS covers 60 octets, and that its first n rows are passed
abbrev rows : Start → List ℕ → Table Checked
rows c body = let a = c.args in control_refusals a.s a.port a.deficit a.octets.now a.marks.now a.place a.asked body

abbrev past : ℕ → Start → List ℕ → Type 0
past n c body = first (rows c body) ≡ first (after n (rows c body))

past-1 : (c : Else-bad_settings) (body : List ℕ) → past 1 (goal.at.Else-bad_settings c).Start body
unfolding control_refusals
past-1 c body = row_passed BadSettings _ refl c.bad_settings.ensures c.if-bad_settings.false

past-2 : (c : Else-bad_buffers) (body : List ℕ) → past 2 (goal.at.Else-bad_buffers c).Start body
unfolding control_refusals
past-2 c body = row_passed BadBuffers _ (past-1 (goal.at.Else-bad_buffers c).Else-bad_settings body) c.bad_buffers.ensures c.if-bad_buffers.false

past-3 : (c : Else-bad_start) (body : List ℕ) → past 3 (goal.at.Else-bad_start c).Start body
unfolding control_refusals
past-3 c body = row_passed BadPlace _ (past-2 (goal.at.Else-bad_start c).Else-bad_buffers body) c.bad_start.ensures c.if-bad_start.false

past-4 : (c : Else-high_deficit) (body : List ℕ) → past 4 (goal.at.Else-high_deficit c).Start body
unfolding control_refusals
past-4 c body = row_passed HighDeficit _ (past-3 (goal.at.Else-high_deficit c).Else-bad_start body) c.high_deficit.ensures c.if-high_deficit.false

past-5 : (c : Else-not-asked) (body : List ℕ) → past 5 (goal.at.Else-not-asked c).Start body
unfolding control_refusals
past-5 c body = row_passed OtherFlow _ (past-4 (goal.at.Else-not-asked c).Else-high_deficit body) refl c.if-not-asked.false-raw

-- the place lies inside the buffers, and these are not too long
place-small : (c : Else-bad_start) → let a = c.args in (a.place ≤ length a.octets.now) × (a.place ≤ most_symbols)
place-small c =
    let p = inside-port _ _ _ (sym c.bad_start.ensures ∙ c.if-bad_start.false) in
    let l = (same_length _ _ (sym c.bad_buffers.ensures ∙ c.if-bad_buffers.false)).1 in
    (p, omega arith)

-- the gap is that of the port
gap_of : (c : After-gap_behind-gap) (body : List ℕ) → length body ≡ least_body
    → let a = c.args in c.gap_behind-gap.result ≡ gap_on a.port a.deficit a.place body
gap_of c body e = let a = c.args in c.gap_behind-gap.ensures ∙ gap_is a.port a.deficit a.place body least_body e

-- and short
short-gap : (c : After-gap_behind-gap) → c.gap_behind-gap.result.size ≤ 16
short-gap c =
    let a = c.args in
    let e = ap (λ (g : Gap). g.size) c.gap_behind-gap.ensures in
    let k = some-gap a.port (a.place + around_body + least_body) a.deficit in
    omega arith

-- the room that is asked for is that of the symbols
room : (c : After-no_room) (body : List ℕ) → length body ≡ least_body
    → let a = c.args in c.no_room.result ≡ no_room a.octets.now a.place (symbols_on a.port a.deficit a.place body)
room c body e =
    let a = c.args in
    let need = ap (λ (x : Gap). around_body + least_body + x.size) c.gap_behind-gap.ensures in
    c.no_room.ensures
    ∙ room_by a.octets.now a.place _ _ (size_is a.port a.deficit a.place body least_body e ∙ sym need)

past-6 : (c : Else-no_room) (body : List ℕ) → length body ≡ least_body → past 6 (goal.at.Else-no_room c).Start body
unfolding control_refusals
past-6 c body e = row_passed NoRoom _ (past-5 (goal.at.Else-no_room c).Else-not-asked body) (room (goal.at.Else-no_room c).After-no_room body e) c.if-no_room.false

pub returns-then-bad_settings : goal.returns-then-bad_settings
unfolding control_refusals
returns-then-bad_settings c = λ body e. frame_stops _ BadSettings _ refl c.bad_settings.ensures c.if-bad_settings.true

pub returns-then-bad_buffers : goal.returns-then-bad_buffers
unfolding control_refusals
returns-then-bad_buffers c = λ body e. frame_stops _ BadBuffers _ (past-1 (goal.at.returns-then-bad_buffers c).Else-bad_settings body) c.bad_buffers.ensures c.if-bad_buffers.true

pub returns-then-bad_start : goal.returns-then-bad_start
unfolding control_refusals
returns-then-bad_start c = λ body e. frame_stops _ BadPlace _ (past-2 (goal.at.returns-then-bad_start c).Else-bad_buffers body) c.bad_start.ensures c.if-bad_start.true

pub returns-then-high_deficit : goal.returns-then-high_deficit
unfolding control_refusals
returns-then-high_deficit c = λ body e. frame_stops _ HighDeficit _ (past-3 (goal.at.returns-then-high_deficit c).Else-bad_start body) c.high_deficit.ensures c.if-high_deficit.true

pub returns-then-not-asked : goal.returns-then-not-asked
unfolding control_refusals
returns-then-not-asked c = λ body e. frame_stops _ OtherFlow _ (past-4 (goal.at.returns-then-not-asked c).Else-high_deficit body) refl c.if-not-asked.true-raw

pub gap_behind-gap-requires : goal.gap_behind-gap-requires
gap_behind-gap-requires c = ((place-small (goal.at.gap_behind-gap-requires c).Else-bad_start).1, omega arith)

pub overflow_add-gap : goal.overflow_add-gap
overflow_add-gap c = let g = short-gap (goal.at.overflow_add-gap c).After-gap_behind-gap in omega arith

pub no_room-requires : goal.no_room-requires
no_room-requires c = (place-small (goal.at.no_room-requires c).Else-bad_start).0

pub returns-then-no_room : goal.returns-then-no_room
unfolding control_refusals
returns-then-no_room c = λ body e. frame_stops _ NoRoom _ (past-5 (goal.at.returns-then-no_room c).Else-not-asked body) (room (goal.at.returns-then-no_room c).After-no_room body e) c.if-no_room.true

pub returns : goal.returns
unfolding control_refusals
returns c = λ body e. frame-goes (gap_of (goal.at.returns c).After-gap_behind-gap body e) (past-6 c body e ∙ first-other (Ok tt))

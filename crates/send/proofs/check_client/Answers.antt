-- `send::check_client` meets its contract: each way out passes the rows that did not hold and stops at the one that did. Assumes nothing.
use Rattle.std.specs.Prelude.{Ok}
use Prim.Native.Nat.{ℕ, ◌+◌, ◌-◌, ◌*◌, ◌≤◌}
use native.Mathlib.Omega.{arith}
use mathlib.Core.Path.{◌≡◌, refl, sym, ap, ◌∙◌}
use lib.ListN.{length}
use borrow.Author.Rules.{rules}
use Rattle.line.specs.Limits.{most_symbols, tag_size, least_data, least_limit, most_limit, around_body, most_tags}
use Rattle.line.specs.Table.{first}
use Rattle.line.proofs.Tables.{first-other}
use Rattle.station.specs.declared.Refusal.TheVariants.{BadSettings, BadBuffers, BadPlace, BadClass, BadType, LongData, NoRoom, Held, ManyTags, HighDeficit}
use Rattle.writing.specs.Frames.{client_body}
use Rattle.writing.specs.declared.Gap.{Gap}
use Rattle.writing.specs.Gaps.{gap_on, symbols_on}
use Rattle.send.specs.Sending.{no_room, client_refusals, client_checked}
use Rattle.writing.proofs.GapLaws.{some-gap, gap_is, size_is}
use Rattle.writing.proofs.Sizes.{length_mapped, client-body_size}
use Rattle.writing.proofs.TagLaws.{tags_count}
use Rattle.send.proofs.Refusals.{after, row_passed, frame_stops, frame-goes, limit_from, same_length, inside-port, class_to_7, tags_to_8, short_data, room_by}
use Rattle.send.proofs.check_client.Goals as goal
use Rattle.send.proofs.check_client.Goals.{After-client_size-size, After-gap_behind-gap, After-no_room, Else-bad_buffers, Else-bad_class, Else-bad_settings, Else-bad_start, Else-bad_type, Else-held, Else-high_deficit, Else-long_data, Else-many_tags, Else-no_room, Start}

abbrev past : ℕ → Start → Type 0
past n c = first ((let a = c.args in client_refusals a.s a.state a.port a.octets.now a.marks.now a.place a.client a.d.now)) ≡ first (after n ((let a = c.args in client_refusals a.s a.state a.port a.octets.now a.marks.now a.place a.client a.d.now)))

past-1 : (c : Else-bad_settings) → past 1 (goal.at.Else-bad_settings c).Start
unfolding client_refusals
past-1 c = row_passed BadSettings _ refl c.bad_settings.ensures c.if-bad_settings.false

valid : (c : Else-bad_settings) → let m = c.args.s.limit in (least_limit ≤ m) × (m ≤ most_limit)
valid c = limit_from c.args.s (sym c.bad_settings.ensures ∙ c.if-bad_settings.false)

past-2 : (c : Else-bad_buffers) → past 2 (goal.at.Else-bad_buffers c).Start
unfolding client_refusals
past-2 c = row_passed BadBuffers _ (past-1 (goal.at.Else-bad_buffers c).Else-bad_settings) c.bad_buffers.ensures c.if-bad_buffers.false

past-3 : (c : Else-bad_start) → past 3 (goal.at.Else-bad_start c).Start
unfolding client_refusals
past-3 c = row_passed BadPlace _ (past-2 (goal.at.Else-bad_start c).Else-bad_buffers) c.bad_start.ensures c.if-bad_start.false

-- the place lies inside the buffers, and these are not too long
place-small : (c : Else-bad_start) → let a = c.args in (a.place ≤ length a.octets.now) × (a.place ≤ most_symbols)
place-small c =
    let p = inside-port _ _ _ (sym c.bad_start.ensures ∙ c.if-bad_start.false) in
    let l = (same_length _ _ (sym c.bad_buffers.ensures ∙ c.if-bad_buffers.false)).1 in
    (p, omega arith)

past-4 : (c : Else-high_deficit) → past 4 (goal.at.Else-high_deficit c).Start
unfolding client_refusals
past-4 c = row_passed HighDeficit _ (past-3 (goal.at.Else-high_deficit c).Else-bad_start) c.high_deficit.ensures c.if-high_deficit.false

past-5 : (c : Else-bad_class) → past 5 (goal.at.Else-bad_class c).Start
unfolding client_refusals
past-5 c = row_passed BadClass _ (past-4 (goal.at.Else-bad_class c).Else-high_deficit) c.bad_class.ensures c.if-bad_class.false

past-6 : (c : Else-bad_type) → past 6 (goal.at.Else-bad_type c).Start
unfolding client_refusals
past-6 c = row_passed BadType _ (past-5 (goal.at.Else-bad_type c).Else-bad_class) c.bad_type.ensures c.if-bad_type.false

past-7 : (c : Else-many_tags) → past 7 (goal.at.Else-many_tags c).Start
unfolding client_refusals
past-7 c = row_passed ManyTags _ (past-6 (goal.at.Else-many_tags c).Else-bad_type) c.many_tags.ensures c.if-many_tags.false

past-8 : (c : Else-long_data) → past 8 (goal.at.Else-long_data c).Start
unfolding client_refusals
past-8 c = row_passed LongData _ (past-7 (goal.at.Else-long_data c).Else-many_tags) c.long_data.ensures c.if-long_data.false

dest-6 : (c : Start) → length c.args.client.dest.0 ≡ 6
dest-6 c = search rules

own-6 : (c : Start) → length c.args.s.own.0 ≡ 6
own-6 c = search rules

tags-8 : (c : Start) → length c.args.client.tags ≡ 8
tags-8 c = search (length_mapped, rules)

data-short : (c : Else-long_data) → length c.args.d.now ≤ 9600
data-short c =
    let a = c.args in
    short_data a.s.limit a.client.form a.d.now (valid (goal.at.Else-long_data c).Else-bad_settings).1 (sym c.long_data.ensures ∙ c.if-long_data.false)

few_tags : (c : Else-long_data) → c.args.client.count ≤ most_tags
few_tags c = let p7 = c in tags_to_8 c.args.client (sym p7.many_tags.ensures ∙ p7.if-many_tags.false)

body-small : (c : After-client_size-size) → c.client_size-size.result ≤ 131072
body-small c =
    let n = data-short (goal.at.After-client_size-size c).Else-long_data in
    let t = few_tags (goal.at.After-client_size-size c).Else-long_data in
    let e = c.client_size-size.ensures in
    omega arith

-- the octets that the FCS covers are as many as were reckoned
body_is : (c : After-client_size-size) → let a = c.args in length (client_body a.s a.client a.d.now) ≡ c.client_size-size.result
body_is c =
    let a = c.args in
    let counted = ap (λ (n : ℕ). 14 + tag_size * n + (length a.d.now + (least_data - length a.d.now)))
    (tags_count a.client (tags-8 (goal.at.After-client_size-size c).Start) (few_tags (goal.at.After-client_size-size c).Else-long_data)) in
    client-body_size a.s a.client a.d.now (dest-6 (goal.at.After-client_size-size c).Start) (own-6 (goal.at.After-client_size-size c).Start) ∙ counted ∙ sym c.client_size-size.ensures

-- the gap is that of the port
gap_of : (c : After-gap_behind-gap) → let a = c.args in
    c.gap_behind-gap.result ≡ gap_on a.port a.state.deficit a.place (client_body a.s a.client a.d.now)
gap_of c = let a = c.args in c.gap_behind-gap.ensures ∙ gap_is a.port a.state.deficit a.place _ _ (body_is (goal.at.After-gap_behind-gap c).After-client_size-size)

-- and short
short-gap : (c : After-gap_behind-gap) → c.gap_behind-gap.result.size ≤ 16
short-gap c =
    let a = c.args in
    let e = ap (λ (g : Gap). g.size) c.gap_behind-gap.ensures in
    let k = some-gap a.port (a.place + around_body + c.client_size-size.result) a.state.deficit in
    omega arith

-- the room that is asked for is that of the frame's symbols
room : (c : After-no_room) → let a = c.args in
    c.no_room.result ≡ no_room a.octets.now a.place (symbols_on a.port a.state.deficit a.place (client_body a.s a.client a.d.now))
room c =
    let a = c.args in
    let size = size_is a.port a.state.deficit a.place (client_body a.s a.client a.d.now) _ (body_is (goal.at.After-no_room c).After-client_size-size) in
    let need = ap (λ (x : Gap). around_body + c.client_size-size.result + x.size) c.gap_behind-gap.ensures in
    c.no_room.ensures ∙ room_by a.octets.now a.place _ _ (size ∙ sym need)

past-9 : (c : Else-no_room) → past 9 (goal.at.Else-no_room c).Start
unfolding client_refusals
past-9 c = row_passed NoRoom _ (past-8 (goal.at.Else-no_room c).Else-long_data) (room (goal.at.Else-no_room c).After-no_room) c.if-no_room.false

past-10 : (c : Else-held) → past 10 (goal.at.Else-held c).Start
unfolding client_refusals
past-10 c = row_passed Held _ (past-9 (goal.at.Else-held c).Else-no_room) c.held.ensures c.if-held.false

pub returns-then-bad_settings : goal.returns-then-bad_settings
unfolding client_checked client_refusals
returns-then-bad_settings c = frame_stops _ BadSettings _ refl c.bad_settings.ensures c.if-bad_settings.true

pub returns-then-bad_buffers : goal.returns-then-bad_buffers
unfolding client_checked client_refusals
returns-then-bad_buffers c = frame_stops _ BadBuffers _ (past-1 (goal.at.returns-then-bad_buffers c).Else-bad_settings) c.bad_buffers.ensures c.if-bad_buffers.true

pub returns-then-bad_start : goal.returns-then-bad_start
unfolding client_checked client_refusals
returns-then-bad_start c = frame_stops _ BadPlace _ (past-2 (goal.at.returns-then-bad_start c).Else-bad_buffers) c.bad_start.ensures c.if-bad_start.true

pub returns-then-high_deficit : goal.returns-then-high_deficit
unfolding client_checked client_refusals
returns-then-high_deficit c = frame_stops _ HighDeficit _ (past-3 (goal.at.returns-then-high_deficit c).Else-bad_start) c.high_deficit.ensures c.if-high_deficit.true

pub returns-then-bad_class : goal.returns-then-bad_class
unfolding client_checked client_refusals
returns-then-bad_class c = frame_stops _ BadClass _ (past-4 (goal.at.returns-then-bad_class c).Else-high_deficit) c.bad_class.ensures c.if-bad_class.true

pub returns-then-bad_type : goal.returns-then-bad_type
unfolding client_checked client_refusals
returns-then-bad_type c = frame_stops _ BadType _ (past-5 (goal.at.returns-then-bad_type c).Else-bad_class) c.bad_type.ensures c.if-bad_type.true

pub returns-then-many_tags : goal.returns-then-many_tags
unfolding client_checked client_refusals
returns-then-many_tags c = frame_stops _ ManyTags _ (past-6 (goal.at.returns-then-many_tags c).Else-bad_type) c.many_tags.ensures c.if-many_tags.true

pub long_data-requires : goal.long_data-requires
long_data-requires c = (valid (goal.at.long_data-requires c).Else-bad_settings).0

pub returns-then-long_data : goal.returns-then-long_data
unfolding client_checked client_refusals
returns-then-long_data c = frame_stops _ LongData _ (past-7 (goal.at.returns-then-long_data c).Else-many_tags) c.long_data.ensures c.if-long_data.true

pub client_size-size-requires : goal.client_size-size-requires
client_size-size-requires c = let n = data-short c in omega arith

pub gap_behind-gap-requires : goal.gap_behind-gap-requires
gap_behind-gap-requires c = ((place-small (goal.at.gap_behind-gap-requires c).Else-bad_start).1, body-small c)

pub overflow_add-size : goal.overflow_add-size
overflow_add-size c = let n = body-small (goal.at.overflow_add-size c).After-client_size-size in omega arith

pub overflow_add-size-2 : goal.overflow_add-size-2
overflow_add-size-2 c =
    let n = body-small (goal.at.overflow_add-size-2 c).After-client_size-size in
    let g = short-gap (goal.at.overflow_add-size-2 c).After-gap_behind-gap in
    omega arith

pub no_room-requires : goal.no_room-requires
no_room-requires c = (place-small (goal.at.no_room-requires c).Else-bad_start).0

pub returns-then-no_room : goal.returns-then-no_room
unfolding client_checked client_refusals
returns-then-no_room c = frame_stops _ NoRoom _ (past-8 (goal.at.returns-then-no_room c).Else-long_data) (room (goal.at.returns-then-no_room c).After-no_room) c.if-no_room.true

pub held-requires : goal.held-requires
held-requires c = let p5 = c in class_to_7 _ (sym p5.bad_class.ensures ∙ p5.if-bad_class.false)

pub returns-then-held : goal.returns-then-held
unfolding client_checked client_refusals
returns-then-held c = frame_stops _ Held _ (past-9 (goal.at.returns-then-held c).Else-no_room) c.held.ensures c.if-held.true

pub returns : goal.returns
unfolding client_checked client_refusals
returns c = frame-goes (gap_of (goal.at.returns c).After-gap_behind-gap) (past-10 c ∙ first-other (Ok tt))

-- The tables of refusals row by row: what a call that is not refused knows, and how the code's tests are the rows'. Assumes nothing.
use Rattle.std.specs.Prelude.{Err, Ok, Result}
use Rattle.station.specs.Numbers.{Checked}
use Prim.Native.Nat.{ℕ, zero, suc, ◌+◌, ◌-◌, ◌%◌, ◌≤◌}
use native.Mathlib.Omega.{arith}
use mathlib.Core.Path.{◌≡◌, refl, sym, ap, ◌∙◌}
use mathlib.Core.Bool.{Bool, true, false, not, ◌||◌}
use mathlib.Core.List.{List}
use lib.ListN.{length}
use lib.Dec.{eqb, ltb}
use borrow.Author.Tests.{eqb-true, ltb-false}
use Rattle.line.specs.Limits.{most_symbols, most_length, least_limit, most_limit, most_class, around_data, most_tags, lanes}
use Rattle.line.specs.Line.{Symbol}
use Rattle.line.specs.Table.{Table, otherwise, ◌⇒◌, ◌∣◌, first}
use Rattle.line.proofs.Tables.{first-here, first_next}
use Rattle.station.specs.declared.Settings.{Settings}
use Rattle.station.specs.declared.Port.{Port}
use Rattle.station.specs.declared.Port.TheVariants.{Plain, FourLane}
use Rattle.station.specs.declared.State.{State}
use Rattle.station.specs.declared.Refusal.{Refusal}
use Rattle.station.specs.declared.Refusal.TheVariants.{BadSettings, BadBuffers, BadPlace, OtherFlow, BadClass, BadType, LongData, NoRoom, ManyTags, HighDeficit}
use Rattle.station.specs.Station.{is_group, bad_settings, bad_buffers, bad_place, bad_start, high_deficit}
use Rattle.station.proofs.Refusals.{fine_row, or-false, not-false}
use Rattle.writing.specs.declared.Client.{Client}
use Rattle.writing.specs.declared.Gap.{Gap}
use Rattle.writing.specs.declared.Form.{Form}
use Rattle.writing.specs.declared.Form.TheVariants.{ByLength, ByType}
use Rattle.writing.specs.Frames.{client_body, idle_symbols}
use Rattle.writing.specs.Gaps.{gap_on, symbols_on}
use Rattle.send.specs.Framings.{with_gap}
use Rattle.send.specs.Sending.{bad_class, bad_type, many_tags, long_data, no_room, client_refusals, control_refusals, idle_refusals, client_checked, idle_checked}

-- ---- a table whose first n rows do not hold, and its next row, whose test the code answered by r

-- a table without its first n rows
abbrev pub after : ℕ → Table Checked → Table Checked
after zero t = t
after (suc n) (otherwise a) = otherwise a
after (suc n) (r ∣ rows) = after n rows

pub row_holds_lem : {a : Checked} {b r : Bool} (x : Refusal) (rows : Table Checked) → a ≡ first (b ⇒ Err x ∣ rows) → r ≡ b → r ≡ true → Err x ≡ a
row_holds_lem x rows h e was = sym (h ∙ first-here (Err x) rows (sym e ∙ was))

pub row_passed : {a : Checked} {b r : Bool} (x : Refusal) (rows : Table Checked) → a ≡ first (b ⇒ Err x ∣ rows) → r ≡ b → r ≡ false → a ≡ first rows
row_passed x rows h e was = h ∙ first_next (Err x) rows (sym e ∙ was)

-- the same of a frame's check, which gives the gap if no row holds
pub frame_stops : {a : Checked} {b r : Bool} (g : Gap) (x : Refusal) (rows : Table Checked) → a ≡ first (b ⇒ Err x ∣ rows) → r ≡ b → r ≡ true
    → Err x ≡ with_gap g a
unfolding with_gap
frame_stops g x rows h e was = ap (with_gap g) (row_holds_lem x rows h e was)

pub frame-goes : {a : Checked} {g h : Gap} → g ≡ h → a ≡ Ok tt → Ok g ≡ with_gap h a
unfolding with_gap
frame-goes {a} {g} {h} same e = ap Ok same ∙ ap (with_gap h) (sym e)

-- and what its answer tells of the table and of the gap
pub stopped : (g : Gap) (k : Checked) (x : Refusal) → Err x ≡ with_gap g k → k ≡ Err x
unfolding with_gap
stopped g (Ok _) x e = cc
stopped g (Err y) x e = cc

pub goes : (g : Gap) (k : Checked) (h : Gap) → Ok h ≡ with_gap g k → (k ≡ Ok tt) × (h ≡ g)
unfolding with_gap
goes g (Ok _) h e = (refl, cc)
goes g (Err y) h e = (cc, cc)

-- ---- what a row that does not hold tells

pub limit_from : (s : Settings) → bad_settings s ≡ false → (least_limit ≤ s.limit) × (s.limit ≤ most_limit)
unfolding bad_settings
limit_from s h =
    let high = or-false (is_group s.own.0 || ltb s.limit least_limit) (ltb most_limit s.limit) h in
    let low = or-false (is_group s.own.0) (ltb s.limit least_limit) high.0 in
    (ltb-false s.limit least_limit low.1, ltb-false most_limit s.limit high.1)

pub same_length : (os ms : List ℕ) → bad_buffers os ms ≡ false → (length os ≡ length ms) × (length os ≤ most_symbols)
unfolding bad_buffers
same_length os ms h =
    let both = or-false (not (eqb (length os) (length ms))) (ltb most_symbols (length os)) h in
    (eqb-true (length os) (length ms) (not-false (eqb (length os) (length ms)) both.0), ltb-false most_symbols (length os) both.1)

pub inside : (os : List ℕ) (place : ℕ) → bad_place os place ≡ false → place ≤ length os
unfolding bad_place
inside os place h = ltb-false (length os) place h

-- of a frame, on any port
pub not_beyond : (port : Port) (os : List ℕ) (place : ℕ) → bad_start port os place ≡ false → bad_place os place ≡ false
unfolding bad_start
not_beyond Plain os place h = h
not_beyond FourLane os place h = (or-false (bad_place os place) (not (eqb (place % lanes) 0)) h).0

pub inside-port : (port : Port) (os : List ℕ) (place : ℕ) → bad_start port os place ≡ false → place ≤ length os
inside-port port os place h = inside os place (not_beyond port os place h)

-- and on the four-lane port
pub divisible : (os : List ℕ) (place : ℕ) → bad_start FourLane os place ≡ false → place % lanes ≡ 0
unfolding bad_start
divisible os place h = eqb-true (place % lanes) 0 (not-false (eqb (place % lanes) 0) (or-false (bad_place os place) (not (eqb (place % lanes) 0)) h).1)

pub deficit_to_3 : (count : ℕ) → high_deficit FourLane count ≡ false → count ≤ 3
unfolding high_deficit
deficit_to_3 count h = ltb-false 3 count h

pub class_to_7 : (c : Client) → bad_class c ≡ false → c.class ≤ most_class
unfolding bad_class
class_to_7 c h = ltb-false most_class c.class h

pub tags_to_8 : (c : Client) → many_tags c ≡ false → c.count ≤ most_tags
unfolding many_tags
tags_to_8 c h = ltb-false most_tags c.count h

pub short-by-length : (m : ℕ) (d : List ℕ) → long_data m ByLength d ≡ false → length d ≤ most_length
unfolding long_data
short-by-length m d h = ltb-false most_length (length d) h

pub short-by-type : (m t : ℕ) (d : List ℕ) → long_data m (ByType t) d ≡ false → length d ≤ m - around_data
unfolding long_data
short-by-type m t d h = ltb-false (m - around_data) (length d) h

pub short_data : (m : ℕ) (f : Form) (d : List ℕ) → m ≤ most_limit → long_data m f d ≡ false → length d ≤ 9600
short_data m ByLength d k h = let n = short-by-length m d h in omega arith
short_data m (ByType t) d k h = let n = short-by-type m t d h in omega arith

pub fits : (os : List ℕ) (place : ℕ) (new : List Symbol) → place ≤ length os → no_room os place new ≡ false → place + length new ≤ length os
unfolding no_room
fits os place new k h = let n = ltb-false (length os - place) (length new) h in omega arith

-- the room that is left, compared with the number of the symbols
pub room_by : (os : List ℕ) (place need : ℕ) (new : List Symbol) → length new ≡ need → ltb (length os - place) need ≡ no_room os place new
unfolding no_room
room_by os place need new e = ap (λ (n : ℕ). ltb (length os - place) n) (sym e)

-- the flow mode, as the code asked for it
pub in_mode : (s : Settings) (port : Port) (count : ℕ) (os ms : List ℕ) (place : ℕ) (body : List ℕ) {r : Result Gap Refusal} {b asked : Bool}
    → r ≡ with_gap (gap_on port count place body) (first (control_refusals s port count os ms place b body)) → b ≡ asked
    → r ≡ with_gap (gap_on port count place body) (first (control_refusals s port count os ms place asked body))
in_mode s port count os ms place body h e = rw e at h

-- ---- what a call that is not refused knows

-- of its buffers and place, for the symbols that it writes
pub record Room (os ms : List ℕ) (place : ℕ) (new : List Symbol) : Type 0 where
  pub even : length os ≡ length ms
  pub small : length os ≤ most_symbols
  pub room : place + length new ≤ length os

room_of : (os ms : List ℕ) (place : ℕ) (new : List Symbol) → bad_buffers os ms ≡ false → bad_place os place ≡ false → no_room os place new ≡ false
    → Room os ms place new
room_of os ms place new b p n =
    let same = same_length os ms b in
    record { even = same.0; small = same.1; room = fits os place new (inside os place p) n }

-- a frame on a port, of its settings, its place and the deficit count too
pub record Framed (s : Settings) (port : Port) (count : ℕ) (os ms : List ℕ) (place : ℕ) (body : List ℕ) : Type 0 where
  pub valid : bad_settings s ≡ false
  pub starts : bad_start port os place ≡ false
  pub low : high_deficit port count ≡ false
  pub even : length os ≡ length ms
  pub small : length os ≤ most_symbols
  pub room : place + length (symbols_on port count place body) ≤ length os

framed_of : (s : Settings) (port : Port) (count : ℕ) (os ms : List ℕ) (place : ℕ) (body : List ℕ) → bad_settings s ≡ false → bad_buffers os ms ≡ false
    → bad_start port os place ≡ false → high_deficit port count ≡ false → no_room os place (symbols_on port count place body) ≡ false
    → Framed s port count os ms place body
framed_of s port count os ms place body v b p l n =
    let k = room_of os ms place (symbols_on port count place body) b (not_beyond port os place p) n in
    record { valid = v; starts = p; low = l; even = k.even; small = k.small; room = k.room }

-- and a client frame's call of its class, form, tags and data
pub record Passed (s : Settings) (st : State) (port : Port) (os ms : List ℕ) (place : ℕ) (c : Client) (d : List ℕ) : Type 0 where
  pub framed : Framed s port st.deficit os ms place (client_body s c d)
  pub class : c.class ≤ most_class
  pub type : bad_type c.form ≡ false
  pub tags : c.count ≤ most_tags
  pub short : long_data s.limit c.form d ≡ false
  pub data_small : length d ≤ 9600

pub passed : (s : Settings) (st : State) (port : Port) (os ms : List ℕ) (place : ℕ) (c : Client) (d : List ℕ) → client_checked s st port os ms place c d ≡ Ok tt
    → Passed s st port os ms place c d
unfolding client_checked client_refusals
passed s st port os ms place c d h =
    let r1 = fine_row BadSettings _ h in
    let r2 = fine_row BadBuffers _ r1.1 in
    let r3 = fine_row BadPlace _ r2.1 in
    let r19 = fine_row HighDeficit _ r3.1 in
    let r5 = fine_row BadClass _ r19.1 in
    let r6 = fine_row BadType _ r5.1 in
    let r10 = fine_row ManyTags _ r6.1 in
    let r7 = fine_row LongData _ r10.1 in
    let r8 = fine_row NoRoom _ r7.1 in
    record {
      framed = framed_of s port st.deficit os ms place (client_body s c d) r1.0 r2.0 r3.0 r19.0 r8.0;
      class = class_to_7 c r5.0;
      type = r6.0;
      tags = tags_to_8 c r10.0;
      short = r7.0;
      data_small = short_data s.limit c.form d (limit_from s r1.0).1 r7.0;
    }

pub passed_control : (s : Settings) (port : Port) (count : ℕ) (os ms : List ℕ) (place : ℕ) (inMode : Bool) (body : List ℕ)
    → first (control_refusals s port count os ms place inMode body) ≡ Ok tt → (inMode ≡ true) × Framed s port count os ms place body
unfolding control_refusals
passed_control s port count os ms place inMode body h =
    let r1 = fine_row BadSettings _ h in
    let r2 = fine_row BadBuffers _ r1.1 in
    let r3 = fine_row BadPlace _ r2.1 in
    let r19 = fine_row HighDeficit _ r3.1 in
    let r4 = fine_row OtherFlow _ r19.1 in
    let r8 = fine_row NoRoom _ r4.1 in
    (not-false inMode r4.0, framed_of s port count os ms place body r1.0 r2.0 r3.0 r19.0 r8.0)

pub passed-idle : (os ms : List ℕ) (place n : ℕ) → idle_checked os ms place n ≡ Ok tt → Room os ms place (idle_symbols n)
unfolding idle_checked idle_refusals
passed-idle os ms place n h =
    let r2 = fine_row BadBuffers _ h in
    let r3 = fine_row BadPlace _ r2.1 in
    let r8 = fine_row NoRoom _ r3.1 in
    room_of os ms place (idle_symbols n) r2.0 r3.0 r8.0

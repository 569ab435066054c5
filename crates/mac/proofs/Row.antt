-- Claim 6, sending in a row: client calls that are not refused, each on its own port and at the place the one before gave, leave the frames' symbols
-- back to back and every other symbol as it was (`row`); and read back they hand out the frames' data (`sent-then-read`), which closes demand 3 from the
-- sending calls to the readings. Assumes nothing.
use Rattle.std.specs.Prelude.{Ok, Option}
use Rattle.station.specs.Numbers.{Checked}
use Prim.Native.Nat.{ℕ, ◌+◌, ◌≤◌}
use native.Mathlib.Omega.{arith}
use mathlib.Core.Path.{◌≡◌, refl, sym, ap, ap₂, ◌∙◌}
use mathlib.Core.Bool.{true, false}
use mathlib.Core.List.{List, [], ◌∷◌, ◌++◌, append_assoc}
use lib.ListN.{length, length-append}
use Rattle.line.specs.Line.{Symbol, capture, octets_of, marks_of, overwrite}
use Rattle.line.proofs.Buffers.{length-octets_of, length-marks_of, octets_of-append, marks_of-append}
use Rattle.line.proofs.Overwrite.{overwrite-none, overwrite-overwrite, length-overwrite, capture-overwrite}
use Rattle.station.specs.declared.Address.{Address}
use Rattle.station.specs.declared.Settings.{Settings}
use Rattle.station.specs.declared.State.{State}
use Rattle.station.specs.Station.{bad_settings}
use Rattle.table.specs.declared.Entry.{Entry}
use Rattle.table.specs.Entries.{mine}
use Rattle.table.specs.Tests.{bad_job, bad_table}
use Rattle.receive.specs.Walk.{walk, handed_out}
use Rattle.receive.proofs.Refusals.{fine as refuses-none}
use Rattle.writing.specs.Frames.{client_body, client_symbols}
use Rattle.writing.specs.Gaps.{gap_on, symbols_on}
use borrow.Author.Tests.{le-ltb}
use Rattle.send.specs.Sending.{SendCall, many_tags, send_checked, frame_sending, client_checked, client_sending}
use Rattle.send.proofs.Refusals.{Passed, passed}
use Rattle.mac.specs.Demand2.{Readable}
use Rattle.mac.specs.Demand3.{Frame, row_symbols, all_delivered, AllWelcome, AllCarried, alone, Asked, frame_sent, row_frames, send_next, send_row, row_from, NoneRefused, BackToBack, left, frames_left, before, behind}
use Rattle.mac.proofs.Demand3.{demand3_within}

-- writing both buffers' octets of a list of symbols in two steps
two_steps : (l : List ℕ) (p n : ℕ) (a b ab : List ℕ) → length a ≡ n → ab ≡ a ++ b → p + n ≤ length l
    → overwrite (overwrite l p a) (p + n) b ≡ overwrite l p ab
two_steps l p n a b ab e d h =
    ap (λ (k : ℕ). overwrite (overwrite l p a) (p + k) b) (sym e)
    ∙ overwrite-overwrite l p a b (omega arith)
    ∙ ap (overwrite l p) (sym d)

module _ (tx : Settings) where
  -- what the FCS of one call's frame covers, the frame's symbols, and the deficit count after it
  abbrev body_of : Asked → List ℕ
  body_of a = client_body tx a.client a.octets

  abbrev symbols_of : SendCall → Asked → List Symbol
  symbols_of x a = symbols_on a.port x.given.state.deficit x.given.place (body_of a)

  abbrev count_of : SendCall → Asked → ℕ
  count_of x a = (gap_on a.port x.given.state.deficit x.given.place (body_of a)).count

  -- the call
  next-is : (x : SendCall) (a : Asked) → client_checked tx x.given.state a.port x.octets x.marks x.given.place a.client a.octets ≡ Ok tt
      → send_next tx x a ≡ send_checked (Ok tt) x.given.state x.octets x.marks x.given.place (symbols_of x a) (count_of x a)
  unfolding send_next client_sending frame_sending
  next-is x a h = ap (λ (k : Checked). send_checked k x.given.state x.octets x.marks x.given.place (symbols_of x a) (count_of x a)) h

  pub row : (x : SendCall) (asked : List Asked) → length x.octets ≡ length x.marks → x.given.place ≤ length x.octets → NoneRefused tx x asked
      → BackToBack tx x (send_row tx x asked) (row_frames tx x asked)
  unfolding send_row row_frames frame_sent row_symbols client_symbols symbols_on NoneRefused octets_of marks_of
  row x [] even inside w =
      record {
        octets = sym (overwrite-none x.octets x.given.place);
        marks = sym (overwrite-none x.marks x.given.place);
        place = omega arith;
        room = omega arith;
      }
  row x (a ∷ asked) even inside w =
      let new : List Symbol = symbols_of x a in
      let p : ℕ = x.given.place in
      let y : SendCall = send_next tx x a in
      let rest : List Symbol = row_symbols tx (row_frames tx y asked) in
      let k = passed tx x.given.state a.port x.octets x.marks p a.client a.octets w.0 in
      let fits : p + length new ≤ length x.octets = k.framed.room in
      let e = next-is x a w.0 in
      let no = length-octets_of new in
      let nm = length-marks_of new in
      let yo : y.octets ≡ overwrite x.octets p (octets_of new) = ap (λ (s : SendCall). s.octets) e ∙ (unfold send_checked in refl) in
      let ym : y.marks ≡ overwrite x.marks p (marks_of new) = ap (λ (s : SendCall). s.marks) e ∙ (unfold send_checked in refl) in
      let yp : y.given.place ≡ p + length new = ap (λ (s : SendCall). s.given.place) e ∙ (unfold send_checked in refl) in
      let lo : length y.octets ≡ length x.octets = ap length yo ∙ length-overwrite x.octets p (octets_of new) (omega arith) in
      let lm : length y.marks ≡ length x.marks = ap length ym ∙ length-overwrite x.marks p (marks_of new) (omega arith) in
      let ih = row y asked (omega arith) (omega arith) w.1 in
      record {
        octets =
            ih.octets ∙ ap₂ (λ (l : List ℕ) (q : ℕ). overwrite l q (octets_of rest)) yo yp
            ∙ two_steps x.octets p (length new) (octets_of new) (octets_of rest) (octets_of (new ++ rest)) no (octets_of-append new rest) fits;
        marks =
            ih.marks ∙ ap₂ (λ (l : List ℕ) (q : ℕ). overwrite l q (marks_of rest)) ym yp
            ∙ two_steps x.marks p (length new) (marks_of new) (marks_of rest) (marks_of (new ++ rest)) nm (marks_of-append new rest) (omega arith);
        place = let a = length-append new rest in let b = ih.place in omega arith;
        room = let a = length-append new rest in let b = ih.room in omega arith;
      }

-- ---- read back

-- frames that the sender does not refuse, and that the receiver's settings and own entries welcome
carried : (tx rx : Settings) (own : List (Option Address)) (x : SendCall) (asked : List Asked) → NoneRefused tx x asked
    → AllWelcome tx rx own (row_frames tx x asked) → AllCarried tx rx own (row_frames tx x asked)
unfolding NoneRefused AllWelcome AllCarried row_frames frame_sent
carried tx rx own x [] w v = tt
carried tx rx own x (a ∷ asked) w v =
    let k = passed tx x.given.state a.port x.octets x.marks x.given.place a.client a.octets w.0 in
    let few : many_tags a.client ≡ false = (unfold many_tags in le-ltb 8 a.client.count k.tags) in
    (record { welcome = v.0; form = k.type; few = few; short = k.short }, carried tx rx own (send_next tx x a) asked w.1 v.1)

-- a sender tx and a receiver rx with settings of its own, which are valid and check lengths, a job of 0 or 1 and a table that gives no 20; one frame or
-- more, each on a port of its own, from a place of any buffers on
module _ (tx rx : Settings) (job : ℕ) (es : List Entry) (valid : bad_settings rx ≡ false) (known : bad_job job ≡ false) (sound : bad_table es ≡ false)
    (checks : rx.checking ≡ true) (st : State) (os ms : List ℕ) (place : ℕ)
    (a : Asked) (asked : List Asked) (w : NoneRefused tx (row_from st os ms place) (a ∷ asked))
    (v : AllWelcome tx rx (mine job es) (frames_left tx st os ms place (a ∷ asked))) where
  -- the frames on the line, the symbols that are written, and what the calls leave
  abbrev fs : List Frame
  fs = frames_left tx st os ms place (a ∷ asked)

  abbrev new : List Symbol
  new = row_symbols tx fs

  abbrev y : SendCall
  y = left tx st os ms place (a ∷ asked)

  sender : Passed tx st a.port os ms place a.client a.octets
  unfolding NoneRefused
  sender = passed tx st a.port os ms place a.client a.octets w.0

  the_row : BackToBack tx (row_from st os ms place) y fs
  the_row = let k = sender.framed in let r = k.room in row tx (row_from st os ms place) (a ∷ asked) k.even (omega arith) w

  -- the capture that the calls leave
  pub row_capture : let l = left tx st os ms place (a ∷ asked) in
      capture l.octets l.marks
      ≡ before os ms place ++ (row_symbols tx (frames_left tx st os ms place (a ∷ asked)) ++ behind tx st os ms place (a ∷ asked))
  row_capture =
      ap₂ capture the_row.octets the_row.marks
      ∙ capture-overwrite os ms place new sender.framed.even
      ∙ (unfold overwrite in append_assoc (before os ms place) new (behind tx st os ms place (a ∷ asked)))

  readable : Readable rx job es y.octets y.marks
  readable =
      let k = sender.framed in
      let small = k.small in
      let even = k.even in
      let room = the_row.room in
      let lo = ap length the_row.octets ∙ length-overwrite os place (octets_of new) (let n = length-octets_of new in omega arith) in
      let lm = ap length the_row.marks ∙ length-overwrite ms place (marks_of new) (let n = length-marks_of new in omega arith) in
      refuses-none rx job es y.octets y.marks 0 valid known (omega arith) (omega arith) (omega arith) sound

  pub sent-then-read : (st' : State) → let l = left tx st os ms place (a ∷ asked) in
      handed_out l.octets (walk rx job es st' l.octets l.marks)
      ≡ alone rx job es st' (before os ms place)
      ++ (all_delivered (frames_left tx st os ms place (a ∷ asked)) ++ alone rx job es st' (behind tx st os ms place (a ∷ asked)))
  unfolding row_frames
  sent-then-read st' =
      demand3_within tx rx job es st' y.octets y.marks readable checks (before os ms place) _ _ (behind tx st os ms place (a ∷ asked))
      (carried tx rx (mine job es) (row_from st os ms place) (a ∷ asked) w v)
      row_capture

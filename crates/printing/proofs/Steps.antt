-- What one reading adds to the lines of a walk. Assumes nothing.
use Prim.Native.Nat.{ℕ, suc, ◌+◌, ◌-◌, ◌<◌}
use mathlib.Core.Path.{◌≡◌, refl, sym, ap, ◌∙◌}
use mathlib.Core.Bool.{Bool, true, false}
use mathlib.Core.List.{List, [], ◌∷◌, ◌++◌}
use native.Mathlib.Omega.{arith}
use denote.Enum.Declared.{tag_of}
use types.Run.{OneOf, miss}
use lib.ListN.{length}
use Rattle.station.specs.declared.Settings.{Settings}
use Rattle.station.specs.declared.State.{State}
use Rattle.station.specs.declared.Outcome.{Outcome}
use Rattle.station.specs.declared.Part.{Part}
use Rattle.station.specs.Numbers.{outcome_number}
use Rattle.station.specs.Station.{fresh}
use Rattle.table.specs.declared.Entry.{Entry}
use Rattle.table.specs.Entries.{entries_of}
use Rattle.table.specs.Calls.{empty_table}
use Rattle.receive.specs.declared.Answer.{Answer}
use Rattle.receive.specs.declared.Answer.TheVariants.{Refused, Nothing, Open, Counted}
use Rattle.receive.specs.contracts.Answer.{the_type}
use Rattle.receive.specs.declared.Reading.{Reading}
use Rattle.receive.specs.Reading.{reading}
use Rattle.receive.specs.Values.{is_counted}
use Rattle.receive.specs.Walk.{readings_from, walk}
use Rattle.printing.specs.Lines.{program_settings, program_table, four_numbers, last_line, lines_of, capture_lines}
use Rattle.printing.specs.Shown.{open_number}

-- an answer that the test for a counted Start does not take
abbrev others : List ℕ
others = 0 ∷ 1 ∷ 2 ∷ []

pub not-counted : (a : Answer) → OneOf others (tag_of the_type a) → is_counted a ≡ false
not-counted (Refused x) h = refl
not-counted Nothing h = refl
not-counted Open h = refl
not-counted (Counted o w p v) h = absurd (miss others 3 tt h)

module _ (n : ℕ) (r : Reading) (rs : List Reading) where
  line_counted : (o : Outcome) (w : ℕ) (p : Part) (v : ℕ) → r.answer ≡ Counted o w p v
      → lines_of n (r ∷ rs) ≡ four_numbers r.start (outcome_number o) w p.len ++ lines_of (n + 1) rs
  unfolding lines_of
  line_counted o w p v e = rw e

  line_ended : is_counted r.answer ≡ false → lines_of n (r ∷ rs) ≡ last_line n (open_number r.answer)
  unfolding lines_of
  line_ended e = ended r.answer refl e
    where
      ended : (a : Answer) → r.answer ≡ a → is_counted a ≡ false → lines_of n (r ∷ rs) ≡ last_line n (open_number a)
      ended (Refused x) h e = rw h
      ended Nothing h e = rw h
      ended Open h e = rw h
      ended (Counted o w p v) h e = cc

module _ (n : ℕ) (s : Settings) (job : ℕ) (es : List Entry) (st : State) (os ms : List ℕ) (p : ℕ) (left : ℕ) (more : 0 < left) (r : Reading) (is : r ≡ reading s job es st os ms p) where
  abbrev after : List Reading
  after = elim (is_counted r.answer) [ true ↦ readings_from (left - 1) s job es r.state os ms r.next | false ↦ [] ]

  from-here : readings_from left s job es st os ms p ≡ r ∷ after
  unfolding readings_from
  from-here =
      let e : left ≡ suc (left - 1) = omega arith in
      ap (λ (k : ℕ). readings_from k s job es st os ms p) e
      ∙ ap (λ (q : Reading). q ∷ elim (is_counted q.answer) [ true ↦ readings_from (left - 1) s job es q.state os ms q.next | false ↦ [] ]) (sym is)

  pub lines_counted : (o : Outcome) (w : ℕ) (q : Part) (v : ℕ) → r.answer ≡ Counted o w q v
      → lines_of n (readings_from left s job es st os ms p)
      ≡ four_numbers r.start (outcome_number o) w q.len ++ lines_of (n + 1) (readings_from (left - 1) s job es r.state os ms r.next)
  lines_counted o w q v e =
      let counts : is_counted r.answer ≡ true = ap is_counted e in
      ap (lines_of n)
      (from-here
      ∙ ap (λ (b : Bool). r ∷ elim b [ true ↦ readings_from (left - 1) s job es r.state os ms r.next | false ↦ [] ]) counts)
      ∙ line_counted n r (readings_from (left - 1) s job es r.state os ms r.next) o w q v e

  pub lines_ended : is_counted r.answer ≡ false → lines_of n (readings_from left s job es st os ms p) ≡ last_line n (open_number r.answer)
  lines_ended e = ap (lines_of n) from-here ∙ line_ended n r after e

-- no reading is left
pub lines_none : (n : ℕ) (s : Settings) (job : ℕ) (es : List Entry) (st : State) (os ms : List ℕ) (p : ℕ) → lines_of n (readings_from 0 s job es st os ms p) ≡ last_line n 0
unfolding readings_from lines_of
lines_none n s job es st os ms p = refl

-- the lines of a capture, from the first reading on
pub lines_all : (os ms : List ℕ) → lines_of 0 (readings_from (length os + 1) program_settings 0 (entries_of empty_table) fresh os ms 0) ≡ capture_lines os ms
unfolding capture_lines walk program_table
lines_all os ms = refl

-- What one call adds to the lines, and what is printed of an input. Assumes nothing.
use Prim.Native.Nat.{ℕ, suc, ◌+◌, ◌-◌, ◌<◌}
use mathlib.Core.Path.{◌≡◌, refl, sym, ap, ◌∙◌}
use mathlib.Core.Bool.{Bool, true, false}
use mathlib.Core.List.{List, [], ◌∷◌, ◌++◌}
use native.Mathlib.Omega.{arith}
use denote.Enum.Declared.{tag_of}
use types.Run.{OneOf, miss}
use lib.ListN.{length}
use Rattle.station.specs.declared.Settings.{Settings}
use Rattle.table.specs.declared.Entry.{Entry}
use Rattle.table.specs.Entries.{entries_of}
use Rattle.table.specs.Calls.{empty_table}
use Rattle.printing.specs.Lines.{program_settings, program_table, last_line, bad_input, record_octets, record_marks}
use Rattle.reason.specs.declared.Reason.{Reason}
use Rattle.reason.specs.declared.Why.{Why}
use Rattle.reason.specs.declared.Why.TheVariants.{Refused, Nothing, Open, Because}
use Rattle.reason.specs.contracts.Why.{the_type}
use Rattle.reason.specs.declared.Explained.{Explained}
use Rattle.reason.specs.Reasons.{explained}
use Rattle.reason.specs.Values.{has_reason}
use Rattle.why_lines.specs.Ended.{open_number}
use Rattle.why_lines.specs.Whys.{why_line, explained_from, whys_of, capture_whys, printed_whys}

-- an answer that the test for a reason does not take
abbrev others : List ℕ
others = 0 ∷ 1 ∷ 2 ∷ []

pub no_reason : (a : Why) → OneOf others (tag_of the_type a) → has_reason a ≡ false
no_reason (Refused x) h = refl
no_reason Nothing h = refl
no_reason Open h = refl
no_reason (Because r) h = absurd (miss others 3 tt h)

module _ (n : ℕ) (e : Explained) (es : List Explained) where
  why_given : (r : Reason) → e.answer ≡ Because r → whys_of n (e ∷ es) ≡ why_line e.start r ++ whys_of (n + 1) es
  unfolding whys_of
  why_given r h = rw h

  why_ended : has_reason e.answer ≡ false → whys_of n (e ∷ es) ≡ last_line n (open_number e.answer)
  unfolding whys_of
  why_ended h = ended e.answer refl h
    where
      ended : (a : Why) → e.answer ≡ a → has_reason a ≡ false → whys_of n (e ∷ es) ≡ last_line n (open_number a)
      ended (Refused x) is h = rw is
      ended Nothing is h = rw is
      ended Open is h = rw is
      ended (Because r) is h = cc

module _ (n : ℕ) (s : Settings) (job : ℕ) (es : List Entry) (os ms : List ℕ) (p left : ℕ) (more : 0 < left) (e : Explained) (is : e ≡ explained s job es os ms p) where
  abbrev after : List Explained
  after = elim (has_reason e.answer) [ true ↦ explained_from (left - 1) s job es os ms e.next | false ↦ [] ]

  from-here : explained_from left s job es os ms p ≡ e ∷ after
  unfolding explained_from
  from-here =
      let k : left ≡ suc (left - 1) = omega arith in
      ap (λ (m : ℕ). explained_from m s job es os ms p) k
      ∙ ap (λ (q : Explained). q ∷ elim (has_reason q.answer) [ true ↦ explained_from (left - 1) s job es os ms q.next | false ↦ [] ]) (sym is)

  pub whys_given : (r : Reason) → e.answer ≡ Because r
      → whys_of n (explained_from left s job es os ms p) ≡ why_line e.start r ++ whys_of (n + 1) (explained_from (left - 1) s job es os ms e.next)
  whys_given r h =
      let has : has_reason e.answer ≡ true = ap has_reason h in
      ap (whys_of n) (from-here ∙ ap (λ (b : Bool). e ∷ elim b [ true ↦ explained_from (left - 1) s job es os ms e.next | false ↦ [] ]) has)
      ∙ why_given n e (explained_from (left - 1) s job es os ms e.next) r h

  pub whys_ended : has_reason e.answer ≡ false → whys_of n (explained_from left s job es os ms p) ≡ last_line n (open_number e.answer)
  whys_ended h = ap (whys_of n) from-here ∙ why_ended n e after h

-- no call is left
pub whys_none : (n : ℕ) (s : Settings) (job : ℕ) (es : List Entry) (os ms : List ℕ) (p : ℕ) → whys_of n (explained_from 0 s job es os ms p) ≡ last_line n 0
unfolding explained_from whys_of
whys_none n s job es os ms p = refl

-- the lines of a capture, from the first call on
pub whys_all : (os ms : List ℕ) → whys_of 0 (explained_from (length os + 1) program_settings 0 (entries_of empty_table) os ms 0) ≡ capture_whys os ms
unfolding capture_whys program_table
whys_all os ms = refl

-- an input that is not bad
pub good_printed : (l : List ℕ) → bad_input l ≡ false → capture_whys (record_octets l) (record_marks l) ≡ printed_whys l
unfolding printed_whys
good_printed l h = rw h

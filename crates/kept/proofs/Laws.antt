-- Small laws for the functions of this crate and of the reader above it: two tables row by row, how many octets are handed out, and what is known where a
-- symbol is not refused. Assumes nothing.
use Rattle.std.specs.Prelude.{Err, Ok}
use Prim.Native.Nat.{ℕ, ◌-◌, ◌≤◌, ◌<◌, min}
use native.Mathlib.Omega.{arith}
use mathlib.Core.Path.{◌≡◌, refl, sym, ap, ◌∙◌}
use mathlib.Core.Bool.{Bool, true, false, cond, ◌&&◌}
use mathlib.Core.List.{List, [], ◌∷◌}
use lib.ListN.{length, take, drop, length-drop}
use lib.Seq.{take_all}
use lib.Dec.{ltb}
use denote.Enum.Declared.{tag_of}
use types.Run.{OneOf, miss}
use borrow.Author.Tests.{leb-false, lt-leb}
use Rattle.line.specs.Limits.{most_symbols, preamble_size, least_data}
use Rattle.line.specs.Table.{Table, ◌⇒◌, ◌∣◌, first}
use Rattle.line.proofs.Symbols.{by_test}
use Rattle.line.proofs.Tables.{first-here, first_next, first-other}
use Rattle.station.specs.declared.Settings.{Settings}
use Rattle.station.specs.declared.Outcome.{Outcome}
use Rattle.station.specs.declared.Outcome.TheVariants.{Cut, BadPreamble, Undersized, Oversized, WrongFcs, WrongLength, Filtered, PauseTaken, PfcTaken, ControlDropped, HandedOut}
use Rattle.station.specs.declared.Refusal.TheVariants.{BadSettings, BadBuffers, BadPlace, BadJob, BadTable}
use Rattle.station.specs.Station.{bad_settings, bad_buffers, bad_place}
use Rattle.station.specs.contracts.Outcome.{the_type}
use Rattle.station.proofs.Refusals.{fine_row}
use Rattle.fields.specs.declared.Layout.{Layout}
use Rattle.fields.specs.Places.{layout_of}
use Rattle.frame.specs.Frame.{last_four}
use Rattle.frame.specs.Length.{handed_count}
use Rattle.table.specs.declared.Entry.{Entry}
use Rattle.table.specs.Tests.{bad_job, bad_table}
use Rattle.receive.specs.Reading.{empty_part, read_refusals}
use Rattle.kept.specs.declared.Run.{Run}
use Rattle.kept.specs.Kept.{front_of, part_from, symbol_refusals}

-- ---- two tables, row by row

pub row : {A : Type 0} {a b : Bool} (x : A) (t u : Table A) → a ≡ b → (b ≡ false → first t ≡ first u) → first (a ⇒ x ∣ t) ≡ first (b ⇒ x ∣ u)
row {A} {a} {b} x t u e f =
    by_test b
    (λ h. first-here x t (e ∙ h) ∙ sym (first-here x u h))
    (λ h. first_next x t (e ∙ h) ∙ f h ∙ sym (first_next x u h))

-- ---- octets

-- no more octets are handed out than there are
min-le : (b : Bool) (n all : ℕ) → cond b (min n all) all ≤ all
min-le true n all = omega arith
min-le false n all = omega arith

pub handed-within : (checking : Bool) (n all : ℕ) → handed_count checking n all ≤ all
unfolding handed_count
handed-within checking n all = min-le (checking && ltb n least_data) n all

-- ---- a symbol that is not refused

pub room-left : (s : Settings) (job : ℕ) (es : List Entry) (n : ℕ) → first (symbol_refusals s job es n) ≡ Ok tt → n < most_symbols
unfolding symbol_refusals
room-left s job es n h =
    let a = fine_row BadSettings _ h in
    let j = fine_row BadJob _ a.1 in
    let t = fine_row BadTable _ j.1 in
    let b = fine_row BadBuffers _ t.1 in
    omega (arith, leb-false most_symbols n b.0)

-- what it takes not to be refused
pub symbol_fine : (s : Settings) (job : ℕ) (es : List Entry) (n : ℕ) → bad_settings s ≡ false → bad_job job ≡ false → bad_table es ≡ false → n < most_symbols
    → first (symbol_refusals s job es n) ≡ Ok tt
unfolding symbol_refusals
symbol_fine s job es n valid known sound h =
    first_next (Err BadSettings) _ valid
    ∙ first_next (Err BadJob) _ known
    ∙ first_next (Err BadTable) _ sound
    ∙ first_next (Err BadBuffers) _ (lt-leb most_symbols n h)
    ∙ first-other (Ok tt)

-- "Refusals: 1, 14, 20 as in reading": those of a reading of an empty capture, while a symbol more may be taken
pub as_in_reading : (s : Settings) (job : ℕ) (es : List Entry) (n : ℕ) → n < most_symbols
    → first (symbol_refusals s job es n) ≡ first (read_refusals s job es [] [] 0)
unfolding symbol_refusals read_refusals bad_buffers bad_place
as_in_reading s job es n h =
    row (Err BadSettings) _ _ refl (λ h1. row (Err BadJob) _ _ refl (λ h14.
    row (Err BadTable) _ _ refl (λ h20. first_next (Err BadBuffers) _ (lt-leb most_symbols n h))
    ∙ sym (first_next (Err BadBuffers) _ refl ∙ first_next (Err BadPlace) _ refl)))

-- The largest of the counts, the length of a bar, and what is printed of an input. Assumes nothing.
use Prim.Native.Nat.{ℕ, ◌+◌, ◌≤◌, max}
use native.Mathlib.Omega.{arith}
use mathlib.Core.Path.{◌≡◌, ap, ◌∙◌}
use mathlib.Core.Bool.{true, false}
use mathlib.Core.List.{List, [], ◌∷◌, ◌++◌}
use lib.ListN.{replicate, length-replicate}
use lib.Dec.{ltb}
use borrow.Author.Tests.{ltb-true, ltb-false}
use Rattle.line.proofs.Symbols.{by_test}
use Rattle.splice.specs.Written.{Put}
use Rattle.table.specs.Entries.{entries_of}
use Rattle.table.specs.Calls.{empty_table}
use Rattle.printing.specs.Lines.{program_settings, program_table, bad_input, record_octets, record_marks}
use Rattle.station.specs.declared.Settings.{Settings}
use Rattle.sizes.specs.declared.SizeTable.{SizeTable}
use Rattle.sizes.specs.declared.Added.{Added}
use Rattle.sizes.specs.Sizes.{fresh_sizes, adding}
use Rattle.size_lines.specs.Bars.{greater, largest, table_lines, capture_sizes, printed_sizes}

-- ---- the largest count

greater_max : (a b : ℕ) → greater a b ≡ max a b
unfolding greater
greater_max a b = by_test (ltb a b) (λ t. rw t (omega (arith, ltb-true a b t))) (λ t. rw t (omega (arith, ltb-false a b t)))

-- one count more
pub largest_snoc : (l : List ℕ) (x : ℕ) → largest (l ++ (x ∷ [])) ≡ max (largest l) x
unfolding largest
largest_snoc [] x = let e = greater_max x 0 in omega arith
largest_snoc (y ∷ l) x =
    let h = largest_snoc l x in
    let a = greater_max y (largest (l ++ (x ∷ []))) in
    let b = greater_max y (largest l) in
    omega arith

-- ---- a bar of at most 40 marks

pub bar_short : {l m : List ℕ} {i j n : ℕ} → Put l i (replicate n 35) j m → n ≤ 40 → j ≤ i + 40
bar_short {l} {m} {i} {j} {n} p h = omega (arith, p.goes, length-replicate {A = ℕ} n 35)

-- ---- an input that is not bad, and one that is

pub good_printed : (l : List ℕ) → bad_input l ≡ false → capture_sizes (record_octets l) (record_marks l) ≡ printed_sizes l
unfolding printed_sizes
good_printed l h = rw h

pub bad_printed : (l : List ℕ) → bad_input l ≡ true → (98 ∷ 97 ∷ 100 ∷ 32 ∷ 105 ∷ 110 ∷ 112 ∷ 117 ∷ 116 ∷ 10 ∷ []) ≡ printed_sizes l
unfolding printed_sizes
bad_printed l h = rw h

-- the lines of a capture, by what the call is given and gives
pub sizes-printed : {t : SizeTable} {s : Settings} {e os ms os' ms' : List ℕ} {r : Added} → r ≡ adding t s 0 (entries_of e) os ms
    → t ≡ fresh_sizes → s ≡ program_settings → e ≡ empty_table → os ≡ os' → ms ≡ ms' → table_lines r.sizes ≡ capture_sizes os' ms'
unfolding capture_sizes program_table
sizes-printed {t} {s} {e} {os} {ms} {os'} {ms'} {r} h a b c d f =
    let same : adding t s 0 (entries_of e) os ms ≡ adding fresh_sizes program_settings 0 (entries_of empty_table) os' ms' = cc in
    ap (λ (x : Added). table_lines x.sizes) (h ∙ same)

-- What one step of the plain reader adds to the lines, and that all of them are those of the walk. Assumes nothing.
use Rattle.std.specs.Prelude.{Ok}
use Prim.Native.Nat.{ℕ, ◌+◌, ◌≤◌, ◌<◌}
use native.Mathlib.Omega.{arith}
use mathlib.Core.Path.{◌≡◌, refl, sym, ap, ap₂, ◌∙◌}
use mathlib.Core.Bool.{false, cond}
use mathlib.Core.List.{List, [], ◌∷◌, ◌++◌}
use lib.ListN.{length, get_or, drop}
use Rattle.line.specs.Line.{Symbol, capture}
use Rattle.line.specs.Table.{first}
use Rattle.line.proofs.Symbols.{by_test}
use Rattle.station.specs.declared.Settings.{Settings}
use Rattle.station.specs.declared.Part.{Part}
use Rattle.station.specs.declared.Outcome.{Outcome}
use Rattle.station.specs.declared.Refusal.{Refusal}
use Rattle.station.specs.Numbers.{outcome_number}
use Rattle.station.specs.Station.{is_group, bad_settings, fresh}
use Rattle.table.specs.declared.Entry.{Entry}
use Rattle.table.specs.Calls.{empty_table}
use Rattle.table.specs.Tests.{bad_job}
use Rattle.table.specs.Entries.{entries_of}
use Rattle.table.specs.Computed as table
use Rattle.receive.specs.Reading.{read_refusals}
use Rattle.receive.proofs.Refusals as refusals
use Rattle.kept.specs.declared.Told.TheVariants.{Refused, Quiet, Counted}
use Rattle.plain.specs.declared.Plain.{Plain}
use Rattle.plain.specs.declared.Step.{Step}
use Rattle.plain.specs.Plain.{fresh_plain, step}
use Rattle.plain.specs.Fed.{plain_reading, plain_last, plain_readings}
use Rattle.plain.proofs.Walk.{plain_walks}
use Rattle.printing.specs.Lines.{program_settings, program_table, four_numbers, last_line, lines_of, capture_lines, record_octets, record_marks, bad_input, printed}
use Rattle.printing.proofs.Records.{octets_more, marks_more, octets-end, marks-end, good_short, good_printed}

-- ---- the symbols of an input's records, from place k on

abbrev pub symbols_from : ℕ → List ℕ → List Symbol
symbols_from k l = capture (record_octets (drop k l)) (record_marks (drop k l))

symbols_more : (k : ℕ) (l : List ℕ) → k + 1 < length l
    → symbols_from k l ≡ record { octet = get_or l (k + 1) 0; mark = get_or l k 0 } ∷ symbols_from (k + 2) l
unfolding capture
symbols_more k l h = ap₂ capture (octets_more l k h) (marks_more l k h)

symbols_end : (k : ℕ) (l : List ℕ) → length l ≤ k + 1 → symbols_from k l ≡ []
unfolding capture
symbols_end k l h = ap₂ capture (octets-end l k h) (marks-end l k h)

same_lengths : (l : List ℕ) → length (record_octets l) ≡ length (record_marks l)
unfolding record_octets record_marks
same_lengths [] = refl
same_lengths (m ∷ []) = refl
same_lengths (m ∷ o ∷ l) = let e = same_lengths l in omega arith

no_longer : (l : List ℕ) → length (record_octets l) ≤ length l
unfolding record_octets
no_longer [] = omega arith
no_longer (m ∷ []) = omega arith
no_longer (m ∷ o ∷ l) = let e = no_longer l in omega arith

-- ---- one step

module _ (n : ℕ) (s : Settings) (job : ℕ) (es : List Entry) (p : Plain) (k : ℕ) (l : List ℕ) where
  module _ (more : k + 1 < length l) (y : Step) (is : y ≡ step s job es p (record { octet = get_or l (k + 1) 0; mark = get_or l k 0 })) where
    -- the readings from here on, by what is told
    abbrev rest : Step → List ℕ
    rest z = lines_of n (plain_reading p z (plain_readings s job es z.plain (symbols_from (k + 2) l)))

    from-here : lines_of n (plain_readings s job es p (symbols_from k l)) ≡ rest y
    unfolding plain_readings
    from-here = ap (λ (xs : List Symbol). lines_of n (plain_readings s job es p xs)) (symbols_more k l more) ∙ ap rest (sym is)

    pub lines_quiet : y.told ≡ Quiet
        → lines_of n (plain_readings s job es p (symbols_from k l)) ≡ lines_of n (plain_readings s job es y.plain (symbols_from (k + 2) l))
    unfolding plain_reading
    lines_quiet e = from-here ∙ rw e

    pub lines_counted : (o : Outcome) (w : ℕ) (q : Part) (v : ℕ) → y.told ≡ Counted o w q v
        → lines_of n (plain_readings s job es p (symbols_from k l))
        ≡ four_numbers p.run.start (outcome_number o) w q.len ++ lines_of (n + 1) (plain_readings s job es y.plain (symbols_from (k + 2) l))
    unfolding plain_reading lines_of
    lines_counted o w q v e = from-here ∙ rw e

    pub lines_refused : (x : Refusal) → y.told ≡ Refused x → lines_of n (plain_readings s job es p (symbols_from k l)) ≡ last_line n 0
    unfolding plain_reading lines_of
    lines_refused x e = from-here ∙ rw e

  -- no symbol is left
  pub lines_end : length l ≤ k + 1 → lines_of n (plain_readings s job es p (symbols_from k l)) ≡ last_line n (cond p.running 1 0)
  unfolding plain_readings plain_last lines_of
  lines_end h =
      ap (λ (xs : List Symbol). lines_of n (plain_readings s job es p xs)) (symbols_end k l h)
      ∙ by_test p.running (λ t. rw t) (λ t. rw t)

-- ---- all of them

-- no symbol of the program is refused
program_fine : (l : List ℕ) → bad_input l ≡ false → first (read_refusals program_settings 0 program_table (record_octets l) (record_marks l) 0) ≡ Ok tt
program_fine l h =
    let short = good_short l h in
    let few = no_longer l in
    refusals.fine program_settings 0 program_table (record_octets l) (record_marks l) 0
    (unfold bad_settings is_group program_settings in refl)
    (unfold bad_job in refl)
    (same_lengths l)
    (omega arith)
    (omega arith)
    (unfold table.computed program_table in refl)

pub lines_all : (l : List ℕ) → bad_input l ≡ false
    → lines_of 0 (plain_readings program_settings 0 (entries_of empty_table) (fresh_plain fresh) (symbols_from 0 l)) ≡ printed l
unfolding capture_lines program_table
lines_all l h =
    ap (lines_of 0) (plain_walks program_settings 0 program_table fresh (record_octets l) (record_marks l) (program_fine l h) (unfold fresh in refl))
    ∙ good_printed l h

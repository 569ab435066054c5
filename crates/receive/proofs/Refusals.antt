-- What a reading that is not refused knows of its settings, job, buffers, place and table. Assumes nothing.
use Rattle.std.specs.Prelude.{Err, Ok}
use Rattle.std.proofs.Common.{◌≡◌, ℕ, ◌≤◌, false, not, ◌||◌, eqb, ltb, List, length, ◌∙◌, ltb-false, le-ltb, eq-eqb, eqb-true}
use Rattle.line.specs.Limits.{most_symbols, least_limit, most_limit}
use Rattle.line.specs.Table.{first}
use Rattle.line.proofs.Tables.{first_next, first-other}
use Rattle.station.proofs.Refusals.{fine_row, or-false, not-false}
use Rattle.station.specs.declared.Settings.{Settings}
use Rattle.station.specs.declared.Refusal.TheVariants.{BadSettings, BadBuffers, BadPlace, BadJob, BadTable}
use Rattle.station.specs.Station.{is_group, bad_settings, bad_buffers, bad_place}
use Rattle.table.specs.declared.Entry.{Entry}
use Rattle.table.specs.Tests.{bad_job, bad_table}
use Rattle.receive.specs.Reading.{read_refusals}

-- settings that are not refused: the own address is no group address
pub own-single : (s : Settings) → bad_settings s ≡ false → is_group s.own.0 ≡ false
unfolding bad_settings
own-single s h =
    let high = or-false (is_group s.own.0 || ltb s.limit least_limit) (ltb most_limit s.limit) h in
    (or-false (is_group s.own.0) (ltb s.limit least_limit) high.0).0

pub record Passed (s : Settings) (job : ℕ) (es : List Entry) (os ms : List ℕ) (p : ℕ) : Type 0 where
  pub valid : bad_settings s ≡ false
  pub known : bad_job job ≡ false
  pub even : length os ≡ length ms
  pub small : length os ≤ most_symbols
  pub inside : p ≤ length os
  pub sound : bad_table es ≡ false

module _ (s : Settings) (job : ℕ) (es : List Entry) (os ms : List ℕ) where
  pub passed : (p : ℕ) → first (read_refusals s job es os ms p) ≡ Ok tt → Passed s job es os ms p
  unfolding read_refusals bad_buffers bad_place
  passed p h =
      let a = fine_row BadSettings _ h in
      let j = fine_row BadJob _ a.1 in
      let b = fine_row BadBuffers _ j.1 in
      let d = fine_row BadPlace _ b.1 in
      let t = fine_row BadTable _ d.1 in
      let e = or-false (not (eqb (length os) (length ms))) (ltb most_symbols (length os)) b.0 in
      record {
        valid = a.0;
        known = j.0;
        even = eqb-true (length os) (length ms) (not-false (eqb (length os) (length ms)) e.0);
        small = ltb-false most_symbols (length os) e.1;
        inside = ltb-false (length os) p d.0;
        sound = t.0;
      }

  -- what it takes not to be refused
  pub fine : (p : ℕ) → bad_settings s ≡ false → bad_job job ≡ false → length os ≡ length ms → length os ≤ most_symbols → p ≤ length os → bad_table es ≡ false
      → first (read_refusals s job es os ms p) ≡ Ok tt
  unfolding read_refusals bad_buffers bad_place
  fine p valid known even small inside sound =
      first_next (Err BadSettings) _ valid
      ∙ first_next (Err BadJob) _ known
      ∙ first_next (Err BadBuffers) _ (simp (eq-eqb (length os) (length ms) even, le-ltb most_symbols (length os) small))
      ∙ first_next (Err BadPlace) _ (le-ltb (length os) p inside)
      ∙ first_next (Err BadTable) _ sound
      ∙ first-other (Ok tt)

  -- the same at any place inside the buffers
  pub still_fine : (p q : ℕ) → first (read_refusals s job es os ms p) ≡ Ok tt → q ≤ length os → first (read_refusals s job es os ms q) ≡ Ok tt
  still_fine p q h g = let k = passed p h in fine q k.valid k.known k.even k.small g k.sound

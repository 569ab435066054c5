-- Document 02, item 12: a reader that "takes one symbol at a time, keeps a run count, the first octets and a running FCS in its state, and answers at each
-- ending control symbol". Its rules are those of crate `kept`. That it gives what the walk gives is the claim of proofs/Walk.antt.
use Rattle.station.specs.Numbers.{Checked}
use Rattle.std.specs.Prelude.{ℕ, ◌+◌, ◌%◌, ◌^◌, false, cond, List, [], ◌∷◌, ◌++◌, drop, ◌==◌, nat_le, nat_lt, slice_index, slice_set, Err, Ok, Option}
use Rattle.line.specs.Limits.{preamble_size, fcs_size}
use Rattle.line.specs.Line.{Symbol, is_data, start}
use Rattle.line.specs.Table.{first}
use Rattle.crc.specs.Crc.{crc_octet}
use Rattle.station.specs.declared.Address.{Address}
use Rattle.station.specs.declared.Settings.{Settings}
use Rattle.station.specs.declared.State.{State}
use Rattle.station.specs.declared.Outcome.{Outcome}
use Rattle.table.specs.declared.Entry.{Entry}
use Rattle.table.specs.Entries.{mine}
use Rattle.receive.specs.Reading.{state_after}
use Rattle.kept.specs.declared.Run.{Run}
use Rattle.kept.specs.declared.Told.{Told}
use Rattle.kept.specs.declared.Told.TheVariants.{Quiet}
use Rattle.kept.specs.Kept.{begun, front_of, kept_outcome, kept_told, symbol_refusals}
use Rattle.plain.specs.declared.Plain.{Plain}
use Rattle.plain.specs.declared.Step.{Step}

-- before the first symbol, with these counters and timers
unfoldable pub fresh_plain : State → Plain
fresh_plain st = record { place = 0; running = false; run = begun 0; state = st }

-- one octet more: "a run count, the first octets and a running FCS". The first 53 are kept, and the last four, which may be the FCS; the octet that
-- leaves the four is one that the FCS covers, if it stands behind the preamble. No run has more than 65,535 octets, so that the count never rolls over
-- (proofs/Walk.antt).
unfoldable pub grown : Run → ℕ → Run
grown r o =
    record {
      start = r.start;
      count = (r.count + 1) % 2 ^ 16;
      first = cond (nat_lt r.count 53) (slice_set r.first r.count o) r.first;
      last = drop 1 r.last ++ (o ∷ []);
      register = cond (nat_le (preamble_size + fcs_size) r.count) (crc_octet r.register (slice_index r.last 0)) r.register;
    }

-- ---- "takes one symbol at a time … and answers at each ending control symbol"

-- behind a data symbol: what is kept grows, and nothing is told
unfoldable pub after_data : Plain → ℕ → Step
after_data p o =
    record { told = Quiet; plain = record { place = p.place + 1; running = p.running; run = grown p.run o; state = p.state } }

-- behind a control symbol: a run in progress has ended and is answered for; a new one begins, in progress if the symbol is a Start
unfoldable pub after_control : Settings → List (Option Address) → Plain → ℕ → Step
after_control s own p o =
    let out : Outcome = kept_outcome s own p.run o in
    record {
      told = cond p.running (kept_told s own out p.run) Quiet;
      plain =
          record {
            place = p.place + 1;
            running = (o == start);
            run = begun p.place;
            state = cond p.running (state_after out (front_of p.run) p.state) p.state;
          };
    }

-- "with the state kept"
unfoldable pub step_checked : Checked → Settings → List (Option Address) → Plain → Symbol → Step
step_checked (Err x) s own p y = record { told = Told.Refused x; plain = p }
step_checked (Ok _) s own p y = cond (is_data y) (after_data p y.octet) (after_control s own p y.octet)

-- a symbol in any state
unfoldable pub step : Settings → ℕ → List Entry → Plain → Symbol → Step
step s job es p y = step_checked (first (symbol_refusals s job es p.place)) s (mine job es) p y

-- Document 02, item 11: deleting records, and compaction as a call.
use Rattle.std.specs.Prelude.{ℕ, ◌+◌, ◌*◌, Bool, true, false, ◌&&◌, List, [], ◌∷◌, get_or, set, eqb, Result, Ok, Err}
use Rattle.line.specs.Limits.{record_size}
use Rattle.line.specs.Table.{first}
use Rattle.reading_log.specs.declared.LogRefusal.{LogRefusal}
use Rattle.reading_log.specs.Log.{is_used, slots, joined, compacted, record_refusals, log_refusals, Logging, logging}

-- ---- One record: "A deleted record's outcome octet becomes 0"

-- a refusal leaves the log as it was, here and below
unfoldable pub delete_checked : Result (Unit {0}) LogRefusal → List ℕ → ℕ → Logging
delete_checked (Err x) l k = logging (Err x) l
delete_checked (Ok _) l k = logging (Ok tt) (set l (record_size * k + 4) 0)

unfoldable pub deleting : List ℕ → ℕ → Logging
deleting l k = delete_checked (first (record_refusals l k)) l k

-- ---- "Support deletes records of outcomes they have dealt with"

-- a used record of outcome o
unfoldable pub has_outcome : ℕ → List ℕ → Bool
has_outcome o s = is_used s && eqb (get_or s 4 0) o

-- each of these deleted, and how many they are
unfoldable pub deleted_all : ℕ → List (List ℕ) → List (List ℕ)
deleted_all o [] = []
deleted_all o (s ∷ ss) = elim (has_outcome o s) [ true ↦ set s 4 0 ∷ deleted_all o ss | false ↦ s ∷ deleted_all o ss ]

unfoldable pub count_of : ℕ → List (List ℕ) → ℕ
count_of o [] = 0
count_of o (s ∷ ss) = elim (has_outcome o s) [ true ↦ 1 + count_of o ss | false ↦ count_of o ss ]

-- the number that a call gives, and the lent log after it
pub record Numbered : Type 0 where
  pub given : Result ℕ LogRefusal
  pub log : List ℕ

abbrev pub numbered : Result ℕ LogRefusal → List ℕ → Numbered
numbered a l = record { given = a; log = l }

unfoldable pub delete_all_checked : Result (Unit {0}) LogRefusal → List ℕ → ℕ → Numbered
delete_all_checked (Err x) l o = numbered (Err x) l
delete_all_checked (Ok _) l o = numbered (Ok (count_of o (slots l))) (joined (deleted_all o (slots l)))

unfoldable pub deleting_all : List ℕ → ℕ → Numbered
deleting_all l o = delete_all_checked (first (log_refusals l)) l o

-- ---- Compaction

unfoldable pub compact_checked : Result (Unit {0}) LogRefusal → List ℕ → Logging
compact_checked (Err x) l = logging (Err x) l
compact_checked (Ok _) l = logging (Ok tt) (compacted l)

unfoldable pub compacting : List ℕ → Logging
compacting l = compact_checked (first (log_refusals l)) l

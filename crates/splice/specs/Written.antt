-- Internal: what a list holds once some octets are written over it, by `sets` of `lib.Seq` (the octets stored one after the other), whose laws have
-- no side conditions. A reader believes `overwrite` of the line; `put-overwrite` of the laws joins them.
use Rattle.std.specs.Prelude.{ℕ, ◌+◌, ◌≡◌, List, length}
use Rattle.std.proofs.lemmas.List.Edits.{sets}

-- `new` was written over `old` from `at` on: the next place, and what the list holds now. As a record, and not two equations, so that
-- `◌⨾◌` of the laws finds every argument of two writes that follow each other.
pub record Put (old : List ℕ) (at : ℕ) (new : List ℕ) (next : ℕ) (held : List ℕ) : Type 0 where
  pub goes : next ≡ at + length new
  pub holds : held ≡ sets old at new

-- What a printing program did once it has ended well, by the octets that its reader has left and that its writer holds, where those are known.
use Rattle.std.specs.Prelude.{ℕ, ◌≤◌, ◌<◌, List, length}
use Rattle.std.specs.Io.KnownBytes.{Appends, Consumes, IsAtEnd}
use Rattle.std.specs.declared.option.Option.{Option}

-- Of an input it prints `text`. It took an input from the reader, all that there was, or its first 65,537 octets, one more than the longest good input
-- has, and the writer holds what it held before and then the text of that input, whole, and no more.
pub record Ran (text : List ℕ → List ℕ) (unread left : Option (List ℕ)) (held holds : Option (List ℕ)) : Type 0 where
  pub input : List ℕ
  pub few : length input ≤ 65537
  pub taken : Consumes unread left input
  pub ended : length input < 65537 → IsAtEnd left
  pub written : Appends held holds (text input)

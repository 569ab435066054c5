-- `writing::idle_at` meets its contract: each buffer is filled. Assumes nothing.
use Rattle.writing.proofs.Pieces.{idle_laid}
use borrow.Author.Rules.{rules}
use Rattle.writing.proofs.idle_at.Goals as goal

pub returns : goal.returns
returns c = idle_laid c.args.n c.fill.ensures c.fill-2.ensures (search rules) (search rules)
